-- What a loop over the steps keeps, from a reduced unitary triple s to the present one t with the letters u written in i steps: u and t's
-- letters are s's letters, the steps add up, are few, and three letters' room is left for each that may come. Assumes nothing.
use Rattle.std.specs.Prelude.{◌≡◌, refl, List, [], ◌++◌, ℕ, suc, ◌+◌, ◌*◌, ◌≤◌, ◌<◌, length}
use Rattle.std.proofs.Common.{sym, ◌∙◌, ap, append_assoc, zero-add, arith, length-append}
use Rattle.exact.specs.Meaning.Word.{Letter}
use Rattle.exact.specs.Meaning.Triple.{Triple}
use Rattle.steps.specs.Meaning.{power}
use Rattle.steps.specs.Step.{Ready, block, next}
use Rattle.steps.proofs.Step.{next_ready, next_n}
use Rattle.steps.specs.Closing.{closing}
use Rattle.steps.proofs.Closing.{closing_length}
use Rattle.steps.specs.Steps.{left, letters}
use Rattle.steps.proofs.Steps.{left_few, left_next, letters_end, letters_more}
use Rattle.steps.specs.Steps.{steps}
use Rattle.steps.proofs.Steps.{steps_end, steps_more}
use Rattle.steps.proofs.Counts.{block_length}

pub record Progress (s t : Triple) (u : List Letter) (i : ℕ) : Type 0 where
  pub ready : Ready t
  pub n_small : t.n < 8
  pub k_less : t.k ≤ s.k
  pub kept : u ++ letters t ≡ letters s
  pub counted : i + steps t ≡ steps s
  pub few : i + left t ≤ 2 * s.k
  pub room : length u + 3 * left t ≤ 6 * s.k

pub progress_start : (s : Triple) → Ready s → s.n < 8 → Progress s s [] 0
progress_start s r n = record {
  ready = r;
  n_small = n;
  k_less = omega arith;
  kept = refl;
  counted = zero-add (steps s);
  few = omega (arith, (left_few s).1);
  room = omega (arith, (left_few s).1);
}

module _ {s t : Triple} {u : List Letter} {i : ℕ} (p : Progress s t u i) where
  -- a step, where k is over 0
  pub progress_step : (k : ℕ) → t.k ≡ suc k → Progress s (next t) (u ++ block (power t)) (i + 1)
  progress_step k e = record {
    ready = next_ready p.ready.unitary;
    n_small = next_n t;
    k_less = omega (arith, (left_few (next t)).0, left_next t k p.ready e, (left_few t).1, p.k_less);
    kept = append_assoc u (block (power t)) (letters (next t)) ∙ ap (λ v. u ++ v) (sym (letters_more t k p.ready e)) ∙ p.kept;
    counted = omega (arith, steps_more t k p.ready e, p.counted);
    few = omega (arith, left_next t k p.ready e, p.few);
    room = omega (arith, length-append u (block (power t)), (block_length (power t)).1, left_next t k p.ready e, p.room);
  }

  -- it has room for its block
  pub progress_room : 0 < t.k → length u + 3 ≤ 6 * s.k
  progress_room h = omega (arith, p.room, (left_few t).0)

  -- the end, where k is 0
  pub progress_letters : t.k ≡ 0 → u ++ closing t ≡ letters s
  progress_letters e = ap (λ v. u ++ v) (sym (letters_end t e)) ∙ p.kept

  pub progress_steps : t.k ≡ 0 → i ≡ steps s
  progress_steps e = omega (arith, steps_end t e, p.counted)

  pub progress_length : t.k ≡ 0 → (length u ≤ 6 * s.k) × (length (closing t) ≤ 12)
  progress_length e = (omega (arith, p.room), closing_length t p.ready.unitary e)
