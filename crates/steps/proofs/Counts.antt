-- How many letters: before normalising at most 6k+12, of which at most 2k+1 are T; and a normal word with that matrix
-- has at most 6k+16. Assumes nothing.
use Rattle.std.specs.Prelude.{◌≡◌, Bool, true, false, List, [], ◌∷◌, ℕ, zero, suc, ◌+◌, ◌*◌, ◌≤◌, length}
use Rattle.std.proofs.Common.{◌∙◌, ap, arith, length-append}
use Rattle.exact.specs.Meaning.Matrix.{Same}
use Rattle.exact.specs.Meaning.Word.{Letter, word, tees}
use Rattle.exact.specs.Meaning.Normal.{Syllable, HT, SHT, Front, nothing, onlyH, onlySH, Tail, Fits, Normal}
use Rattle.exact.specs.Meaning.Normal.{front_word, tail_word, or_i, after, leading}
use Rattle.exact.specs.Meaning.Triple.{Triple, entries}
use Rattle.exact.specs.Meaning.Limits.{deepest, enough}
use Rattle.exact.proofs.Matrices.Same.{Same-sym, Same-trans}
use Rattle.exact.proofs.Unique.Tails.{tees_append}
use Rattle.exact.proofs.Unique.Normal.{normal_fewest}
use Rattle.steps.specs.Meaning.{power}
use Rattle.steps.specs.Step.{Ready, block, next}
use Rattle.steps.proofs.Closing.{closing_length, closing_tees, length_times}
use Rattle.steps.specs.Steps.{letters}
use Rattle.steps.specs.Counts.{FewLetters}
use Rattle.steps.proofs.Steps.{letters_end, letters_more, letters_same}
use Rattle.steps.specs.Steps.{steps}
use Rattle.steps.proofs.Steps.{by_steps, steps_more, steps_few}

-- ---- before normalising
pub block_length : (m : ℕ) → (1 ≤ length (block m)) × (length (block m) ≤ 3)
block_length zero = (omega arith, omega arith)
block_length (suc zero) = (omega arith, omega arith)
block_length (suc (suc zero)) = (omega arith, omega arith)
block_length (suc (suc (suc m))) = (omega arith, omega arith)

pub block_tees : (m : ℕ) → tees (block m) ≤ 1
block_tees zero = omega arith
block_tees (suc zero) = omega arith
block_tees (suc (suc zero)) = omega arith
block_tees (suc (suc (suc m))) = omega arith

-- one step's letters and the rest's
module _ (t : Triple) (k : ℕ) (r : Ready t) (e : t.k ≡ suc k) where
  more_length : length (letters t) ≡ length (block (power t)) + length (letters (next t))
  more_length = ap length (letters_more t k r e) ∙ length-append (block (power t)) (letters (next t))

  more_tees : tees (letters t) ≡ tees (block (power t)) + tees (letters (next t))
  more_tees = ap tees (letters_more t k r e) ∙ tees_append (block (power t)) (letters (next t))

pub letters_steps : (t : Triple) → Ready t → length (letters t) ≤ 3 * steps t + 12
letters_steps =
    by_steps (λ t. length (letters t) ≤ 3 * steps t + 12)
    (λ t r e. omega (arith, ap length (letters_end t e), closing_length t r.unitary e))
    (λ t k r e h. omega (arith, more_length t k r e, (block_length (power t)).1, steps_more t k r e))

pub letters_length : FewLetters
letters_length t r = omega (arith, letters_steps t r, steps_few t r)

pub letters_tees : (t : Triple) → Ready t → tees (letters t) ≤ 2 * t.k + 1
letters_tees t r = omega (arith, by_step t r, steps_few t r)
  where
    by_step : (t : Triple) → Ready t → tees (letters t) ≤ steps t + 1
    by_step =
        by_steps (λ t. tees (letters t) ≤ steps t + 1)
        (λ t r e. omega (arith, ap tees (letters_end t e), closing_tees t))
        (λ t k r e h. omega (arith, more_tees t k r e, block_tees (power t), steps_more t k r e))

-- ---- a normal word: three letters for each T, and a tail of thirteen
tail_length : (t : Tail) → Fits t → length (or_i (tail_word t)) ≤ 13
tail_length t f = at (tail_word t) (simp (length-append, length_times) (omega (arith, front_length t.front)))
  where
    front_length : (f : Front) → length (front_word f) ≤ 2
    front_length nothing = omega arith
    front_length onlyH = omega arith
    front_length onlySH = omega arith

    at : (u : List Letter) → length u ≤ 13 → length (or_i u) ≤ 13
    at [] h = omega arith
    at (l ∷ u) h = h

after_length : (ss : List Syllable) (u : List Letter) → length u ≤ 13 → length (after ss u) ≤ 3 * tees (after ss u) + 13
after_length [] u h = omega arith
after_length (HT ∷ ss) u h = omega (arith, after_length ss u h)
after_length (SHT ∷ ss) u h = omega (arith, after_length ss u h)

leading_length : (b : Bool) (u : List Letter) → length u ≤ 3 * tees u + 13 → length (leading b u) ≤ 3 * tees (leading b u) + 13
leading_length true u h = omega arith
leading_length false u h = h

pub normal_length : {v : List Letter} → Normal v → length v ≤ 3 * tees v + 13
normal_length {v} n = rw n.spelled at (leading_length n.shape.lead (after ss end) after_lead)
  where
    ss : List Syllable
    ss = n.shape.syllables

    end : List Letter
    end = or_i (tail_word n.shape.tail)

    after_lead : length (after ss end) ≤ 3 * tees (after ss end) + 13
    after_lead = after_length ss end (tail_length n.shape.tail n.fits)

-- ---- the answer
pub answer_length : (t : Triple) (v : List Letter) → Ready t → Normal v → Same (word v) (entries t) → length v ≤ 6 * t.k + 16
answer_length t v r n h =
    omega (arith, normal_length n, normal_fewest (letters t) (Same-trans (letters_same t r) (Same-sym h)) n, letters_tees t r)

pub answer_enough : (t : Triple) (v : List Letter) → Ready t → t.k ≤ deepest → Normal v → Same (word v) (entries t) → length v ≤ enough
answer_enough t v r d n h = omega (arith, answer_length t v r n h)
