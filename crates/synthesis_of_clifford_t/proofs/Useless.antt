-- Wrong programs, and that what they hand back does not meet job 4's promise: one that refuses all, one that takes one step and stops, one that returns
-- the letters before normalising as they are; and of the steps, one that counts them before the triple is reduced, one that counts the closing too, one
-- that keeps them in a refusal, one that hands on the T letters for them. Assumes nothing.
use Rattle.std.specs.Prelude.{◌≡◌, refl, List, [], ◌∷◌, ℕ, suc, ◌≤◌, ◌<◌, T, leb, ℤ, pos, negsuc, length, replicate}
use Rattle.std.proofs.Common.{◌∙◌, ap, arith, le→leb}
use Rattle.exact.specs.Meaning.Word.{Letter, I, H, T', word, tees}
use Rattle.exact.specs.Meaning.Triple.{Triple, entries}
use Rattle.exact.specs.Meaning.Lent.{Lent, lent, over, untouched, Writes}
use Rattle.exact.specs.Meaning.Refusals.{InExponents, TooMany}
use Rattle.exact.proofs.Cases.Letters.{bytes_length}
use Rattle.exact.proofs.Cases.NormalTest.{normal_test, normal_by}
use Rattle.exact.specs.Matrices.Least.{reduce}
use Rattle.exact.proofs.Matrices.Least.{reduce_reduces}
use Rattle.exact.proofs.Matrices.Test.{same_test, same_by}
use Rattle.exact.proofs.Outcomes.Ladder.{answered}
use Rattle.exact.proofs.Outcomes.Checked.{Taken, taken_checks}
use Rattle.exact.proofs.Outcomes.Lent.{handed_same}
use Rattle.ring.specs.Meaning.{quad}
use Rattle.ring.specs.declared.ZOmega.{ZOmega}
use Rattle.unitary.specs.Meaning.{given}
use Rattle.steps.specs.Meaning.{power_by, power}
use Rattle.steps.specs.Residues.{back}
use Rattle.steps.specs.Step.{block, next}
use Rattle.steps.specs.Closing.{closing}
use Rattle.steps.specs.Steps.{gathered, letters, steps}
use Rattle.steps.proofs.Synthesised.{reduce_ready}
use Rattle.synthesis_of_clifford_t.specs.Meaning.{Synthesis, Spelling, text, refused, counts, SpellingOf, asked, refusals, SynthesiseOutcome}
use Rattle.synthesis_of_clifford_t.proofs.Counted.{steps_of, steps_moved, one_spelling}
use Rattle.synthesis_of_clifford_t.proofs.Unique.{synthesise_unique}
use Rattle.synthesis_of_clifford_t.proofs.OneMatrix.{steps_refused}

abbrev number : ℤ → ℤ → ℤ → ℤ → ZOmega
number a b c d = record { a = a; b = b; c = c; d = d }

-- with the answer v, and room for it, no other numbers are allowed
module _ (k : ℤ) (n : ℕ) (z w : ZOmega) (v : List Letter) (old : List ℕ) (taken : Taken k (quad z) (quad w)) (normal : T (normal_test v))
    (same : T (same_test (entries (given k n z w)) (word v))) (fits : length v ≤ length old) where
  abbrev t : Triple
  t = given k n z w

  -- v, in the steps from the reduced triple
  abbrev answer : Spelling
  answer = record { letters = v; steps = steps (reduce t) }

  right : SpellingOf (asked k n z w old) answer
  right = record {
    normal = record { normal = normal_by v normal; same = same_by (asked k n z w old) (word v) same };
    counted =
        steps_moved (reduce_reduces t).same (steps (reduce t))
        (steps_of (reduce t) (reduce_ready t (taken.unitary_there n)) (reduce_reduces t).n_small);
  }

  has_room : (p : ℕ) → TooMany text (SpellingOf (asked k n z w old)) old × (p ≡ 0) → ⊥
  has_room p h =
      omega (
        arith,
        h.0.more,
        ap (λ (a : Spelling). length a.letters) (one_spelling (asked k n z w old) h.0.v answer h.0.answer right),
        bytes_length h.0.v.letters,
      )

  only : (r : Synthesis) (new : List ℕ) → SynthesiseOutcome k n z w old r new → r ≡ counts answer
  only r new o =
      let c = taken_checks k (quad z) (quad w) taken in
      let x = answered (untouched refused old) (Writes text counts (SpellingOf (asked k n z w old)) old) (refusals k n z w old)
      (c.0, (c.1.0, (c.1.1.0, (has_room, tt)))) (lent r new) o in
      handed_same (x.is ∙ ap (λ (a : Spelling). lent (counts a) (over (text a) old)) (one_spelling (asked k n z w old) x.v answer x.answer right))

in_limits : (k : ℕ) → T (leb k 60) → InExponents (pos k)
in_limits k t = record { low = record { le = le→leb 0 k (omega arith) }; high = record { le = t } }

-- ---- the identity: I
abbrev one : ZOmega
one = number (pos 0) (pos 0) (pos 0) (pos 1)

abbrev nil : ZOmega
nil = number (pos 0) (pos 0) (pos 0) (pos 0)

unit_taken : Taken (pos 0) (quad one) (quad nil)
unit_taken =
    record {
      exponent_in = in_limits 0 tt;
      coefficients_in = record { z_in = omega arith; w_in = omega arith };
      unitary_there = λ n. record { squares_sum = refl; crosses_sum = refl };
    }

pub refuses_all : (number : ℕ) → (number ≡ 0 → ⊥) → (new : List ℕ)
    → SynthesiseOutcome (pos 0) 0 one nil (0 ∷ []) (refused number 0) new → ⊥
refuses_all number f new o =
    f (ap (λ (r : Synthesis). r.refusal) (only (pos 0) 0 one nil (I ∷ []) (0 ∷ []) unit_taken tt tt (omega arith) (refused number 0) new o))

-- ---- HTHT: two steps, and HTHTI
abbrev two_z : ZOmega
two_z = number (pos 0) (pos 0) (pos 1) (pos 1)

abbrev two_w : ZOmega
two_w = number (pos 0) (pos 0) (negsuc 0) (pos 1)

abbrev two_steps : Triple
two_steps = given (pos 2) 2 two_z two_w

two_taken : Taken (pos 2) (quad two_z) (quad two_w)
two_taken =
    record {
      exponent_in = in_limits 2 tt;
      coefficients_in = record { z_in = omega arith; w_in = omega arith };
      unitary_there = λ n. record { squares_sum = refl; crosses_sum = refl };
    }

abbrev stopped : Synthesis
stopped = counts (record { letters = block (power two_steps); steps = 1 })

pub one_step : (new : List ℕ) → SynthesiseOutcome (pos 2) 2 two_z two_w (replicate {A = ℕ} 5 0) stopped new → ⊥
unfolding power_by
one_step new o =
    let e : ◌≡◌ {A = ℕ} 1 5 =
    ap (λ (r : Synthesis). r.bytes)
    (only (pos 2) 2 two_z two_w (H ∷ T' ∷ H ∷ T' ∷ I ∷ []) (replicate {A = ℕ} 5 0) two_taken tt tt (omega arith) stopped new o) in
    omega arith

-- ---- T: the letter T before normalising, and TI
abbrev one_t : Triple
one_t = given (pos 0) 1 one nil

abbrev as_they_are : Synthesis
as_they_are = counts (record { letters = letters one_t; steps = 0 })

pub letters_as_they_are : (new : List ℕ) → SynthesiseOutcome (pos 0) 1 one nil (0 ∷ 0 ∷ []) as_they_are new → ⊥
unfolding letters gathered closing back
letters_as_they_are new o =
    let e : ◌≡◌ {A = ℕ} 1 2 =
    ap (λ (r : Synthesis). r.bytes)
    (only (pos 0) 1 one nil (T' ∷ I ∷ []) (0 ∷ 0 ∷ []) unit_taken tt tt (omega arith) as_they_are new o) in
    omega arith

-- ---- the steps
-- the identity written with exponent 1: nothing is left to do, and the exponent that fell is no step
abbrev root_two : ZOmega
root_two = number (negsuc 0) (pos 0) (pos 1) (pos 0)

root_taken : Taken (pos 1) (quad root_two) (quad nil)
root_taken =
    record {
      exponent_in = in_limits 1 tt;
      coefficients_in = record { z_in = omega arith; w_in = omega arith };
      unitary_there = λ n. record { squares_sum = refl; crosses_sum = refl };
    }

pub counted_before_reducing : (i : ℕ) → 0 < i → (new : List ℕ)
    → SynthesiseOutcome (pos 1) 0 root_two nil (0 ∷ []) (counts (record { letters = I ∷ []; steps = i })) new → ⊥
unfolding steps gathered
counted_before_reducing i more new o =
    let e : i ≡ 0 =
    ap (λ (r : Synthesis). r.steps)
    (only (pos 1) 0 root_two nil (I ∷ []) (0 ∷ []) root_taken tt tt (omega arith) (counts (record { letters = I ∷ []; steps = i })) new o) in
    omega arith

-- H: one step, and no T letter
h_taken : Taken (pos 1) (quad one) (quad one)
h_taken =
    record {
      exponent_in = in_limits 1 tt;
      coefficients_in = record { z_in = omega arith; w_in = omega arith };
      unitary_there = λ n. record { squares_sum = refl; crosses_sum = refl };
    }

abbrev by_tees : Synthesis
by_tees = counts (record { letters = H ∷ []; steps = tees (H ∷ []) })

pub tees_for_steps : (new : List ℕ) → SynthesiseOutcome (pos 1) 4 one one (0 ∷ []) by_tees new → ⊥
unfolding steps gathered next power_by
tees_for_steps new o =
    let e : ◌≡◌ {A = ℕ} 0 1 =
    ap (λ (r : Synthesis). r.steps)
    (only (pos 1) 4 one one (H ∷ []) (0 ∷ []) h_taken tt tt (omega arith) by_tees new o) in
    omega arith

-- any input
module _ (k : ℤ) (n : ℕ) (z w : ZOmega) (old : List ℕ) (r : Synthesis) (new : List ℕ) (o : SynthesiseOutcome k n z w old r new) where
  pub one_too_many : (new' : List ℕ)
      → SynthesiseOutcome k n z w old (record { refusal = r.refusal; bytes = r.bytes; tees = r.tees; steps = suc r.steps }) new' → ⊥
  one_too_many new' p =
      omega (arith, ap (λ (x : Lent Synthesis). x.handed.steps) (synthesise_unique k n z w old r new _ new' o p))

  pub kept_in_a_refusal : (r.refusal ≡ 0 → ⊥) → 0 < r.steps → ⊥
  kept_in_a_refusal f more = omega (arith, steps_refused k n z w old r new o f)
