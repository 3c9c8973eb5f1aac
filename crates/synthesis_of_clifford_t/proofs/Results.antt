-- What is handed back for a triple tells the result: no refusal of job 4 names a place. Assumes nothing.
use Rattle.std.specs.Prelude.{◌≡◌, refl, List, ℕ, ◌≤◌, ℤ, Result, Ok, Err}
use Rattle.std.proofs.Common.{sym, ◌∙◌, ap, arith}
use Rattle.exact.specs.declared.Refusal.{Refusal}
use Rattle.exact.specs.Meaning.Handed.{number, place}
use Rattle.exact.specs.Meaning.Outcome.{Rung}
use Rattle.exact.specs.Meaning.Lent.{Lent, lent}
use Rattle.exact.proofs.Outcomes.Handed.{one_refusal, number_some}
use Rattle.ring.specs.declared.ZOmega.{ZOmega}
use Rattle.synthesis_of_clifford_t.specs.declared.Spelt.{Spelt}
use Rattle.synthesis_of_clifford_t.specs.Meaning.{Synthesis, refused, synthesised, SynthesiseOutcome}

-- the number of a refusal with no place
record Plain (n : ℕ) : Type 0 where
  few : n ≤ 7
  no_letter : n ≡ 2 → ⊥
  no_deep : n ≡ 6 → ⊥

plain_place : (e : Refusal) → Plain (number e) → place e ≡ 0
plain_place Refusal.Long h = refl
plain_place (Refusal.Letter p) h = absurd (h.no_letter refl)
plain_place Refusal.Exponent h = refl
plain_place Refusal.Coefficient h = refl
plain_place Refusal.Unitary h = refl
plain_place (Refusal.Deep p) h = absurd (h.no_deep refl)
plain_place Refusal.Room h = refl
plain_place Refusal.Record h = refl
plain_place (Refusal.Statement p) h = absurd (omega (arith, h.few))
plain_place (Refusal.Phase p) h = absurd (omega (arith, h.few))
plain_place Refusal.Slot h = refl
plain_place Refusal.Full h = refl

-- given back as the number m
given : {r : Synthesis} {old new : List ℕ} (m p : ℕ) → lent r new ≡ lent (refused m p) old → Plain m → Plain r.refusal
given m p f h =
    let e : m ≡ _ = sym (ap (λ (j : Lent Synthesis). j.handed.refusal) f) in
    record { few = omega (arith, e, h.few); no_letter = λ g. h.no_letter (e ∙ g); no_deep = λ g. h.no_deep (e ∙ g) }

module _ (k : ℤ) (n : ℕ) (z w : ZOmega) (old new : List ℕ) where
  plain : (r : Synthesis) → SynthesiseOutcome k n z w old r new → Plain r.refusal
  plain r (Rung.given p h f) = given 3 p f (record { few = omega arith; no_letter = λ g. omega arith; no_deep = λ g. omega arith })
  plain r (Rung.passed a (Rung.given p h f)) = given 4 p f (record { few = omega arith; no_letter = λ g. omega arith; no_deep = λ g. omega arith })
  plain r (Rung.passed a (Rung.passed b (Rung.given p h f))) =
      given 5 p f (record { few = omega arith; no_letter = λ g. omega arith; no_deep = λ g. omega arith })
  plain r (Rung.passed a (Rung.passed b (Rung.passed c (Rung.given p h f)))) =
      given 7 p f (record { few = omega arith; no_letter = λ g. omega arith; no_deep = λ g. omega arith })
  plain r (Rung.passed a (Rung.passed b (Rung.passed c (Rung.passed d y)))) =
      let e : r.refusal ≡ 0 = ap (λ (j : Lent Synthesis). j.handed.refusal) y.is in
      record { few = omega (arith, e); no_letter = λ g. omega (arith, e, g); no_deep = λ g. omega (arith, e, g) }

  pub placeless : (e : Refusal) → SynthesiseOutcome k n z w old (synthesised (Err e)) new → place e ≡ 0
  placeless e o = plain_place e (plain (synthesised (Err e)) o)

module _ (k : ℤ) (n : ℕ) (z w : ZOmega) (old new : List ℕ) (k' : ℤ) (n' : ℕ) (z' w' : ZOmega) (old' new' : List ℕ) where
  pub synthesised_tells : (r s : Result Spelt Refusal) → SynthesiseOutcome k n z w old (synthesised r) new
      → SynthesiseOutcome k' n' z' w' old' (synthesised s) new' → synthesised r ≡ synthesised s → r ≡ s
  synthesised_tells (Ok a) (Ok b) o o' h = λ i. Ok (record { bytes = (h i).bytes; tees = (h i).tees; steps = (h i).steps })
  synthesised_tells (Ok a) (Err f) o o' h = absurd (number_some f (sym (ap (λ (x : Synthesis). x.refusal) h)))
  synthesised_tells (Err e) (Ok b) o o' h = absurd (number_some e (ap (λ (x : Synthesis). x.refusal) h))
  synthesised_tells (Err e) (Err f) o o' h =
      ap Err
      (one_refusal e f (ap (λ (x : Synthesis). x.refusal) h)
      (placeless k n z w old new e o ∙ sym (placeless k' n' z' w' old' new' f o')))
