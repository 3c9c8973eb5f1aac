-- Results and what is handed back of them: a refusal is told by its number and its place, so nothing is lost; and a check that refuses. Assumes nothing.
use Rattle.std.specs.Prelude.{◌≡◌, refl, cond, ℕ, ◌≤◌, eqb, ℤ, Result, Ok, Err}
use Rattle.std.proofs.Common.{sym, ◌∙◌, ap, ap₂, subst, arith}
use Rattle.exact.specs.declared.Refusal.{Refusal}
use Rattle.exact.specs.Meaning.Handed.{number, place, handed, checked}
use Rattle.exact.specs.Meaning.Number.{Ω}
use Rattle.exact.specs.Meaning.Outcome.{Refusals, ◌also◌, Rung, Outcome}
use Rattle.exact.specs.Meaning.Refusals.{checks}
use Rattle.exact.specs.Outcomes.Ladder.{Checks}
use Rattle.exact.proofs.Outcomes.Ladder.{check_passed, check_refused}
use Rattle.exact.proofs.Outcomes.Checked.{Taken, checks_taken, checks_placeless}

-- ---- a refusal by its number and its place
abbrev by_number : ℕ → ℕ → Refusal
by_number n p =
    cond (eqb n 1) Refusal.Long
    (cond (eqb n 2) (Refusal.Letter p)
    (cond (eqb n 3) Refusal.Exponent
    (cond (eqb n 4) Refusal.Coefficient
    (cond (eqb n 5) Refusal.Unitary
    (cond (eqb n 6) (Refusal.Deep p)
    (cond (eqb n 7) Refusal.Room
    (cond (eqb n 8) Refusal.Record
    (cond (eqb n 9) (Refusal.Statement p)
    (cond (eqb n 10) (Refusal.Phase p)
    (cond (eqb n 17) Refusal.Slot Refusal.Full))))))))))

by_number_back : (e : Refusal) → by_number (number e) (place e) ≡ e
by_number_back Refusal.Long = refl
by_number_back (Refusal.Letter p) = refl
by_number_back Refusal.Exponent = refl
by_number_back Refusal.Coefficient = refl
by_number_back Refusal.Unitary = refl
by_number_back (Refusal.Deep p) = refl
by_number_back Refusal.Room = refl
by_number_back Refusal.Record = refl
by_number_back (Refusal.Statement p) = refl
by_number_back (Refusal.Phase p) = refl
by_number_back Refusal.Slot = refl
by_number_back Refusal.Full = refl

pub one_refusal : (e f : Refusal) → number e ≡ number f → place e ≡ place f → e ≡ f
one_refusal e f n p = sym (by_number_back e) ∙ ap₂ by_number n p ∙ by_number_back f

-- no refusal has the number 0
pub number_some : (e : Refusal) → number e ≡ 0 → ⊥
number_some Refusal.Long h = omega arith
number_some (Refusal.Letter p) h = omega arith
number_some Refusal.Exponent h = omega arith
number_some Refusal.Coefficient h = omega arith
number_some Refusal.Unitary h = omega arith
number_some (Refusal.Deep p) h = omega arith
number_some Refusal.Room h = omega arith
number_some Refusal.Record h = omega arith
number_some (Refusal.Statement p) h = omega arith
number_some (Refusal.Phase p) h = omega arith
number_some Refusal.Slot h = omega arith
number_some Refusal.Full h = omega arith

-- ---- what is handed back tells the result
module _ {A R : Type 0} (refused : ℕ → ℕ → R) (taken : A → R) (number_in place_in : R → ℕ) (number_is : (n p : ℕ) → number_in (refused n p) ≡ n)
    (place_is : (n p : ℕ) → place_in (refused n p) ≡ p) (none_taken : (a : A) → number_in (taken a) ≡ 0)
    (one_taken : (a b : A) → taken a ≡ taken b → a ≡ b) where
  pub one_result : (r s : Result A Refusal) → handed refused taken r ≡ handed refused taken s → r ≡ s
  one_result (Ok a) (Ok b) h = ap Ok (one_taken a b h)
  one_result (Ok a) (Err f) h =
      absurd (number_some f (sym (number_is (number f) (place f)) ∙ ap number_in (sym h) ∙ none_taken a))
  one_result (Err e) (Ok b) h =
      absurd (number_some e (sym (number_is (number e) (place e)) ∙ ap number_in h ∙ none_taken b))
  one_result (Err e) (Err f) h =
      ap Err
      (one_refusal e f (sym (number_is (number e) (place e)) ∙ ap number_in h ∙ number_is (number f) (place f))
      (sym (place_is (number e) (place e)) ∙ ap place_in h ∙ place_is (number f) (place f)))

-- ---- the check of a triple: what it refuses is refused by whoever asked, and else refusals 3, 4 and 5 are passed
module _ (k : ℤ) (z w : Ω) where
  -- its numbers name no place
  within : (n : ℕ) → Checks (checks k z w) n → (n ≤ 5) × (n ≡ 2 → ⊥)
  within n (Rung.given q h g) = (omega (arith, g), λ f. omega (arith, f, g))
  within n (Rung.passed a (Rung.given q h g)) = (omega (arith, g), λ f. omega (arith, f, g))
  within n (Rung.passed a (Rung.passed b (Rung.given q h g))) = (omega (arith, g), λ f. omega (arith, f, g))
  within n (Rung.passed a (Rung.passed b (Rung.passed c g))) = (omega (arith, g), λ f. omega (arith, f, g))

  placeless : (e : Refusal) → Checks (checks k z w) (number e) → place e ≡ 0
  placeless Refusal.Long x = refl
  placeless (Refusal.Letter p) x = absurd ((within 2 x).1 refl)
  placeless Refusal.Exponent x = refl
  placeless Refusal.Coefficient x = refl
  placeless Refusal.Unitary x = refl
  placeless (Refusal.Deep p) x = absurd (omega (arith, (within 6 x).0))
  placeless Refusal.Room x = refl
  placeless Refusal.Record x = refl
  placeless (Refusal.Statement p) x = absurd (omega (arith, (within 9 x).0))
  placeless (Refusal.Phase p) x = absurd (omega (arith, (within 10 x).0))
  placeless Refusal.Slot x = refl
  placeless Refusal.Full x = refl

module _ (k : ℤ) (z w : Ω) {A : Type 0} (r : Result A Refusal) (c : Checks (checks k z w) (checked r)) where
  pub check_taken : (a : A) → r ≡ Ok a → Taken k z w
  check_taken a e = checks_taken k z w (check_passed (checks k z w) (checks_placeless k z w) (checked r) c (ap checked e))

  module _ (e : Refusal) (is : r ≡ Err e) where
    numbered : Checks (checks k z w) (number e)
    numbered = subst (λ (s : Result A Refusal). Checks (checks k z w) (checked s)) is c

    pub check_place : place e ≡ 0
    check_place = placeless k z w e numbered

    module _ {R : Type 0} (refused : ℕ → ℕ → R) (Answer : R → Type 0) (gs : Refusals) where
      pub check_given : Outcome refused Answer (checks k z w also gs) (refused (number e) (place e))
      check_given =
          subst (λ (p : ℕ). Outcome refused Answer (checks k z w also gs) (refused (number e) p)) (sym check_place)
          (check_refused refused Answer (checks k z w) gs (checks_placeless k z w) (number e) numbered (number_some e))
