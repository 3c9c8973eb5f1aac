-- What is handed back of a job that asks the check of triples first, and of nothing else, tells its result: none of its refusals names a place. Assumes
-- nothing.
use Rattle.std.specs.Prelude.{◌≡◌, refl, ℕ, ℤ, Result, Ok, Err}
use Rattle.std.proofs.Common.{sym, ◌∙◌, ap}
use Rattle.exact.specs.declared.Refusal.{Refusal}
use Rattle.exact.specs.Outcomes.Ladder.{Checks}
use Rattle.exact.specs.Meaning.Outcome.{Refusals, none, ◌then◌, Rung, Outcome}
use Rattle.exact.specs.Meaning.Refusals.{checks}
use Rattle.exact.specs.Meaning.Handed.{number, place, handed}
use Rattle.exact.proofs.Outcomes.Ladder.{Only}
use Rattle.exact.proofs.Outcomes.Handed.{one_refusal, number_some, check_place}
use Rattle.ring.specs.Meaning.{quad}
use Rattle.ring.specs.declared.ZOmega.{ZOmega}

-- `number_in` is the number of what is handed back: 0 of an answer
module _ {A R : Type 0} (refused : ℕ → ℕ → R) (taken : A → R) (Answer : R → Type 0) (number_in : R → ℕ)
    (number_is : (n p : ℕ) → number_in (refused n p) ≡ n) (answer_none : (r : R) → Answer r → number_in r ≡ 0)
    (taken_none : (a : A) → number_in (taken a) ≡ 0) (one_taken : (a b : A) → taken a ≡ taken b → a ≡ b)
    (k : ℤ) (z w : ZOmega) where
  abbrev Job : R → Type 0
  Job = Outcome refused Answer (checks k (quad z) (quad w))

  numbered : (fs : Refusals) (r : R) → Outcome refused Answer fs r → Checks fs (number_in r)
  numbered none r x = answer_none r x
  numbered (f then fs) r (Rung.given p h e) = Rung.given p h (ap number_in e ∙ number_is f.number p)
  numbered (f then fs) r (Rung.passed n x) = Rung.passed n (numbered fs r x)

  nowhere : (e : Refusal) → Job (handed refused taken (Err e)) → place e ≡ 0
  nowhere e o =
      check_place k (quad z) (quad w) {A = A} (Err e) (rw (sym (number_is (number e) (place e))) (numbered (checks k (quad z) (quad w)) _ o)) e refl

  pub result_told : Only Job → Only (λ (r : Result A Refusal). Job (handed refused taken r))
  result_told one r s o p = told r s o p (one (handed refused taken r) (handed refused taken s) o p)
    where
      told : (r s : Result A Refusal) → Job (handed refused taken r) → Job (handed refused taken s)
          → handed refused taken r ≡ handed refused taken s → r ≡ s
      told (Ok a) (Ok b) o p h = ap Ok (one_taken a b h)
      told (Ok a) (Err f) o p h = absurd (number_some f (sym (number_is (number f) (place f)) ∙ sym (ap number_in h) ∙ taken_none a))
      told (Err e) (Ok b) o p h = absurd (number_some e (sym (number_is (number e) (place e)) ∙ ap number_in h ∙ taken_none b))
      told (Err e) (Err f) o p h =
          ap Err
          (one_refusal e f (sym (number_is (number e) (place e)) ∙ ap number_in h ∙ number_is (number f) (place f)) (nowhere e o ∙ sym (nowhere f p)))
