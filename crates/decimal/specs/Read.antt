-- What the readers of a number answer: its text found, with its value and the place behind it, or none there, which is refusal 8.
-- Assumes nothing.
use Rattle.std.specs.Prelude.{◌≡◌, List, ℤ, ℕ, ◌+◌, ◌-◌, ◌*◌, ◌≤◌, ◌<◌, eqb, Option, Some, None}
use Rattle.exact.specs.Meaning.Limits as Limits
use Rattle.exact.specs.Meaning.Outcome.{Refusal}
use Rattle.exact.specs.Outcomes.Enums.{When, Says}
use Rattle.decimal.specs.Decimal.{Digit, Grown, First}
use Rattle.decimal.specs.Format.{Format, Found, Missing, natural, whole}

-- v is what the digit b makes of what came before, w, and it is at most most
pub record Taken (w b most v : ℕ) : Type 0 where
  pub digit : Digit b
  pub is : v ≡ w * 10 + (b - 48)
  pub small : v ≤ most

-- ---- each case by its refusal; a record has no place
abbrev pub found_refusal : {A : Type 0} → Option A → ℕ × ℕ
found_refusal (Some a) = (Limits.no_refusal, 0)
found_refusal None = (Limits.record_refusal, 0)

-- what is found meets P
abbrev pub FoundIs : {A : Type 0} → Option A → (A → Type 0) → Type 0
FoundIs (Some a) P = P a
FoundIs None P = ⊥

-- 8, where C holds; where no text of a format stands
abbrev pub broken : Type 0 → Refusal
broken C = record { number = Limits.record_refusal; At = λ p. When (eqb p 0) C }

abbrev pub missing : {A : Type 0} → Format A → List ℕ → Refusal
missing F l = broken (Missing F l)

-- ---- numbers
abbrev pub DigitIs : ℕ → ℕ → Option ℕ → Type 0
DigitIs b most r = Says (found_refusal r) (broken (First b most → ⊥)) (FoundIs r (Taken 0 b most))

abbrev pub PushIs : ℕ → ℕ → ℕ → Option ℕ → Type 0
PushIs w b most r = Says (found_refusal r) (broken (Grown w b most → ⊥)) (FoundIs r (λ v. Taken w b most v × (0 < w)))

abbrev pub NaturalIs : List ℕ → List ℕ → ℕ → ℕ → Option (ℕ × ℕ) → Type 0
NaturalIs s l e most r = Says (found_refusal r) (missing (natural most e) l) (FoundIs r (λ (v, next). Found (natural most e) l s v next))

abbrev pub WholeIs : List ℕ → List ℕ → ℕ → Option (ℤ × ℕ) → Type 0
WholeIs s l e r = Says (found_refusal r) (missing (whole e) l) (FoundIs r (λ (z, next). Found (whole e) l s z next))
