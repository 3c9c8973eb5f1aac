-- What the readers of names, of four numbers and of lines answer, as those of a number do (decimal: Read). Assumes nothing.
use Rattle.std.specs.Prelude.{List, ℤ, ℕ, Option, Some, None}
use Rattle.exact.specs.Meaning.Limits as Limits
use Rattle.exact.specs.Outcomes.Enums.{Says}
use Rattle.decimal.specs.Format.{Found}
use Rattle.decimal.specs.Read.{found_refusal, FoundIs, missing}
use Rattle.ring.specs.declared.ZOmega.{ZOmega}
use Rattle.record.specs.Format.{named, four_numbers, ring_line, k_line, n_line}

-- ---- four numbers or none, by the refusal
abbrev pub four_refusal : Option (ZOmega × ℕ) → ℕ × ℕ
four_refusal (Some z) = (Limits.no_refusal, 0)
four_refusal None = (Limits.record_refusal, 0)

abbrev pub FourFound : Option (ZOmega × ℕ) → (ℤ × (ℤ × (ℤ × ℤ)) → ℕ → Type 0) → Type 0
FourFound (Some (z, next)) P = P (z.a, (z.b, (z.c, z.d))) next
FourFound None P = ⊥

-- ---- lines
abbrev pub NameIs : List ℕ → List ℕ → ℕ → Option ℕ → Type 0
NameIs s l name r = Says (found_refusal r) (missing (named name) l) (FoundIs r (Found (named name) l s tt))

abbrev pub FourIs : List ℕ → List ℕ → Option (ZOmega × ℕ) → Type 0
FourIs s l r = Says (four_refusal r) (missing four_numbers l) (FourFound r (Found four_numbers l s))

abbrev pub RingIs : List ℕ → List ℕ → ℕ → Option (ZOmega × ℕ) → Type 0
RingIs s l name r = Says (four_refusal r) (missing (ring_line name) l) (FourFound r (λ x. Found (ring_line name) l s (tt, x)))

abbrev pub KIs : List ℕ → List ℕ → Option (ℤ × ℕ) → Type 0
KIs s l r = Says (found_refusal r) (missing k_line l) (FoundIs r (λ (z, next). Found k_line l s (tt, z) next))

abbrev pub NIs : List ℕ → List ℕ → Option (ℕ × ℕ) → Type 0
NIs s l r = Says (found_refusal r) (missing n_line l) (FoundIs r (λ (n, next). Found n_line l s (tt, n) next))
