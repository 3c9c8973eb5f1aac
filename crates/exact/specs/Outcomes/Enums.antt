-- What an inner function that answers an enum promises, by the refusal's number and the place that stand for its case.
use Rattle.std.specs.Prelude.{Bool, true, false, ℕ, zero, suc, eqb}
use Rattle.exact.specs.Meaning.Outcome.{Refusal}

abbrev pub When : Bool → Type 0 → Type 0
When true C = C
When false C = ⊥

-- accepted, it is the answer; else its number is that of the refusal, which holds at its place
abbrev pub Numbered : ℕ → ℕ → Refusal → Type 0 → Type 0
Numbered zero p f Answer = Answer
Numbered (suc n) p f Answer = When (eqb (suc n) f.number) (f.At p)

abbrev pub Says : ℕ × ℕ → Refusal → Type 0 → Type 0
Says r f Answer = Numbered r.0 r.1 f Answer
