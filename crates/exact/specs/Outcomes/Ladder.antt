-- Ladders of refusals: two allowed outcomes are equal; what follows where none of the refusals holds; and outcomes made of other outcomes.
-- Assumes nothing.
use Rattle.std.specs.Prelude.{◌≡◌, ℕ}
use Rattle.exact.specs.Meaning.Outcome.{Refusals, Outcome}

-- ---- a check: a number alone, 0 where none of the refusals holds
abbrev pub Checks : Refusals → ℕ → Type 0
Checks fs r = Outcome (λ n p. n) (λ r. r ≡ 0) fs r
