-- Texts as bytes; and texts of a kind, whatever the kind, for refusal 9 (docs/SCOPE.md, Refusals): what begins a right one, and the first byte that can't
-- continue one.
use Rattle.std.specs.Prelude.{List, [], ◌∷◌, ◌++◌, ℕ, suc, ◌<◌, ◌≤◌, length, take}
use Prim.Native.Char.{code}
use Prim.Native.String.{String, [] as empty, ◌∷◌ as ◌before◌}

-- a quoted text as bytes, each a character's code
abbrev pub ascii : String → List ℕ
ascii empty = []
ascii (c before s) = code c ∷ ascii s

-- s begins some right text
pub record Begins (Right : List ℕ → Type 0) (s : List ℕ) : Type 0 where
  pub rest : List ℕ
  pub right : Right (s ++ rest)

-- s is not right, and the place is that of its first byte that can't continue a right text, or its length
pub record Stops (Right : List ℕ → Type 0) (s : List ℕ) (place : ℕ) : Type 0 where
  pub there : place ≤ length s
  pub begun : Begins Right (take place s)
  pub ended : place < length s → Begins Right (take (suc place) s) → ⊥
  pub wrong : Right s → ⊥
