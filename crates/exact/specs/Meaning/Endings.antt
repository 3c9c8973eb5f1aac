-- Endings of a word, for refusal 6, Deep (docs/SCOPE.md, Refusals): the letters from a place on, and whether their least exponent is over the limit.
use Rattle.std.specs.Prelude.{List, ℕ, ◌≤◌, ◌<◌, length, drop}
use Rattle.exact.specs.Meaning.Matrix.{Least}
use Rattle.exact.specs.Meaning.Word.{Letter, word}
use Rattle.exact.specs.Meaning.Limits.{deepest}

pub record Shallow (u : List Letter) : Type 0 where
  pub k : ℕ
  pub least : Least (word u) k
  pub few : k ≤ deepest

pub record Deep (u : List Letter) : Type 0 where
  pub k : ℕ
  pub least : Least (word u) k
  pub many : deepest < k

-- each ending of the word
pub record AllShallow (u : List Letter) : Type 0 where
  pub at : (start : ℕ) → start ≤ length u → Shallow (drop start u)

-- the rightmost start of an ending that is too deep
pub record DeepAt (u : List Letter) (place : ℕ) : Type 0 where
  pub there : place < length u
  pub deep : Deep (drop place u)
  pub after : (start : ℕ) → place < start → start ≤ length u → Shallow (drop start u)
