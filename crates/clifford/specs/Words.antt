-- Words with the same matrix.
use Rattle.std.specs.Prelude.{List}
use Rattle.exact.specs.Meaning.Matrix.{Same}
use Rattle.exact.specs.Meaning.Word.{Letter, word}

infix 4 ◌≈◌
pub record ◌≈◌ (u v : List Letter) : Type 0 where
  pub same : Same (word u) (word v)
