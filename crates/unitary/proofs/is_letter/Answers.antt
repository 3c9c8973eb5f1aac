-- `unitary::is_letter` meets its contract: of the six bytes, two and two stand side by side.
use mathlib.Core.Path.{refl}
use native.Mathlib.Omega.{arith}
use Rattle.exact.specs.Meaning.Word.{I, H, S, X, W, T'}
use Rattle.unitary.specs.Letters.{letter_of_two}
use Rattle.unitary.proofs.is_letter.Goals as goal

pub returns-in-73 : goal.returns-in-73
returns-in-73 c = letter_of_two H I c.args.g refl (omega arith) (omega arith)

pub returns-in-73-2 : goal.returns-in-73-2
returns-in-73-2 c = letter_of_two S T' c.args.g refl (omega arith) (omega arith)

pub returns-in-73-3 : goal.returns-in-73-3
returns-in-73-3 c = letter_of_two W X c.args.g refl (omega arith) (omega arith)
