-- `positive_at` meets its contract: a text with no minus is that of a number from 0, and that fits. Assumes nothing.
use Rattle.decimal.specs.ReadLaws.{positive_none, positive_fits, positive_found}
use borrow.Author.Rules.{rules}
use Rattle.decimal.proofs.positive_at.Goals as goal

pub returns-in_err-value : goal.returns-in_err-value
returns-in_err-value c = rw c.from_residual.ensures (search (rules, positive_none, c.in_err-value.was))

pub overflow_cast-result : goal.overflow_cast-result
overflow_cast-result c = search (rules, positive_fits, c.in_ok-value.was)

pub returns : goal.returns
returns c = search (rules, positive_found, c.in_ok-value.was)
