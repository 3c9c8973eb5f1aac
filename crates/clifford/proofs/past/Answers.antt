-- `clifford::past` meets its contract. Assumes nothing.
use borrow.Author.Rules.{rules}
use Rattle.clifford.proofs.Moves.{past_by}
use Rattle.clifford.proofs.past.Goals as goal

pub returns : goal.returns
returns c = search (rules, past_by)
