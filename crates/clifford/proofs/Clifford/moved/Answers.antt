-- `clifford::Clifford::moved` meets its contract. Assumes nothing.
use borrow.Author.Rules.{rules}
use Rattle.clifford.proofs.Moves.{moved_by}
use Rattle.clifford.proofs.Clifford.moved.Goals as goal

pub returns : goal.returns
returns c = search (rules, moved_by)
