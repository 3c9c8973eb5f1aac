-- `matched` meets its contract. Assumes nothing.
use Rattle.std.proofs.Common.{rules}
use Rattle.circuit_reader.specs.ReadingLaws.{matched_less, matched_whole, matched_fits}
use Rattle.circuit_reader.proofs.matched.Goals as goal

pub overflow_add-next : goal.overflow_add-next
overflow_add-next c = search (rules, matched_fits)

pub returns-then-next-at : goal.returns-then-next-at
returns-then-next-at c = search (rules, matched_less)

pub returns : goal.returns
returns c = search (rules, matched_whole)
