-- No number of the answer is a NaN. Assumes nothing.
use Rattle.std.proofs.Common.{rules}
use Rattle.cases_view.proofs.Finite.{finite_view}
use Rattle.cases_view.proofs.case.Goals as goal

pub lines-requires : goal.lines-requires
lines-requires g c = search (rules, finite_view, c.in-Ok.ensures)
