-- `lines_from` meets its contract. Assumes nothing.
use Rattle.std.proofs.Common.{rules}
use Rattle.std.proofs.lemmas.Result.{err_from_is_err_and}
use Rattle.circuit_reader.specs.ReadingLaws.{walking_none, walking_fits, walking_less, walking_more, walking_stops, walked}
use Rattle.circuit_reader.proofs.lines_from.Goals as goal

pub loop-at-init : goal.loop-at-init
loop-at-init c = search walking_none

pub returns-in_err-line : goal.returns-in_err-line
returns-in_err-line c =
    let p = err_from_is_err_and c.from_residual.result c.from_residual.ensures.1 in
    rw (p.1, p.2) (walking_stops c.loop-at.invariant _ _ c.loop-at-test.true c.line_at.ensures c.in_err-line.was)

pub overflow_add-letters : goal.overflow_add-letters
overflow_add-letters c = walking_fits c.loop-at.invariant _ _ c.line_at.ensures c.in_ok-line.was (search rules)

pub loop-at-smaller : goal.loop-at-smaller
loop-at-smaller c = walking_less c.loop-at.invariant _ _ c.line_at.ensures c.in_ok-line.was c.loop-at-test.true

pub loop-at-preserved : goal.loop-at-preserved
loop-at-preserved c = walking_more c.loop-at.invariant _ _ c.line_at.ensures c.in_ok-line.was

pub returns : goal.returns
returns c = search walked
