-- `reading::read_word` meets its contract. Assumes nothing.
use native.Mathlib.Omega.{arith}
use borrow.Author.Rules.{rules}
use Rattle.std.proofs.lemmas.Result.{err_from_is_err_and}
use Rattle.reading.specs.Reader.{upto_none, room, first_refused, second_refused, upto_at, upto_two, read_last, read_all}
use Rattle.reading.proofs.read_word.Goals as goal

pub loop-i-init : goal.loop-i-init
loop-i-init c = search upto_none

pub returns-in_err-first : goal.returns-in_err-first
returns-in_err-first c =
    let p = err_from_is_err_and c.from_residual.result c.from_residual.ensures.1 in
    rw (p.1, p.2) (first_refused c.loop-i.invariant c.loop-i.items (omega arith) c.in_err-first.ensures)

pub returns-in_err-second : goal.returns-in_err-second
returns-in_err-second c =
    let p = err_from_is_err_and c.from_residual-in_err-second.result c.from_residual-in_err-second.ensures.1 in
    rw (p.1, p.2) (second_refused c.loop-i.invariant c.loop-i.items (omega arith) c.in_ok-first.ensures c.in_err-second.ensures)

pub append_gates-r-requires-clause-place : goal.append_gates-r-requires-clause-place
append_gates-r-requires-clause-place c = room c.loop-i.invariant (omega arith) (omega arith) (omega arith)

pub loop-i-preserved : goal.loop-i-preserved
loop-i-preserved c =
    upto_two c.loop-i.invariant (omega arith) c.in_ok-first.ensures c.in_ok-second.ensures (search rules) c.append_gates-r.ensures (omega arith)

pub returns-in_err-last : goal.returns-in_err-last
returns-in_err-last c =
    let p = err_from_is_err_and c.from_residual-in_err-last.result c.from_residual-in_err-last.ensures.1 in
    rw (p.1, p.2) (first_refused (upto_at c.loop-i.invariant (omega arith)) c.loop-i.items (omega arith) c.in_err-last.ensures)

pub append_gates-r-requires-then-pairs-word-clause-place : goal.append_gates-r-requires-then-pairs-word-clause-place
append_gates-r-requires-then-pairs-word-clause-place c = room c.loop-i.invariant (omega arith) (omega arith) (omega arith)

pub returns-in_ok-last : goal.returns-in_ok-last
returns-in_ok-last c = read_last (upto_at c.loop-i.invariant (omega arith)) (omega arith) (omega arith) c.in_ok-last.ensures c.append_gates-r-then-pairs-word.ensures

pub returns-else-pairs-word : goal.returns-else-pairs-word
returns-else-pairs-word c = read_all c.loop-i.invariant (omega arith)
