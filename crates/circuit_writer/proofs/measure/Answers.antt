-- `measure` meets its contract. Assumes nothing.
use Rattle.std.proofs.Common.{◌≡◌, ℕ, Some, None, Option, arith, rules}
use Rattle.std.proofs.lemmas.Result.{err_from_is_err_and}
use Rattle.exact.specs.declared.Refusal.{Refusal}
use Rattle.circuit_writer.specs.WritingLaws.{measuring_stops, measuring_fits, measuring_more}
use Rattle.circuit_writer.proofs.measure.Goals as goal

pub returns-in_err-lines : goal.returns-in_err-lines
returns-in_err-lines c =
    let e : ◌≡◌ {A = Option ℕ} c.line_size.result None = grind arith in
    let f : c.in_err-lines.field-0.0 ≡ Refusal.Letter c.loop-i.i = grind arith in
    let p = err_from_is_err_and c.from_residual.result c.from_residual.ensures.1 in
    rw (p.1, p.2, f) (search (rules, measuring_stops))

pub overflow_add-lines : goal.overflow_add-lines
overflow_add-lines c =
    let e : c.line_size.result ≡ Some c.in_ok-lines.field-0 = grind arith in
    measuring_fits c.loop-i.invariant c.line_size.ensures _ e c.requires

pub loop-i-preserved : goal.loop-i-preserved
loop-i-preserved c =
    let e : c.line_size.result ≡ Some c.in_ok-lines.field-0 = grind arith in
    measuring_more c.loop-i.invariant c.line_size.ensures _ e (omega arith)
