-- `dunrossel::dunrossel_bench` meets its contract: refusal 8 of what is no right record, else job 4's answer.
use Rattle.std.specs.Prelude.{ℕ, []}
use Rattle.std.proofs.Common.{subst}
use Rattle.exact.proofs.Outcomes.Handed.{number_some}
use Rattle.record.specs.Meaning.{WriteOutcome}
use Rattle.dunrossel.specs.Record.{bench_malformed, bench_read}
use Rattle.dunrossel.proofs.dunrossel_bench.Goals as goal

pub returns-in-Err : goal.returns-in-Err
returns-in-Err c =
    bench_malformed _ _ _ _ _ c.in-Err.ensures (number_some c.in-Err.malformed)
    (subst (λ (r : ℕ). WriteOutcome r [] 0 0 c.args.out.now c.write.new.out c.write.result) c.number.ensures c.write.ensures)

pub returns-in-Ok : goal.returns-in-Ok
returns-in-Ok c = search (bench_read, c.in-Ok.ensures)
