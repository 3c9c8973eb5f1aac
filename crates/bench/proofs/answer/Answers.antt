-- The answer to the bytes that are there is the answer to the whole input. Assumes nothing.
use Rattle.std.proofs.Common.{rules}
use Rattle.dunrossel.proofs.Beginning.{answered}
use Rattle.dunrossel.specs.Record.{bench_fits, bench_counted}
use Rattle.bench.proofs.answer.Goals as goal

pub returns-clause-answers : goal.returns-clause-answers
returns-clause-answers c = search (rules, answered)

pub returns-clause-prefix_len : goal.returns-clause-prefix_len
returns-clause-prefix_len c =
    (bench_fits _ _ _ _ c.dunrossel_bench.ensures, bench_counted _ _ _ _ c.dunrossel_bench.ensures)
