-- `write` meets its contract. Assumes nothing.
use Rattle.std.proofs.Common.{rules}
use Rattle.std.proofs.lemmas.Result.{err_from_is_err_and}
use Rattle.qasm.specs.WriterWays.{too_long, outside, word_measures, word_phase}
use Rattle.qasm.proofs.write.Goals as goal

pub returns-then-word-gt-LONGEST : goal.returns-then-word-gt-LONGEST
returns-then-word-gt-LONGEST c = search too_long

pub returns-in_err-measured : goal.returns-in_err-measured
returns-in_err-measured c =
    let p = err_from_is_err_and c.from_residual.result c.from_residual.ensures.1 in
    rw (p.1, p.2) (outside _ _ _ _ _ (search rules) c.measure.ensures c.in_err-measured.was)

pub write_word-requires : goal.write_word-requires
write_word-requires c = record {
  fact_1 = search rules;
  fact_2 = word_measures _ _ _ c.measure.ensures c.in_ok-measured.was;
  fact_3 = word_phase _ _ _ c.measure.ensures c.in_ok-measured.was;
}
