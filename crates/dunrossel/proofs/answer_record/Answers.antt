-- `dunrossel::answer_record` meets its contract: what job 4 says of the numbers, written.
use native.Mathlib.Omega.{arith}
use Rattle.std.specs.Prelude.{ℕ, []}
use Rattle.std.proofs.Common.{subst}
use Rattle.record.specs.Meaning.{numbers, taken_record, WriteOutcome}
use Rattle.dunrossel.specs.Record.{there, few, taken_there, printed_is}
use Rattle.dunrossel.proofs.answer_record.Goals as goal

pub slice_bounds-write-end : goal.slice_bounds-write-end
slice_bounds-write-end c =
    there (numbers (taken_record c.args.t)) c.args.word.now c.requires.fact_1 c.args.out.now _ _ c.in-Ok.ensures

pub slice_bounds-write-end-in-Ok : goal.slice_bounds-write-end-in-Ok
slice_bounds-write-end-in-Ok c =
    taken_there (numbers (taken_record c.args.t)) c.args.word.now c.requires.fact_1 c.args.out.now _ _ c.in-Ok.ensures

pub write-requires : goal.write-requires
write-requires c =
    let x = numbers (taken_record c.args.t) in (
      omega (
        arith,
        taken_there x c.args.word.now c.requires.fact_1 c.args.out.now _ _ c.in-Ok.ensures,
        few x c.args.word.now c.requires.fact_1 c.args.out.now _ _ c.in-Ok.ensures,
      ),
      c.requires.fact_2,
    )

pub returns-in-Ok : goal.returns-in-Ok
returns-in-Ok c =
    printed_is (numbers (taken_record c.args.t)) c.args.word.now c.requires.fact_1 c.args.out.now _ _ c.in-Ok.ensures _ _ c.write.ensures

pub returns-in-Err : goal.returns-in-Err
returns-in-Err c =
    printed_is (numbers (taken_record c.args.t)) c.args.word.now c.requires.fact_1 c.args.out.now _ _ c.in-Err.ensures _ _
    (subst (λ (r : ℕ). WriteOutcome r [] 0 0 c.args.out.now c.write-in-Err.new.out c.write-in-Err.result) c.number.ensures c.write-in-Err.ensures)
