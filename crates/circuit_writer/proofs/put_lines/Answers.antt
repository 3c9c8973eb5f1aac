-- `put_lines` meets its contract: a line more is put. Assumes nothing.
use Rattle.circuit_writer.specs.WritingLaws.{lining_letter, lining_room, lining_more}
use Rattle.circuit_writer.proofs.put_lines.Goals as goal

pub put_line-at-requires-clause-fact_1 : goal.put_line-at-requires-clause-fact_1
put_line-at-requires-clause-fact_1 c = lining_letter c.loop-b.invariant.lining _ _ c.in-Some.ensures.steps

pub put_line-at-requires-clause-fact_2 : goal.put_line-at-requires-clause-fact_2
put_line-at-requires-clause-fact_2 c = lining_room c.loop-b.invariant.lining _ _ c.in-Some.ensures.steps

pub loop-b-preserved : goal.loop-b-preserved
loop-b-preserved c =
    record { next = tt; finite = tt; lining = lining_more c.loop-b.invariant.lining _ _ c.in-Some.ensures.steps _ _ c.put_line-at.ensures }
