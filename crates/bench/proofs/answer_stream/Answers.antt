-- What was read is where the input begins, and the answer to it is the answer to the input. Assumes nothing.
use Rattle.bench.proofs.Stream.{stream_answered}
use Rattle.bench.proofs.answer_stream.Goals as goal

pub returns-clause-answers : goal.returns-clause-answers
returns-clause-answers g c =
    let read = c.in_ok-size.ensures in
    stream_answered _ _ read.in_bounds.0 _ _ _ _ _ read.bytes read.end c.answer.ensures.answers
