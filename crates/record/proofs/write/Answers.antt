-- `write` meets its contract: the lines have room, and they are the text of `answer_text`'s case. Assumes nothing.
use Rattle.record.specs.AnswerLaws.{lines_room, write_accepted, write_refused}
use borrow.Author.Rules.{rules}
use Rattle.record.proofs.write.Goals as goal

pub answer-requires : goal.answer-requires
answer-requires c = search (rules, lines_room)

pub returns-then-refusal-eq-ACCEPTED : goal.returns-then-refusal-eq-ACCEPTED
returns-then-refusal-eq-ACCEPTED c = search write_accepted

pub answer-requires-2 : goal.answer-requires-2
answer-requires-2 c = search (rules, lines_room)

pub returns : goal.returns
returns c = search write_refused
