-- `unitary::from_gates` meets its contract: the ending from `at` on has been read, and it and those after it are shallow.
use borrow.Author.Rules.{rules}
use Rattle.unitary.specs.Letters.{scanned_at, scanned_whole}
use Rattle.unitary.specs.Reading.{read_start, step_more, refused_long, refused_letter, refused_deep, read_whole}
use Rattle.unitary.proofs.from_gates.Goals as goal

pub returns-then-word-gt-LONGEST : goal.returns-then-word-gt-LONGEST
returns-then-word-gt-LONGEST c = search refused_long

pub returns-in-Some : goal.returns-in-Some
returns-in-Some c = search (refused_letter, scanned_at, c.in-Some.ensures)

pub loop-at-init : goal.loop-at-init
loop-at-init c = search read_start

pub returns-then-t-gt60 : goal.returns-then-t-gt60
returns-then-t-gt60 c =
    let s = scanned_whole c.args.word.now c.first_outside.result c.first_outside.ensures c.in_default.not-Some in search (refused_deep, rules)

pub loop-at-preserved : goal.loop-at-preserved
loop-at-preserved c = search step_more

pub returns : goal.returns
returns c =
    let s = scanned_whole c.args.word.now c.first_outside.result c.first_outside.ensures c.in_default.not-Some in search (read_whole, rules)
