-- `put_letters` meets its contract. Assumes nothing.
use borrow.Author.Rules.{rules}
use Rattle.circuit_letters.specs.LettersLaws.{putting_none, putting_stands, putting_less, putting_more, putting_all}
use Rattle.circuit_letters.proofs.put_letters.Goals as goal

pub loop-step-init : goal.loop-step-init
loop-step-init c = search putting_none

pub put_statement-step-requires : goal.put_statement-step-requires
put_statement-step-requires c = search (rules, putting_stands)

pub loop-step-smaller : goal.loop-step-smaller
loop-step-smaller c = search putting_less

pub loop-step-preserved : goal.loop-step-preserved
loop-step-preserved c = search (rules, putting_more)

pub returns : goal.returns
returns c = search (rules, putting_all)
