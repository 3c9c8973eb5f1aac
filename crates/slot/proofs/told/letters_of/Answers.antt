-- `slot::told::letters_of` meets its contract. Assumes nothing.
use Rattle.std.proofs.Common.{◌∙◌, ap, arith, le_refl, length, take_all}
use Rattle.slot.specs.Tests.{sum}
use Rattle.slot.proofs.Tests.{sum_none, sum_fits, sum_more, sum_end}
use Rattle.slot.proofs.told.letters_of.Goals as goal

pub loop-code-init : goal.loop-code-init
loop-code-init c = search sum_none

pub overflow_add-letters : goal.overflow_add-letters
overflow_add-letters c = search (sum_fits, le_refl)

pub loop-code-preserved : goal.loop-code-preserved
loop-code-preserved c = search (sum_more, le_refl)

pub returns : goal.returns
returns c =
    let codes = c.args.codes.now in
    sum_end {count = length codes} c.loop-code.invariant (omega arith) (omega arith) ∙ ap sum (take_all (length codes) codes (le_refl _))
