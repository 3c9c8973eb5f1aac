-- `slot::add` meets its contract. Assumes nothing.
use Rattle.std.proofs.Common.{refl}
use Rattle.std.proofs.lemmas.Result.{err_from_is_err_and}
use Rattle.exact.specs.declared.Refusal.{Refusal}
use Rattle.slot.proofs.Ways.{or_else, letter_few, add_wrong, add_outside, add_more}
use Rattle.slot.proofs.add.Goals as goal

pub returns-in_err-r-clause-outcome : goal.returns-in_err-r-clause-outcome
returns-in_err-r-clause-outcome c =
    let p = err_from_is_err_and c.from_residual.result c.from_residual.ensures.1 in
    let o = or_else c.check.result Refusal.Slot c.in_err-r.field-0.0 c.in_err-r.ensures.value in
    rw (p.1, p.2, o.1) (add_wrong _ c.check.ensures o.0 refl)

pub returns-in_err-number-clause-outcome : goal.returns-in_err-number-clause-outcome
returns-in_err-number-clause-outcome c =
    let p = err_from_is_err_and c.from_residual-in_err-number.result c.from_residual-in_err-number.ensures.1 in
    let o = or_else c.number.result (Refusal.Letter 0) c.in_err-number.field-0.0 c.in_err-number.ensures.value in
    rw (p.1, p.2, o.1) (add_outside _ c.check.ensures c.in_ok-r.ensures.ok_part c.number.ensures o.0 refl)

pub add_right-requires-clause-number_few : goal.add_right-requires-clause-number_few
add_right-requires-clause-number_few c = letter_few c.args.letter c.number.ensures c.in_ok-number.ensures.ok_part

pub returns-clause-outcome : goal.returns-clause-outcome
returns-clause-outcome c =
    add_more _ c.check.ensures c.in_ok-r.ensures.ok_part c.number.ensures c.in_ok-number.ensures.ok_part c.add_right.ensures.outcome
