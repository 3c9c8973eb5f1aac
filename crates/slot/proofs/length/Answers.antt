-- `slot::length` meets its contract. Assumes nothing.
use Rattle.std.proofs.Common.{refl}
use Rattle.std.proofs.lemmas.Result.{err_from_is_err_and}
use Rattle.exact.specs.declared.Refusal.{Refusal}
use Rattle.slot.proofs.Ways.{or_else, length_wrong, length_told}
use Rattle.slot.proofs.length.Goals as goal

pub returns-in_err-r-clause-outcome : goal.returns-in_err-r-clause-outcome
returns-in_err-r-clause-outcome c =
    let p = err_from_is_err_and c.from_residual.result c.from_residual.ensures.1 in
    let o = or_else c.check.result Refusal.Slot c.in_err-r.field-0.0 c.in_err-r.ensures.value in
    rw (p.1, p.2, o.1) (length_wrong c.check.ensures o.0 refl)

pub returns-clause-outcome : goal.returns-clause-outcome
returns-clause-outcome c = length_told c.check.ensures c.in_ok-r.ensures.ok_part
