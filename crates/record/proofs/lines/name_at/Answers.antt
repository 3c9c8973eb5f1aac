-- `lines::name_at` meets its contract, a law for each way out. Assumes nothing.
use Rattle.std.proofs.Common.{sym, ◌∙◌}
use Rattle.record.specs.LineLaws.{name_past, name_other, name_short, name_unequal, name_found}
use Rattle.record.proofs.lines.name_at.Goals as goal

pub returns-in_err-get : goal.returns-in_err-get
returns-in_err-get c = rw c.from_residual.ensures (name_past _ _ _ c.in_err-get.ensures.lookup.3)

pub returns-then-branch-name : goal.returns-then-branch-name
returns-then-branch-name c =
    let first = c.in_ok-get.ensures.lookup.3 in
    name_other _ _ _ first.0 (λ e. c.if-branch-name.true (first.1 0 ∙ e))

pub returns-in_err-get-2 : goal.returns-in_err-get-2
returns-in_err-get-2 c =
    rw c.from_residual-in_err-get-2.ensures
    (name_short _ _ _ c.in_ok-get.ensures.lookup.3.0 c.in_err-get-2.ensures.lookup.3)

pub returns-then-branch-ne61 : goal.returns-then-branch-ne61
returns-then-branch-ne61 c =
    let second = c.in_ok-get-2.ensures.lookup.3 in
    name_unequal _ _ _ c.in_ok-get.ensures.lookup.3.0 second.0 (λ e. c.if-branch-ne61.true (second.1 0 ∙ e))

pub returns : goal.returns
returns c =
    let first = c.in_ok-get.ensures.lookup.3 in
    let second = c.in_ok-get-2.ensures.lookup.3 in
    name_found _ _ _ first.0 second.0 (sym (first.1 0) ∙ c.if-branch-name.false) (sym (second.1 0) ∙ c.if-branch-ne61.false)
