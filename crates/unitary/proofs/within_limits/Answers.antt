-- `unitary::within_limits` meets its contract, each test by itself.
use borrow.Author.Rules.{rules}
use Rattle.unitary.proofs.within_limits.Goals as goal
use Rattle.unitary.proofs.within_limits.Goals.{then-within_limit, else-within_limit, then-within_limit-2, else-within_limit-2}

pub returns-then-within_limit-3 : goal.returns-then-within_limit-3
returns-then-within_limit-3 c =
    elim c.if-within_limit-2.branch [
      | then-within_limit-2 w ↦ elim c.if-within_limit.branch [ then-within_limit v ↦ search rules | else-within_limit v ↦ search rules ]
      | else-within_limit-2 w ↦ search rules
    ]

pub returns-else-within_limit-3 : goal.returns-else-within_limit-3
returns-else-within_limit-3 c =
    elim c.if-within_limit-2.branch [
      | then-within_limit-2 w ↦ search rules
      | else-within_limit-2 w ↦ elim c.if-within_limit.branch [ then-within_limit v ↦ search rules | else-within_limit v ↦ search rules ]
    ]
