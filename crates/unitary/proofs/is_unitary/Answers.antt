-- `unitary::is_unitary` meets its contract: each of the two sums is one comparison.
use Rattle.unitary.specs.Checks.{refutes_equal, squares_agree, squares_differ, crosses_need, crosses_decide}
use Rattle.unitary.proofs.is_unitary.Goals as goal

pub overflow_sub-result : goal.overflow_sub-result
overflow_sub-result c = search crosses_need

pub returns-then-squares-power_of_two : goal.returns-then-squares-power_of_two
returns-then-squares-power_of_two c = search (crosses_decide, squares_agree)

pub returns-else-squares-power_of_two : goal.returns-else-squares-power_of_two
returns-else-squares-power_of_two c = refutes_equal _ _ c.if-squares-power_of_two.false (search squares_differ)
