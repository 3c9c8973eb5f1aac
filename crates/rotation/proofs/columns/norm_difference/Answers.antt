-- `columns::norm_difference` meets its contract.
use Rattle.rotation.specs.Columns.{squares_less, crosses_less, norms_is}
use Rattle.rotation.proofs.columns.norm_difference.Goals as goal

pub overflow_sub-result : goal.overflow_sub-result
overflow_sub-result c = search squares_less

pub overflow_sub-result-2 : goal.overflow_sub-result-2
overflow_sub-result-2 c = search crosses_less

pub returns : goal.returns
returns c = search norms_is
