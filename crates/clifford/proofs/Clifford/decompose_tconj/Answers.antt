-- `clifford::Clifford::decompose_tconj` meets its contract. Assumes nothing.
use Rattle.clifford.proofs.Cliffords.{tconj_by}
use Rattle.clifford.proofs.Clifford.decompose_tconj.Goals as goal

pub returns : goal.returns
returns c = search tconj_by
