-- `agreement::agree` meets its contract: the two ways, and the comparison of what they wrote.
use Rattle.agreement.proofs.AgreeLaws.{first_there, second_there}
use Rattle.agreement.proofs.agree.Goals as goal

pub alike-yes-requires : goal.alike-yes-requires
alike-yes-requires c = record { first_there = search first_there; second_there = search second_there }
