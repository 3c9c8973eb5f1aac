-- `Straight::eighth` meets its contract: the negative is as small as what it is the negative of.
use Rattle.rotation.specs.Turned.{neg_v_up_of}
use borrow.Author.Rules.{rules}
use Rattle.rotation.proofs.turn.Straight.eighth.Goals as goal

pub add-requires-2 : goal.add-requires-2
add-requires-2 c = (search rules, search neg_v_up_of)
