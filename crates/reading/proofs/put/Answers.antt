-- `reading::put` meets its contract. Assumes nothing.
use Rattle.reading.specs.Held.{cancels, puts, count_room, letters_room, place_there, place_few, one_most}
use Rattle.reading.proofs.put.Goals as goal

pub cancel-requires : goal.cancel-requires
cancel-requires c = search count_room

pub returns-then-kind-eq1 : goal.returns-then-kind-eq1
returns-then-kind-eq1 c = search cancels

pub push-requires : goal.push-requires
push-requires c = search (letters_room, place_there, place_few, one_most)

pub returns : goal.returns
returns c = search puts
