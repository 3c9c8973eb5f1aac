-- `synthesis_of_clifford_t::write_closing` meets its contract: T or none, and then the tail.
use Rattle.synthesis_of_clifford_t.proofs.Closes.{tees_room, tail_room, closing_put}
use Rattle.synthesis_of_clifford_t.proofs.write_closing.Goals as goal

pub put_times-a-requires : goal.put_times-a-requires
put_times-a-requires c = search tees_room

pub put_ending-requires : goal.put_ending-requires
put_ending-requires c = search tail_room

pub returns : goal.returns
returns c = search closing_put
