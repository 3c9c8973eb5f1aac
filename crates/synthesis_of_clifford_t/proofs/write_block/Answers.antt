-- `synthesis_of_clifford_t::write_block` meets its contract: T m modulo 2 times, S half of m times, and H.
use Rattle.synthesis_of_clifford_t.proofs.Parts.{t_room, s_room, h_room, block_put}
use Rattle.synthesis_of_clifford_t.proofs.write_block.Goals as goal

pub put_times-a-requires : goal.put_times-a-requires
put_times-a-requires c = search t_room

pub put_times-b-requires : goal.put_times-b-requires
put_times-b-requires c = search s_room

pub put_letter-requires : goal.put_letter-requires
put_letter-requires c = search h_room

pub returns : goal.returns
returns c = search block_put
