-- `synthesis_of_clifford_t::decompose_domega_unitary` meets its contract: each turn takes a step and writes its block into the free
-- rest; the measure is how many steps there may be.
use Rattle.synthesis_of_clifford_t.proofs.Parts.{writing_start, len_inside, length_kept, block_fits}
use Rattle.synthesis_of_clifford_t.proofs.Parts.{count_fits, step_few, step_nearer, step_room, step_writing, ended}
use Rattle.synthesis_of_clifford_t.proofs.Parts.{end_room, end_fits, end_put, end_steps}
use Rattle.synthesis_of_clifford_t.proofs.CodeLaws.{good_of}
use borrow.Author.Rules.{rules}
use Rattle.synthesis_of_clifford_t.proofs.decompose_domega_unitary.Goals as goal

pub loop-m-init : goal.loop-m-init
loop-m-init c = search (good_of, writing_start)

pub slice_bounds-write_block-count : goal.slice_bounds-write_block-count
slice_bounds-write_block-count c = search (rules, len_inside)

pub write_block-len-requires : goal.write_block-len-requires
write_block-len-requires c = search (step_few, step_room, c.in-Some.ensures)

pub overflow_add-len : goal.overflow_add-len
overflow_add-len c = search block_fits

pub overflow_add-steps : goal.overflow_add-steps
overflow_add-steps c = search count_fits

pub loop-m-smaller : goal.loop-m-smaller
loop-m-smaller c = search (step_nearer, c.in-Some.ensures)

pub loop-m-preserved : goal.loop-m-preserved
loop-m-preserved c = search (step_writing, c.in-Some.ensures)

pub slice_bounds-write_closing-count : goal.slice_bounds-write_closing-count
slice_bounds-write_closing-count c = search len_inside

pub write_closing-len-requires : goal.write_closing-len-requires
write_closing-len-requires c = search (rules, end_room, ended, c.in_default.ensures)

pub overflow_add-len-2 : goal.overflow_add-len-2
overflow_add-len-2 c = search (end_fits, ended, c.in_default.ensures)

pub shape_of-work : goal.shape_of-work
shape_of-work c = search length_kept

pub returns : goal.returns
returns c = (search (end_put, ended, c.in_default.ensures), search (end_steps, ended, c.in_default.ensures))
