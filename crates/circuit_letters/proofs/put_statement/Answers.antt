-- `put_statement` meets its contract, a law for each kind of statement. Assumes nothing.
use Rattle.std.proofs.Common.{arith}
use Rattle.circuit_letters.specs.LettersLaws.{stands_within, stands_room, stands_low, stands_three}
use Rattle.circuit_letters.specs.LettersLaws.{esses_one, esses_room, puts_gate, puts_phase, puts_sdg, puts_tdg}
use Rattle.circuit_letters.proofs.put_statement.Goals as goal

pub bounds-text-at-2 : goal.bounds-text-at-2
bounds-text-at-2 c = omega (arith, stands_within _ _ _ _ c.requires)

pub overflow_sub-b : goal.overflow_sub-b
overflow_sub-b c = search stands_low

pub put_esses-esses-requires : goal.put_esses-esses-requires
put_esses-esses-requires c = (search stands_three, search stands_room)

pub put_before-left-requires-in-100 : goal.put_before-left-requires-in-100
put_before-left-requires-in-100 c = (search esses_one, search esses_room)

pub returns-in-32 : goal.returns-in-32
returns-in-32 c = search puts_gate

pub returns-then-b-eq115 : goal.returns-then-b-eq115
returns-then-b-eq115 c = search puts_sdg

pub returns-else-b-eq115 : goal.returns-else-b-eq115
returns-else-b-eq115 c = search puts_tdg

pub returns-in_default : goal.returns-in_default
returns-in_default c = search puts_phase
