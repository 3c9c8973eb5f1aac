-- `number::mul_by_omega_power` meets its contract: omega once more at each turn, and n modulo 8 is enough. Assumes nothing.
use Rattle.view.proofs.Size.{small_of, small_power}
use Rattle.view.proofs.Numbers.{no_turn, one_more, all_turns}
use borrow.Author.Rules.{rules}
use Rattle.ring.specs.Meaning.{quad}
use Rattle.view.proofs.number.mul_by_omega_power.Goals as goal

pub loop-init : goal.loop-init
loop-init c = no_turn (quad c.args.x)

pub mul_by_omega-y-requires : goal.mul_by_omega-y-requires
mul_by_omega-y-requires c = search (rules, small_of, small_power)

pub loop-preserved : goal.loop-preserved
loop-preserved c = search (rules, one_more)

pub returns : goal.returns
returns c = all_turns _ _ c.loop.counter c.args.n c.loop.invariant (search rules)
