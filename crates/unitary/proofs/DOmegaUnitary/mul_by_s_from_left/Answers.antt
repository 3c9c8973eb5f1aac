-- `unitary::DOmegaUnitary::mul_by_s_from_left` meets its contract: w goes by omega twice.
use mathlib.Core.Path.{refl, ◌∙◌}
use Rattle.ring.specs.Meaning.{quad}
use Rattle.unitary.specs.Triples.{by_parts}
use Rattle.unitary.specs.Acts.{small_turned, twice_turned}
use Rattle.unitary.proofs.DOmegaUnitary.mul_by_s_from_left.Goals as goal

pub mul_by_omega-requires-2 : goal.mul_by_omega-requires-2
mul_by_omega-requires-2 c = small_turned c.requires.fact_1 c.mul_by_omega.ensures

pub returns : goal.returns
returns c = by_parts refl refl refl (c.mul_by_omega-2.ensures ∙ twice_turned (quad c.args.self.w) c.mul_by_omega.ensures)
