-- `dunrossel::dunrossel_synthesise_steps` meets its contract: job 4 on the numbers of the array.
use Rattle.handed.specs.Meaning.{steps_of}
use Rattle.dunrossel.specs.Handed.{synthesises_as}
use Rattle.dunrossel.proofs.dunrossel_synthesise_steps.Goals as goal

pub returns : goal.returns
returns c =
    synthesises_as _ _ c.args.zw.now c.ranges.k _ c.triple_of-t.ensures steps_of _ _ _ _ _ c.synthesise-counted.ensures
    c.put_steps.ensures.refusal c.put_steps.ensures.steps
