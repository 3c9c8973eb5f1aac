-- `dunrossel::dunrossel_synthesise` meets its contract: job 4 on the numbers of the array.
use Rattle.handed.specs.Meaning.{counts_of}
use Rattle.dunrossel.specs.Handed.{synthesises_as}
use Rattle.dunrossel.proofs.dunrossel_synthesise.Goals as goal

pub returns : goal.returns
returns c =
    synthesises_as _ _ c.args.zw.now c.ranges.k _ c.triple_of-t.ensures counts_of _ _ _ _ _ c.synthesise-answer.ensures
    c.put_synthesis.ensures.refusal c.put_synthesis.ensures.counts
