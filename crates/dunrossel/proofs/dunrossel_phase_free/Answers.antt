-- `dunrossel::dunrossel_phase_free` meets its contract: job 5 on the word, into the lent bytes.
use Rattle.normal_form.specs.Meaning.{DropsPhase}
use Rattle.dunrossel.specs.Handed.{writes_as}
use Rattle.dunrossel.proofs.dunrossel_phase_free.Goals as goal

pub returns : goal.returns
returns c = search (writes_as DropsPhase)
