-- `dunrossel::dunrossel_normalise` meets its contract: job 3 on the word, into the lent bytes.
use Rattle.normal_form.specs.Meaning.{Normalises}
use Rattle.dunrossel.specs.Handed.{writes_as}
use Rattle.dunrossel.proofs.dunrossel_normalise.Goals as goal

pub returns : goal.returns
returns c = search (writes_as Normalises)
