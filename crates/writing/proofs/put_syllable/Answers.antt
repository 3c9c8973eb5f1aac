-- `writing::put_syllable` meets its contract. Assumes nothing.
use Rattle.writing.specs.Spelt.{spelt}
use Rattle.writing.proofs.put_syllable.Goals as goal

pub returns : goal.returns
returns c = search spelt
