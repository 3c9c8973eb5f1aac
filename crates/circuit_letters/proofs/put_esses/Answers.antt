-- `put_esses` meets its contract. Assumes nothing.
use Rattle.circuit_letters.specs.LettersLaws.{three_esses}
use Rattle.circuit_letters.proofs.put_esses.Goals as goal

pub returns : goal.returns
returns c = search three_esses
