-- `line_at` meets its contract. Assumes nothing.
use Rattle.circuit_reader.specs.ReadingLaws.{gate_at, dagger_taken}
use Rattle.circuit_reader.proofs.line_at.Goals as goal

pub returns-then-is_tail : goal.returns-then-is_tail
returns-then-is_tail c = search gate_at

pub returns-in-Some : goal.returns-in-Some
returns-in-Some c = search dagger_taken
