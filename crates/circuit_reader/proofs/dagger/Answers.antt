-- `dagger` meets its contract. Assumes nothing.
use Rattle.std.proofs.Common.{rules}
use Rattle.circuit_reader.specs.ReadingLaws.{dagger_s, dagger_t}
use Rattle.circuit_reader.proofs.dagger.Goals as goal

pub returns-in-115 : goal.returns-in-115
returns-in-115 c = search (rules, dagger_s)

pub returns-in-116 : goal.returns-in-116
returns-in-116 c = search (rules, dagger_t)
