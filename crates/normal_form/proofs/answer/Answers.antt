-- `normal_form::answer` meets its contract. Assumes nothing.
use Rattle.normal_form.specs.Emptied.{blank_by}
use Rattle.normal_form.specs.Ways.{too_long}
use Rattle.normal_form.proofs.answer.Goals as goal

pub returns-then-word-gt-LONGEST : goal.returns-then-word-gt-LONGEST
returns-then-word-gt-LONGEST c = search too_long

pub read_and_write-requires-clause-blank : goal.read_and_write-requires-clause-blank
read_and_write-requires-clause-blank c = blank_by _ tt
