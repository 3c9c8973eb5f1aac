-- `reading::cancel` meets its contract. Assumes nothing.
use native.Mathlib.Omega.{arith}
use borrow.Author.Rules.{rules}
use Rattle.reading.specs.Held.{letters_most, cancel_none, cancel_some, pop_room}
use Rattle.reading.proofs.cancel.Goals as goal

pub push-requires : goal.push-requires
push-requires c =
    (search rules, search rules, letters_most c.requires.readable.holds (omega arith), omega arith)

pub returns-then-count-eq0 : goal.returns-then-count-eq0
returns-then-count-eq0 c = search cancel_none

pub behind-tail-requires : goal.behind-tail-requires
behind-tail-requires c =
    record { fits = c.requires.rest_fits; syllable_few = (pop_room c.if-count-eq0.false c.requires.readable).1 }

pub pop-requires : goal.pop-requires
pop-requires c =
    (omega arith, omega arith, (pop_room c.if-count-eq0.false c.requires.readable).0)

pub returns : goal.returns
returns c = search cancel_some
