-- `normal_form::write` meets its contract. Assumes nothing.
use Rattle.std.proofs.Common.{sym, length-take-le}
use Rattle.normal_form.specs.Answers.{parts_few, no_room_for, syllables_room, ending_room, written_for}
use Rattle.reading.specs.Held.{count_within}
use Rattle.normal_form.proofs.write.Goals as goal

pub bytes_of-bytes-requires : goal.bytes_of-bytes-requires
bytes_of-bytes-requires c = parts_few c.requires.readable c.requires.count_few c.ending_of-e.ensures

pub returns-then-bytes-buf : goal.returns-then-bytes-buf
returns-then-bytes-buf c = search no_room_for

pub slice_bounds-put_syllables-end : goal.slice_bounds-put_syllables-end
slice_bounds-put_syllables-end c =
    sym (length-take-le c.args.r.reading.count c.args.items.now (count_within c.requires.readable.holds.holds))

pub put_syllables-at-requires : goal.put_syllables-at-requires
put_syllables-at-requires c = search syllables_room

pub put_ending-requires : goal.put_ending-requires
put_ending-requires c = search ending_room

pub returns : goal.returns
returns c = search written_for
