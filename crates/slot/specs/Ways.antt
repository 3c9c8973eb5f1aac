-- The ways out of the two calls: a lemma for each, over plain values. Assumes nothing.
use Rattle.std.specs.Prelude.{List, [], ◌∷◌, ℕ, ◌/◌, ◌%◌}
use Rattle.exact.specs.Meaning.Word.{byte}
use Rattle.exact.specs.Meaning.Outcome.{none, ◌then◌, Outcome}
use Rattle.reading.specs.declared.Text.{Text}
use Rattle.reading.specs.Steps.{letter_at}
use Rattle.slot.specs.Meaning.{Slot, full, refused, Left, left, Extended}

-- ---- a letter, by its number, more in a right record: the rungs below 17 and 2
abbrev pub MoreOutcome : ℕ → Slot → Left → Type 0
MoreOutcome number r =
    Outcome (λ n p. left (refused n) r) (Extended (byte (letter_at number)) r) (full (byte (letter_at number)) r then none)

-- a text's numbers
abbrev pub six : Text → List ℕ
six x =
    x.reading.count ∷ x.bytes ∷ x.reading.tail.code / 8 ∷ x.reading.tail.code / 4 % 2 ∷ x.reading.tail.code % 4 ∷ x.reading.tail.phase ∷ []
