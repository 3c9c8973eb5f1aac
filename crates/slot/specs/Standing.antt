-- A record that letters give, told from the record alone: its codes, the places behind them, its ranges and its bytes. Assumes nothing.
use Rattle.std.specs.Prelude.{◌≡◌, List, ℕ, ◌+◌, ◌*◌, get_or, Option, Some, None}
use Rattle.exact.specs.Meaning.Normal.{Syllable}
use Rattle.clifford.specs.Meaning.{Ranged}
use Rattle.reading.specs.declared.Text.{Text}
use Rattle.reading.specs.declared.Reading.{Reading}
use Rattle.reading.specs.declared.steps.Tail.{Tail}
use Rattle.reading.specs.Readings.{State, shape_of}
use Rattle.reading.specs.Syllables.{syllable_number, named}
use Rattle.reading.specs.Texts.{HoldsText}
use Rattle.slot.specs.Meaning.{Slot, Shows, Given}

-- ---- from codes to syllables
pub record Named (c : ℕ) : Type 0 where
  pub s : Syllable
  pub is : c ≡ syllable_number (named s)

-- ---- a text that stands in a record
pub record Standing (r : Slot) (x : Text) : Type 0 where
  pub st : State
  pub ranged : Ranged st.q
  pub shows : Shows (shape_of st) r
  pub holds : HoldsText r.syllables x st

abbrev pub Tells : Slot → Option Text → Type 0
Tells r None = Given r → ⊥
Tells r (Some x) = Standing r x

-- what the program makes of a record, its letters being counted
abbrev pub tail_in : List ℕ → Tail
tail_in rest = record { code = get_or rest 2 0 * 8 + get_or rest 3 0 * 4 + get_or rest 4 0; phase = get_or rest 5 0 }

abbrev pub stack_in : List ℕ → ℕ → Reading
stack_in rest letters = record { count = get_or rest 0 0; letters = letters; tail = tail_in rest }
