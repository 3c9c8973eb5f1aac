-- `slot::told::check_codes` meets its contract: what is told of the codes and the places cut apart is told of the array. Assumes nothing.
use Rattle.std.specs.Prelude.{◌≡◌, Bool, true, false, ◌&&◌, List, ℕ, ◌≤◌, length, take, drop, get_or, Some, None}
use Rattle.std.proofs.Common.{refl, sym, ◌∙◌, ap, arith}
use Rattle.exact.specs.Meaning.Outcome.{Decides}
use Rattle.reading.specs.declared.Text.{Text}
use Rattle.reading.specs.Texts.{whole_of, Few}
use Rattle.slot.specs.Meaning.{slot_of}
use Rattle.slot.specs.Tests.{Ranges, Fronts, Behind, sum}
use Rattle.slot.specs.Standing.{Tells, stack_in}
use Rattle.slot.proofs.Tests.{front_in, behind_in}
use Rattle.slot.proofs.Standing.{stack_few, stands, wrong_bytes, wrong_codes}
use Rattle.slot.proofs.told.check_codes.Goals as goal

first_true : (b c : Bool) → b && c ≡ true → b ≡ true
first_true true c e = refl
first_true false c e = e

module _ (items rest codes places : List ℕ) (full : length items ≡ 4096) (ranges : Ranges rest) (p : codes ≡ take (get_or rest 0 0) items)
    (q : places ≡ drop (get_or rest 0 0) items) {f b : Bool} (front : Decides (Fronts codes (length codes)) f)
    (behind : Decides (Behind places 0 (length places)) b) {c : Bool} (e : c ≡ f && b) where
  room : get_or rest 0 0 ≤ length items
  room = omega (arith, ranges.count_few)

  fronts : Decides (Fronts items (get_or rest 0 0)) f
  fronts = front_in items (get_or rest 0 0) room p q front

  behinds : Decides (Behind items (get_or rest 0 0) (length items)) b
  behinds = behind_in items (get_or rest 0 0) room p q behind

  cut_wrong : c ≡ false → Tells (slot_of items rest) None
  cut_wrong y = wrong_codes full fronts behinds e y

  module _ (y : c ≡ true) where
    right : Fronts codes (length codes)
    right = front.yes (first_true f b (sym e ∙ y))

    module _ {letters : ℕ} (s : letters ≡ sum codes) where
      summed : letters ≡ sum (take (get_or rest 0 0) items)
      summed = s ∙ ap sum p

      few : Few (stack_in rest letters)
      few = stack_few full fronts behinds ranges e y summed

      module _ {x : Text} (whole : x ≡ whole_of (stack_in rest letters)) where
        cut_stands : length rest ≡ 6 → x.bytes ≡ get_or rest 1 0 → Tells (slot_of items rest) (Some x)
        cut_stands six same = stands full fronts behinds ranges e y summed whole six same

        cut_other : (x.bytes ≡ get_or rest 1 0 → ⊥) → Tells (slot_of items rest) None
        cut_other n = wrong_bytes full fronts behinds ranges e y summed whole n

pub letters_of-requires-clause-right : goal.letters_of-requires-clause-right
letters_of-requires-clause-right c = search right

pub reading_in-r-requires-clause-few : goal.reading_in-r-requires-clause-few
reading_in-r-requires-clause-few c = search few

pub returns-then-r-rest : goal.returns-then-r-rest
returns-then-r-rest c = search (cut_stands, c.split_at.ensures.front, c.split_at.ensures.back)

pub returns-else-r-rest : goal.returns-else-r-rest
returns-else-r-rest c = search (cut_other, c.split_at.ensures.front, c.split_at.ensures.back)

pub returns-else-codes_right-behind : goal.returns-else-codes_right-behind
returns-else-codes_right-behind c = search (cut_wrong, c.split_at.ensures.front, c.split_at.ensures.back)
