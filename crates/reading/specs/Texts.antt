-- A reading whole: syllables and a Clifford in the program's array, and how many bytes the text of it all takes. Assumes nothing.
use Rattle.std.specs.Prelude.{◌≡◌, refl, Bool, true, false, List, ℕ, zero, suc, ◌+◌, ◌≤◌, ◌<◌, eqb, ltb, length, Result, Ok, Err}
use Rattle.std.proofs.Common.{sym, ◌∙◌, ap, ap₂, arith, eqb-true, ltb-true}
use Rattle.std.proofs.lemmas.Bool.{eqb-false}
use Rattle.exact.specs.declared.Refusal.{Refusal}
use Rattle.exact.specs.Meaning.Outcome.{Decides}
use Rattle.exact.specs.Meaning.Word.{Letter, I}
use Rattle.clifford.specs.declared.Clifford.{Clifford}
use Rattle.reading.specs.declared.Text.{Text}
use Rattle.reading.specs.declared.Reading.{Reading}
use Rattle.reading.specs.declared.steps.Step.{Step}
use Rattle.reading.specs.Readings.{State, read, read_size, size_of, tail_size, text_size, text_size_lem}
use Rattle.reading.specs.Steps.{Fits, tail_of, Stepped, SizeIs}
use Rattle.reading.specs.Held.{Holds, Readable, Steps, Room, Placed, count_is, count_within, letters_few, by_kind, kind_most, pair, pair_is, follows}

-- the bytes of syllables and of what is written for the tail behind them
abbrev pub whole_of : Reading → Text
whole_of s = record { reading = s; bytes = s.letters + tail_size (tail_of s.tail) }

pub whole_is : {s : Reading} {n : ℕ} → SizeIs (tail_of s.tail) n
    → ◌≡◌ {A = Text} (record { reading = s; bytes = s.letters + n }) (whole_of s)
whole_is {s} e = ap (λ (n : ℕ). record { reading = s; bytes = s.letters + n }) e.is

pub record HoldsText (items : List ℕ) (r : Text) (st : State) : Type 0 where
  pub holds : Holds items r.reading st
  pub bytes_is : r.bytes ≡ text_size st

pub whole_holds : {items : List ℕ} {s : Reading} {r : Text} {st : State} → Holds items s st → r ≡ whole_of s → HoldsText items r st
whole_holds {items} {s} {r} {st} h e = rw e (record { holds = h; bytes_is = bytes })
  where
    bytes : s.letters + tail_size (tail_of s.tail) ≡ text_size st
    bytes = ap₂ (λ (n : ℕ) (q : Clifford). n + tail_size q) h.letters_is h.tail_is ∙ sym (text_size_lem st)

-- some text is held
pub record ReadableText (items : List ℕ) (r : Text) : Type 0 where
  pub st : State
  pub holds : HoldsText items r st

-- what a function does to the text that is held
pub record StepsText (f : State → State) (old : List ℕ) (r : Text) (new : List ℕ) (n : Text) : Type 0 where
  pub step : (st : State) → HoldsText old r st → HoldsText new n (f st)

pub readable_in : {items : List ℕ} {r : Text} → ReadableText items r → Readable items r.reading
readable_in h = record { st = h.st; holds = h.holds.holds }

pub whole_steps : {f : State → State} {old : List ℕ} {r : Text} {new : List ℕ} {s : Reading} {n : Text} → Steps f old r.reading new s
    → n ≡ whole_of s → StepsText f old r new n
whole_steps p e = record { step = λ st h. whole_holds (p.step st h.holds) e }

-- ---- a reading that was changed is within the bounds of the program's numbers
pub record Few (s : Reading) : Type 0 where
  pub fits : Fits s.tail
  pub few : s.letters ≤ 65536

pub moved_few : {f : State → State} {old : List ℕ} {r : Reading} {new : List ℕ} {s : Reading} → length new ≡ length old
    → length old ≡ 4096 → Readable old r → Steps f old r new s → Few s
moved_few e l h p =
    let k = p.step h.st h.holds in
    record { fits = k.fits; few = omega (arith, letters_few k, count_within k) }

-- ---- two letters, where each has its place
module _ {l m : Letter} {old : List ℕ} {r : Reading} {s : Step} (w : Stepped l m r.tail s) where
  pub pair_room : (r.count < length old) × (r.count < 4096) → Room old r s.kind
  pair_room p = record { some = omega (arith, p.0); few = omega (arith, p.1); kinds = kind_most w; place = λ f. p }

  pub pair_few : {new : List ℕ} {t : Reading} → Steps (by_kind s.kind (tail_of s.tail)) old r new t → r.count < 4096 → Readable old r → Few t
  pair_few p k h =
      let now = (follows w p).step h.st h.holds in
      record { fits = now.fits; few = omega (arith, letters_few now, count_is now, count_is h.holds, read_size l h.st, read_size m (read l h.st)) }

pub pair_text : {l m : Letter} {old : List ℕ} {r : Text} {s : Step} {new : List ℕ} {t : Reading} {n : Text} → Stepped l m r.reading.tail s
    → Steps (by_kind s.kind (tail_of s.tail)) old r.reading new t → n ≡ whole_of t → StepsText (pair l m) old r new n
pair_text w p e = whole_steps (follows w p) e

-- ---- a letter
-- no place is left for a syllable, or the letter is read
abbrev pub AddsLetter : Letter → List ℕ → Text → List ℕ → Result Text Refusal → Type 0
AddsLetter l old r new (Err e) =
    (e ≡ Refusal.Full) × ((new ≡ old) × ((st : State) → HoldsText old r st → length old < size_of (read l st)))
AddsLetter l old r new (Ok n) = StepsText (read l) old r new n

pub place_asked : {kind count places : ℕ} → 1 < kind → Decides ((1 < kind) × (count ≡ places)) (eqb count places)
place_asked {kind} {count} {places} l = record { yes = λ e. (l, eqb-true count places e); no = λ e h. eqb-false count places e h.1 }

pub no_place_asked : {kind count places : ℕ} → kind ≤ 1 → Decides ((1 < kind) × (count ≡ places)) (ltb 1 kind)
no_place_asked {kind} l = record { yes = λ e. absurd (omega (arith, ltb-true 1 kind e)); no = λ e h. omega (arith, h.0) }

-- a syllable that is added is one more
added_size : (kind : ℕ) (q : Clifford) (st : State) → 1 < kind → size_of (by_kind kind q st) ≡ suc (size_of st)
added_size zero q st l = absurd (omega arith)
added_size (suc zero) q st l = absurd (omega arith)
added_size (suc (suc zero)) q st l = omega arith
added_size (suc (suc (suc n))) q st l = omega arith

abbrev Lacks : List ℕ → Text → Step → Type 0
Lacks items r s = (1 < s.kind) × (r.reading.count ≡ length items)

module _ {l : Letter} {old : List ℕ} {r : Text} {s : Step} (w : Stepped l I r.reading.tail s) where
  pub full : {b : Bool} → Decides (Lacks old r s) b → b ≡ true → AddsLetter l old r old (Err Refusal.Full)
  full d e =
      let lacks = d.yes e in (
        refl,
        (
          refl,
          λ st h.
              omega (arith, lacks.1, count_is h.holds, added_size s.kind (tail_of s.tail) st lacks.0, ap size_of (pair_is w st h.holds)),
        ),
      )

  pub placed : {b : Bool} → ReadableText old r → length old ≡ 4096 → Decides (Lacks old r s) b → b ≡ false → Placed old r.reading s.kind
  placed h f d e =
      let within = count_within h.holds.holds in
      let apart : 1 < s.kind → (r.reading.count ≡ length old → ⊥) = λ k q. d.no e (k, q) in
      let place : 1 < s.kind → r.reading.count < length old = λ k. omega (arith, apart k, within) in
      λ n.
      record {
        some = omega arith;
        few = omega arith;
        kinds = kind_most w;
        place = λ g. let k : 1 < s.kind = omega (arith, n, g) in (place k, omega (arith, place k));
      }

  pub added : {new : List ℕ} {t : Reading} {n : Text} → Steps (by_kind s.kind (tail_of s.tail)) old r.reading new t → n ≡ whole_of t
      → AddsLetter l old r new (Ok n)
  added p e = whole_steps (follows w p) e
