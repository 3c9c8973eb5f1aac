-- The ways out of the two calls: a lemma for each, over plain values. Assumes nothing.
use Rattle.std.specs.Prelude.{◌≡◌, refl, List, [], ◌∷◌, ℕ, ◌≤◌, ◌<◌, length, Option, Some, None, Result, Ok, Err}
use Rattle.std.proofs.Common.{sym, ◌∙◌, ap, ap₂, subst, arith}
use Rattle.std.specs.Option.{ok_or}
use Rattle.exact.specs.Meaning.Word.{Letter, byte, IsLetter}
use Rattle.exact.specs.Meaning.Normal.{Shape, spell, Normal}
use Rattle.exact.specs.Meaning.Limits as Limits
use Rattle.exact.specs.Meaning.Limits.{no_refusal}
use Rattle.exact.specs.Meaning.Outcome.{Rung, none, ◌then◌, Outcome}
use Rattle.exact.proofs.Cases.Letters.{byte_inj, letter_back}
use Rattle.exact.proofs.Matrices.Same.{Same-of}
use Rattle.clifford.specs.declared.Clifford.{Clifford}
use Rattle.clifford.specs.Meaning.{Ranged}
use Rattle.exact.specs.declared.Refusal.{Refusal}
use Rattle.exact.specs.Meaning.Handed.{number}
use Rattle.reading.specs.declared.Text.{Text}
use Rattle.reading.specs.Readings.{State, read, read_ranged, shape_of, size_of, text_size, fits}
use Rattle.reading.specs.Steps.{tail_of, letter_at, numbered}
use Rattle.reading.specs.Held as Held
use Rattle.reading.specs.Held.{count_is}
use Rattle.reading.specs.Letters.{NumberOf, letter_number_of, no_letter, numbered_in, numbered_at}
use Rattle.reading.specs.Texts.{HoldsText, ReadableText, AddsLetter}
use Rattle.slot.specs.Meaning.{Answer, Slot, slot_of, codes, Shows, Overfull, full, refused, LengthOutcome, Left, left, Extended, AddOutcome}
use Rattle.slot.proofs.Shown.{rest_of, state_size, state_shown}
use Rattle.slot.proofs.Letters.{read_next, over_form, shown_adds, given_more, text_gives}
use Rattle.slot.specs.Standing.{Standing, Tells}
use Rattle.slot.proofs.Standing.{standing_given}
use Rattle.slot.specs.Ways.{MoreOutcome, six}

-- a state's own text is a normal word
own_normal : (st : State) → Ranged st.q → Normal (spell (shape_of st))
own_normal st ranged = record { shape = shape_of st; fits = fits st.q ranged; spelled = refl }

pub standing_readable : {items rest : List ℕ} {x : Text} → Standing (slot_of items rest) x → ReadableText items x
standing_readable h = record { st = h.st; holds = h.holds }

pub number_few : {n : ℕ} → n ≤ 5 → n < 6
number_few l = omega arith

pub letter_few : (b : ℕ) {n : ℕ} {o : Option ℕ} → o ≡ numbered b → o ≡ Some n → n ≤ 5
letter_few b e l = (letter_number_of b (sym e ∙ l)).few

-- what `ok_or` makes an error was none
pub or_else : {A E : Type 0} (o : Option A) (e x : E) → Err x ≡ ok_or o e → (o ≡ None) × (x ≡ e)
or_else None e x h = (refl, cc)
or_else (Some a) e x h = absurd (cc)

-- ---- the length
pub length_wrong : {r : Slot} {t : Option Text} {a : Answer} → Tells r t → t ≡ None → a ≡ refused Limits.slot_refusal → LengthOutcome r a
length_wrong {r} n w e = Rung.given 0 (subst (Tells r) w n, refl) e

pub length_told : {r : Slot} {t : Option Text} {x : Text} → Tells r t → t ≡ Some x
    → LengthOutcome r (record { refusal = no_refusal; length = x.bytes })
length_told {r} {t} {x} n w =
    let h : Standing r x = subst (Tells r) w n in
    let st = h.st in
    Rung.passed (λ p n. n.0 (standing_given h))
    (record {
      u = spell (shape_of st);
      v = spell (shape_of st);
      given = text_gives st h.ranged h.shows;
      normal = record { normal = own_normal st h.ranged; same = Same-of refl };
      is = ap (λ (n : ℕ). record { refusal = no_refusal; length = n }) h.holds.bytes_is;
    })

six_is : {items : List ℕ} {x : Text} {st : State} → HoldsText items x st → six x ≡ rest_of st
six_is {items} {x} {st} h =
    ap₂ (λ (n m : ℕ). n ∷ m ∷ q.a ∷ q.b ∷ q.c ∷ q.d ∷ []) (count_is h.holds) h.bytes_is
    ∙ ap (λ (p : Clifford). size_of st ∷ text_size st ∷ p.a ∷ p.b ∷ p.c ∷ p.d ∷ []) h.holds.tail_is
  where
    q : Clifford
    q = tail_of x.reading.tail

module _ (n : ℕ) {items rest : List ℕ} {x : Text} (h : Standing (slot_of items rest) x) (e : length items ≡ 4096) where
  abbrev l : Letter
  l = letter_at n

  abbrev st : State
  st = h.st

  abbrev next : State
  next = read l st

  pub no_place : {new : List ℕ} {t : Result Text Refusal} {e : Refusal} {m : ℕ} {a : Answer} → AddsLetter (letter_at n) items x new t → t ≡ Err e
      → m ≡ number e → a ≡ refused m
      → MoreOutcome n (slot_of items rest) (left a (slot_of new rest))
  no_place {new} {t} {e} {m} {a} q w g f =
      Rung.given 0 (over, refl) (ap₂ (λ (y : Answer) (s : List ℕ). left y (slot_of s rest)) (f ∙ ap refused (g ∙ ap number p.0)) p.1.0)
    where
      p : AddsLetter l items x new (Err e)
      p = subst (AddsLetter l items x new) w q

      over : Overfull (byte l) (slot_of items rest)
      over =
          record {
            l = l;
            is = refl;
            n = shape_of st;
            n' = shape_of next;
            shows = h.shows;
            next = read_next l st h.ranged;
            more = omega (arith, state_size next, p.1.1 st h.holds);
          }

  module _ (new : List ℕ) {t : Result Text Refusal} (p : AddsLetter (letter_at n) items x new t) {y : Text} (w : t ≡ Ok y)
      (g : length new ≡ length items) {six' : List ℕ} (s : six' ≡ six y) where
    steps : AddsLetter l items x new (Ok y)
    steps = subst (AddsLetter l items x new) w p

    held : HoldsText new y next
    held = steps.step st h.holds

    shown : Shows (shape_of next) (slot_of new six')
    shown =
        state_shown next (read_ranged l st h.ranged) new six'
        (subst (λ (n : ℕ). Held.Codes new n (Held.codes next.lead next.stack)) (count_is held.holds) held.holds.array)
        (g ∙ e) (s ∙ six_is held)

    -- a letter that has its place needs no other
    not_over : Overfull (byte l) (slot_of items rest) → ⊥
    not_over o =
        let form = over_form l st h.ranged h.shows o (byte_inj o.l l o.is) in
        omega (arith, o.more, ap (λ (n : Shape). length (codes n)) form, shown.few)

    pub one_added : MoreOutcome n (slot_of items rest) (left (record { refusal = no_refusal; length = y.bytes }) (slot_of new six'))
    one_added =
        Rung.passed (λ q o. not_over o.0)
        (record {
          u = spell (shape_of st);
          l = l;
          v = spell (shape_of next);
          given = text_gives st h.ranged h.shows;
          byte_is = refl;
          more = given_more (text_gives st h.ranged h.shows) (shown_adds l st h.ranged h.shows shown);
          normal = record { normal = own_normal next (read_ranged l st h.ranged); same = (read_next l st h.ranged).same };
          is = ap (λ (n : ℕ). record { refusal = no_refusal; length = n }) held.bytes_is;
        })

-- ---- a letter more
pub told_right : {r : Slot} {t : Option Text} {x : Text} → Tells r t → t ≡ Some x → Standing r x
told_right {r} n w = subst (Tells r) w n

module _ (b : ℕ) {r : Slot} where
  pub add_wrong : {t : Option Text} {a : Answer} → Tells r t → t ≡ None → a ≡ refused Limits.slot_refusal → AddOutcome b r (left a r)
  add_wrong n w e = Rung.given 0 (subst (Tells r) w n, refl) (ap (λ (y : Answer). left y r) e)

  module _ {t : Option Text} {x : Text} (k : Tells r t) (w : t ≡ Some x) {o : Option ℕ} (e : o ≡ numbered b) where
    pub add_outside : {a : Answer} → o ≡ None → a ≡ refused Limits.letter_refusal → AddOutcome b r (left a r)
    add_outside l f =
        Rung.passed (λ p g. g.0 (standing_given (told_right k w)))
        (Rung.given 0 (no_letter b (sym e ∙ l), refl) (ap (λ (y : Answer). left y r) f))

    pub add_more : {n : ℕ} {z : Left} → o ≡ Some n → MoreOutcome n r z → AddOutcome b r z
    add_more {n} {z} l m =
        Rung.passed (λ p g. g.0 (standing_given (told_right k w)))
        (Rung.passed (λ p g. g.0 inside)
        (subst (λ (c : ℕ). Outcome (λ m p. left (refused m) r) (Extended c r) (full c r then none) z) same m))
      where
        of : NumberOf b n
        of = letter_number_of b (sym e ∙ l)

        inside : IsLetter b
        inside = numbered_in b n of.is of.few

        same : byte (letter_at n) ≡ b
        same = ap byte (numbered_at b n of.is of.few) ∙ letter_back inside
