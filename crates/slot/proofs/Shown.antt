-- Records and shapes: a shape has one record, a record shows one shape; and the record of what the reader has. Assumes nothing.
use Rattle.std.specs.Prelude.{◌≡◌, refl, Bool, true, false, List, [], ◌∷◌, ◌++◌, ℕ, ◌≤◌, ◌<◌, ltb, length, take, drop, get_or}
use Rattle.std.proofs.Common.{sym, ◌∙◌, ap, ap₂, subst, append_assoc, append-nil, arith, ltb-true, ltb-false, length-take-le, get_or-take, ext_get_or}
use Rattle.std.proofs.Math.ListN.{get_or-eq_default}
use Rattle.exact.specs.Meaning.Matrix.{Same}
use Rattle.exact.specs.Meaning.Word.{word}
use Rattle.exact.specs.Meaning.Normal.{Syllable, HT, SHT, Shape, tail_word, spell}
use Rattle.exact.specs.Meaning.Clifford.{Clifford, clifford}
use Rattle.exact.specs.Meaning.Limits.{longest}
use Rattle.exact.proofs.Matrices.Same.{Same-sym, Same-trans}
use Rattle.exact.proofs.Unique.Tails.{tail_unique, clifford_unique}
use Rattle.clifford.specs.Meaning.{Ranged, quad}
use Rattle.clifford.specs.Cliffords.{split_c}
use Rattle.clifford.proofs.Cliffords.{split_right}
use Rattle.reading.specs.Syllables.{syllable_number, named}
use Rattle.reading.specs.Readings.{State, turned, shape_of, size_of, text_size, fits, tail_is}
use Rattle.reading.specs.Held as Held
use Rattle.reading.specs.Held.{Codes, codes_length, codes_within}
use Rattle.slot.specs.Meaning.{Slot, slot_of, code, codes_of, led, codes, Shows}

-- the six numbers of a shape whose tail is q
abbrev numbers : Shape → Clifford → List ℕ
numbers n q = length (codes n) ∷ length (spell n) ∷ q.a ∷ q.b ∷ q.c ∷ q.d ∷ []

-- ---- a shape has one record
module _ {n : Shape} {r s : Slot} (x : Shows n r) (y : Shows n s) where
  syllables_same : r.syllables ≡ s.syllables
  syllables_same =
      ext_get_or 0 r.syllables s.syllables (x.places ∙ sym y.places) (λ i l. x.syllables_are i ∙ sym (y.syllables_are i))

  rest_same : r.rest ≡ s.rest
  rest_same =
      x.rest_is
      ∙ ap (numbers n) (clifford_unique x.q y.q x.within y.within (Same-trans x.tail_is (Same-sym y.tail_is)))
      ∙ sym y.rest_is

  pub one_slot : r ≡ s
  one_slot = λ i. record { syllables = syllables_same i; rest = rest_same i }

-- ---- a record shows one shape
abbrev first : List ℕ → ℕ
first cs = get_or cs 0 0

codes_of_same : (ss rr : List Syllable) → codes_of ss ≡ codes_of rr → ss ≡ rr
codes_of_same [] [] e = refl
codes_of_same [] (r ∷ rr) e = absurd (omega (arith, ap length e))
codes_of_same (s ∷ ss) [] e = absurd (omega (arith, ap length e))
codes_of_same (HT ∷ ss) (HT ∷ rr) e = ap (λ x. HT ∷ x) (codes_of_same ss rr (ap (drop 1) e))
codes_of_same (HT ∷ ss) (SHT ∷ rr) e = absurd (omega (arith, ap first e))
codes_of_same (SHT ∷ ss) (HT ∷ rr) e = absurd (omega (arith, ap first e))
codes_of_same (SHT ∷ ss) (SHT ∷ rr) e = ap (λ x. SHT ∷ x) (codes_of_same ss rr (ap (drop 1) e))

-- no T but the one in front
not_led : (ss rr : List Syllable) → led true (codes_of ss) ≡ led false (codes_of rr) → ⊥
not_led ss [] e = omega (arith, ap length e)
not_led ss (HT ∷ rr) e = omega (arith, ap first e)
not_led ss (SHT ∷ rr) e = omega (arith, ap first e)

led_same : (a b : Bool) (ss rr : List Syllable) → led a (codes_of ss) ≡ led b (codes_of rr) → (a ≡ b) × (ss ≡ rr)
led_same true true ss rr e = (refl, codes_of_same ss rr (ap (drop 1) e))
led_same true false ss rr e = absurd (not_led ss rr e)
led_same false true ss rr e = absurd (not_led rr ss (sym e))
led_same false false ss rr e = (refl, codes_of_same ss rr e)

module _ {m n : Shape} {r : Slot} (x : Shows m r) (y : Shows n r) where
  numbers_same : numbers m x.q ≡ numbers n y.q
  numbers_same = sym x.rest_is ∙ y.rest_is

  number_same : (k : ℕ) → get_or (numbers m x.q) k 0 ≡ get_or (numbers n y.q) k 0
  number_same k = ap (λ (ns : List ℕ). get_or ns k 0) numbers_same

  codes_same : codes m ≡ codes n
  codes_same = ext_get_or 0 (codes m) (codes n) (number_same 0) (λ i l. sym (x.syllables_are i) ∙ y.syllables_are i)

  cliffords_same : x.q ≡ y.q
  cliffords_same = λ i. record { a = number_same 2 i; b = number_same 3 i; c = number_same 4 i; d = number_same 5 i }

  tails_same : m.tail ≡ n.tail
  tails_same =
      tail_unique m.tail n.tail x.fits y.fits
      (Same-trans (Same-sym x.tail_is) (subst (λ (q : Clifford). Same (word (clifford q)) (word (tail_word n.tail))) (sym cliffords_same) y.tail_is))

  pub one_shape : m ≡ n
  one_shape =
      let h = led_same m.lead n.lead m.syllables n.syllables codes_same in
      λ i. record { lead = h.0 i; syllables = h.1 i; tail = tails_same i }

-- ---- the record of a state of the reader
code_is : (s : Syllable) → code s ≡ syllable_number (named s)
code_is HT = refl
code_is SHT = refl

turned_codes : (b : Bool) (ss acc : List Syllable) → led b (codes_of (turned ss acc)) ≡ Held.codes b ss ++ codes_of acc
turned_codes true [] acc = refl
turned_codes false [] acc = refl
turned_codes b (s ∷ ss) acc =
    turned_codes b ss (s ∷ acc)
    ∙ ap (λ (c : ℕ). Held.codes b ss ++ (c ∷ codes_of acc)) (code_is s)
    ∙ sym (append_assoc (Held.codes b ss) (syllable_number (named s) ∷ []) (codes_of acc))

pub state_codes : (st : State) → codes (shape_of st) ≡ Held.codes st.lead st.stack
state_codes st = turned_codes st.lead st.stack [] ∙ append-nil (Held.codes st.lead st.stack)

pub state_size : (st : State) → length (codes (shape_of st)) ≡ size_of st
state_size st = ap length (state_codes st) ∙ codes_length st.lead st.stack

-- its codes in an array, and its six numbers
abbrev pub Coded : List ℕ → State → Type 0
Coded items st = Codes items (size_of st) (Held.codes st.lead st.stack)

abbrev pub rest_of : State → List ℕ
rest_of st = size_of st ∷ text_size st ∷ st.q.a ∷ st.q.b ∷ st.q.c ∷ st.q.d ∷ []

module _ (st : State) (ranged : Ranged st.q) (items rest : List ℕ) where
  pub state_shown : Coded items st → length items ≡ longest → rest ≡ rest_of st → Shows (shape_of st) (slot_of items rest)
  state_shown h e f =
      record {
        fits = fits st.q ranged;
        few = omega (arith, state_size st, codes_within h);
        places = e;
        syllables_are = λ i. at i (ltb i (size_of st)) refl ∙ ap (λ (cs : List ℕ). get_or cs i 0) (sym (state_codes st));
        q = quad st.q;
        within = ranged;
        tail_is = (tail_is st.q (split_c st.q) (split_right st.q ranged)).same;
        rest_is =
            f ∙ ap (λ (n : ℕ). n ∷ text_size st ∷ st.q.a ∷ st.q.b ∷ st.q.c ∷ st.q.d ∷ []) (sym (state_size st));
      }
    where
      cs : List ℕ
      cs = Held.codes st.lead st.stack

      at : (i : ℕ) (b : Bool) → ltb i (size_of st) ≡ b → get_or items i 0 ≡ get_or cs i 0
      at i true g = sym (get_or-take (size_of st) items i 0 (ltb-true i (size_of st) g)) ∙ ap (λ (u : List ℕ). get_or u i 0) h.front
      at i false g =
          let l : size_of st ≤ i = ltb-false i (size_of st) g in
          h.empty i l ∙ sym (get_or-eq_default cs 0 (omega (arith, h.count)))

module _ (st : State) (ranged : Ranged st.q) {r : Slot} (x : Shows (shape_of st) r) where
  pub few_shown : size_of st ≤ longest
  few_shown = omega (arith, x.few, state_size st)

  pub shown_coded : Coded r.syllables st
  shown_coded =
      record {
        count = sym (codes_length st.lead st.stack);
        front = ext_get_or 0 (take (size_of st) r.syllables) cs long (λ i l. get_or-take (size_of st) r.syllables i 0 (within i l) ∙ at i);
        empty = λ i l. at i ∙ get_or-eq_default cs 0 (omega (arith, codes_length st.lead st.stack));
      }
    where
      cs : List ℕ
      cs = Held.codes st.lead st.stack

      at : (i : ℕ) → get_or r.syllables i 0 ≡ get_or cs i 0
      at i = x.syllables_are i ∙ ap (λ (u : List ℕ). get_or u i 0) (state_codes st)

      long : length (take (size_of st) r.syllables) ≡ length cs
      long = length-take-le (size_of st) r.syllables (omega (arith, x.places, few_shown)) ∙ sym (codes_length st.lead st.stack)

      within : (i : ℕ) → i < length (take (size_of st) r.syllables) → i < size_of st
      within i l = omega (arith, long, codes_length st.lead st.stack)

  pub shown_rest : r.rest ≡ rest_of st
  shown_rest =
      x.rest_is
      ∙ ap₂ (λ (n : ℕ) (q : Clifford). n ∷ text_size st ∷ q.a ∷ q.b ∷ q.c ∷ q.d ∷ []) (state_size st)
      (clifford_unique x.q (quad st.q) x.within ranged
      (Same-trans x.tail_is (Same-sym (tail_is st.q (split_c st.q) (split_right st.q ranged)).same)))
