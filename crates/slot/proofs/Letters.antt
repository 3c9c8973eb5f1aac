-- Letters and records: what letters give is the record of what the reader makes of them, and the letters of a record's own text give it.
-- Assumes nothing.
use Rattle.std.specs.Prelude.{◌≡◌, refl, Bool, true, false, List, [], ◌∷◌, ◌++◌, ℕ, ◌+◌, ◌-◌, ◌≤◌, ltb, length, get_or, replicate}
use Rattle.std.proofs.Common.{sym, ◌∙◌, ap, subst, arith, ltb-true, ltb-false, length-append, take_at, get_or-append-add}
use Rattle.std.proofs.lemmas.List.{length-replicate, get_or-replicate}
use Rattle.std.proofs.Math.ListN.{get_or-eq_default}
use Rattle.exact.specs.Meaning.Word.{Letter, I, H, S, X, W, T', tee, tees}
use Rattle.exact.specs.Meaning.Normal.{Shape, spell, tail_word, or_i}
use Rattle.exact.specs.Meaning.Limits.{longest}
use Rattle.exact.proofs.Matrices.Same.{Same-sym, Same-trans}
use Rattle.exact.proofs.Unique.Normal.{shape_unique}
use Rattle.exact.proofs.Unique.Tails.{tees_append, or_i_tail_tees}
use Rattle.clifford.specs.Meaning.{Ranged}
use Rattle.clifford.specs.Cliffords.{split_c}
use Rattle.clifford.proofs.Words.{by_sym, ◌⨾◌, before}
use Rattle.reading.specs.Readings.{State, start, read, run, read_ranged, run_ranged, start_ranged, read_same, normal_same, normal_of}
use Rattle.reading.specs.Readings.{shape_of, shape, size_of, read_size, prefix, prefix_tees, spelled, tail_at, fits}
use Rattle.reading.specs.Held as Held
use Rattle.reading.specs.Held.{codes_length}
use Rattle.slot.specs.Meaning.{Slot, slot_of, Shows, Empty, Next, Adds, Added, GivenBy, Overfull}
use Rattle.slot.proofs.Shown.{one_slot, one_shape, rest_of, state_shown, few_shown, shown_rest}

-- ---- a letter more, by the reader
module _ (l : Letter) (st : State) (ranged : Ranged st.q) where
  pub read_next : Next l (shape_of st) (shape_of (read l st))
  read_next =
      record {
        fits = fits (read l st).q (read_ranged l st ranged);
        same =
            (before (by_sym (normal_same st ranged)) (l ∷ [])
            ⨾ read_same l st ranged
            ⨾ normal_same (read l st) (read_ranged l st ranged)).same;
      }

  -- nothing else is next
  pub one_next : {n : Shape} → Next l (shape_of st) n → n ≡ shape_of (read l st)
  one_next {n} h =
      shape_unique n (shape_of (read l st)) h.fits read_next.fits (Same-trans (Same-sym h.same) read_next.same)

  module _ {r s : Slot} (x : Shows (shape_of st) r) where
    pub add_shown : Adds l r s → Shows (shape_of (read l st)) s
    add_shown a =
        subst (λ (n : Shape). Shows n s)
        (one_next (subst (λ (n : Shape). Next l n a.n') (one_shape a.before x) a.next))
        a.after

    pub shown_adds : Shows (shape_of (read l st)) s → Adds l r s
    shown_adds y = record { n = shape_of st; n' = shape_of (read l st); before = x; next = read_next; after = y }

  -- what would need a 4,097th syllable is what is read
  pub over_form : {b : ℕ} {r : Slot} → Shows (shape_of st) r → (o : Overfull b r) → o.l ≡ l → o.n' ≡ shape_of (read l st)
  over_form x o e =
      let before : Next o.l (shape_of st) o.n' = subst (λ (n : Shape). Next o.l n o.n') (one_shape o.shows x) o.next in
      one_next (subst (λ (m : Letter). Next m (shape_of st) o.n') e before)

-- ---- letters, one after another
pub added_shown : (u : List Letter) (st : State) → Ranged st.q → {r s : Slot} → Shows (shape_of st) r → Added u r s
    → Shows (shape_of (run st u)) s
added_shown [] st ranged x a = subst (λ (r : Slot). Shows (shape_of st) r) a x
added_shown (l ∷ u) st ranged x a =
    added_shown u (read l st) (read_ranged l st ranged) (add_shown l st ranged x a.there) a.onward

pub empty_shown : {r : Slot} → Empty r → Shows (shape_of start) r
empty_shown {r} h =
    state_shown start start_ranged r.syllables r.rest (record { count = refl; front = refl; empty = λ i l. h.none_there i }) h.places
    h.rest_is

shown_empty : {r : Slot} → Shows (shape_of start) r → Empty r
shown_empty x = record { places = x.places; none_there = x.syllables_are; rest_is = shown_rest start start_ranged x }

pub given_shown : {u : List Letter} {r : Slot} → GivenBy u r → Shows (shape u) r
given_shown {u} g = added_shown u start start_ranged (empty_shown g.empty) g.added

-- one letter behind the others
added_behind : (u : List Letter) (l : Letter) (r s t : Slot) → Added u r s → Adds l s t → Added (u ++ (l ∷ [])) r t
added_behind [] l r s t a b = record { mid = t; there = subst (λ (x : Slot). Adds l x t) (sym a) b; onward = refl }
added_behind (m ∷ u) l r s t a b = record { mid = a.mid; there = a.there; onward = added_behind u l a.mid s t a.onward b }

pub given_more : {u : List Letter} {l : Letter} {r s : Slot} → GivenBy u r → Adds l r s → GivenBy (u ++ (l ∷ [])) s
given_more {u} {l} {r} {s} g a = record { start = g.start; empty = g.empty; added = added_behind u l g.start r s g.added a }

-- ---- a state with room has a record
pub record Recorded (st : State) : Type 0 where
  pub slot : Slot
  pub shows : Shows (shape_of st) slot

module _ (cs : List ℕ) (m : ℕ) where
  abbrev padded : List ℕ
  padded = cs ++ replicate m 0

  none_behind : (i : ℕ) → length cs ≤ i → get_or padded i 0 ≡ 0
  none_behind i l =
      let sum : length cs + (i - length cs) ≡ i = omega arith in
      ap (λ (k : ℕ). get_or padded k 0) (sym sum) ∙ get_or-append-add cs (replicate m 0) (i - length cs) 0 ∙ zeros m (i - length cs)
    where
      zeros : (n j : ℕ) → ◌≡◌ {A = ℕ} (get_or (replicate {A = ℕ} n 0) j 0) 0
      zeros n j = at (ltb j n) refl
        where
          at : (b : Bool) → ltb j n ≡ b → ◌≡◌ {A = ℕ} (get_or (replicate {A = ℕ} n 0) j 0) 0
          at true e = get_or-replicate {A = ℕ} n j 0 0 (ltb-true j n e)
          at false e = get_or-eq_default (replicate {A = ℕ} n 0) 0 (omega (arith, ltb-false j n e, length-replicate {A = ℕ} n 0))

pub recorded : (st : State) → Ranged st.q → size_of st ≤ longest → Recorded st
recorded st ranged l =
    record { slot = slot_of items (rest_of st); shows = state_shown st ranged items (rest_of st) coded long refl }
  where
    cs : List ℕ
    cs = Held.codes st.lead st.stack

    items : List ℕ
    items = padded cs (longest - size_of st)

    long : length items ≡ longest
    long =
        omega (
          arith,
          length-append cs (replicate (longest - size_of st) 0),
          length-replicate {A = ℕ} (longest - size_of st) 0,
          codes_length st.lead st.stack,
        )

    coded : Held.Codes items (size_of st) cs
    coded =
        record {
          count = sym (codes_length st.lead st.stack);
          front = take_at cs (replicate (longest - size_of st) 0) (size_of st) (codes_length st.lead st.stack);
          empty = λ i k. none_behind cs (longest - size_of st) i (omega (arith, codes_length st.lead st.stack));
        }

-- ---- letters with few T can be added
size_tees : (l : Letter) (st : State) → size_of (read l st) ≤ size_of st + tee l
size_tees I st = omega arith
size_tees H st = omega arith
size_tees S st = omega arith
size_tees X st = omega arith
size_tees W st = omega arith
size_tees T' st = read_size T' st

pub record Reached (u : List Letter) (r : Slot) : Type 0 where
  pub slot : Slot
  pub added : Added u r slot

pub reached : (u : List Letter) (st : State) → Ranged st.q → {r : Slot} → Shows (shape_of st) r → size_of st + tees u ≤ longest → Reached u r
reached [] st ranged {r} x l = record { slot = r; added = refl }
reached (m ∷ u) st ranged x l =
    let ranged' = read_ranged m st ranged in
    let next = recorded (read m st) ranged' (omega (arith, size_tees m st)) in
    let rest = reached u (read m st) ranged' next.shows (omega (arith, size_tees m st)) in
    record {
      slot = rest.slot;
      added = record { mid = next.slot; there = shown_adds m st ranged x next.shows; onward = rest.added };
    }

-- ---- the letters of a record's own text give it
module _ (st : State) (ranged : Ranged st.q) {r : Slot} (x : Shows (shape_of st) r) where
  abbrev own : List Letter
  own = spell (shape_of st)

  own_tees : tees own ≡ size_of st
  own_tees =
      let t = tail_at (split_c st.q) in
      ap tees (spelled st t)
      ∙ omega (arith, tees_append (prefix st.lead st.stack) (or_i (tail_word t)), prefix_tees st.lead st.stack, or_i_tail_tees t)

  pub text_gives : GivenBy (spell (shape_of st)) r
  text_gives =
      let none = recorded start start_ranged (omega arith) in
      let there = reached own start start_ranged none.shows (omega (arith, own_tees, few_shown st ranged x)) in
      let same = shape_unique (shape own) (shape_of st) (fits (run start own).q (run_ranged start own start_ranged)) x.fits (Same-sym (normal_of own)) in
      let shown = added_shown own start start_ranged none.shows there.added in
      let is : there.slot ≡ r = one_slot (subst (λ (n : Shape). Shows n there.slot) same shown) x in
      record {
        start = none.slot;
        empty = shown_empty none.shows;
        added = subst (λ (s : Slot). Added own none.slot s) is there.added;
      }
