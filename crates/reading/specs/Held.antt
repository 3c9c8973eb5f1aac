-- A reading in the program's array: the codes of its syllables in front, every other place empty, and the count of syllables and of their
-- letters. Assumes nothing.
use Rattle.std.specs.Prelude.{◌≡◌, refl, ◌≢◌, Bool, true, false, List, [], ◌∷◌, ◌++◌, ℕ, zero, suc, ◌+◌, ◌-◌, ◌*◌, ◌/◌, ◌≤◌, ◌<◌, eqb, length, take, set, get_or}
use Rattle.std.proofs.Common.{sym, ◌∙◌, ap, ap₂, subst, add-zero, add-one, arith, eqb-true, length-append, length-take, length-take-le, take-suc-set, take-take, get_or-take, get_or-set_same, get_or-set_other}
use Rattle.std.proofs.lemmas.Bool.{eqb-false}
use Rattle.std.proofs.lemmas.List.{take-set-le}
use Rattle.std.proofs.Math.Seq.{take-append_seam, get_or-append_seam}
use Rattle.exact.specs.Meaning.Word.{Letter}
use Rattle.exact.specs.Meaning.Normal as normal
use Rattle.exact.specs.Cases.Letters.{letters_of}
use Rattle.exact.proofs.Cases.Letters.{letters_of_length}
use Rattle.clifford.specs.declared.Axis.{Axis}
use Rattle.clifford.specs.declared.Clifford.{Clifford}
use Rattle.reading.specs.declared.Reading.{Reading}
use Rattle.reading.specs.declared.steps.Step.{Step}
use Rattle.reading.specs.declared.steps.Tail.{Tail}
use Rattle.clifford.specs.Meaning.{Ranged}
use Rattle.clifford.specs.Cliffords.{mul_c}
use Rattle.reading.specs.Readings.{State, state, prefix, prefix_length, start, tee, read, run, run_size, size, size_of}
use Rattle.reading.specs.Pairs.{kind₂, next₂, kind_few, after, two}
use Rattle.reading.specs.Syllables.{syllable_number, syllable_of, made, named, named_word, syllable_size, syllable_few}
use Rattle.reading.specs.Steps.{Fits, fits_ranged, tail_of, Stepped, Gained}

-- ---- codes in front of an array
pub record Codes (items : List ℕ) (n : ℕ) (cs : List ℕ) : Type 0 where
  pub count : n ≡ length cs
  pub front : take n items ≡ cs
  pub empty : (i : ℕ) → n ≤ i → get_or items i 0 ≡ 0

codes_push : {items : List ℕ} {n : ℕ} {cs : List ℕ} (x : ℕ)
    → Codes items n cs
    → n < length items
    → Codes (set items n x) (n + 1) (cs ++ (x ∷ []))
codes_push {items} {n} {cs} x h l =
    record {
      count = omega (arith, length-append cs (x ∷ []), h.count);
      front = rw (add-one n) (take-suc-set items n x l ∙ ap (λ u. u ++ (x ∷ [])) h.front);
      empty = λ i k. get_or-set_other items n i x 0 (λ e. omega arith) ∙ h.empty i (omega arith);
    }

-- nothing written behind them is nothing by_kind
codes_keep : {items : List ℕ} {n : ℕ} {cs : List ℕ} → Codes items n cs → n < length items → Codes (set items n 0) n cs
codes_keep {items} {n} {cs} h l =
    record {
      count = h.count;
      front = take-set-le n items n 0 (omega arith) ∙ h.front;
      empty = λ i k. at i k (eqb i n) refl;
    }
  where
    at : (i : ℕ) → n ≤ i → (b : Bool) → eqb i n ≡ b → get_or (set items n 0) i 0 ≡ 0
    at i k true e = rw (eqb-true i n e) (get_or-set_same items n 0 0 l)
    at i k false e = get_or-set_other items n i 0 0 (eqb-false i n e) ∙ h.empty i k

-- the last of them
module _ {items : List ℕ} {n : ℕ} (cs : List ℕ) (x : ℕ) (h : Codes items n (cs ++ (x ∷ []))) where
  less_is : n - 1 ≡ length cs
  less_is = omega (arith, length-append cs (x ∷ []), h.count)

  there : n - 1 < length items
  there = omega (arith, length-take n items, ap length h.front, length-append cs (x ∷ []), h.count)

  codes_pop : Codes (set items (n - 1) 0) (n - 1) cs
  codes_pop =
      record {
        count = less_is;
        front =
            take-set-le (n - 1) items (n - 1) 0 (omega arith)
            ∙ sym (take-take (n - 1) n items (omega arith))
            ∙ ap₂ take less_is h.front
            ∙ take-append_seam cs (x ∷ []);
        empty = λ i k. at i k (eqb i (n - 1)) refl;
      }
    where
      at : (i : ℕ) → n - 1 ≤ i → (b : Bool) → eqb i (n - 1) ≡ b → get_or (set items (n - 1) 0) i 0 ≡ 0
      at i k true e = rw (eqb-true i (n - 1) e) (get_or-set_same items (n - 1) 0 0 there)
      at i k false e =
          let f : i ≢ n - 1 = eqb-false i (n - 1) e in
          get_or-set_other items (n - 1) i 0 0 f ∙ h.empty i (omega (arith, f))

  codes_last : get_or items (n - 1) 0 ≡ x
  codes_last =
      sym (get_or-take n items (n - 1) 0 (omega (arith, length-append cs (x ∷ []), h.count)))
      ∙ ap₂ (λ u k. get_or u k 0) h.front less_is
      ∙ get_or-append_seam cs x [] 0

pub codes_within : {items : List ℕ} {n : ℕ} {cs : List ℕ} → Codes items n cs → n ≤ length items
codes_within {items} {n} h = omega (arith, length-take n items, ap length h.front, h.count)

-- ---- the codes of a reading
abbrev pub codes : Bool → List normal.Syllable → List ℕ
codes true [] = 1 ∷ []
codes false [] = []
codes b (s ∷ ss) = codes b ss ++ (syllable_number (named s) ∷ [])

pub record Holds (items : List ℕ) (r : Reading) (st : State) : Type 0 where
  pub array : Codes items r.count (codes st.lead st.stack)
  pub letters_is : r.letters ≡ length (prefix st.lead st.stack)
  pub tail_is : tail_of r.tail ≡ st.q
  pub fits : Fits r.tail

pub count_within : {items : List ℕ} {r : Reading} {st : State} → Holds items r st → r.count ≤ length items
count_within h = codes_within h.array

-- some reading is held
pub record Readable (items : List ℕ) (r : Reading) : Type 0 where
  pub st : State
  pub holds : Holds items r st

-- what a function does to the reading that is held
pub record Steps (f : State → State) (old : List ℕ) (r : Reading) (new : List ℕ) (n : Reading) : Type 0 where
  pub step : (st : State) → Holds old r st → Holds new n (f st)

pub record Blank (items : List ℕ) : Type 0 where
  pub empty : (i : ℕ) → get_or items i 0 ≡ 0

-- ---- push and pop
pub record Pushed (old : List ℕ) (r : Reading) (code more : ℕ) (tail : Tail) (new : List ℕ) (n : Reading) : Type 0 where
  pub items : new ≡ set old r.count code
  pub is : n ≡ record { count = r.count + more; letters = r.letters + code; tail = tail }

pub record Popped (old : List ℕ) (r : Reading) (code : ℕ) (tail : Tail) (new : List ℕ) (n : Reading) : Type 0 where
  pub items : new ≡ set old (r.count - 1) 0
  pub is : n ≡ record { count = r.count - 1; letters = r.letters - code; tail = tail }

-- a T with nothing before it but the syllables
abbrev pub cancelled : Clifford → State → State
cancelled q st = tee Axis.I q st.lead st.stack

abbrev pub pair : Letter → Letter → State → State
pair l m st = read m (read l st)

-- ---- sizes
pub codes_length : (b : Bool) (ss : List normal.Syllable) → length (codes b ss) ≡ size b ss
codes_length true [] = refl
codes_length false [] = refl
codes_length true (s ∷ ss) = omega (arith, length-append (codes true ss) (syllable_number (named s) ∷ []), codes_length true ss)
codes_length false (s ∷ ss) = omega (arith, length-append (codes false ss) (syllable_number (named s) ∷ []), codes_length false ss)

-- a syllable's letters are as many as its number
pub longer : (b : Bool) (s : normal.Syllable) (ss : List normal.Syllable)
    → length (prefix b (s ∷ ss)) ≡ length (prefix b ss) + syllable_number (named s)
longer b s ss = omega (arith, prefix_length b s ss, ap length (named_word s), syllable_size (named s))

prefix_few : (b : Bool) (ss : List normal.Syllable) → length (prefix b ss) ≤ 3 * size b ss
prefix_few true [] = omega arith
prefix_few false [] = omega arith
prefix_few b (s ∷ ss) = omega (arith, longer b s ss, syllable_few (named s), prefix_few b ss)

pub count_is : {items : List ℕ} {r : Reading} {st : State} → Holds items r st → r.count ≡ size_of st
count_is {st = st} h = h.array.count ∙ codes_length st.lead st.stack

pub letters_few : {items : List ℕ} {r : Reading} {st : State} → Holds items r st → r.letters ≤ 3 * r.count
letters_few {st = st} h = omega (arith, h.letters_is, prefix_few st.lead st.stack, count_is h)

pub letters_most : {items : List ℕ} {r : Reading} {st : State} → Holds items r st → r.count ≤ 4096 → r.letters ≤ 12288
letters_most h l = omega (arith, letters_few h)

-- ---- adding a syllable, or none
module _ {old : List ℕ} {r : Reading} {tail : Tail} {new : List ℕ} {n : Reading} (l : r.count < length old) (k : Fits tail) where
  kept_holds : {st : State}
      → Holds old r st
      → Pushed old r 0 0 tail new n
      → Holds new n (state st.lead st.stack (tail_of tail))
  kept_holds h p =
      rw (p.items, p.is, add-zero r.count, add-zero r.letters)
      (record { array = codes_keep h.array l; letters_is = h.letters_is; tail_is = refl; fits = k })

  push_holds : {st : State} (s : normal.Syllable)
      → Holds old r st
      → Pushed old r (syllable_number (named s)) 1 tail new n
      → Holds new n (state st.lead (s ∷ st.stack) (tail_of tail))
  push_holds {st} s h p =
      rw (p.items, p.is)
      (record {
        array = codes_push (syllable_number (named s)) h.array l;
        letters_is = omega (arith, h.letters_is, longer st.lead s st.stack);
        tail_is = refl;
        fits = k;
      })

  first_holds : {q : Clifford}
      → Holds old r (state false [] q)
      → Pushed old r 1 1 tail new n
      → Holds new n (state true [] (tail_of tail))
  first_holds h p =
      rw (p.items, p.is)
      (record { array = codes_push 1 h.array l; letters_is = omega (arith, h.letters_is); tail_is = refl; fits = k })

-- ---- removing one
module _ {old : List ℕ} {r : Reading} {q : Clifford} {tail : Tail} {new : List ℕ} {n : Reading} (k : Fits tail) where
  pop_holds : (b : Bool) (s : normal.Syllable) (ss : List normal.Syllable)
      → Holds old r (state b (s ∷ ss) q)
      → Popped old r (syllable_number (named s)) tail new n
      → Holds new n (state b ss (tail_of tail))
  pop_holds b s ss h p =
      rw (p.items, p.is)
      (record {
        array = codes_pop (codes b ss) (syllable_number (named s)) h.array;
        letters_is = omega (arith, h.letters_is, longer b s ss);
        tail_is = refl;
        fits = k;
      })

  unfirst_holds : Holds old r (state true [] q) → Popped old r 1 tail new n → Holds new n (state false [] (tail_of tail))
  unfirst_holds h p =
      rw (p.items, p.is)
      (record { array = codes_pop [] 1 h.array; letters_is = omega (arith, h.letters_is); tail_is = refl; fits = k })

-- ---- the last syllable's number: none, the T in front, or another
abbrev last_of : Bool → List normal.Syllable → ℕ
last_of true [] = 1
last_of false [] = 0
last_of b (s ∷ ss) = syllable_number (named s)

last_room : (b : Bool) (ss : List normal.Syllable) → (last_of b ss ≤ length (prefix b ss)) × (last_of b ss < 4)
last_room true [] = (omega arith, omega arith)
last_room false [] = (omega arith, omega arith)
last_room true (s ∷ ss) = (omega (arith, longer true s ss), omega (arith, syllable_few (named s)))
last_room false (s ∷ ss) = (omega (arith, longer false s ss), omega (arith, syllable_few (named s)))

-- the code at the last place
abbrev pub last_at : List ℕ → Reading → ℕ
last_at items r = get_or items (r.count - 1) 0

module _ {old : List ℕ} {r : Reading} (f : r.count ≡ 0 → ⊥) where
  last_is : (b : Bool) (ss : List normal.Syllable) (q : Clifford) → Holds old r (state b ss q) → last_at old r ≡ last_of b ss
  last_is true [] q h = codes_last [] 1 h.array
  last_is false [] q h = absurd (f h.array.count)
  last_is true (s ∷ ss) q h = codes_last (codes true ss) (syllable_number (named s)) h.array
  last_is false (s ∷ ss) q h = codes_last (codes false ss) (syllable_number (named s)) h.array

  pub pop_room : Readable old r → (last_at old r ≤ r.letters) × (last_at old r < 4)
  pop_room h =
      let st = h.st in
      let p = last_room st.lead st.stack in
      let e = last_is st.lead st.stack st.q h.holds in
      (omega (arith, e, p.0, h.holds.letters_is), omega (arith, e, p.1))

-- ---- a T that meets the last syllable
pub cancel_none : {old : List ℕ} {r : Reading} {rest : Tail} {new : List ℕ} {n : Reading}
    → r.count ≡ 0
    → 0 < length old
    → Fits rest
    → Pushed old r 1 1 rest new n
    → Steps (cancelled (tail_of rest)) old r new n
cancel_none {old} {r} {rest} {new} {n} e l k p = record { step = λ st h. go st.lead st.stack st.q h }
  where
    go : (b : Bool) (ss : List normal.Syllable) (q : Clifford)
        → Holds old r (state b ss q)
        → Holds new n (tee Axis.I (tail_of rest) b ss)
    go true [] q h = absurd (omega (arith, count_is h))
    go false [] q h = first_holds (omega arith) k h p
    go true (s ∷ ss) q h = absurd (omega (arith, count_is h))
    go false (s ∷ ss) q h = absurd (omega (arith, count_is h))

pub cancel_some : {old : List ℕ} {r : Reading} {rest tail : Tail} {new : List ℕ} {n : Reading}
    → (r.count ≡ 0 → ⊥)
    → Gained (last_at old r) rest tail
    → Popped old r (last_at old r) tail new n
    → Steps (cancelled (tail_of rest)) old r new n
cancel_some {old} {r} {rest} {tail} {new} {n} f g p = record { step = λ st h. go st.lead st.stack st.q h }
  where
    was : (b : Bool) (ss : List normal.Syllable) (q : Clifford) → Holds old r (state b ss q) → Popped old r (last_of b ss) tail new n
    was b ss q h = subst (λ (c : ℕ). Popped old r c tail new n) (last_is f b ss q h) p

    behind : (b : Bool) (ss : List normal.Syllable) (q : Clifford)
        → Holds old r (state b ss q)
        → tail_of tail ≡ mul_c (made (syllable_of (last_of b ss))) (tail_of rest)
    behind b ss q h = g.tail_is ∙ ap (λ (c : ℕ). mul_c (made (syllable_of c)) (tail_of rest)) (last_is f b ss q h)

    popped : (b : Bool) (s : normal.Syllable) (ss : List normal.Syllable) (q : Clifford)
        → Holds old r (state b (s ∷ ss) q)
        → Holds new n (state b ss (mul_c (made (syllable_of (last_of b (s ∷ ss)))) (tail_of rest)))
    popped b s ss q h =
        subst (λ (x : Clifford). Holds new n (state b ss x)) (behind b (s ∷ ss) q h)
        (pop_holds g.fits b s ss h (was b (s ∷ ss) q h))

    go : (b : Bool) (ss : List normal.Syllable) (q : Clifford)
        → Holds old r (state b ss q)
        → Holds new n (tee Axis.I (tail_of rest) b ss)
    go true [] q h =
        subst (λ (x : Clifford). Holds new n (state false [] x)) (behind true [] q h)
        (unfirst_holds g.fits h (was true [] q h))
    go false [] q h = absurd (f h.array.count)
    go b (normal.HT ∷ ss) q h = popped b normal.HT ss q h
    go b (normal.SHT ∷ ss) q h = popped b normal.SHT ss q h

-- ---- a change by its kind
abbrev pub by_kind : ℕ → Clifford → State → State
by_kind kind q st = after kind q st.lead st.stack

-- what is pushed has its place: EMPTY too
pub record Room (items : List ℕ) (r : Reading) (kind : ℕ) : Type 0 where
  pub some : 0 < length items
  pub few : r.count ≤ 4096
  pub kinds : kind ≤ 3
  pub place : (kind ≡ 1 → ⊥) → (r.count < length items) × (r.count < 4096)

-- where there is a change at all
abbrev pub Placed : List ℕ → Reading → ℕ → Type 0
Placed items r kind = (kind ≡ 0 → ⊥) → Room items r kind

module _ {old : List ℕ} {r : Reading} (rest : Tail) where
  pub keeps : {kind : ℕ} → kind ≡ 0 → Fits rest
      → Steps (by_kind kind (tail_of rest)) old r old (record { count = r.count; letters = r.letters; tail = rest })
  keeps e k =
      record {
        step = λ st h. rw e (record { array = h.array; letters_is = h.letters_is; tail_is = refl; fits = k });
      }

  module _ {kind : ℕ} {new : List ℕ} {n : Reading} where
    pub cancels : kind ≡ 1 → Steps (cancelled (tail_of rest)) old r new n → Steps (by_kind kind (tail_of rest)) old r new n
    cancels e p = record { step = λ st h. rw e (p.step st h) }

    pub puts : (kind ≡ 1 → ⊥) → Room old r kind → Fits rest → Pushed old r kind (kind / 2) rest new n
        → Steps (by_kind kind (tail_of rest)) old r new n
    puts f room w p = record { step = go kind f room.kinds p }
      where
        k : r.count < length old
        k = (room.place f).0

        go : (kind : ℕ) → (kind ≡ 1 → ⊥) → kind ≤ 3 → Pushed old r kind (kind / 2) rest new n → (st : State) → Holds old r st
            → Holds new n (by_kind kind (tail_of rest) st)
        go zero f c p st h = kept_holds k w h p
        go (suc zero) f c p st h = absurd (f refl)
        go (suc (suc zero)) f c p st h = push_holds k w normal.HT h p
        go (suc (suc (suc zero))) f c p st h = push_holds k w normal.SHT h p
        go (suc (suc (suc (suc j)))) f c p st h = absurd (omega arith)

-- what it asks of the functions that make it
module _ {items : List ℕ} {r : Reading} {kind : ℕ} (s : Readable items r) (h : Room items r kind) where
  pub count_room : r.count ≤ length items
  count_room = count_within s.holds

  pub letters_room : r.letters ≤ 12288
  letters_room = letters_most s.holds h.few

module _ {items : List ℕ} {r : Reading} {kind : ℕ} (h : Room items r kind) (f : kind ≡ 1 → ⊥) where
  pub place_there : r.count < length items
  place_there = (h.place f).0

  pub place_few : r.count < 4096
  place_few = (h.place f).1

  pub one_most : kind / 2 ≤ 1
  one_most = omega (arith, h.kinds)

-- ---- two letters
pub kind_most : {l m : Letter} {t : Tail} {s : Step} → Stepped l m t s → s.kind ≤ 3
kind_most {l} {m} {t} w = omega (arith, w.kind_is, kind_few l m (tail_of t))

-- what they do is the change of their step
module _ {old : List ℕ} {r : Reading} {l m : Letter} {s : Step} (w : Stepped l m r.tail s) where
  pub pair_is : (st : State) → Holds old r st → pair l m st ≡ by_kind s.kind (tail_of s.tail) st
  pair_is st h =
      two l m st (subst Ranged h.tail_is (fits_ranged r.tail h.fits))
      ∙ ap₂ (λ (k : ℕ) (x : Clifford). by_kind k x st)
      (ap (kind₂ l m) (sym h.tail_is) ∙ sym w.kind_is)
      (ap (next₂ l m) (sym h.tail_is) ∙ sym w.tail_is)

  module _ {new : List ℕ} {n : Reading} where
    changed : (st : State) → Holds old r st → Holds new n (after s.kind (tail_of s.tail) st.lead st.stack) → Holds new n (pair l m st)
    changed st h = subst (Holds new n) (sym (pair_is st h))

    pub follows : Steps (by_kind s.kind (tail_of s.tail)) old r new n → Steps (pair l m) old r new n
    follows p = record { step = λ st h. changed st h (p.step st h) }

-- ---- a word
pub count_few : (items : List ℕ) (r : Reading) (w : List ℕ) (i : ℕ)
    → Holds items r (run start (letters_of (take i w)))
    → i ≤ length w
    → r.count ≤ i
count_few items r w i h l =
    omega (arith, count_is h, run_size start (letters_of (take i w)), letters_of_length (take i w), length-take-le i w l)
