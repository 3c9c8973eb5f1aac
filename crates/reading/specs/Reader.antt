-- The reader's turns over a word: what is known at a place, and what one letter or two more make of it. Assumes nothing.
use Rattle.std.specs.Prelude.{◌≡◌, refl, List, [], ◌∷◌, ℕ, ◌+◌, ◌≤◌, ◌<◌, length, take, get_or, Ok, Err}
use Rattle.std.proofs.Common.{sym, ◌∙◌, ap, ap₂, subst, add-one, arith, take-suc, take_all}
use Rattle.exact.specs.declared.Refusal.{Refusal}
use Rattle.exact.specs.Meaning.Word.{I}
use Rattle.exact.specs.Cases.Letters.{letter_of, letters_of, Inside}
use Rattle.exact.proofs.Cases.Letters.{letters_of_append, inside_none, inside_more}
use Rattle.reading.specs.declared.Text.{Text}
use Rattle.reading.specs.Held.{Blank, Holds, pair, count_few}
use Rattle.reading.specs.Texts.{HoldsText, ReadableText, StepsText, whole_holds}
use Rattle.reading.specs.Letters.{Reads, NumberOf, NumberAt, numbered_in, numbered_at}
use Rattle.reading.specs.Readings.{State, start, read, run, run_append}
use Rattle.reading.specs.Steps.{letter_at}

-- what the letters before a place are read as
abbrev read_to : List ℕ → ℕ → State
read_to w i = run start (letters_of (take i w))

-- one letter more, and two
run_more : (w : List ℕ) (i : ℕ) → i < length w → read_to w (i + 1) ≡ read (letter_of (get_or w i 0)) (read_to w i)
run_more w i h =
    ap (λ u. run start (letters_of u)) (ap (λ n. take n w) (add-one i) ∙ take-suc w i 0 h)
    ∙ ap (run start) (letters_of_append (take i w) (get_or w i 0 ∷ []))
    ∙ run_append start (letters_of (take i w)) (letter_of (get_or w i 0) ∷ [])

run_pair : (w : List ℕ) (i : ℕ)
    → i + 1 < length w
    → read_to w (i + 2) ≡ pair (letter_of (get_or w i 0)) (letter_of (get_or w (i + 1) 0)) (read_to w i)
run_pair w i h =
    ap (read_to w) (twice i)
    ∙ run_more w (i + 1) h
    ∙ ap (read (letter_of (get_or w (i + 1) 0))) (run_more w i (omega arith))
  where
    twice : (i : ℕ) → i + 2 ≡ i + 1 + 1
    twice i = omega arith

-- the letters before a place are read, in an array as long as it was
pub record Upto (w first items : List ℕ) (r : Text) (i : ℕ) : Type 0 where
  pub within : i ≤ length w
  pub same : length items ≡ length first
  pub inside : Inside w i
  pub held : HoldsText items r (read_to w i)

-- no letter yet: the text is I
abbrev none : Text
none = record { reading = record { count = 0; letters = 0; tail = record { code = 0; phase = 0 } }; bytes = 1 }

pub upto_none : (w items : List ℕ) → Blank items → Upto w items items none 0
upto_none w items b = record { within = omega arith; same = refl; inside = inside_none w; held = whole_holds held refl }
  where
    held : Holds items none.reading start
    held =
        record {
          array = record { count = refl; front = refl; empty = λ i k. b.empty i };
          letters_is = refl;
          tail_is = refl;
          fits = record { code_few = omega arith; phase_few = omega arith };
        }

pub upto_at : {w old items : List ℕ} {r : Text} {i j : ℕ} → Upto w old items r i → i ≡ j → Upto w old items r j
upto_at {w} {old} {items} {r} u e = subst (λ (k : ℕ). Upto w old items r k) e u

module _ {w old items : List ℕ} {r : Text} {i : ℕ} (u : Upto w old items r i) where
  pub readable : ReadableText items r
  readable = record { st = read_to w i; holds = u.held }

  pub room : i < length w → length w ≤ 4096 → length w ≤ length old → (r.reading.count < length items) × (r.reading.count < 4096)
  room l m k = let few = count_few items r.reading w i u.held.holds u.within in (omega arith, omega arith)

  one_inside : {n : ℕ} → NumberOf (get_or w i 0) n → Inside w (i + 1)
  one_inside {n} p = inside_more w i u.inside (numbered_in (get_or w i 0) n p.is p.few)

  -- a byte that is no letter
  pub first_refused : (new : List ℕ) {e : Refusal} → i < length w → NumberAt w i (Err e) → Reads w new (Err e)
  first_refused new l p = rw p.0 (record { there = l; outside = p.1; before = u.inside })

  pub second_refused : {n : ℕ} (new : List ℕ) {e : Refusal} → i + 1 < length w → NumberOf (get_or w i 0) n → NumberAt w (i + 1) (Err e)
      → Reads w new (Err e)
  second_refused {n} new l f p = rw p.0 (record { there = l; outside = p.1; before = one_inside f })

  -- two letters more
  pub upto_two : {n m j : ℕ} {new : List ℕ} {s : Text}
      → i + 1 < length w
      → NumberOf (get_or w i 0) n
      → NumberOf (get_or w (i + 1) 0) m
      → length new ≡ length items
      → StepsText (pair (letter_at n) (letter_at m)) items r new s
      → j ≡ i + 2
      → Upto w old new s j
  upto_two {n} {m} {j} {new} {s} l f g z p e = rw e
      (record {
        within = omega arith;
        same = z ∙ u.same;
        inside = λ j a. inside_more w (i + 1) (one_inside f) (numbered_in (get_or w (i + 1) 0) m g.is g.few) j (omega arith);
        held =
            subst (HoldsText new s)
            (ap₂ (λ x y. pair x y (read_to w i)) (numbered_at (get_or w i 0) n f.is f.few) (numbered_at (get_or w (i + 1) 0) m g.is g.few)
            ∙ sym (run_pair w i l))
            (p.step (read_to w i) u.held);
      })

  -- the last letter of an odd number
  pub read_last : {n : ℕ} {new : List ℕ} {s : Text}
      → i < length w
      → length w ≤ i + 1
      → NumberOf (get_or w i 0) n
      → StepsText (pair (letter_at n) I) items r new s
      → Reads w new (Ok s)
  read_last {n} {new} {s} l m f p =
      (λ j a. one_inside f j (omega arith), rw (take_all (i + 1) w m) at held)
    where
      held : HoldsText new s (read_to w (i + 1))
      held =
          subst (HoldsText new s) (ap (λ x. read x (read_to w i)) (numbered_at (get_or w i 0) n f.is f.few) ∙ sym (run_more w i l))
          (p.step (read_to w i) u.held)

  pub read_all : length w ≤ i → Reads w items (Ok r)
  read_all l = (λ j a. u.inside j (omega arith), rw (take_all i w l) at u.held)
