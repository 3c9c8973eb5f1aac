-- The laws by which the writer's functions keep their promises: a line more measured, a line more put. Assumes nothing.
use Rattle.std.specs.Prelude.{◌≡◌, refl, Bool, true, false, cond, List, [], ◌∷◌, ◌++◌, ℕ, zero, suc, ◌+◌, ◌*◌, ◌<◌, ◌≤◌, eqb, ltb, length, take, set, get_or, Option, Some, None, Err}
use Rattle.std.proofs.Common.{sym, ◌∙◌, ap, ap₂, subst, add-one, append-nil, append_assoc, arith, eqb-true, ltb-true, ltb-false, lt-ltb, le-ltb, eq-eqb, ne_eqb, Fits, length-append, length-take-le, take-suc, take_all, get_or-take}
use Rattle.std.proofs.lemmas.Bool.{eqb-false}
use Rattle.std.proofs.lemmas.Option.{none-some, same_Some}
use Rattle.std.specs.Int.{w8, w64}
use Rattle.std.proofs.Math.ListN.{get_or-append}
use Rattle.std.proofs.Math.Seq.{get_or-append_seam}
use Rattle.exact.specs.Meaning.Word.{Letter, I, H, S, X, W, T', byte, bytes, IsLetter, FirstOutside}
use Rattle.exact.specs.declared.Refusal.{Refusal}
use Rattle.exact.specs.Meaning.Text.{ascii}
use Rattle.exact.specs.Cases.Letters.{letter_of, letters_of}
use Rattle.exact.proofs.Cases.Letters.{letter_of_byte, letters_of_append, letters_of_length, letter_back, is_letter}
use Rattle.lent.specs.Written.{Written as Puts, written_both, written_byte, written_length}
use Rattle.circuit.specs.Meaning.{lines, statement_of, circuit}
use Rattle.circuit.proofs.Lines.{lines_append, cons_head, cons_tail, bytes_append}
use Rattle.circuit_writer.specs.Writing.{Spells, size_of, size, SizeIs, letter, no_letter, Measures, PhaseIs, past_phase, MeasureIs}

-- ---- the size of a line
pub size_H : {b : ℕ} → b ≡ 72 → SizeIs b (Some 8)
size_H e = letter H (sym e) refl

pub size_S : {b : ℕ} → b ≡ 83 → SizeIs b (Some 8)
size_S e = letter S (sym e) refl

pub size_T : {b : ℕ} → b ≡ 84 → SizeIs b (Some 8)
size_T e = letter T' (sym e) refl

pub size_X : {b : ℕ} → b ≡ 88 → SizeIs b (Some 8)
size_X e = letter X (sym e) refl

pub size_W : {b : ℕ} → b ≡ 87 → SizeIs b (Some 14)
size_W e = letter W (sym e) refl

pub size_I : {b : ℕ} → b ≡ 73 → SizeIs b (Some 0)
size_I e = letter I (sym e) refl

module _ {b : ℕ} (h : b ≡ 72 → ⊥) (s : b ≡ 83 → ⊥) (t : b ≡ 84 → ⊥) (x : b ≡ 88 → ⊥) (w : b ≡ 87 → ⊥) (i : b ≡ 73 → ⊥) where
  pub size_none : SizeIs b None
  size_none = no_letter (λ n. go n.letter_there n.is) refl
    where
      go : (l : Letter) → byte l ≡ b → ⊥
      go I e = i (sym e)
      go H e = h (sym e)
      go S e = s (sym e)
      go X e = x (sym e)
      go W e = w (sym e)
      go T' e = t (sym e)

-- ---- the place of the first W, one letter on
pub past_there : (p i b : ℕ) → p < i → p ≡ past_phase p i b
past_there p i b l = rw (lt-ltb p i l)

module _ (p i b : ℕ) (l : i ≤ p) where
  pub past_here : b ≡ 87 → i ≡ past_phase p i b
  past_here e = rw (le-ltb p i l, eq-eqb b 87 e)

  pub past_behind : (b ≡ 87 → ⊥) → i + 1 ≡ past_phase p i b
  past_behind n = rw (le-ltb p i l, ne_eqb b 87 n)

-- ---- a letter's line
pub gate_put : (l : List ℕ) (at n : ℕ) {m : List ℕ} {i : ℕ} → Puts (set l at n) (at + 1) (ascii " q[0];\n") m i
    → Puts l at (n ∷ ascii " q[0];\n") m i
gate_put l at n p = written_both (written_byte l at n) p

-- the same, byte by byte
one_more : {l : List ℕ} {at : ℕ} {t m : List ℕ} {i : ℕ} → Puts l at t m i → (j b : ℕ) → i ≡ j → Puts l at (t ++ (b ∷ [])) (set m j b) (j + 1)
one_more {l} {at} {t} {m} {i} p j b e = written_both (subst (Puts l at t m) e p) (written_byte m j b)

pub gate_put_by_bytes : (l : List ℕ) (at n : ℕ)
    → Puts l at (n ∷ ascii " q[0];\n")
    (set (set (set (set (set (set (set (set l at n) (at + 1) 32) (at + 2) 113) (at + 3) 91) (at + 4) 48) (at + 5) 93) (at + 6) 59) (at + 7) 10)
    (at + 8)
gate_put_by_bytes l at n =
    let four = one_more (one_more (one_more (written_byte l at n) (at + 1) 32 refl) (at + 2) 113 (omega arith)) (at + 3) 91 (omega arith) in
    let six = one_more (one_more four (at + 4) 48 (omega arith)) (at + 5) 93 (omega arith) in
    let eight = one_more (one_more six (at + 6) 59 (omega arith)) (at + 7) 10 (omega arith) in
    subst (Puts l at (n ∷ ascii " q[0];\n") _) (omega arith) eight

-- I has no line
pub line_I : {b : ℕ} (l : List ℕ) (at : ℕ) → b ≡ 73 → Puts l at (lines (statement_of (letter_of b))) l at
line_I l at e = rw e (record { is = refl; behind = omega arith })

module _ {b : ℕ} (e : b ≡ 87) where
  pub room_W : (at n : ℕ) → at + size_of (letter_of b) ≤ n → at + 14 ≤ n
  room_W at n h = subst (λ x. at + size_of (letter_of x) ≤ n) e h

  pub line_W : {l : List ℕ} {at : ℕ} {m : List ℕ} {i : ℕ} → Puts l at (ascii "gphase(pi/4);\n") m i
      → Puts l at (lines (statement_of (letter_of b))) m i
  line_W {l} {at} {m} {i} p = subst (λ x. Puts l at (lines (statement_of (letter_of x))) m i) (sym e) p

module _ {b : ℕ} (l : IsLetter b) where
  byte_most : (x : Letter) → byte x ≤ 88
  byte_most I = omega arith
  byte_most H = omega arith
  byte_most S = omega arith
  byte_most X = omega arith
  byte_most W = omega arith
  byte_most T' = omega arith

  pub gate_fits : Fits w8 (b + 32)
  gate_fits = record { fits = omega (arith, letter_back l, byte_most (letter_of b)) }

  module _ (i : b ≡ 73 → ⊥) (w : b ≡ 87 → ⊥) where
    by_letter : (x : Letter) → byte x ≡ b → lines (statement_of x) ≡ (byte x + 32) ∷ ascii " q[0];\n"
    by_letter I e = absurd (i (sym e))
    by_letter H e = refl
    by_letter S e = refl
    by_letter X e = refl
    by_letter W e = absurd (w (sym e))
    by_letter T' e = refl

    gate_line : lines (statement_of (letter_of b)) ≡ (b + 32) ∷ ascii " q[0];\n"
    gate_line = by_letter (letter_of b) (letter_back l) ∙ ap (λ x. (x + 32) ∷ ascii " q[0];\n") (letter_back l)

    pub room_gate : (at n : ℕ) → at + size_of (letter_of b) ≤ n → at + 8 ≤ n
    room_gate at n h = omega (arith, ap length gate_line)

    pub line_gate : {o : List ℕ} {at : ℕ} {m : List ℕ} {j : ℕ} → Puts o at ((b + 32) ∷ ascii " q[0];\n") m j
        → Puts o at (lines (statement_of (letter_of b))) m j
    line_gate {o} {at} {m} {j} p = subst (λ t. Puts o at t m j) (sym gate_line) p

-- ---- letters and their lines, one behind the others
pub size_cons : (l : Letter) (u : List Letter) → size (l ∷ u) ≡ size u + size_of l
size_cons l u = ap length (lines_append (circuit u) (statement_of l)) ∙ length-append (lines (circuit u)) (lines (statement_of l))

size_append : (u v : List Letter) → size (u ++ v) ≡ size v + size u
size_append [] v = omega arith
size_append (l ∷ u) v = size_cons l (u ++ v) ∙ omega (arith, size_append u v, size_cons l u)

size_of_most : (l : Letter) → size_of l ≤ 14
size_of_most I = omega arith
size_of_most H = omega arith
size_of_most S = omega arith
size_of_most X = omega arith
size_of_most W = omega arith
size_of_most T' = omega arith

pub size_most : (u : List Letter) → size u ≤ 14 * length u
size_most [] = omega arith
size_most (l ∷ u) = omega (arith, size_cons l u, size_most u, size_of_most l)

size_one : (l : Letter) → size (l ∷ []) ≡ size_of l
size_one l = size_cons l [] ∙ omega arith

-- ---- one letter more measured
module _ (v : List ℕ) (b : ℕ) where
  spells_more : Spells v → IsLetter b → Spells (v ++ (b ∷ []))
  spells_more s l =
      record {
        is =
            ap bytes (letters_of_append v (b ∷ []))
            ∙ bytes_append (letters_of v) (letter_of b ∷ [])
            ∙ ap₂ (λ x y. x ++ (y ∷ [])) s.is (letter_back l);
      }

  measures_more : (n m : ℕ) → Measures v n → IsLetter b → m ≡ size_of (letter_of b) → Measures (v ++ (b ∷ [])) (n + m)
  measures_more n m h l e =
      record {
        spells = spells_more h.spells l;
        is =
            ap₂ (λ x y. x + y) h.is e
            ∙ omega (arith, size_append (letters_of v) (letter_of b ∷ []), size_one (letter_of b))
            ∙ ap size (sym (letters_of_append v (b ∷ [])));
      }

  phase_more : (p : ℕ) → PhaseIs v p → PhaseIs (v ++ (b ∷ [])) (past_phase p (length v) b)
  phase_more p h = go (ltb p (length v)) refl (eqb b 87) refl
    where
      long : length (v ++ (b ∷ [])) ≡ length v + 1
      long = length-append v (b ∷ [])

      within : (i : ℕ) → i < length v → get_or (v ++ (b ∷ [])) i 0 ≡ get_or v i 0
      within i l = get_or-append v (b ∷ []) 0 i l

      before : (i : ℕ) → i < p → get_or (v ++ (b ∷ [])) i 0 ≡ byte W → ⊥
      before i l e = h.before i l (sym (within i (omega (arith, h.upto))) ∙ e)

      last : (i : ℕ) → i ≡ length v → get_or (v ++ (b ∷ [])) i 0 ≡ b
      last i e = ap (λ k. get_or (v ++ (b ∷ [])) k 0) e ∙ get_or-append_seam v b [] 0

      go : (x : Bool) → ltb p (length v) ≡ x → (y : Bool) → eqb b 87 ≡ y
          → PhaseIs (v ++ (b ∷ [])) (cond x p (cond y (length v) (length v + 1)))
      go true e y f =
          let l : p < length v = ltb-true p (length v) e in
          record { upto = omega (arith, long); before = before; there = λ k. within p l ∙ h.there l }
      go false e true f =
          let l : length v ≤ p = ltb-false p (length v) e in
          record {
            upto = omega (arith, long);
            before = λ i m. before i (omega arith);
            there = λ k. last (length v) refl ∙ eqb-true b 87 f;
          }
      go false e false f =
          let l : length v ≤ p = ltb-false p (length v) e in
          record {
            upto = omega (arith, long);
            before = λ i m g. past i m g (ltb i p) refl;
            there = λ k. absurd (omega (arith, long));
          }
        where
          past : (i : ℕ) → i < length v + 1 → get_or (v ++ (b ∷ [])) i 0 ≡ byte W → (z : Bool) → ltb i p ≡ z → ⊥
          past i m g true q = before i (ltb-true i p q) g
          past i m g false q =
              let n : p ≤ i = ltb-false i p q in
              eqb-false b 87 f (sym (last i (omega (arith, h.upto, ltb-false p (length v) e))) ∙ g)

-- ---- letters of bytes that spell
pub spells_at : (w : List ℕ) → Spells w → (i : ℕ) → i < length w → IsLetter (get_or w i 0)
spells_at [] s i l = absurd (omega arith)
spells_at (b ∷ w) s zero l = is_letter (cons_head s.is)
spells_at (b ∷ w) s (suc i) l = spells_at w (record { is = cons_tail s.is }) i (omega arith)

-- what was measured of a byte is a letter's size, or nothing
module _ {b : ℕ} {r : Option ℕ} (s : SizeIs b r) where
  sized : (m : ℕ) → r ≡ Some m → (l : Letter) × ((byte l ≡ b) × (m ≡ size_of l))
  sized m e = go s
    where
      go : SizeIs b r → (l : Letter) × ((byte l ≡ b) × (m ≡ size_of l))
      go (letter l f g) = (l, (f, same_Some m (size_of l) (sym e ∙ g)))
      go (no_letter o g) = absurd (none-some m (sym g ∙ e))

  unsized : r ≡ None → IsLetter b → ⊥
  unsized e = go s
    where
      go : SizeIs b r → IsLetter b → ⊥
      go (letter l f g) = absurd (none-some (size_of l) (sym e ∙ g))
      go (no_letter o g) = o

-- ---- the first i letters are measured
pub record Measuring (w : List ℕ) (n i : ℕ) : Type 0 where
  pub upto : i ≤ length w
  pub measures : Measures (take i w) n

pub measuring_none : (w : List ℕ) → Measuring w 0 0
measuring_none w =
    record {
      upto = omega arith;
      measures = record { spells = record { is = refl }; is = refl };
    }

module _ {w : List ℕ} {n i : ℕ} (h : Measuring w n i) where
  module _ {r : Option ℕ} (s : SizeIs (get_or w i 0) r) where
    pub outside_at : i < length w → r ≡ None → FirstOutside w i
    outside_at l g = record { there = l; outside = unsized s g; before = before }
      where
        before : (j : ℕ) → j < i → IsLetter (get_or w j 0)
        before j k =
            subst IsLetter (get_or-take i w j 0 k)
            (spells_at (take i w) h.measures.spells j (omega (arith, length-take-le i w h.upto)))

    module _ (m : ℕ) (e : r ≡ Some m) where
      abbrev there : (l : Letter) × ((byte l ≡ get_or w i 0) × (m ≡ size_of l))
      there = sized s m e

      pub measuring_fits : length w ≤ 4096 → Fits w64 (n + m)
      measuring_fits l =
          let few = size_most (letters_of (take i w)) in
          record {
            fits =
                omega (arith, few, h.measures.is, letters_of_length (take i w), length-take-le i w h.upto, there.1.1, size_of_most there.0);
          }

      pub measuring_more : i < length w → Measuring w (n + m) (i + 1)
      measuring_more l =
          record {
            upto = omega arith;
            measures =
                subst (λ v. Measures v (n + m)) one_more
                (measures_more (take i w) (get_or w i 0) n m h.measures (record { letter_there = there.0; is = there.1.0 }) is_size);
          }
        where
          one_more : take i w ++ (get_or w i 0 ∷ []) ≡ take (i + 1) w
          one_more = sym (ap (λ k. take k w) (add-one i) ∙ take-suc w i 0 l)

          is_size : m ≡ size_of (letter_of (get_or w i 0))
          is_size = there.1.1 ∙ ap size_of (sym (letter_of_byte there.0) ∙ ap letter_of there.1.0)

  -- a byte that is no letter
  pub measuring_stops : {r : Option ℕ} → SizeIs (get_or w i 0) r → i < length w → r ≡ None → MeasureIs w (Err (Refusal.Letter i))
  measuring_stops s l e = outside_at s l e

  pub measured : length w ≤ i → Measures w n
  measured l = subst (λ v. Measures v n) (take_all i w l) h.measures

-- ---- the lines of the letters behind `rest` are put
pub record Lining (old : List ℕ) (start : ℕ) (w buf : List ℕ) (at : ℕ) (rest : List ℕ) : Type 0 where
  pub spells : Spells w
  pub done : List ℕ
  pub parted : w ≡ rest ++ done
  pub put : Puts old start (lines (circuit (letters_of done))) buf at
  pub room : at + size (letters_of rest) ≤ length buf

pub lining_none : (old : List ℕ) (start : ℕ) (w rest : List ℕ) → rest ≡ w → Spells w → start + size (letters_of w) ≤ length old
    → Lining old start w old start rest
lining_none old start w rest e s r =
    record {
      spells = s;
      done = [];
      parted = sym (append-nil rest ∙ e);
      put = record { is = refl; behind = omega arith };
      room = subst (λ v. start + size (letters_of v) ≤ length old) (sym e) r;
    }

module _ {old : List ℕ} {start : ℕ} {w buf : List ℕ} {at : ℕ} {rest : List ℕ} (h : Lining old start w buf at rest) (less : List ℕ) (b : ℕ)
    (e : rest ≡ less ++ (b ∷ [])) where
  parted_so : w ≡ less ++ (b ∷ h.done)
  parted_so = h.parted ∙ ap (λ v. v ++ h.done) e ∙ append_assoc less (b ∷ []) h.done

  pub lining_letter : IsLetter b
  lining_letter =
      subst IsLetter (ap (λ v. get_or v (length less) 0) parted_so ∙ get_or-append_seam less b h.done 0)
      (spells_at w h.spells (length less) (omega (arith, ap length parted_so, length-append less (b ∷ h.done))))

  split : size (letters_of rest) ≡ size_of (letter_of b) + size (letters_of less)
  split =
      ap (λ v. size (letters_of v)) e
      ∙ ap size (letters_of_append less (b ∷ []))
      ∙ size_append (letters_of less) (letter_of b ∷ [])
      ∙ ap (λ k. k + size (letters_of less)) (size_one (letter_of b))

  pub lining_room : at + size_of (letter_of b) ≤ length buf
  lining_room = omega (arith, split, h.room)

  pub lining_more : (new : List ℕ) (next : ℕ) → Puts buf at (lines (statement_of (letter_of b))) new next → Lining old start w new next less
  lining_more new next p =
      record {
        spells = h.spells;
        done = b ∷ h.done;
        parted = parted_so;
        put =
            subst (λ t. Puts old start t new next) (sym (lines_append (circuit (letters_of h.done)) (statement_of (letter_of b))))
            (written_both h.put p);
        room = omega (arith, split, h.room, written_length p, p.behind);
      }

pub lined : {old : List ℕ} {start : ℕ} {w buf : List ℕ} {at : ℕ} {rest : List ℕ} → Lining old start w buf at rest → rest ≡ []
    → Puts old start (lines (circuit (letters_of w))) buf at
lined {old} {start} {w} {buf} {at} h e =
    subst (λ v. Puts old start (lines (circuit (letters_of v))) buf at) (sym (h.parted ∙ ap (λ v. v ++ h.done) e)) h.put
