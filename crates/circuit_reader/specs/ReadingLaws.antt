-- The laws by which the reader's functions keep their promises: a byte more gone along, a line more walked.
-- Assumes nothing.
use Rattle.std.specs.Prelude.{◌≡◌, refl, Bool, true, false, ◌&&◌, ℕ, ◌+◌, ◌-◌, ◌<◌, ◌≤◌, ◌^◌, min, eqb, take, drop, get_or, Option, None, Some, Result, Ok, Err}
use Rattle.std.proofs.Math.Path.{sym, ap, ap₂}
use Rattle.std.proofs.Common.{◌∙◌, subst, add-one, arith, eqb-true, ne_eqb, Fits, length-drop, take-append-drop, drop_of_length-le, take-suc, take_all, drop-cons, drop-drop}
use Rattle.std.proofs.lemmas.Bool.{false≢true}
use Rattle.std.proofs.lemmas.Option.{none-some, same_Some}
use mathlib.Core.List.{List, [], ◌∷◌, ◌++◌, append-nil, append_assoc}
use Rattle.std.specs.Int.{w64}
use Rattle.std.proofs.Math.Dec.{T}
use Rattle.std.proofs.Math.ListN.{length, length-append, get_or-eq_default}
use Rattle.exact.specs.declared.Refusal.{Refusal}
use Rattle.exact.specs.Meaning.Text.{ascii, Stops}
use Rattle.circuit_reader.specs.declared.Line.{Line}
use Rattle.circuit.specs.Meaning.{Edition, row, Statement, h', s', t', x', sdg, tdg, allowed, AllAllowed, header, lines, text, Right}
use Rattle.circuit.specs.Meaning.{read_as, letters}
use Rattle.circuit.specs.Lines.{line_of, OfCircuit}
use Rattle.circuit.proofs.Lines.{lines_append, allowed_append, letters_append, line_long, read_few}
use Rattle.circuit.proofs.Stuck.{line_stops}
use Rattle.circuit_reader.specs.Reading.{Along, Stopped, MatchIs, StopsAt, Taken, LineIs, GateNamed, TailIs, GateIs, DaggerNamed, DaggerIs, SameIs}
use Rattle.circuit_reader.specs.Reading.{Headed, WalkIs}

-- ---- how far a text goes along
-- one byte more
one_further : (s w : List ℕ) (k : ℕ) → take k s ≡ take k w → k < length s → k < length w → get_or s k 0 ≡ get_or w k 0
    → take (k + 1) s ≡ take (k + 1) w
one_further s w k h l m e =
    ap (λ i. take i s) (add-one k)
    ∙ take-suc s k 0 l
    ∙ ap₂ (λ x y. x ++ (y ∷ [])) h e
    ∙ sym (take-suc w k 0 m)
    ∙ ap (λ i. take i w) (sym (add-one k))

pub record Going (s w : List ℕ) (k : ℕ) : Type 0 where
  pub upto_word : k ≤ length w
  pub upto : k ≤ length s
  pub along : take k s ≡ take k w

pub going_none : (s w : List ℕ) → Going s w 0
going_none s w = record { upto_word = omega arith; upto = omega arith; along = refl }

module _ {s w : List ℕ} {k : ℕ} (h : Going s w k) where
  pub going_stops : (k < length s → get_or s k 0 ≡ get_or w k 0 → ⊥) → Along s w k
  going_stops n =
      record { upto_word = h.upto_word; upto = h.upto; along = h.along; differ = λ l m. n m }

  pub going_all : length w ≤ k → Along s w (length w)
  going_all l =
      record {
        upto_word = omega arith;
        upto = omega (arith, h.upto);
        along = ap (λ i. take i s) same ∙ h.along ∙ ap (λ i. take i w) (sym same);
        differ = λ m. absurd (omega arith);
      }
    where
      same : length w ≡ k
      same = omega (arith, h.upto_word)

  -- also where the text ends first
  pub going_end : min (length s) (length w) ≤ k → Along s w k
  going_end l =
      record { upto_word = h.upto_word; upto = h.upto; along = h.along; differ = λ m o. absurd (omega arith) }

  pub going_more : k < length w → k < length s → get_or s k 0 ≡ get_or w k 0 → Going s w (k + 1)
  going_more l m e = record { upto_word = omega arith; upto = omega arith; along = one_further s w k h.along m l e }

-- ---- a byte that is not there
pub beyond_end : (s : List ℕ) (at b : ℕ) → length s ≤ at → 0 < b → false ≡ eqb (get_or s at 0) b
beyond_end s at b l m = rw (get_or-eq_default s 0 l) (sym (ne_eqb 0 b (λ e. omega arith)))

-- a slice from a place on
from_there : (s : List ℕ) (at : ℕ) → take (length s - at) (drop at s) ≡ drop at s
from_there s at = take_all (length s - at) (drop at s) (omega (arith, length-drop at s))

-- ---- a line looked for
module _ (s : List ℕ) (at : ℕ) (w : List ℕ) (n k : ℕ) (a : Along (take (length s - at) (drop at s)) w k) where
  g : Along (drop at s) w k
  g = subst (λ t. Along t w k) (from_there s at) a

  pub matched_less : at + k < at + length w → MatchIs s at w n (Err (Refusal.Statement (at + k)))
  matched_less l = record { at = at + k; is = refl; there = record { k = k; is = refl; less = omega arith; along = g } }

  pub matched_whole : at + length w ≤ at + k → MatchIs s at w n (Ok (record { next = at + k; letters = n }))
  matched_whole l = (
    refl,
    record {
      is = omega (arith, g.upto_word);
      there =
          sym (take-append-drop k (drop at s)) ∙ ap₂ (λ x y. x ++ y) (g.along ∙ take_all k w (omega arith)) (drop-drop k at s);
    },
  )

  pub matched_fits : at ≤ length s → length s < 2 ^ 64 → Fits w64 (at + k)
  matched_fits l m = record { fits = omega (arith, g.upto, length-drop at s) }

-- ---- a gate's line told at once
pub tail_none : (s : List ℕ) → TailIs s false
tail_none s = record { there = λ e. absurd (false≢true e) }

pub gate_none : (b : ℕ) → GateIs b false
gate_none b = record { gate = λ e. absurd (false≢true e) }

gate_named : (a : Statement) → length (read_as a) ≡ 1 → ((p : Bool) → T (allowed p a)) → {b : ℕ} → line_of a ≡ b ∷ ascii " q[0];\n" → GateIs b true
gate_named a o m e = record { gate = λ q. record { statement = a; named = e; one = o; may = m } }

pub gate_h : {b : ℕ} → b ≡ 104 → GateIs b true
gate_h e = gate_named h' refl (λ p. tt) (ap (λ x. x ∷ ascii " q[0];\n") (sym e))

pub gate_s : {b : ℕ} → b ≡ 115 → GateIs b true
gate_s e = gate_named s' refl (λ p. tt) (ap (λ x. x ∷ ascii " q[0];\n") (sym e))

pub gate_t : {b : ℕ} → b ≡ 116 → GateIs b true
gate_t e = gate_named t' refl (λ p. tt) (ap (λ x. x ∷ ascii " q[0];\n") (sym e))

pub gate_x : {b : ℕ} → b ≡ 120 → GateIs b true
gate_x e = gate_named x' refl (λ p. tt) (ap (λ x. x ∷ ascii " q[0];\n") (sym e))

pub gate_at : (phase : Bool) (s : List ℕ) (at : ℕ) (z y : Bool) → at < length s → GateIs (get_or s at 0) z → z ≡ true
    → TailIs (take (length s - (at + 1)) (drop (at + 1) s)) y → y ≡ true → Taken phase s at (at + 8) 1
gate_at phase s at z y l g p t q =
    let n = g.gate p in
    record {
      statement = n.statement;
      may = n.may phase;
      whole = record { is = ap (λ x. at + length x) (sym n.named); there = there n };
      count = sym n.one;
    }
  where
    tail : drop (at + 1) s ≡ ascii " q[0];\n" ++ drop (at + 8) s
    tail =
        let behind : at + 1 + 7 ≡ at + 8 = omega arith in
        sym (from_there s (at + 1))
        ∙ t.there q
        ∙ ap (λ x. ascii " q[0];\n" ++ drop 7 x) (from_there s (at + 1))
        ∙ ap (λ x. ascii " q[0];\n" ++ x) (drop-drop 7 (at + 1) s ∙ ap (λ i. drop i s) behind)

    there : (n : GateNamed (get_or s at 0)) → drop at s ≡ line_of n.statement ++ drop (at + 8) s
    there n =
        drop-cons s at 0 l
        ∙ ap (λ i. get_or s at 0 ∷ drop i s) (sym (add-one at))
        ∙ ap (λ x. get_or s at 0 ∷ x) tail
        ∙ ap (λ x. x ++ drop (at + 8) s) (sym n.named)

-- ---- sdg and tdg told at once
pub dagger_none : (s : List ℕ) → DaggerIs s None
dagger_none s = record { there = λ n e. absurd (none-some n e) }

module _ (s : List ℕ) (l : 3 ≤ length s) (d : get_or s 1 0 ≡ 100) (g : get_or s 2 0 ≡ 103) (z : Bool)
    (t : TailIs (take (length s - 3) (drop 3 s)) z) (yes : z ≡ true) where
  dagger_there : (a : Statement) (x : ℕ) → line_of a ≡ x ∷ 100 ∷ 103 ∷ ascii " q[0];\n" → ((p : Bool) → T (allowed p a)) → get_or s 0 0 ≡ x
      → DaggerIs s (Some (length (read_as a)))
  dagger_there a x e may f =
      record {
        there = λ n q.
            record { statement = a; whole = whole; long = ap length e; count = same_Some n (length (read_as a)) (sym q); may = may };
      }
    where
      tail : drop 3 s ≡ ascii " q[0];\n" ++ drop 10 s
      tail =
          sym (from_there s 3)
          ∙ t.there yes
          ∙ ap (λ x. ascii " q[0];\n" ++ drop 7 x) (from_there s 3)
          ∙ ap (λ x. ascii " q[0];\n" ++ x) (drop-drop 7 3 s)

      whole : s ≡ line_of a ++ drop 10 s
      whole =
          drop-cons s 0 0 (omega arith)
          ∙ ap₂ (λ b r. b ∷ r) f (drop-cons s 1 0 (omega arith) ∙ ap₂ (λ b r. b ∷ r) d (drop-cons s 2 0 (omega arith) ∙ ap₂ (λ b r. b ∷ r) g tail))
          ∙ ap (λ r. r ++ drop 10 s) (sym e)

  pub dagger_s : get_or s 0 0 ≡ 115 → DaggerIs s (Some 3)
  dagger_s f = dagger_there sdg 115 refl (λ p. tt) f

  pub dagger_t : get_or s 0 0 ≡ 116 → DaggerIs s (Some 4)
  dagger_t f = dagger_there tdg 116 refl (λ p. tt) f

pub dagger_taken : (phase : Bool) (s : List ℕ) (at : ℕ) (r : Option ℕ) (n : ℕ) → DaggerIs (take (length s - at) (drop at s)) r → r ≡ Some n
    → Taken phase s at (at + 10) n
dagger_taken phase s at r n h e =
    record {
      statement = d.statement;
      may = d.may phase;
      whole =
          record {
            is = ap (λ i. at + i) (sym d.long);
            there =
                sym (from_there s at)
                ∙ d.whole
                ∙ ap (λ x. line_of d.statement ++ drop 10 x) (from_there s at)
                ∙ ap (λ x. line_of d.statement ++ x) (drop-drop 10 at s);
          };
      count = d.count;
    }
  where
    d : DaggerNamed (take (length s - at) (drop at s)) n
    d = h.there n e

-- ---- every byte compared
pub record Comparing (s w : List ℕ) (same : Bool) (k : ℕ) : Type 0 where
  pub upto : k ≤ length w
  pub along : same ≡ true → take k s ≡ take k w

pub comparing_none : (s w : List ℕ) → Comparing s w true 0
comparing_none s w = record { upto = omega arith; along = λ e. refl }

module _ {s w : List ℕ} {same : Bool} {k : ℕ} (h : Comparing s w same k) (l : length w ≤ length s) where
  pub comparing_more : (r : Bool) → k < length w → r ≡ same && eqb (get_or s k 0) (get_or w k 0) → Comparing s w r (k + 1)
  comparing_more r m q =
      record { upto = omega arith; along = λ e. go same (eqb (get_or s k 0) (get_or w k 0)) refl refl (sym q ∙ e) }
    where
      go : (x y : Bool) → same ≡ x → eqb (get_or s k 0) (get_or w k 0) ≡ y → x && y ≡ true → take (k + 1) s ≡ take (k + 1) w
      go true true e f g = one_further s w k (h.along e) (omega arith) m (eqb-true (get_or s k 0) (get_or w k 0) f)
      go true false e f g = absurd (false≢true g)
      go false y e f g = absurd (false≢true g)

  pub compared : length w ≤ k → SameIs s w same
  compared m =
      record {
        there = λ e.
            sym (take-append-drop (length w) s)
            ∙ ap (λ x. x ++ drop (length w) s) (ap (λ i. take i s) all ∙ h.along e ∙ take_all k w m);
      }
    where
      all : length w ≡ k
      all = omega (arith, h.upto)

-- ---- letters are no more than bytes
letters_few : (c : List Statement) → length (letters c) ≤ length (lines c)
letters_few [] = omega arith
letters_few (a ∷ c) =
    omega (arith, length-append (letters c) (read_as a), length-append (line_of a) (lines c), letters_few c, read_few a, line_long a)

-- ---- walked as far as a place
pub record Walking (s : List ℕ) (start : ℕ) (edition : Edition) (at n : ℕ) : Type 0 where
  pub start_is : start ≡ length (header edition)
  pub circuit : List Statement
  pub c_allowed : AllAllowed (row edition).has_phase circuit
  pub there : s ≡ text edition circuit ++ drop at s
  pub at_is : at ≡ length (text edition circuit)
  pub count : n ≡ length (letters circuit)

pub walking_none : (s : List ℕ) (start : ℕ) (edition : Edition) → Headed s start edition → Walking s start edition start 0
walking_none s start edition h =
    record {
      start_is = h.start_is;
      circuit = [];
      c_allowed = tt;
      there = h.there ∙ ap (λ x. x ++ drop start s) (sym (append-nil (header edition)));
      at_is = h.start_is ∙ ap length (sym (append-nil (header edition)));
      count = refl;
    }

module _ {s : List ℕ} {start : ℕ} {edition : Edition} {at n : ℕ} (h : Walking s start edition at n) where
  pub walking_upto : at ≤ length s
  walking_upto = omega (arith, h.at_is, ap length h.there, length-append (text edition h.circuit) (drop at s))

  -- one statement more
  module _ (x : Result Line Refusal) (l : Line) (o : LineIs (row edition).has_phase s at x) (g : x ≡ Ok l) where
    k : Taken (row edition).has_phase s at l.next l.letters
    k = subst (LineIs (row edition).has_phase s at) g o

    d : List Statement
    d = h.circuit ++ (k.statement ∷ [])

    longer : text edition h.circuit ++ line_of k.statement ≡ text edition d
    unfolding d
    longer =
        append_assoc (header edition) (lines h.circuit) (line_of k.statement)
        ∙ ap (λ z. header edition ++ z)
        (ap (λ z. lines h.circuit ++ z) (sym (append-nil (line_of k.statement))) ∙ sym (lines_append h.circuit (k.statement ∷ [])))

    counted : length (letters d) ≡ l.letters + n
    unfolding d
    counted =
        ap length (letters_append h.circuit (k.statement ∷ []))
        ∙ length-append (read_as k.statement) (letters h.circuit)
        ∙ ap₂ (λ a b. a + b) (sym k.count) (sym h.count)

    behind : s ≡ text edition d ++ drop l.next s
    behind =
        h.there
        ∙ ap (λ z. text edition h.circuit ++ z) k.whole.there
        ∙ sym (append_assoc (text edition h.circuit) (line_of k.statement) (drop l.next s))
        ∙ ap (λ z. z ++ drop l.next s) longer

    next_is : l.next ≡ length (text edition d)
    next_is =
        k.whole.is
        ∙ ap (λ z. z + length (line_of k.statement)) h.at_is
        ∙ sym (length-append (text edition h.circuit) (line_of k.statement))
        ∙ ap length longer

    pub walking_more : Walking s start edition l.next (n + l.letters)
    unfolding d
    walking_more =
        record {
          start_is = h.start_is;
          circuit = d;
          c_allowed =
              allowed_append (row edition).has_phase h.circuit (k.statement ∷ []) h.c_allowed
              (k.may, tt);
          there = behind;
          at_is = next_is;
          count = omega (arith, counted);
        }

    pub walking_fits : length s < 2 ^ 64 → Fits w64 (n + l.letters)
    walking_fits u =
        record {
          fits =
              omega (
                arith,
                counted,
                letters_few d,
                ap length behind,
                length-append (text edition d) (drop l.next s),
                length-append (header edition) (lines d),
              );
        }

    pub walking_less : at < length s → length s - l.next < length s - at
    walking_less u = omega (arith, k.whole.is, line_long k.statement)

  pub walking_stops : (x : Result Line Refusal) (e : Refusal) → at < length s → LineIs (row edition).has_phase s at x → x ≡ Err e → WalkIs s (Err e)
  walking_stops x e l o g =
      let r : Stopped (StopsAt (row edition).has_phase s at) e = subst (LineIs (row edition).has_phase s at) g o in
      let k = r.there in
      let stops : Stops Right s r.at =
      subst (λ z. Stops Right z r.at) (sym h.there)
      (subst (Stops Right (text edition h.circuit ++ drop at s)) (sym (k.is ∙ ap (λ z. z + k.k) h.at_is))
      (line_stops edition h.circuit h.c_allowed (drop at s) (omega (arith, length-drop at s)) k.k k.stuck)) in
      subst (λ (f : Refusal). WalkIs s (Err f)) (sym r.is) stops

  pub walked : length s ≤ at → OfCircuit s start n
  walked l =
      record {
        right =
            record {
              edition = edition;
              circuit = h.circuit;
              right =
                  record {
                    is =
                        h.there
                        ∙ ap (λ z. text edition h.circuit ++ z) (drop_of_length-le s l)
                        ∙ append-nil (text edition h.circuit);
                    all_allowed = h.c_allowed;
                  };
            };
        start_is = h.start_is;
        count = h.count;
      }
