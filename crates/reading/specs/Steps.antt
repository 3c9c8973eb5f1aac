-- The table of two letters, of syllables that a T meets, of Cliffords less their axes and of the letters' numbers: each part proved right
-- by one computed test over its rows. Assumes nothing.
use Rattle.std.specs.Prelude.{◌≡◌, refl, Bool, true, false, cond, ◌&&◌, List, ℕ, zero, suc, ◌+◌, ◌-◌, ◌*◌, ◌/◌, ◌%◌, ◌<◌, ◌≤◌, T, ltb, eqb, get_or, length, Option, Some, None}
use Rattle.std.proofs.Common.{sym, ◌∙◌, ap, subst, arith, eqb-true, ne_eqb, ltb→lt, eqb→eq, Fits as FitsIn}
use Rattle.std.proofs.Math.Facts.{and_yes}
use Rattle.std.specs.Int.{w8}
use Rattle.exact.specs.Meaning.Word.{Letter, I, H, S, X, W, T', byte, IsLetter}
use Rattle.exact.specs.Cases.Letters.{letter_of}
use Rattle.exact.proofs.Cases.Letters.{is_letter}
use Rattle.clifford.specs.declared.Axis.{Axis}
use Rattle.clifford.specs.declared.Clifford.{Clifford}
use Rattle.clifford.specs.declared.Coset.{Coset}
use Rattle.reading.specs.declared.steps.Step.{Step}
use Rattle.reading.specs.declared.steps.Tail.{Tail}
use Rattle.clifford.specs.Meaning.{Ranged, axis_number}
use Rattle.clifford.proofs.Unique.{axis_at_lem}
use Rattle.clifford.specs.Tables.{quadruple, all}
use Rattle.clifford.proofs.Tables.{at}
use Rattle.clifford.specs.Cliffords.{mul_c, split_c}
use Rattle.clifford.proofs.Cliffords.{split_right}
use Rattle.reading.specs.Readings.{tail_size, letters_in, tail_size_lem}
use Rattle.reading.specs.Pairs.{kind₂, next₂, eq_clifford, eq_clifford_is}
use Rattle.reading.specs.Syllables.{syllable_of, made}

-- ---- a letter's number
abbrev pub letter_number : Letter → ℕ
letter_number H = 0
letter_number S = 1
letter_number X = 2
letter_number W = 3
letter_number T' = 4
letter_number I = 5

abbrev pub letter_at : ℕ → Letter
letter_at n = cond (eqb n 0) H (cond (eqb n 1) S (cond (eqb n 2) X (cond (eqb n 3) W (cond (eqb n 4) T' I))))

pub letter_at_is : (l : Letter) → letter_at (letter_number l) ≡ l
letter_at_is H = refl
letter_at_is S = refl
letter_at_is X = refl
letter_at_is W = refl
letter_at_is T' = refl
letter_at_is I = refl

pub number_few : (l : Letter) → letter_number l ≤ 5
number_few H = omega arith
number_few S = omega arith
number_few X = omega arith
number_few W = omega arith
number_few T' = omega arith
number_few I = omega arith

-- a byte's number: that of its letter, and 6 where it is none
abbrev pub number_of : ℕ → ℕ
number_of b = cond (eqb (byte (letter_of b)) b) (letter_number (letter_of b)) 6

-- the same, none in place of 6
abbrev pub numbered : ℕ → Option ℕ
numbered b = cond (eqb (number_of b) 6) None (Some (number_of b))

-- ---- a Clifford by its code and its phase
abbrev pub clifford_at : ℕ → ℕ → Clifford
clifford_at g p = quadruple (g / 8) (g / 4 % 2) (g % 4) p

abbrev pub tail_of : Tail → Clifford
tail_of t = clifford_at t.code t.phase

pub record Fits (t : Tail) : Type 0 where
  pub code_few : t.code < 24
  pub phase_few : t.phase < 8

pub fits_ranged : (t : Tail) → Fits t → Ranged (tail_of t)
fits_ranged t h = record { a_few = omega (arith, h.code_few); b_few = omega arith; c_few = omega arith; d_few = h.phase_few }

-- the Clifford that an entry gives, and a phase more
abbrev pub moved : Tail → ℕ → ℕ → Tail
moved t e k = record { code = e % 32; phase = (t.phase + e / 32 + k) % 8 }

-- both are bytes
module _ (t r : Tail) (e k : ℕ) (h : r ≡ moved t e k) where
  pub code_narrow : FitsIn w8 (r.code / 8)
  code_narrow = rw h (omega arith)

  pub phase_narrow : FitsIn w8 r.phase
  phase_narrow = rw h (omega arith)

abbrev gives : ℕ → ℕ → ℕ → Clifford → Bool
gives e k p q = ltb (e % 32) 24 && eq_clifford (clifford_at (e % 32) ((p + e / 32 + k) % 8)) q

given : (e k : ℕ) (t : Tail) (q : Clifford) → T (gives e k t.phase q) → Fits (moved t e k) × (tail_of (moved t e k) ≡ q)
given e k t q h =
    let s = and_yes (ltb (e % 32) 24) (eq_clifford (tail_of (moved t e k)) q) h in
    (record { code_few = ltb→lt (e % 32) 24 s.0; phase_few = omega arith }, eq_clifford_is (tail_of (moved t e k)) q s.1)

-- ---- the parts of the table
abbrev pub row_of : List ℕ → ℕ → ℕ → ℕ
row_of rows first second = get_or rows (576 + (first * 6 + second) * 2) 0

abbrev pub change_of : List ℕ → ℕ → ℕ → ℕ
change_of rows first second = get_or rows (576 + (first * 6 + second) * 2 + 1) 0

abbrev pub entry_of : List ℕ → ℕ → ℕ → ℕ
entry_of rows row g = get_or rows (row % 32 * 24 + g) 0

abbrev pub kind_at : List ℕ → ℕ → ℕ → ℕ
kind_at rows change g = get_or rows (504 + change + g) 0

abbrev pub syllable_entry : List ℕ → ℕ → ℕ → ℕ
syllable_entry rows s g = get_or rows (384 + s * 24 + g) 0

abbrev pub axis_entry : List ℕ → ℕ → ℕ
axis_entry rows g = get_or rows (480 + g) 0

-- what is tested of an entry, of a row, and of a part
abbrev pair_test : ℕ → ℕ → ℕ → Letter → Letter → ℕ → ℕ → Bool
pair_test kind e row l m g p = eqb kind (kind₂ l m (clifford_at g p)) && gives e (row / 32) p (next₂ l m (clifford_at g p))

abbrev entries_test : List ℕ → ℕ → ℕ → Letter → Letter → Bool
entries_test rows row change l m = all 24 (λ g. all 8 (pair_test (kind_at rows change g) (entry_of rows row g) row l m g))

abbrev row_test : List ℕ → ℕ → ℕ → Letter → Letter → Bool
row_test rows row change l m = (ltb (row % 32) 17 && ltb change 49) && (ltb row 256 && entries_test rows row change l m)

abbrev two_test : List ℕ → ℕ → ℕ → Bool
two_test rows l m = row_test rows (row_of rows l m) (change_of rows l m) (letter_at l) (letter_at m)

abbrev pairs_test : List ℕ → Bool
pairs_test rows = all 6 (λ l. all 6 (two_test rows l))

abbrev syllable_test : List ℕ → ℕ → ℕ → ℕ → Bool
syllable_test rows s g p = gives (syllable_entry rows s g) 0 p (mul_c (made (syllable_of s)) (clifford_at g p))

abbrev syllables_test : List ℕ → Bool
syllables_test rows = all 4 (λ s. all 24 (λ g. all 8 (syllable_test rows s g)))

abbrev axis_test : List ℕ → ℕ → ℕ → Bool
axis_test rows g p = gives (axis_entry rows g) 0 p (split_c (clifford_at g p)).rest

abbrev axes_test : List ℕ → Bool
axes_test rows = all 24 (λ g. all 8 (axis_test rows g))

abbrev letter_test : List ℕ → ℕ → Bool
letter_test rows k = eqb (get_or rows (648 + k) 0) (number_of (k + 72))

abbrev letters_test : List ℕ → Bool
letters_test rows = all 17 (letter_test rows)

pub record Right (rows : List ℕ) : Type 0 where
  pub long : length rows ≡ 665
  pub pairs : T (pairs_test rows)
  pub syllables : T (syllables_test rows)
  pub axes : T (axes_test rows)
  pub letters : T (letters_test rows)

pub right : {rows : List ℕ}
    → length rows ≡ 665
    → T ((pairs_test rows && syllables_test rows) && (axes_test rows && letters_test rows))
    → Right rows
right {rows} l t =
    let s = and_yes (pairs_test rows && syllables_test rows) (axes_test rows && letters_test rows) t in
    let u = and_yes (pairs_test rows) (syllables_test rows) s.0 in
    let v = and_yes (axes_test rows) (letters_test rows) s.1 in
    record { long = l; pairs = u.0; syllables = u.1; axes = v.0; letters = v.1 }

-- ---- two letters
pub record Stepped (l m : Letter) (t : Tail) (r : Step) : Type 0 where
  pub kind_is : r.kind ≡ kind₂ l m (tail_of t)
  pub tail_is : tail_of r.tail ≡ next₂ l m (tail_of t)
  pub fits : Fits r.tail

-- where two letters' row and kinds stand, and what they say
module _ (rows : List ℕ) (right : Right rows) (first second : ℕ) (hf : first < 6) (hs : second < 6) where
  abbrev row : ℕ
  row = row_of rows first second

  abbrev change : ℕ
  change = change_of rows first second

  abbrev entries : Bool
  entries = entries_test rows row change (letter_at first) (letter_at second)

  tested : (T (ltb (row % 32) 17) × T (ltb change 49)) × (T (ltb row 256) × T entries)
  tested =
      let t = at 6 (two_test rows first) (at 6 (λ l. all 6 (two_test rows l)) right.pairs first hf) second hs in
      let s = and_yes (ltb (row % 32) 17 && ltb change 49) (ltb row 256 && entries) t in
      (and_yes (ltb (row % 32) 17) (ltb change 49) s.0, and_yes (ltb row 256) entries s.1)

  pub row_few : row_of rows first second % 32 < 17
  row_few = ltb→lt (row % 32) 17 tested.0.0

  pub change_few : change_of rows first second < 49
  change_few = ltb→lt change 49 tested.0.1

  pub more_few : row_of rows first second / 32 < 8
  more_few = omega (arith, ltb→lt row 256 tested.1.0)

  pub stepped : (t : Tail)
      → Fits t
      → (r : Step)
      → r.kind ≡ kind_at rows (change_of rows first second) t.code
      → r.tail ≡ moved t (entry_of rows (row_of rows first second) t.code) (row_of rows first second / 32)
      → Stepped (letter_at first) (letter_at second) t r
  stepped t h r k e =
      record {
        kind_is = k ∙ eqb→eq kind (kind₂ l m (tail_of t)) s.0;
        tail_is = ap tail_of e ∙ g.1;
        fits = subst Fits (sym e) g.0;
      }
    where
      kind : ℕ
      kind = kind_at rows change t.code

      entry : ℕ
      entry = entry_of rows row t.code

      l : Letter
      l = letter_at first

      m : Letter
      m = letter_at second

      one : T (all 8 (pair_test kind entry row l m t.code))
      one = at 24 (λ g. all 8 (pair_test (kind_at rows change g) (entry_of rows row g) row l m g)) tested.1.1 t.code h.code_few

      s : T (eqb kind (kind₂ l m (tail_of t))) × T (gives entry (row / 32) t.phase (next₂ l m (tail_of t)))
      s =
          and_yes (eqb kind (kind₂ l m (tail_of t))) (gives entry (row / 32) t.phase (next₂ l m (tail_of t)))
          (at 8 (pair_test kind entry row l m t.code) one t.phase h.phase_few)

      g : Fits (moved t entry (row / 32)) × (tail_of (moved t entry (row / 32)) ≡ next₂ l m (tail_of t))
      g = given entry (row / 32) t (next₂ l m (tail_of t)) s.1

-- n letters are written for the tail q
pub record SizeIs (q : Clifford) (n : ℕ) : Type 0 where
  pub is : n ≡ tail_size q
  pub few : n ≤ 13

pub record Gained (s : ℕ) (t r : Tail) : Type 0 where
  pub tail_is : tail_of r ≡ mul_c (made (syllable_of s)) (tail_of t)
  pub fits : Fits r

module _ (rows : List ℕ) (right : Right rows) (t : Tail) (h : Fits t) where
  -- ---- a syllable that a T meets
  pub gained : (s : ℕ) → s < 4 → (r : Tail) → r ≡ moved t (syllable_entry rows s t.code) 0 → Gained s t r
  gained s k r e = rw e (record { tail_is = g.1; fits = g.0 })
    where
      one : T (all 8 (syllable_test rows s t.code))
      one =
          at 24 (λ g. all 8 (syllable_test rows s g))
          (at 4 (λ s. all 24 (λ g. all 8 (syllable_test rows s g))) right.syllables s k) t.code h.code_few

      there : Tail
      there = moved t (syllable_entry rows s t.code) 0

      g : Fits there × (tail_of there ≡ mul_c (made (syllable_of s)) (tail_of t))
      g =
          given (syllable_entry rows s t.code) 0 t (mul_c (made (syllable_of s)) (tail_of t))
          (at 8 (syllable_test rows s t.code) one t.phase h.phase_few)

  -- ---- a Clifford less its axis
  axis_row : tail_of (moved t (axis_entry rows t.code) 0) ≡ (split_c (tail_of t)).rest
  axis_row =
      (given (axis_entry rows t.code) 0 t (split_c (tail_of t)).rest
      (at 8 (axis_test rows t.code)
      (at 24 (λ g. all 8 (axis_test rows g)) right.axes t.code h.code_few) t.phase h.phase_few)
      ).1

-- ---- the letters of a Clifford as they are written
module _ (t : Tail) (h : Fits t) (r : Coset) (e : r ≡ split_c (tail_of t)) where
  letters_in_lem : t.code / 8 + r.rest.b + r.rest.c + r.rest.d ≡ letters_in (split_c (tail_of t))
  letters_in_lem = omega (arith, (split_right (tail_of t) (fits_ranged t h)).axis_is, ap letters_in e, ap (λ (s : Coset). axis_number s.axis) e)

  size_few : t.code / 8 + r.rest.b + r.rest.c + r.rest.d ≤ 13
  size_few =
      let p : Ranged r.rest = rw e (split_right (tail_of t) (fits_ranged t h)).ranged in
      omega (arith, h.code_few, p.b_few, p.c_few, p.d_few)

  module _ (n : ℕ) (f : n ≡ t.code / 8 + r.rest.b + r.rest.c + r.rest.d) where
    sized : tail_size (tail_of t) ≡ cond (eqb n 0) 1 n
    sized = tail_size_lem (tail_of t) ∙ ap (λ (m : ℕ). cond (eqb m 0) 1 m) (sym (f ∙ letters_in_lem))

    pub size_none : n ≡ 0 → SizeIs (tail_of t) 1
    size_none z = record { is = sym (sized ∙ ap (λ (m : ℕ). cond (eqb m 0) 1 m) z); few = omega arith }

    pub size_some : (n ≡ 0 → ⊥) → SizeIs (tail_of t) n
    size_some z = record { is = sym (sized ∙ ap (λ (b : Bool). cond b 1 n) (ne_eqb n 0 z)); few = omega (arith, size_few) }

abbrev pub axis_at : ℕ → Axis
axis_at zero = Axis.I
axis_at (suc zero) = Axis.H
axis_at (suc (suc n)) = Axis.SH

pub axis_last : (n : ℕ) → (n ≡ 0 → ⊥) → (n ≡ 1 → ⊥) → Axis.SH ≡ axis_at n
axis_last zero f g = absurd (f refl)
axis_last (suc zero) f g = absurd (g refl)
axis_last (suc (suc n)) f g = refl

axis_at_is : (n : ℕ) → n < 3 → axis_number (axis_at n) ≡ n
axis_at_is zero l = refl
axis_at_is (suc zero) l = refl
axis_at_is (suc (suc zero)) l = refl
axis_at_is (suc (suc (suc n))) l = absurd (omega arith)

pub split_at_lem : (rows : List ℕ)
    → Right rows
    → (t : Tail)
    → Fits t
    → (axis : Axis) (rest : Tail)
    → axis ≡ axis_at (t.code / 8)
    → rest ≡ moved t (axis_entry rows t.code) 0
    → ◌≡◌ {A = Coset} (record { axis = axis; rest = tail_of rest }) (split_c (tail_of t))
split_at_lem rows right t h axis rest e f = λ i. record { axis = axes i; rest = rests i }
  where
    axes : axis ≡ (split_c (tail_of t)).axis
    axes =
        e
        ∙ axis_at_lem (axis_at (t.code / 8)) (split_c (tail_of t)).axis
        (axis_at_is (t.code / 8) (omega (arith, h.code_few)) ∙ sym (split_right (tail_of t) (fits_ranged t h)).axis_is)

    rests : tail_of rest ≡ (split_c (tail_of t)).rest
    rests = ap tail_of f ∙ axis_row rows right t h

-- ---- the number of a byte
pub number_in : (rows : List ℕ) → Right rows → (b : ℕ) → 72 ≤ b → b ≤ 88 → get_or rows (648 + (b - 72)) 0 ≡ number_of b
number_in rows right b l h =
    eqb→eq (get_or rows (648 + (b - 72)) 0) (number_of (b - 72 + 72))
    (at 17 (letter_test rows) right.letters (b - 72) (omega arith))
    ∙ ap number_of (back b l)
  where
    back : (b : ℕ) → 72 ≤ b → b - 72 + 72 ≡ b
    back b l = omega arith

-- no letter's byte is below H's or above X's
number_out : (b : ℕ) → (IsLetter b → ⊥) → 6 ≡ number_of b
number_out b f = go (eqb (byte (letter_of b)) b) refl
  where
    go : (t : Bool) → eqb (byte (letter_of b)) b ≡ t → 6 ≡ cond t (letter_number (letter_of b)) 6
    go true e = absurd (f (is_letter (eqb-true (byte (letter_of b)) b e)))
    go false e = refl

byte_within : (l : Letter) → (72 ≤ byte l) × (byte l ≤ 88)
byte_within I = (omega arith, omega arith)
byte_within H = (omega arith, omega arith)
byte_within S = (omega arith, omega arith)
byte_within X = (omega arith, omega arith)
byte_within W = (omega arith, omega arith)
byte_within T' = (omega arith, omega arith)

pub number_low : (b : ℕ) → b < 72 → 6 ≡ number_of b
number_low b h = number_out b (λ l. omega (arith, l.is, (byte_within l.letter_there).0))

pub number_high : (b : ℕ) → 88 < b → 6 ≡ number_of b
number_high b h = number_out b (λ l. omega (arith, l.is, (byte_within l.letter_there).1))

pub number_few_of : (b : ℕ) → number_of b ≤ 6
number_few_of b = go (eqb (byte (letter_of b)) b)
  where
    go : (t : Bool) → cond t (letter_number (letter_of b)) 6 ≤ 6
    go true = omega (arith, number_few (letter_of b))
    go false = omega arith

abbrev told : ℕ → Option ℕ
told n = cond (eqb n 6) None (Some n)

pub number_under : (b : ℕ) → b < 72 → None ≡ numbered b
number_under b h = ap told (number_low b h)

pub number_over : (b : ℕ) → 88 < b → None ≡ numbered b
number_over b h = ap told (number_high b h)

module _ (rows : List ℕ) (right : Right rows) (b : ℕ) (l : 72 ≤ b) (h : b ≤ 88) where
  abbrev entry : ℕ
  entry = get_or rows (648 + (b - 72)) 0

  pub number_none : 5 < entry → None ≡ numbered b
  number_none k =
      let is : entry ≡ number_of b = number_in rows right b l h in
      let six : 6 ≡ number_of b = omega (arith, is, number_few_of b) in
      ap told six

  pub number_some : entry ≤ 5 → Some entry ≡ numbered b
  number_some k = ap (λ (t : Bool). cond t None (Some entry)) (sym (ne_eqb entry 6 (omega arith))) ∙ ap told (number_in rows right b l h)
