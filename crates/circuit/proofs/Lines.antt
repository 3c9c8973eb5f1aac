-- Lines of circuits: put together, told apart, and read in one way only. Assumes nothing.
use Rattle.std.specs.Prelude.{◌≡◌, refl, ◌⊎◌, Bool, true, false, ◌||◌, List, [], ◌∷◌, ◌++◌, ℕ, zero, suc, ◌≤◌, T, eqb, length}
use Rattle.std.proofs.Common.{sym, ◌∙◌, ap, ap₂, inl, inr, append-nil, append_assoc, arith, eq-eqb, eqb→eq, lit≤}
use Rattle.std.proofs.Math.Facts.{or_yes}
use Rattle.exact.specs.Meaning.Word.{Letter, byte, bytes}
use Rattle.exact.proofs.Outcomes.Ladder.{Only}
use Rattle.circuit.specs.Meaning.{Edition, two, three, Statement, h', s', t', x', sdg, tdg, gphase}
use Rattle.circuit.specs.Meaning.{AllAllowed, header, lines, TextOf, read_as, letters, Reads}
use Rattle.circuit.specs.Lines.{line_of}

-- ---- one circuit after another
pub lines_append : (c d : List Statement) → lines (c ++ d) ≡ lines c ++ lines d
lines_append [] d = refl
lines_append (a ∷ c) d = ap (λ x. line_of a ++ x) (lines_append c d) ∙ sym (append_assoc (line_of a) (lines c) (lines d))

pub allowed_append : (p : Bool) (c d : List Statement) → AllAllowed p c → AllAllowed p d → AllAllowed p (c ++ d)
allowed_append p [] d h k = k
allowed_append p (a ∷ c) d h k = (h.0, allowed_append p c d h.1 k)

pub allowed_behind : (p : Bool) (c d : List Statement) → AllAllowed p (c ++ d) → AllAllowed p d
allowed_behind p [] d h = h
allowed_behind p (a ∷ c) d h = allowed_behind p c d h.1

pub letters_append : (c d : List Statement) → letters (c ++ d) ≡ letters d ++ letters c
letters_append [] d = sym (append-nil (letters d))
letters_append (a ∷ c) d = ap (λ x. x ++ read_as a) (letters_append c d) ∙ append_assoc (letters d) (letters c) (read_as a)

-- ---- what holds of each statement holds of all
abbrev pub Each : (Statement → Type 0) → Type 0
Each P = P h' × (P s' × (P t' × (P x' × (P sdg × (P tdg × P gphase)))))

pub each : (P : Statement → Type 0) → Each P → (a : Statement) → P a
each P (h, (s, (t, (x, (sd, (td, g)))))) h' = h
each P (h, (s, (t, (x, (sd, (td, g)))))) s' = s
each P (h, (s, (t, (x, (sd, (td, g)))))) t' = t
each P (h, (s, (t, (x, (sd, (td, g)))))) x' = x
each P (h, (s, (t, (x, (sd, (td, g)))))) sdg = sd
each P (h, (s, (t, (x, (sd, (td, g)))))) tdg = td
each P (h, (s, (t, (x, (sd, (td, g)))))) gphase = g

-- a line has bytes enough to tell it, and letters
pub line_long : (a : Statement) → 8 ≤ length (line_of a)
line_long = each (λ a. 8 ≤ length (line_of a)) (lit≤ tt, (lit≤ tt, (lit≤ tt, (lit≤ tt, (lit≤ tt, (lit≤ tt, lit≤ tt))))))

pub read_some : (a : Statement) → 1 ≤ length (read_as a)
read_some = each (λ a. 1 ≤ length (read_as a)) (lit≤ tt, (lit≤ tt, (lit≤ tt, (lit≤ tt, (lit≤ tt, (lit≤ tt, lit≤ tt))))))

pub read_few : (a : Statement) → length (read_as a) ≤ 4
read_few = each (λ a. length (read_as a) ≤ 4) (lit≤ tt, (lit≤ tt, (lit≤ tt, (lit≤ tt, (lit≤ tt, (lit≤ tt, lit≤ tt))))))

-- ---- statements by number
abbrev pub number : Statement → ℕ
number h' = 0
number s' = 1
number t' = 2
number x' = 3
number sdg = 4
number tdg = 5
number gphase = 6

abbrev numbered : ℕ → Statement
numbered zero = h'
numbered (suc zero) = s'
numbered (suc (suc zero)) = t'
numbered (suc (suc (suc zero))) = x'
numbered (suc (suc (suc (suc zero)))) = sdg
numbered (suc (suc (suc (suc (suc zero))))) = tdg
numbered (suc (suc (suc (suc (suc (suc n)))))) = gphase

number_back : (a : Statement) → numbered (number a) ≡ a
number_back = each (λ a. numbered (number a) ≡ a) (refl, (refl, (refl, (refl, (refl, (refl, refl))))))

pub same_number : (a b : Statement) → T (eqb (number a) (number b)) → a ≡ b
same_number a b h = sym (number_back a) ∙ ap numbered (eqb→eq (number a) (number b) h) ∙ number_back b

-- what a computed test says of each
abbrev pub Computed : Type 0
Computed = Each (λ a. Unit {0})

pub computed : Computed
computed = (tt, (tt, (tt, (tt, (tt, (tt, tt))))))

-- ---- two texts that differ at a place that both have can't begin the same bytes
abbrev pub clash : List ℕ → List ℕ → Bool
clash [] y = false
clash (a ∷ x) [] = false
clash (a ∷ x) (b ∷ y) = elim (eqb a b) [ true ↦ clash x y | false ↦ true ]

pub cons_head : {a b : ℕ} {s t : List ℕ} → a ∷ s ≡ b ∷ t → a ≡ b
cons_head h = cc

pub cons_tail : {a b : ℕ} {s t : List ℕ} → a ∷ s ≡ b ∷ t → s ≡ t
cons_tail h = cc

pub clash_apart : (x y r t : List ℕ) → T (clash x y) → x ++ r ≡ y ++ t → ⊥
clash_apart [] y r t h e = h
clash_apart (a ∷ x) [] r t h e = h
clash_apart (a ∷ x) (b ∷ y) r t h e = clash_apart x y r t (go h) (cons_tail e)
  where
    go : T (elim (eqb a b) [ true ↦ clash x y | false ↦ true ]) → T (clash x y)
    go = rw (eq-eqb a b (cons_head e)) (λ h. h)

pub cancel : (x r t : List ℕ) → x ++ r ≡ x ++ t → r ≡ t
cancel [] r t e = e
cancel (a ∷ x) r t e = cancel x r t (cons_tail e)

-- ---- lines of two statements, and headers of two editions, clash or are the same
abbrev Told : Statement → Statement → Type 0
Told a b = T (eqb (number a) (number b) || clash (line_of a) (line_of b))

told : (a b : Statement) → Told a b
told a = each (Told a) (each (λ a. Each (Told a)) (computed, (computed, (computed, (computed, (computed, (computed, computed)))))) a)

pub same_line : (a b : Statement) (r t : List ℕ) → line_of a ++ r ≡ line_of b ++ t → a ≡ b
same_line a b r t e = go (or_yes (eqb (number a) (number b)) (clash (line_of a) (line_of b)) (told a b))
  where
    go : T (eqb (number a) (number b)) ⊎ T (clash (line_of a) (line_of b)) → a ≡ b
    go (inl h) = same_number a b h
    go (inr h) = absurd (clash_apart (line_of a) (line_of b) r t h e)

pub same_header : (d e : Edition) (r t : List ℕ) → header d ++ r ≡ header e ++ t → d ≡ e
same_header two two r t e = refl
same_header two three r t e = absurd (clash_apart (header two) (header three) r t tt e)
same_header three two r t e = absurd (clash_apart (header three) (header two) r t tt e)
same_header three three r t e = refl

-- ---- behind a circuit's text comes the rest of the circuit
pub record Behind (c : List Statement) (y : List ℕ) (c' : List Statement) : Type 0 where
  pub rest : List Statement
  pub whole : c' ≡ c ++ rest
  pub is : y ≡ lines rest

no_line : {a : ℕ} {s : List ℕ} → a ∷ s ≡ [] → ⊥
no_line {a} {s} e = let z : suc (length s) ≡ 0 = ap length e in omega arith

pub nothing : (a : Statement) (y : List ℕ) → line_of a ++ y ≡ [] → ⊥
nothing a y = each (λ a. line_of a ++ y ≡ [] → ⊥) (no_line, (no_line, (no_line, (no_line, (no_line, (no_line, no_line)))))) a

pub behind : (c c' : List Statement) (y : List ℕ) → lines c ++ y ≡ lines c' → Behind c y c'
behind [] c' y e = record { rest = c'; whole = refl; is = e }
behind (a ∷ c) [] y e = absurd (nothing a (lines c ++ y) (sym (append_assoc (line_of a) (lines c) y) ∙ e))
behind (a ∷ c) (b ∷ c') y e = go (same_line a b (lines c ++ y) (lines c') joined) (behind c c' y)
  where
    joined : line_of a ++ (lines c ++ y) ≡ line_of b ++ lines c'
    joined = sym (append_assoc (line_of a) (lines c) y) ∙ e

    go : a ≡ b → (lines c ++ y ≡ lines c' → Behind c y c') → Behind (a ∷ c) y (b ∷ c')
    go q next =
        let n = next (cancel (line_of b) (lines c ++ y) (lines c') (ap (λ x. line_of x ++ (lines c ++ y)) (sym q) ∙ joined)) in
        record { rest = n.rest; whole = ap₂ (λ x z. x ∷ z) (sym q) n.whole; is = n.is }

-- ---- a right text has one edition and one list of statements
pub record Once (e e' : Edition) (c c' : List Statement) : Type 0 where
  pub same_edition : e ≡ e'
  pub same_circuit : c ≡ c'

pub right_once : (s : List ℕ) (e e' : Edition) (c c' : List Statement) → TextOf s e c → TextOf s e' c' → Once e e' c c'
right_once s e e' c c' x y =
    record { same_edition = q; same_circuit = sym (b.whole ∙ ap (λ z. c ++ z) (none b.rest b.is) ∙ append-nil c) }
  where
    whole : header e ++ lines c ≡ header e' ++ lines c'
    whole = sym x.is ∙ y.is

    q : e ≡ e'
    q = same_header e e' (lines c) (lines c') whole

    bodies : lines c ≡ lines c'
    bodies = cancel (header e) (lines c) (lines c') (whole ∙ ap (λ z. header z ++ lines c') (sym q))

    b : Behind c [] c'
    b = behind c c' [] (append-nil (lines c) ∙ bodies)

    none : (d : List Statement) → [] ≡ lines d → d ≡ []
    none [] z = refl
    none (a ∷ d) z = absurd (nothing a (lines d) (sym z))

-- a text is read as one list of letters
pub one_reading : (s : List ℕ) → Only (Reads s)
one_reading s v w x y = x.is ∙ ap letters same ∙ sym y.is
  where
    same : x.right.circuit ≡ y.right.circuit
    same =
        (right_once s x.right.edition y.right.edition x.right.circuit y.right.circuit x.right.right y.right.right
        ).same_circuit

-- ---- bytes of words
pub bytes_append : (u v : List Letter) → bytes (u ++ v) ≡ bytes u ++ bytes v
bytes_append [] v = refl
bytes_append (l ∷ u) v = ap (λ x. byte l ∷ x) (bytes_append u v)
