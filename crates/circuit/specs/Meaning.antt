-- OpenQASM 2.0 and 3.0 on one qubit (docs/SCOPE.md, Jobs): editions, statements, texts; a circuit's letters, a word's circuit;
-- and a circuit's own matrix, by OpenQASM's gates.
use Rattle.std.specs.Prelude.{◌≡◌, Bool, true, false, List, [], ◌∷◌, ◌++◌, ℕ, T, ℤ, pos, negsuc}
use Prim.Native.String.{String}
use Rattle.exact.specs.Meaning.Number.{Ω}
use Rattle.exact.specs.Meaning.Matrix.{Matrix, unit, ◌·◌}
use Rattle.exact.specs.Meaning.Word.{Letter, I, H, S, X, W, T'}
use Rattle.exact.specs.Meaning.Text.{ascii}
use Rattle.circuit.specs.declared.Edition as Declared
use Rattle.circuit.specs.declared.Edition.TheVariants.{Two, Three}

-- ---- editions, and what differs between them
pub data Edition : Type 0 where
  two three : Edition

-- as the functions are handed it
abbrev pub edition_of : Declared.Edition → Edition
edition_of Two = two
edition_of Three = three

pub record Row : Type 0 where
  pub version : String
  pub include : String
  pub qubit : String
  pub has_phase : Bool

abbrev pub row : Edition → Row
row two = record { version = "OPENQASM 2.0;"; include = "include \"qelib1.inc\";"; qubit = "qreg q[1];"; has_phase = false }
row three = record { version = "OPENQASM 3.0;"; include = "include \"stdgates.inc\";"; qubit = "qubit[1] q;"; has_phase = true }

-- ---- statements; the phase only where the edition has it
pub data Statement : Type 0 where
  h' s' t' x' sdg tdg gphase : Statement

abbrev pub spelling : Statement → String
spelling h' = "h q[0];"
spelling s' = "s q[0];"
spelling t' = "t q[0];"
spelling x' = "x q[0];"
spelling sdg = "sdg q[0];"
spelling tdg = "tdg q[0];"
spelling gphase = "gphase(pi/4);"

-- p: whether there is a phase
abbrev pub allowed : Bool → Statement → Bool
allowed p h' = true
allowed p s' = true
allowed p t' = true
allowed p x' = true
allowed p sdg = true
allowed p tdg = true
allowed p gphase = p

abbrev pub AllAllowed : Bool → List Statement → Type 0
AllAllowed p [] = Unit {0}
AllAllowed p (a ∷ c) = T (allowed p a) × AllAllowed p c

-- ---- texts: three lines, then a line for each statement, an LF after each
abbrev pub line : String → List ℕ
line t = ascii t ++ (10 ∷ [])

abbrev pub header : Edition → List ℕ
header e = line (row e).version ++ (line (row e).include ++ line (row e).qubit)

abbrev pub lines : List Statement → List ℕ
lines [] = []
lines (a ∷ c) = line (spelling a) ++ lines c

abbrev pub text : Edition → List Statement → List ℕ
text e c = header e ++ lines c

pub record TextOf (s : List ℕ) (e : Edition) (c : List Statement) : Type 0 where
  pub is : s ≡ text e c
  pub all_allowed : AllAllowed (row e).has_phase c

-- a text of one of the two editions
pub record Right (s : List ℕ) : Type 0 where
  pub edition : Edition
  pub circuit : List Statement
  pub right : TextOf s edition circuit

-- ---- a circuit's letters: its first statement is the rightmost
abbrev pub read_as : Statement → List Letter
read_as h' = H ∷ []
read_as s' = S ∷ []
read_as t' = T' ∷ []
read_as x' = X ∷ []
read_as sdg = S ∷ S ∷ S ∷ []
read_as tdg = T' ∷ S ∷ S ∷ S ∷ []
read_as gphase = W ∷ []

abbrev pub letters : List Statement → List Letter
letters [] = []
letters (a ∷ c) = letters c ++ read_as a

-- the letters that a right text is read as
pub record Reads (s : List ℕ) (v : List Letter) : Type 0 where
  pub right : Right s
  pub is : v ≡ letters right.circuit

-- ---- a word's circuit: a statement for each letter, the rightmost first, and none for I
abbrev pub statement_of : Letter → List Statement
statement_of I = []
statement_of H = h' ∷ []
statement_of S = s' ∷ []
statement_of X = x' ∷ []
statement_of W = gphase ∷ []
statement_of T' = t' ∷ []

abbrev pub circuit : List Letter → List Statement
circuit [] = []
circuit (l ∷ u) = circuit u ++ statement_of l

-- a word less its letters I, which is what comes back
abbrev pub less_i : List Letter → List Letter
less_i [] = []
less_i (I ∷ u) = less_i u
less_i (H ∷ u) = H ∷ less_i u
less_i (S ∷ u) = S ∷ less_i u
less_i (X ∷ u) = X ∷ less_i u
less_i (W ∷ u) = W ∷ less_i u
less_i (T' ∷ u) = T' ∷ less_i u

-- ---- a circuit's own matrix, by OpenQASM's gates: i is omega squared, e^(i pi/4) is omega; the last statement is leftmost
abbrev ring : ℤ → ℤ → ℤ → ℤ → Ω
ring a b c d = record { a = a; b = b; c = c; d = d }

abbrev zero' : Ω
zero' = ring (pos 0) (pos 0) (pos 0) (pos 0)

abbrev one' : Ω
one' = ring (pos 0) (pos 0) (pos 0) (pos 1)

-- diag(x, y)
abbrev diagonal : Ω → Ω → Matrix
diagonal x y = record { m = record { p = x; q = zero'; r = zero'; s = y }; e = 0 }

abbrev pub gate : Statement → Matrix
gate h' = record { m = record { p = one'; q = one'; r = one'; s = ring (pos 0) (pos 0) (pos 0) (negsuc 0) }; e = 1 }
gate s' = diagonal one' (ring (pos 0) (pos 1) (pos 0) (pos 0))
gate t' = diagonal one' (ring (pos 0) (pos 0) (pos 1) (pos 0))
gate x' = record { m = record { p = zero'; q = one'; r = one'; s = zero' }; e = 0 }
gate sdg = diagonal one' (ring (pos 0) (negsuc 0) (pos 0) (pos 0))
gate tdg = diagonal one' (ring (negsuc 0) (pos 0) (pos 0) (pos 0))
gate gphase = diagonal (ring (pos 0) (pos 0) (pos 1) (pos 0)) (ring (pos 0) (pos 0) (pos 1) (pos 0))

abbrev pub matrix : List Statement → Matrix
matrix [] = unit
matrix (a ∷ c) = matrix c · gate a
