-- What the reader's functions promise one another: how far a text goes along, the statement at a place, the walk. Assumes nothing.
use Rattle.std.specs.Prelude.{◌≡◌, ◌⊎◌, Bool, true, List, ◌∷◌, ◌++◌, ℕ, ◌+◌, ◌<◌, ◌≤◌, T, length, take, drop, get_or, Option, Some, Result, Ok, Err}
use Rattle.exact.specs.Meaning.Limits as Limits
use Rattle.exact.specs.declared.Refusal.{Refusal}
use Rattle.exact.specs.Meaning.Handed.{number, place}
use Rattle.exact.specs.Outcomes.Enums.{Says}
use Rattle.exact.specs.Meaning.Refusals.{statement}
use Rattle.exact.specs.Meaning.Text.{ascii}
use Rattle.circuit_reader.specs.declared.Circuit.{Circuit}
use Rattle.circuit_reader.specs.declared.Line.{Line}
use Rattle.circuit.specs.Meaning.{Edition, Statement, allowed, header, Right, read_as}
use Rattle.circuit.specs.Lines.{line_of, OfCircuit}
use Rattle.circuit.specs.Stuck.{IsLine, Stuck}

-- r goes along with w for k bytes, and no more
pub record Along (r w : List ℕ) (k : ℕ) : Type 0 where
  pub upto_word : k ≤ length w
  pub upto : k ≤ length r
  pub along : take k r ≡ take k w
  pub differ : k < length w → k < length r → get_or r k 0 ≡ get_or w k 0 → ⊥

-- ---- refusal 9, at a place where P holds
pub record Stopped (P : ℕ → Type 0) (e : Refusal) : Type 0 where
  pub at : ℕ
  pub is : e ≡ Refusal.Statement at
  pub there : P at

-- ---- a line looked for at a place
pub record Less (s : List ℕ) (at : ℕ) (w : List ℕ) (place : ℕ) : Type 0 where
  pub k : ℕ
  pub is : place ≡ at + k
  pub less : k < length w
  pub along : Along (drop at s) w k

pub record Whole (s : List ℕ) (at : ℕ) (w : List ℕ) (next : ℕ) : Type 0 where
  pub is : next ≡ at + length w
  pub there : drop at s ≡ w ++ drop next s

abbrev pub MatchIs : List ℕ → ℕ → List ℕ → ℕ → Result Line Refusal → Type 0
MatchIs s at w n (Err e) = Stopped (Less s at w) e
MatchIs s at w n (Ok l) = (l.letters ≡ n) × Whole s at w l.next

-- ---- the statement at a place
pub record StopsAt (phase : Bool) (s : List ℕ) (at place : ℕ) : Type 0 where
  pub k : ℕ
  pub is : place ≡ at + k
  pub stuck : Stuck (IsLine phase) (drop at s) k

pub record Taken (phase : Bool) (s : List ℕ) (at next n : ℕ) : Type 0 where
  pub statement : Statement
  pub may : T (allowed phase statement)
  pub whole : Whole s at (line_of statement) next
  pub count : n ≡ length (read_as statement)

abbrev pub LineIs : Bool → List ℕ → ℕ → Result Line Refusal → Type 0
LineIs phase s at (Err e) = Stopped (StopsAt phase s at) e
LineIs phase s at (Ok l) = Taken phase s at l.next l.letters

-- a gate's name is one byte
pub record GateNamed (b : ℕ) : Type 0 where
  pub statement : Statement
  pub named : line_of statement ≡ b ∷ ascii " q[0];\n"
  pub one : length (read_as statement) ≡ 1
  pub may : (phase : Bool) → T (allowed phase statement)

-- sdg or tdg
pub record DaggerNamed (s : List ℕ) (n : ℕ) : Type 0 where
  pub statement : Statement
  pub whole : s ≡ line_of statement ++ drop 10 s
  pub long : length (line_of statement) ≡ 10
  pub count : n ≡ length (read_as statement)
  pub may : (phase : Bool) → T (allowed phase statement)

-- where a line is told at once, its tail and its name are there; nothing is said where it is not
pub record TailIs (s : List ℕ) (r : Bool) : Type 0 where
  pub there : r ≡ true → s ≡ ascii " q[0];\n" ++ drop 7 s

pub record GateIs (b : ℕ) (r : Bool) : Type 0 where
  pub gate : r ≡ true → GateNamed b

-- so many letters; nothing is said where there are none
pub record DaggerIs (s : List ℕ) (r : Option ℕ) : Type 0 where
  pub there : (n : ℕ) → r ≡ Some n → DaggerNamed s n

pub record SameIs (s w : List ℕ) (r : Bool) : Type 0 where
  pub there : r ≡ true → s ≡ w ++ drop (length w) s

-- ---- the walk
-- the one edition whose header the text's tenth byte does not tell it from
pub record Heading (s : List ℕ) (edition : Edition) : Type 0 where
  pub others : (d : Edition) → (d ≡ edition) ⊎ (get_or s 9 0 ≡ get_or (header d) 9 0 → ⊥)

-- an edition's header, which ends at a place
pub record Headed (s : List ℕ) (start : ℕ) (edition : Edition) : Type 0 where
  pub start_is : start ≡ length (header edition)
  pub there : s ≡ header edition ++ drop start s

-- each case by its refusal and place
abbrev pub refusal_of : Result Circuit Refusal → ℕ × ℕ
refusal_of (Err e) = (number e, place e)
refusal_of (Ok c) = (Limits.no_refusal, 0)

abbrev pub CircuitIs : List ℕ → Result Circuit Refusal → Type 0
CircuitIs s (Err e) = ⊥
CircuitIs s (Ok c) = OfCircuit s c.start c.letters

abbrev pub WalkIs : List ℕ → Result Circuit Refusal → Type 0
WalkIs s r = Says (refusal_of r) (statement Right s) (CircuitIs s r)
