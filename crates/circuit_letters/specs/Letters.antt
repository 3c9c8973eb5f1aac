-- What is promised of a right text's letters as they are put, from the right. Assumes nothing.
use Rattle.std.specs.Prelude.{◌≡◌, List, ◌++◌, ℕ, suc, ◌+◌, ◌≤◌, length, drop, set}
use Rattle.std.proofs.lemmas.List.Edits.{sets}
use Rattle.exact.specs.Meaning.Word.{Letter, bytes}
use Rattle.exact.specs.Meaning.Lent.{over}
use Rattle.circuit.specs.Meaning.{Statement, read_as, Reads}
use Rattle.circuit.specs.Lines.{line_of}
use Rattle.circuit_letters.specs.declared.Step.{Step}

-- a byte, and a text, before the place `left`; r is then their own
pub record Before (old : List ℕ) (left b : ℕ) (new : List ℕ) (r : ℕ) : Type 0 where
  pub left_is : left ≡ suc r
  pub is : new ≡ set old r b

pub record PutsBefore (old : List ℕ) (left : ℕ) (t new : List ℕ) (r : ℕ) : Type 0 where
  pub left_is : left ≡ r + length t
  pub is : new ≡ sets old r t

-- at a place stands a statement, whose letters have room before `left`
pub record Stands (s : List ℕ) (at left room : ℕ) : Type 0 where
  pub statement : Statement
  pub rest : List ℕ
  pub there : drop at s ≡ line_of statement ++ rest
  pub enough : length (read_as statement) ≤ left
  pub within : left ≤ room

pub record Stepped (a : Statement) (at left : ℕ) (old : List ℕ) (r : Step) (new : List ℕ) : Type 0 where
  pub next : r.at ≡ at + length (line_of a)
  pub put : PutsBefore old left (bytes (read_as a)) new r.left

pub record PutsStatement (s : List ℕ) (at left : ℕ) (old : List ℕ) (r : Step) (new : List ℕ) : Type 0 where
  pub puts : (a : Statement) (rest : List ℕ) → drop at s ≡ line_of a ++ rest → Stepped a at left old r new

pub record PutsLetters (s old new : List ℕ) : Type 0 where
  pub puts : (v : List Letter) → Reads s v → new ≡ over (bytes v) old
