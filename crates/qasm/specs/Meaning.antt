-- What the writer and the reader of circuits promise (docs/SCOPE.md, Jobs): their refusals in order, or the answer in the lent bytes.
use Rattle.std.specs.Prelude.{◌≡◌, Bool, true, false, List, ℕ, length, Result}
use Rattle.exact.specs.declared.Refusal as Refused
use Rattle.exact.specs.Meaning.Handed.{handed}
use Rattle.exact.specs.Meaning.Word.{Letter, bytes, Spelled}
use Rattle.exact.specs.Meaning.Limits.{no_refusal}
use Rattle.exact.specs.Meaning.Outcome.{Refusal, Refusals, none, ◌then◌, Outcome}
use Rattle.exact.specs.Meaning.Lent.{lent, untouched, Writes}
use Rattle.exact.specs.Meaning.Refusals.{long, long_answer, letter, phase, statement, room}
use Rattle.circuit.specs.Meaning.{Edition, row, Statement, text, Right, circuit, Reads}

-- ---- what is handed back: the refusal or 0, its place, and the bytes written
pub record Written : Type 0 where
  pub refusal : ℕ
  pub place : ℕ
  pub bytes : ℕ

abbrev pub refused : ℕ → ℕ → Written
refused n p = record { refusal = n; place = p; bytes = 0 }

abbrev pub accepted : List ℕ → Written
accepted t = record { refusal = no_refusal; place = 0; bytes = length t }

-- of a result, whose value is the bytes
abbrev pub written : Result ℕ Refused.Refusal → Written
written = handed refused (λ n. record { refusal = no_refusal; place = 0; bytes = n })

-- ---- the writer: long, letter, phase where the edition has none, room, or the text of the circuit of the word's letters
abbrev pub Circuits : List Letter → List Statement → Type 0
Circuits u c = c ≡ circuit u

abbrev pub unless : Bool → Refusal → Refusals → Refusals
unless true f fs = fs
unless false f fs = f then fs

module _ (e : Edition) (w old : List ℕ) where
  abbrev pub write_refusals : Refusals
  write_refusals = long w then letter w then unless (row e).has_phase (phase w) (room (text e) (Spelled Circuits w) old then none)

  abbrev pub WriteOutcome : Written → List ℕ → Type 0
  WriteOutcome r new =
      Outcome (untouched refused old) (Writes (text e) (λ c. accepted (text e c)) (Spelled Circuits w) old) write_refusals (lent r new)

-- ---- the reader: statement, long by the letters read, room, or those letters
module _ (s old : List ℕ) where
  abbrev pub read_refusals : Refusals
  read_refusals = statement Right s then long_answer (Reads s) then room bytes (Reads s) old then none

  abbrev pub ReadOutcome : Written → List ℕ → Type 0
  ReadOutcome r new = Outcome (untouched refused old) (Writes bytes (λ v. accepted (bytes v)) (Reads s) old) read_refusals (lent r new)
