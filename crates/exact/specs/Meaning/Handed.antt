-- What is handed back of a result (docs/SCOPE.md, Refusals): of a refusal its number and its place, which is 0 unless it names one.
use Rattle.std.specs.Prelude.{ℕ, Result, Ok, Err}
use Rattle.exact.specs.declared.Refusal.{Refusal}
use Rattle.exact.specs.Meaning.Limits as Limits

abbrev pub number : Refusal → ℕ
number Refusal.Long = Limits.long_refusal
number (Refusal.Letter p) = Limits.letter_refusal
number Refusal.Exponent = Limits.exponent_refusal
number Refusal.Coefficient = Limits.coefficient_refusal
number Refusal.Unitary = Limits.unitary_refusal
number (Refusal.Deep p) = Limits.deep_refusal
number Refusal.Room = Limits.room_refusal
number Refusal.Record = Limits.record_refusal
number (Refusal.Statement p) = Limits.statement_refusal
number (Refusal.Phase p) = Limits.phase_refusal
number Refusal.Slot = Limits.slot_refusal
number Refusal.Full = Limits.full_refusal

abbrev pub place : Refusal → ℕ
place Refusal.Long = 0
place (Refusal.Letter p) = p
place Refusal.Exponent = 0
place Refusal.Coefficient = 0
place Refusal.Unitary = 0
place (Refusal.Deep p) = p
place Refusal.Room = 0
place Refusal.Record = 0
place (Refusal.Statement p) = p
place (Refusal.Phase p) = p
place Refusal.Slot = 0
place Refusal.Full = 0

-- `taken` makes what is handed back of an answer, `refused` of a refusal's number and place
module _ {A R : Type 0} (refused : ℕ → ℕ → R) (taken : A → R) where
  abbrev pub handed : Result A Refusal → R
  handed (Ok a) = taken a
  handed (Err e) = refused (number e) (place e)

-- of a check: its refusal's number, or 0
abbrev pub checked : {A : Type 0} → Result A Refusal → ℕ
checked (Ok a) = Limits.no_refusal
checked (Err e) = number e
