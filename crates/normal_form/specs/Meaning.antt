-- What jobs 3 and 5 promise (docs/SCOPE.md, Jobs): their refusals in order, or the answer in the lent bytes.
use Rattle.std.specs.Prelude.{List, ℕ, length, Result}
use Rattle.exact.specs.declared.Refusal.{Refusal}
use Rattle.exact.specs.Meaning.Word.{Letter as Gate, word, tees, bytes, Spelled}
use Rattle.exact.specs.Meaning.Normal.{NormalOf, PhaseFreeOf}
use Rattle.exact.specs.Meaning.Limits.{no_refusal}
use Rattle.exact.specs.Meaning.Outcome.{Refusals, none, ◌then◌, Outcome}
use Rattle.exact.specs.Meaning.Lent.{lent, untouched, Writes}
use Rattle.exact.specs.Meaning.Handed.{handed}
use Rattle.exact.specs.Meaning.Refusals.{long, letter, room}
use Rattle.normal_form.specs.declared.Counts.{Counts}

-- ---- the answer to a word u
-- job 3: the normal word with its matrix
abbrev pub Normalises : List Gate → List Gate → Type 0
Normalises u v = NormalOf (word u) v

-- job 5: that word's phase-free word
abbrev pub DropsPhase : List Gate → List Gate → Type 0
DropsPhase u v = PhaseFreeOf (word u) v

-- ---- what a writing job hands back: the refusal or 0, its place, the bytes written and the T letters among them
pub record Written : Type 0 where
  pub refusal : ℕ
  pub place : ℕ
  pub bytes : ℕ
  pub tees : ℕ

abbrev pub refused : ℕ → ℕ → Written
refused n p = record { refusal = n; place = p; bytes = 0; tees = 0 }

abbrev pub counts : List Gate → Written
counts v = record { refusal = no_refusal; place = 0; bytes = length v; tees = tees v }

-- of a result
abbrev pub written : Result Counts Refusal → Written
written = handed refused (λ c. record { refusal = no_refusal; place = 0; bytes = c.bytes; tees = c.tees })

-- ---- jobs 3 and 5: long, letter, room, or the answer to the word's letters, written
module _ (Answer : List Gate → List Gate → Type 0) (w old : List ℕ) where
  abbrev pub word_refusals : Refusals
  word_refusals = long w then letter w then room bytes (Spelled Answer w) old then none

  abbrev pub WordOutcome : Written → List ℕ → Type 0
  WordOutcome r new = Outcome (untouched refused old) (Writes bytes counts (Spelled Answer w) old) word_refusals (lent r new)

abbrev pub NormaliseOutcome : List ℕ → List ℕ → Written → List ℕ → Type 0
NormaliseOutcome w old r new = WordOutcome Normalises w old r new

abbrev pub PhaseFreeOutcome : List ℕ → List ℕ → Written → List ℕ → Type 0
PhaseFreeOutcome w old r new = WordOutcome DropsPhase w old r new
