-- No useless program meets the writer's or the reader's promise: each is refuted, at every input or at one. Assumes nothing.
use Rattle.std.specs.Prelude.{◌≡◌, refl, List, [], ◌∷◌, ℕ, zero, suc, ◌≤◌, length, get_or}
use Rattle.std.proofs.Common.{◌∙◌, ap, arith, lit≤}
use Rattle.exact.specs.Meaning.Word.{Letter, I, H, T', bytes, Spelled}
use Rattle.exact.specs.Meaning.Text.{Stops}
use Rattle.exact.specs.Meaning.Limits.{longest, no_refusal}
use Rattle.exact.specs.Meaning.Limits as Limits
use Rattle.exact.specs.Meaning.Outcome.{none, ◌then◌}
use Rattle.exact.specs.Meaning.Lent.{lent, over, untouched, Writes}
use Rattle.exact.specs.Meaning.Refusals.{long_answer, room, statement}
use Rattle.exact.proofs.Cases.Letters.{bytes_length, bytes_inj, none_outside}
use Rattle.exact.proofs.Outcomes.Ladder.{Passed, only_refused}
use Rattle.exact.proofs.Outcomes.Places.{one_stop}
use Rattle.exact.proofs.Outcomes.Lent.{handed_same, bytes_same}
use Rattle.circuit.specs.Meaning.{Edition, two, three, row, Statement, h', t', sdg, tdg, AllAllowed, text, Right, letters, circuit, Reads}
use Rattle.qasm.specs.Meaning.{Written, refused, accepted, Circuits, write_refusals, WriteOutcome, ReadOutcome}
use Rattle.qasm.specs.RoundTrip.{only_read, written}

-- ---- the reader: a place of 9 that is one late, or any other, at every text that is not right
module _ (s old : List ℕ) (p : ℕ) (h : Stops Right s p) (r : Written) (new : List ℕ) where
  only_place : ReadOutcome s old r new → lent r new ≡ lent (refused Limits.statement_refusal p) old
  only_place =
      only_refused (untouched refused old) (Writes bytes (λ v. accepted (bytes v)) (Reads s) old) (statement Right s) one_stop p h none
      (long_answer (Reads s) then room bytes (Reads s) old then none) tt (lent r new)

  pub one_late : ReadOutcome s old r new → r.place ≡ suc p → ⊥
  one_late o e = omega (arith, ap (λ (x : Written). x.place) (handed_same (only_place o)))

  pub accepts_all : ReadOutcome s old r new → r.refusal ≡ no_refusal → ⊥
  accepts_all o e = omega (arith, ap (λ (x : Written). x.refusal) (handed_same (only_place o)))

-- ---- at short inputs
abbrev dots : ℕ → List ℕ
dots zero = []
dots (suc n) = 46 ∷ dots n

-- a word in 3.0, where there is room
module _ (u : List Letter) (old : List ℕ) (short : length u ≤ longest) (enough : length (text three (circuit u)) ≤ length old) where
  passes : Passed (write_refusals three (bytes u) old)
  passes = (
    (λ p k. omega (arith, k.0, bytes_length u)),
    (
      none_outside u,
      ((λ p k. omega (arith, k.0.more, same k.0.v k.0.answer)), tt),
    ),
  )
    where
      same : (c : List Statement) → Spelled Circuits (bytes u) c → length (text three c) ≡ length (text three (circuit u))
      same c x = ap (λ d. length (text three d)) (x.holds ∙ ap circuit (bytes_inj x.letters u x.spelled))

  only_written : {r : Written} {new : List ℕ} → WriteOutcome three (bytes u) old r new
      → lent r new ≡ lent (accepted (text three (circuit u))) (over (text three (circuit u)) old)
  only_written {r} {new} = written three u old passes r new

-- refuses all
pub refuses_all_write : (r : Written) (new : List ℕ) → WriteOutcome three [] (dots 50) r new → r.refusal ≡ no_refusal
refuses_all_write r new o = ap (λ (x : Written). x.refusal) (handed_same (only_written [] (dots 50) (lit≤ tt) (lit≤ tt) o))

module _ (e : Edition) (c : List Statement) (may : AllAllowed (row e).has_phase c) (old : List ℕ) (short : length (letters c) ≤ longest)
    (enough : length (letters c) ≤ length old) where
  only_letters : {r : Written} {new : List ℕ} → ReadOutcome (text e c) old r new
      → lent r new ≡ lent (accepted (bytes (letters c))) (over (bytes (letters c)) old)
  only_letters {r} {new} =
      only_read (text e c) (letters c)
      (record { right = record { edition = e; circuit = c; right = record { is = refl; all_allowed = may } }; is = refl }) old short enough r new

pub refuses_all_read : (r : Written) (new : List ℕ) → ReadOutcome (text two []) [] r new → r.refusal ≡ no_refusal
refuses_all_read r new o = ap (λ (x : Written). x.refusal) (handed_same (only_letters two [] tt [] (lit≤ tt) (lit≤ tt) o))

-- the letter I as a statement: behind the header nothing is written
pub I_as_a_statement : (r : Written) (new : List ℕ) → WriteOutcome three (bytes (I ∷ [])) (dots 58) r new → r.bytes ≡ 50
I_as_a_statement r new o = ap (λ (x : Written). x.bytes) (handed_same (only_written (I ∷ []) (dots 58) (lit≤ tt) (lit≤ tt) o))

-- statements in reading order: of the word HT, t comes first
pub in_reading_order : (r : Written) → WriteOutcome three (bytes (H ∷ T' ∷ [])) (dots 66) r (text three (h' ∷ t' ∷ [])) → ⊥
in_reading_order r o =
    omega (arith, ap (λ (t : List ℕ). get_or t 50 0) (bytes_same (only_written (H ∷ T' ∷ []) (dots 66) (lit≤ tt) (lit≤ tt) o)))

-- letters in reading order: of a circuit that begins with h and ends with t, T is leftmost
pub letters_in_reading_order : (r : Written) → ReadOutcome (text two (h' ∷ t' ∷ [])) (dots 2) r (bytes (H ∷ T' ∷ [])) → ⊥
letters_in_reading_order r o =
    omega (arith, ap (λ (t : List ℕ). get_or t 0 0) (bytes_same (only_letters two (h' ∷ t' ∷ []) (tt, (tt, tt)) (dots 2) (lit≤ tt) (lit≤ tt) o)))

-- sdg read as S, tdg as T
pub sdg_as_S : (r : Written) (new : List ℕ) → ReadOutcome (text two (sdg ∷ [])) (dots 3) r new → r.bytes ≡ 3
sdg_as_S r new o = ap (λ (x : Written). x.bytes) (handed_same (only_letters two (sdg ∷ []) (tt, tt) (dots 3) (lit≤ tt) (lit≤ tt) o))

pub tdg_as_T : (r : Written) (new : List ℕ) → ReadOutcome (text two (tdg ∷ [])) (dots 4) r new → r.bytes ≡ 4
tdg_as_T r new o = ap (λ (x : Written). x.bytes) (handed_same (only_letters two (tdg ∷ []) (tt, tt) (dots 4) (lit≤ tt) (lit≤ tt) o))
