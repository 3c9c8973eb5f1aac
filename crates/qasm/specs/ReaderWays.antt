-- The ways out of the reader: a lemma for each, over plain values. Assumes nothing.
use Rattle.std.specs.Prelude.{◌≡◌, List, ℕ, ◌<◌, ◌≤◌, length, Result, Ok, Err}
use Rattle.std.proofs.Math.Path.{refl, sym}
use Rattle.std.proofs.Common.{◌∙◌, ap, subst, arith}
use Rattle.exact.specs.Meaning.Word.{Letter, bytes}
use Rattle.exact.specs.Meaning.Limits.{longest, room_refusal}
use Rattle.exact.specs.declared.Refusal.{Refusal as Refused}
use Rattle.exact.specs.Meaning.Handed.{number, place}
use Rattle.exact.specs.Meaning.Outcome.{Rung}
use Rattle.exact.specs.Meaning.Refusals.{statement}
use Rattle.exact.specs.Meaning.Lent.{lent}
use Rattle.exact.specs.Meaning.Text.{Stops}
use Rattle.exact.proofs.Cases.Letters.{bytes_length}
use Rattle.exact.proofs.Outcomes.Lent as Lent
use Rattle.circuit_reader.specs.declared.Circuit.{Circuit}
use Rattle.circuit.specs.Meaning.{Right, letters, Reads}
use Rattle.qasm.specs.Meaning.{Written, refused, accepted, written, ReadOutcome}
use Rattle.circuit.specs.Lines.{OfCircuit}
use Rattle.circuit.proofs.Lines.{one_reading}
use Rattle.circuit_reader.specs.Reading.{WalkIs}
use Rattle.circuit_letters.specs.Letters.{PutsLetters}
use Rattle.qasm.specs.WriterWays.{stays, says_given}

-- ---- not a right text
pub no_text : (s old : List ℕ) (x : Result Circuit Refused) (f : Refused) → WalkIs s x → x ≡ Err f → ReadOutcome s old (written (Err f)) old
no_text s old x f o g =
    let h = says_given (number f) (place f) (statement Right s) (subst (WalkIs s) g o) in
    Rung.given (place f) h.1 (stays old (ap (λ n. refused n (place f)) h.0))

pub of_circuit : (s : List ℕ) (x : Result Circuit Refused) (c : Circuit) → WalkIs s x → x ≡ Ok c → OfCircuit s c.start c.letters
of_circuit s x c o g = subst (WalkIs s) g o

-- ---- a right text
module _ (s old : List ℕ) (start n : ℕ) (h : OfCircuit s start n) where
  v : List Letter
  v = letters h.right.circuit

  reads : Reads s v
  unfolding v
  reads = record { right = h.right; is = refl }

  many : length v ≡ n
  unfolding v
  many = sym h.count

  is_right : (p : ℕ) → Stops Right s p → ⊥
  is_right p k = k.wrong h.right

  pub too_many : longest < n → ReadOutcome s old (written (Err Refused.Long)) old
  too_many l = Rung.passed is_right (Rung.given 0 (record { v = v; answer = reads; more = omega (arith, many) }, refl) refl)

  -- the letters are v alone
  below : (r : Written) (new : List ℕ) → n ≤ longest → Lent.Written bytes (λ w. accepted (bytes w)) (λ w. w ≡ v) old refused (lent r new)
      → ReadOutcome s old r new
  below r new l o =
      Rung.passed is_right
      (Rung.passed (λ p k. omega (arith, k.0.more, many, ap length (one_reading s k.0.v v k.0.answer reads)))
      (Lent.written_as bytes (λ w. accepted (bytes w)) (λ w. accepted (bytes w)) (λ w. w ≡ v) (Reads s) old refused refused
      (λ x. x) (λ n p. refl) (λ w. refl) (λ w e. subst (Reads s) (sym e) reads) (λ w k. one_reading s w v k reads) (lent r new) o))

  pub no_room_read : n ≤ longest → length old < n → ReadOutcome s old (written (Err Refused.Room)) old
  no_room_read l k =
      below (refused room_refusal 0) old l
      (Lent.no_room bytes (λ w. accepted (bytes w)) v old refused (refused room_refusal 0) (omega (arith, many, bytes_length v)) refl)

  pub was_read : (new : List ℕ) → n ≤ longest → n ≤ length old → PutsLetters s old new → ReadOutcome s old (written (Ok n)) new
  was_read new l k p =
      below (written (Ok n)) new l
      (Lent.written_whole bytes (λ w. accepted (bytes w)) v old refused (written (Ok n)) new (omega (arith, many, bytes_length v))
      (ap (λ i. written (Ok i)) (sym (bytes_length v ∙ many))) (p.puts v reads))
