-- Two outcomes that the writer, or the reader, allows for one input are equal, and so are the results that are handed back as them. Assumes nothing.
use Rattle.std.specs.Prelude.{◌≡◌, refl, List, ℕ, Result, Ok}
use Rattle.std.proofs.Common.{sym, ◌∙◌, ap}
use Rattle.exact.specs.Meaning.Word.{bytes, Spelled}
use Rattle.exact.specs.Meaning.Lent.{Lent, untouched, Writes}
use Rattle.exact.specs.declared.Refusal.{Refusal}
use Rattle.exact.proofs.Outcomes.Handed.{one_result}
use Rattle.exact.proofs.Outcomes.Ladder.{OnePlace, one_outcome}
use Rattle.exact.proofs.Outcomes.Places.{one_plain, one_letter, one_first, one_stop, one_spelled}
use Rattle.exact.proofs.Outcomes.Lent.{one_written}
use Rattle.circuit.specs.Meaning.{Edition, two, three, text, Reads}
use Rattle.qasm.specs.Meaning.{Written, refused, accepted, written, Circuits, write_refusals, WriteOutcome, read_refusals, ReadOutcome}
use Rattle.circuit.proofs.Lines.{one_reading}

one_place : (e : Edition) (w old : List ℕ) → OnePlace (write_refusals e w old)
one_place two w old = (one_plain, (one_letter, (one_first, (one_plain, tt))))
one_place three w old = (one_plain, (one_letter, (one_plain, tt)))

module _ (old : List ℕ) (r s : Lent Written) where
  pub write_unique : (e : Edition) (w : List ℕ) → WriteOutcome e w old r.handed r.buffer → WriteOutcome e w old s.handed s.buffer → r ≡ s
  write_unique e w =
      one_outcome (untouched refused old) (Writes (text e) (λ c. accepted (text e c)) (Spelled Circuits w) old)
      (write_refusals e w old) (one_place e w old)
      (λ h. one_written (text e) (λ c. accepted (text e c)) (Spelled Circuits w) old (one_spelled Circuits (λ u c d x y. x ∙ sym y) w)) r s

  pub read_unique : (t : List ℕ) → ReadOutcome t old r.handed r.buffer → ReadOutcome t old s.handed s.buffer → r ≡ s
  read_unique t =
      one_outcome (untouched refused old) (Writes bytes (λ v. accepted (bytes v)) (Reads t) old)
      (read_refusals t old) (one_stop, (one_plain, (one_plain, tt)))
      (λ h. one_written bytes (λ v. accepted (bytes v)) (Reads t) old (one_reading t)) r s

-- nothing of a result is lost
pub written_tells : (r s : Result ℕ Refusal) → written r ≡ written s → r ≡ s
written_tells =
    one_result refused (λ n. written (Ok n)) (λ (w : Written). w.refusal) (λ (w : Written). w.place) (λ n p. refl) (λ n p. refl) (λ n. refl)
    (λ a b e. ap (λ (w : Written). w.bytes) e)
