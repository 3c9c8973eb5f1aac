-- The ways out of `second_way`: a lemma for each, over plain values. Assumes nothing.
use Rattle.std.specs.Prelude.{◌≡◌, refl, List, ℕ, ℤ, pos, Result, Ok, Err}
use Rattle.std.proofs.Common.{◌∙◌, subst, SFits, to_z-of_z}
use Rattle.std.specs.Int.{w64}
use Rattle.exact.specs.declared.Refusal.{Refusal}
use Rattle.exact.specs.Meaning.Handed.{number, place}
use Rattle.exact.specs.Meaning.Outcome.{Rung}
use Rattle.exact.specs.Meaning.Lent.{lent}
use Rattle.exact.proofs.Whole.Machine.{held}
use Rattle.exact.proofs.Outcomes.Handed.{number_some}
use Rattle.unitary.specs.declared.DOmegaUnitary.{DOmegaUnitary}
use Rattle.unitary.specs.Meaning.{FromGates, as_from_gates}
use Rattle.normal_form.specs.declared.Counts.{Counts}
use Rattle.normal_form.specs.Meaning.{Written, refused, written}
use Rattle.synthesis_of_clifford_t.specs.declared.Spelt.{Spelt}
use Rattle.synthesis_of_clifford_t.specs.Meaning.{synthesised, SynthesiseOutcome}
use Rattle.synthesis_of_clifford_t.proofs.Results.{placeless}
use Rattle.agreement.specs.Meaning.Agree.{Second}

module _ (m : Result DOmegaUnitary Refusal) (old : List ℕ) where
  -- a refusal of job 2
  pub stopped_before : (e : Refusal) → m ≡ Err e → Second (as_from_gates m) old (written (Err e)) old
  stopped_before e is = rw is (Rung.given (place e) (number_some e, refl) refl)

  -- job 4, asked for job 2's matrix, its exponent as the machine reads it back
  module _ (t : DOmegaUnitary) (is : m ≡ Ok t) (k : ℤ) (fits : SFits w64 k) (k_is : k ≡ pos t.k) (new : List ℕ) where
    abbrev Asked : ℤ → Result Spelt Refusal → Type 0
    Asked k r = SynthesiseOutcome k t.n t.z t.w old (synthesised r) new

    of_k : (r : Result Spelt Refusal) → Asked (held w64 k) r → Asked (pos t.k) r
    of_k r = subst (λ (k : ℤ). Asked k r) (to_z-of_z fits ∙ k_is)

    pub refused_behind : (e : Refusal) → Asked (held w64 k) (Err e) → Second (as_from_gates m) old (written (Err e)) new
    refused_behind e o =
        rw (is, placeless (held w64 k) t.n t.z t.w old new e o)
        (Rung.passed (λ p h. h.0 refl) (record { job = lent (synthesised (Err e)) new; outcome = of_k (Err e) o; is = refl }))

    pub went_on : (s : Spelt) → Asked (held w64 k) (Ok s) → Second (as_from_gates m) old (written (Ok (record { bytes = s.bytes; tees = s.tees }))) new
    went_on s o = rw is (Rung.passed (λ p h. h.0 refl) (record { job = lent (synthesised (Ok s)) new; outcome = of_k (Ok s) o; is = refl }))
