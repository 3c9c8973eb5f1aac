-- The eight numbers of job 7's answer are no NaN, so that each has a bit pattern. Assumes nothing.
use Rattle.std.specs.Prelude.{Bool, not, ℕ, T, ℤ, Float, Ok}
use Rattle.std.specs.Float.{nan, inf, fin}
use Rattle.std.specs.Float.Ieee.{is_nan, of_bits}
use Rattle.std.specs.Float.Ieee.Exact.{HasValue}
use Rattle.exact.specs.Meaning.Triple.{Triple}
use Rattle.exact.specs.Meaning.Refusals.{checks}
use Rattle.exact.proofs.Outcomes.Ladder.{always}
use Rattle.ring.specs.Meaning.{quad}
use Rattle.ring.specs.declared.ZOmega.{ZOmega}
use Rattle.unitary.specs.Meaning.{given}
use Rattle.view.specs.Meaning.Surd.{Surd}
use Rattle.view.specs.Meaning.Near.{Shows}
use Rattle.view.specs.declared.matrix.View.{View}
use Rattle.view.specs.Meaning.Outcome.{Answer, as_answer, nil, nothing, refused, Views, ViewOutcome}
use Rattle.cases_view.specs.Finite.{Finite}

no_nan : (x : Float) (s : Bool) (a c : ℕ) → HasValue x s a c → T (not (is_nan x))
unfolding is_nan
no_nan nan s a c h = absurd h
no_nan (inf t) s a c h = tt
no_nan (fin t m e) s a c h = tt

shown : {q : Surd} {r : Float} → Shows q r → T (not (is_nan r))
shown {q} {r} h = no_nan r _ _ _ h.near.value

zero : T (not (is_nan nil))
unfolding is_nan of_bits
zero = tt

zeros : Finite nothing
zeros = record { re00 = zero; im00 = zero; re01 = zero; im01 = zero; re10 = zero; im10 = zero; re11 = zero; im11 = zero }

viewed : {t : Triple} (o : Answer) → Views t o → Finite o.view
viewed o h =
    let v = h.viewed in
    record {
      re00 = shown v.p.re_shown;
      im00 = shown v.p.im_shown;
      re01 = shown v.q.re_shown;
      im01 = shown v.q.im_shown;
      re10 = shown v.r.re_shown;
      im10 = shown v.r.im_shown;
      re11 = shown v.s.re_shown;
      im11 = shown v.s.im_shown;
    }

pub finite : (k : ℤ) (n : ℕ) (z w : ZOmega) (o : Answer) → ViewOutcome k n z w o → Finite o.view
finite k n z w =
    always refused (Views (given k n z w)) (λ (o : Answer). Finite o.view) (λ n p. zeros) (checks k (quad z) (quad w)) (λ h. viewed)

pub finite_view : (k : ℤ) (n : ℕ) (z w : ZOmega) (v : View) → ViewOutcome k n z w (as_answer (Ok v)) → Finite v
finite_view k n z w v = finite k n z w (as_answer (Ok v))
