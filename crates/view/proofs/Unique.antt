-- Two outcomes of job 7 for one input are equal, float by float, and so are the results that they are read from. Assumes nothing.
use Rattle.std.specs.Prelude.{◌≡◌, refl, ℕ, ℤ, Float, Result, Ok}
use Rattle.std.proofs.Common.{sym, ◌∙◌, ap}
use Rattle.exact.specs.Meaning.Triple.{Triple}
use Rattle.exact.specs.Meaning.Refusals.{checks}
use Rattle.exact.specs.declared.Refusal.{Refusal}
use Rattle.exact.proofs.Outcomes.Ladder.{Only, one_outcome}
use Rattle.exact.proofs.Outcomes.Checked.{checks_one}
use Rattle.ring.specs.Meaning.{quad}
use Rattle.ring.specs.declared.ZOmega.{ZOmega}
use Rattle.unitary.specs.Meaning.{given}
use Rattle.unitary.specs.Results.{result_told}
use Rattle.view.specs.Meaning.Surd.{Surd}
use Rattle.view.specs.Meaning.Near.{Shows}
use Rattle.view.specs.Meaning.Outcome.{Answer, Viewed, refused, as_answer, Views, ViewOutcome}
use Rattle.view.specs.declared.matrix.View.{View}

pub shows_unique : {q : Surd} {r r' : Float} → Shows q r → Shows q r' → r ≡ r'
shows_unique a b = a.is ∙ sym b.is

view_path : {v v' : View} → v.re00 ≡ v'.re00 → v.im00 ≡ v'.im00 → v.re01 ≡ v'.re01 → v.im01 ≡ v'.im01
    → v.re10 ≡ v'.re10 → v.im10 ≡ v'.im10 → v.re11 ≡ v'.re11 → v.im11 ≡ v'.im11 → v ≡ v'
view_path a b c d e f g h = λ i. record { re00 = a i; im00 = b i; re01 = c i; im01 = d i; re10 = e i; im10 = f i; re11 = g i; im11 = h i }

pub viewed_unique : {t : Triple} {v v' : View} → Viewed t v → Viewed t v' → v ≡ v'
viewed_unique a b = view_path
    (shows_unique a.p.re_shown b.p.re_shown) (shows_unique a.p.im_shown b.p.im_shown)
    (shows_unique a.q.re_shown b.q.re_shown) (shows_unique a.q.im_shown b.q.im_shown)
    (shows_unique a.r.re_shown b.r.re_shown) (shows_unique a.r.im_shown b.r.im_shown)
    (shows_unique a.s.re_shown b.s.re_shown) (shows_unique a.s.im_shown b.s.im_shown)

pub view_unique : (k : ℤ) (n : ℕ) (z w : ZOmega) → Only (ViewOutcome k n z w)
view_unique k n z w = one_outcome refused (Views (given k n z w)) (checks k (quad z) (quad w)) (checks_one k (quad z) (quad w)) (λ h. one)
  where
    one : Only (Views (given k n z w))
    one r s a b = λ i. record { refusal = (a.taken ∙ sym b.taken) i; view = viewed_unique a.viewed b.viewed i }

-- ---- reading a result by its number loses nothing
pub view_result_unique : (k : ℤ) (n : ℕ) (z w : ZOmega) → Only (λ (r : Result View Refusal). ViewOutcome k n z w (as_answer r))
view_result_unique k n z w =
    result_told refused (λ (v : View). as_answer (Ok v)) (Views (given k n z w)) (λ (a : Answer). a.refusal) (λ m p. refl) (λ a x. x.taken) (λ v. refl)
    (λ v u e. ap (λ (a : Answer). a.view) e) k z w (view_unique k n z w)
