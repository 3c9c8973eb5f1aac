-- Job 6: two allowed answers are equal. Assumes nothing.
use Rattle.std.specs.Prelude.{◌≡◌, refl, ℕ, zero, suc}
use Rattle.std.proofs.Common.{sym, ◌∙◌, ap}
use Rattle.exact.specs.Meaning.Matrix.{Same}
use Rattle.exact.specs.Meaning.Word.{word}
use Rattle.exact.proofs.Matrices.Same.{Same-sym, Same-trans}
use Rattle.exact.proofs.Matrices.Words.{strike_word}
use Rattle.exact.proofs.Unique.Tails.{clifford_unique}
use Rattle.clifford.specs.declared.Axis.{Axis}
use Rattle.clifford.specs.declared.Clifford.{Clifford}
use Rattle.clifford.specs.declared.Coset.{Coset}
use Rattle.clifford.specs.Meaning.{quad, letters, axis_number, axis_word, Ranged, Product, Inverse, Split}

same_quad : (q r : Clifford) → quad q ≡ quad r → q ≡ r
same_quad q r e = λ i. record { a = (e i).a; b = (e i).b; c = (e i).c; d = (e i).d }

pub one_Clifford : (q r : Clifford) → Ranged q → Ranged r → Same (word (letters q)) (word (letters r)) → q ≡ r
one_Clifford q r hq hr h = same_quad q r (clifford_unique (quad q) (quad r) hq hr h)

pub Product-unique : (x y r s : Clifford) → Product x y r → Product x y s → r ≡ s
Product-unique x y r s p q = one_Clifford r s p.ranged q.ranged (Same-trans p.same (Same-sym q.same))

pub Inverse-unique : (x r s : Clifford) → Inverse x r → Inverse x s → r ≡ s
Inverse-unique x r s p q =
    one_Clifford r s p.ranged q.ranged (strike_word (letters x) (letters r) (letters s) (Same-trans p.after (Same-sym q.after)))

abbrev axis_of : ℕ → Axis
axis_of zero = Axis.I
axis_of (suc zero) = Axis.H
axis_of (suc (suc n)) = Axis.SH

axis_read : (x : Axis) → axis_of (axis_number x) ≡ x
axis_read Axis.I = refl
axis_read Axis.H = refl
axis_read Axis.SH = refl

pub axis_at_lem : (x y : Axis) → axis_number x ≡ axis_number y → x ≡ y
axis_at_lem x y e = sym (axis_read x) ∙ ap axis_of e ∙ axis_read y

pub Split-unique : (x : Clifford) (r s : Coset) → Split x r → Split x s → r ≡ s
Split-unique x r s p q = λ i. record { axis = axes i; rest = rests i }
  where
    axes : r.axis ≡ s.axis
    axes = axis_at_lem r.axis s.axis (p.axis_is ∙ sym q.axis_is)

    rests : r.rest ≡ s.rest
    rests =
        one_Clifford r.rest s.rest p.ranged q.ranged
        (strike_word (axis_word r.axis) (letters r.rest) (letters s.rest)
        (Same-trans (Same-sym p.same) (rw axes q.same)))
