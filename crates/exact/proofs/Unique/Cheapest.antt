-- No cheaper spelling: of all words with its matrix a normal word has the fewest T letters, and all have one parity; so too among the words whose
-- matrix is the same but for a phase, and there for a phase-free word. Assumes nothing.
use Rattle.std.specs.Prelude.{◌≡◌, refl, List, [], ◌∷◌, ℕ, ◌+◌, ◌%◌, ◌≤◌}
use Rattle.std.proofs.Common.{sym, subst, arith}
use Rattle.exact.specs.Meaning.Number.{omega^}
use Rattle.exact.specs.Meaning.Matrix.{Matrix, Same, scaled, ByOmega}
use Rattle.exact.specs.Meaning.Word.{Letter, S, T', word, tees, bytes, Spelled}
use Rattle.exact.specs.Meaning.Normal.{NormalOf, PhaseFreeOf}
use Rattle.exact.specs.Meaning.Cheapest.{Cheapest, NoCheaper}
use Rattle.exact.proofs.Matrices.Same.{Same-refl, Same-sym, Same-trans}
use Rattle.exact.proofs.Matrices.Phase.{scaled_same, same_apart}
use Rattle.exact.proofs.Matrices.Parity.{same_parity}
use Rattle.exact.proofs.Rotation.Laws.{rotation_word, rotation_phase, rotation_moved}
use Rattle.exact.proofs.Rotation.Least.{normal_least, none_fewer}
use Rattle.exact.proofs.Unique.PhaseFree.{phase_free_tees, phase_free_own, same_by_omega}

-- v is the normal word of m
module _ {m : Matrix} {v : List Letter} (a : NormalOf m v) where
  moved : {x : Matrix} (d : ByOmega x m) → Same x (scaled (omega^ d.power) (word v))
  moved d = Same-trans d.same (scaled_same (omega^ d.power) a.same)

  -- a phase does not change the rotation, whose least exponent is v's number of T letters
  none_under : (u : List Letter) → ByOmega (word u) m → tees v ≤ tees u
  none_under u d =
      none_fewer u (Same-refl (word u)) (rotation_moved (Same-sym (moved d)) (rotation_phase d.power (rotation_word v)))
      (normal_least a.normal (rotation_word v))

  one_parity : (u : List Letter) → ByOmega (word u) m → tees u % 2 ≡ tees v % 2
  one_parity u d = same_parity u v (record { power = d.power; few = d.few; same = moved d })

  -- p has as many, and what is like m differs from it by a phase at most
  as_cheap : (Like : Matrix → Matrix → Type 0) → ((u : List Letter) → Like (word u) m → ByOmega (word u) m)
      → (p : List Letter) → Like (word p) m → tees p ≡ tees v
      → Cheapest Like m p (tees p)
  as_cheap Like by p l e =
      record {
        like = l;
        counted = refl;
        fewest = λ u h. omega (arith, e, none_under u (by u h));
        parity = λ u h. omega (arith, e, one_parity u (by u h));
      }

  pub normal_cheapest : Cheapest Same m v (tees v)
  normal_cheapest = as_cheap Same (λ u h. same_apart h) v (Same-sym a.same) refl

  pub normal_cheapest_phase : Cheapest ByOmega m v (tees v)
  normal_cheapest_phase = as_cheap ByOmega (λ u h. h) v (same_apart (Same-sym a.same)) refl

-- ---- the theorem
pub no_cheaper : NoCheaper Same
no_cheaper v n = normal_cheapest (record { normal = n; same = Same-refl (word v) })

pub no_cheaper_phase : NoCheaper ByOmega
no_cheaper_phase v n = normal_cheapest_phase (record { normal = n; same = Same-refl (word v) })

-- ---- phase-free words
pub phase_free_cheapest : {m : Matrix} {p : List Letter} → PhaseFreeOf m p → Cheapest ByOmega m p (tees p)
phase_free_cheapest {m} {p} f =
    as_cheap (record { normal = f.phase_free.normal; same = f.same }) ByOmega (λ u h. h) p (same_by_omega own f refl) (phase_free_tees f.phase_free)
  where
    own : PhaseFreeOf (word p) p
    own = record { whole = p; phase_free = phase_free_own f.phase_free; same = Same-refl (word p) }

-- ---- what a call wrote and counted: its bytes spell such a word, which has so many T letters
written_as : {Like : Matrix → Matrix → Type 0} {m : Matrix} (v : List Letter) {bs : List ℕ} {t : ℕ} → Cheapest Like m v (tees v)
    → bs ≡ bytes v → t ≡ tees v
    → Spelled (Cheapest Like m) bs t
written_as {Like} {m} v c b e = record { letters = v; spelled = sym b; holds = subst (Cheapest Like m v) (sym e) c }

abbrev pub SpelledCheapest : Matrix → List ℕ → ℕ → Type 0
SpelledCheapest m bs t = Spelled (Cheapest Same m) bs t × Spelled (Cheapest ByOmega m) bs t

pub normal_spelled : {m : Matrix} (v : List Letter) {bs : List ℕ} {t : ℕ} → NormalOf m v → bs ≡ bytes v → t ≡ tees v → SpelledCheapest m bs t
normal_spelled v a b e = (written_as v (normal_cheapest a) b e, written_as v (normal_cheapest_phase a) b e)

pub phase_free_spelled : {m : Matrix} (p : List Letter) {bs : List ℕ} {t : ℕ} → PhaseFreeOf m p → bs ≡ bytes p → t ≡ tees p
    → Spelled (Cheapest ByOmega m) bs t
phase_free_spelled p f = written_as p (phase_free_cheapest f)

-- ---- what is no cheapest spelling: two T for S, none for T, any with a T more than it has
pub not_two_for_S : (v : List Letter) → Cheapest Same (word (S ∷ [])) v 2 → ⊥
not_two_for_S v c = omega (arith, c.fewest (S ∷ []) (Same-refl (word (S ∷ []))))

pub not_none_for_T : (v : List Letter) → Cheapest Same (word (T' ∷ [])) v 0 → ⊥
not_none_for_T v c = omega (arith, c.parity (T' ∷ []) (Same-refl (word (T' ∷ []))))

pub not_one_more : (m : Matrix) (v : List Letter) → Cheapest Same m v (tees v + 1) → ⊥
not_one_more m v c = omega (arith, c.counted)
