-- Each refusal has at most one place, and a matrix one normal word. Assumes nothing.
use Rattle.std.specs.Prelude.{◌≡◌, List, ◌++◌, ℕ, suc, ◌<◌, ◌≤◌, take, drop}
use Rattle.std.proofs.Common.{sym, ◌∙◌, ap, subst, append_assoc, arith, take-append-drop, take-take}
use Rattle.exact.specs.Meaning.Word.{Letter, bytes, FirstOutside, First, Spelled}
use Rattle.exact.specs.Meaning.Text.{Begins, Stops}
use Rattle.exact.specs.Meaning.Endings.{Shallow, Deep, DeepAt}
use Rattle.exact.specs.Meaning.Matrix.{Matrix}
use Rattle.exact.specs.Meaning.Normal.{NormalOf}
use Rattle.exact.proofs.Cases.Letters.{bytes_inj}
use Rattle.exact.proofs.Matrices.Same.{Same-sym, Same-trans}
use Rattle.exact.proofs.Matrices.Least.{least_unique}
use Rattle.exact.proofs.Unique.Normal.{unique}
use Rattle.exact.proofs.Outcomes.Ladder.{Only}

pub one_plain : {C : Type 0} (p q : ℕ) → C × (p ≡ 0) → C × (q ≡ 0) → p ≡ q
one_plain p q h k = h.1 ∙ sym k.1

-- the first such place, and the last
pub one_letter : {w : List ℕ} (p q : ℕ) → FirstOutside w p → FirstOutside w q → p ≡ q
one_letter {w} p q f g = omega (arith, below f g, below g f)
  where
    below : {i j : ℕ} → FirstOutside w i → FirstOutside w j → i < j → ⊥
    below {i} {j} f g l = f.outside (g.before i l)

pub one_first : {b : ℕ} {w : List ℕ} (p q : ℕ) → First b w p → First b w q → p ≡ q
one_first {b} {w} p q f g = omega (arith, below f g, below g f)
  where
    below : {i j : ℕ} → First b w i → First b w j → i < j → ⊥
    below {i} {j} f g l = g.before i l f.is

-- ---- the first byte that can't continue a right text: what begins with fewer bytes of it begins one too
module _ {Right : List ℕ → Type 0} (s : List ℕ) where
  begins_fewer : (m n : ℕ) → m ≤ n → Begins Right (take n s) → Begins Right (take m s)
  begins_fewer m n l b = record { rest = drop m (take n s) ++ b.rest; right = subst Right joined b.right }
    where
      joined : take n s ++ b.rest ≡ take m s ++ (drop m (take n s) ++ b.rest)
      joined =
          ap (λ x. x ++ b.rest) (sym (take-append-drop m (take n s)))
          ∙ append_assoc (take m (take n s)) (drop m (take n s)) b.rest
          ∙ ap (λ x. x ++ (drop m (take n s) ++ b.rest)) (take-take m n s l)

pub one_stop : {Right : List ℕ → Type 0} {s : List ℕ} (p q : ℕ) → Stops Right s p → Stops Right s q → p ≡ q
one_stop {Right} {s} p q f g = omega (arith, below f g, below g f)
  where
    below : {i j : ℕ} → Stops Right s i → Stops Right s j → i < j → ⊥
    below {i} {j} f g l = f.ended (omega (arith, g.there)) (begins_fewer s (suc i) j (omega arith) g.begun)

pub not_both : {u : List Letter} → Shallow u → Deep u → ⊥
not_both s d = omega (arith, s.few, d.many, least_unique s.least d.least)

-- ---- of the letters that the bytes spell
pub one_spelled : {A : Type 0} (Of : List Letter → A → Type 0) → ((u : List Letter) → Only (Of u)) → (w : List ℕ) → Only (Spelled Of w)
one_spelled Of one w a b x y =
    one x.letters a b x.holds
    (subst (λ (u : List Letter). Of u b) (bytes_inj y.letters x.letters (y.spelled ∙ sym x.spelled)) y.holds)

-- what the bytes of a word spell is the word
pub of_bytes : {A : Type 0} {Of : List Letter → A → Type 0} {a : A} (u : List Letter) → Spelled Of (bytes u) a → Of u a
of_bytes {Of = Of} {a = a} u s = subst (λ (x : List Letter). Of x a) (bytes_inj s.letters u s.spelled) s.holds

one_end : (u : List Letter) → Only (DeepAt u)
one_end u p q a b = omega (arith, below a b, below b a)
  where
    below : {i j : ℕ} → DeepAt u i → DeepAt u j → i < j → ⊥
    below {i} {j} a b l = not_both (a.after j l (omega (arith, b.there))) b.deep

pub one_deep : {w : List ℕ} → Only (Spelled DeepAt w)
one_deep {w} = one_spelled DeepAt one_end w

-- ---- the normal word of a matrix
pub one_normal : (m : Matrix) → Only (NormalOf m)
one_normal m u v a b = unique a.normal b.normal (Same-trans (Same-sym a.same) b.same)
