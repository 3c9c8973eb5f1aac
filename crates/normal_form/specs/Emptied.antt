-- An array is empty if each of its places is, which is computed. Assumes nothing.
use Rattle.std.specs.Prelude.{◌≡◌, refl, Bool, true, false, cond, List, [], ◌∷◌, ℕ, zero, suc, T, eqb, get_or}
use Rattle.std.proofs.Common.{eqb-true}
use Rattle.reading.specs.Held.{Blank}

abbrev emptied : List ℕ → Bool
emptied [] = true
emptied (x ∷ items) = cond (eqb x 0) (emptied items) false

here : (x : ℕ) (items : List ℕ) (b : Bool) → eqb x 0 ≡ b → T (cond b (emptied items) false)
    → (T (emptied items) → (i : ℕ) → get_or items i 0 ≡ 0)
    → (i : ℕ)
    → get_or (x ∷ items) i 0 ≡ 0
here x items true e t f zero = eqb-true x 0 e
here x items true e t f (suc i) = f t i
here x items false e t f i = elim t [ ]

empty_at : (items : List ℕ) → T (emptied items) → (i : ℕ) → get_or items i 0 ≡ 0
empty_at [] t i = refl
empty_at (x ∷ items) t i = here x items (eqb x 0) refl t (empty_at items) i

pub blank_by : (items : List ℕ) → T (emptied items) → Blank items
blank_by items t = record { empty = empty_at items t }
