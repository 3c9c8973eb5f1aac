-- What a machine's sums and products of one ring number's coefficients, or of two numbers', need and give: arguments 0 to 3 are those of the first,
-- 4 to 7 those of the second. Assumes nothing.
use Rattle.std.specs.Prelude.{◌≡◌, List, [], ◌∷◌, ℕ, ◌^◌, T, ℤ, get_or}
use Rattle.std.specs.Int.{w64}
use mir.Val.{SFits, hbits}
use Rattle.exact.specs.Meaning.Number.{ints, Sized}
use Rattle.exact.proofs.Algebra.Solver.{at}
use Rattle.exact.proofs.Whole.Size.{Within}
use Rattle.exact.proofs.Whole.Machine.{Code, value, held, ran, all_fit, need_by, result_by}
use Rattle.ring.specs.Meaning.{quad}
use Rattle.ring.specs.Number.{four}
use Rattle.ring.specs.declared.ZOmega.{ZOmega}

abbrev limits : ℕ → List ℕ → List ℕ
limits n bs = n ∷ n ∷ n ∷ n ∷ bs

abbrev Passes : List ℕ → Code → Type 0
Passes bs e = T (all_fit (2 ^ hbits w64) (λ i. get_or bs i 0) e)

within : {n : ℕ} (x : ZOmega) → Sized n (quad x) → (xs : List ℤ) (bs : List ℕ) → Within xs bs → Within (four x xs) (limits n bs)
within x s xs bs h = (s.a_small, (s.b_small, (s.c_small, (s.d_small, h))))

-- The code comes first: the numbers are then found in what is to be shown, and their sizes among what is known.
module _ (n : ℕ) (e : Code) (t : Passes (limits n []) e) (x : ZOmega) (s : Sized n (quad x)) where
  pub fits₁ : SFits w64 (ran w64 (at ints (four x [])) e)
  fits₁ = need_by w64 (four x []) (limits n []) (within x s [] [] tt) e t

  pub is₁ : held w64 (ran w64 (at ints (four x [])) e) ≡ value (at ints (four x [])) e
  is₁ = result_by w64 (four x []) (limits n []) (within x s [] [] tt) e t

module _ (n : ℕ) (e : Code) (t : Passes (limits n (limits n [])) e) (x y : ZOmega) (s : Sized n (quad x)) (r : Sized n (quad y)) where
  both : Within (four x (four y [])) (limits n (limits n []))
  both = within x s (four y []) (limits n []) (within y r [] [] tt)

  pub fits₂ : SFits w64 (ran w64 (at ints (four x (four y []))) e)
  fits₂ = need_by w64 (four x (four y [])) (limits n (limits n [])) both e t

  pub is₂ : held w64 (ran w64 (at ints (four x (four y []))) e) ≡ value (at ints (four x (four y []))) e
  is₂ = result_by w64 (four x (four y [])) (limits n (limits n [])) both e t
