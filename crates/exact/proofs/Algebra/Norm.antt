-- A ring number times its conjugate: the four coefficients (-B, 0, B, A), A the squares and B the cross sum, so that SCOPE's two sums of a
-- unitary triple are one equation of ring numbers; and the residues that such a product can have, 1011 not among them. Assumes nothing.
use Rattle.std.specs.Prelude.{◌≡◌, refl, Bool, true, false, not, ◌&&◌, [], ℕ, zero, suc, ◌+◌, ◌*◌, ◌^◌, T, eqb, ℤ, pos, neg_ℤ, ◌+ℤ◌, ◌*ℤ◌}
use Rattle.std.proofs.Common.{sym, ◌∙◌, ap, ap₂, arith}
use Rattle.std.proofs.lemmas.Bool.{eqb-false}
use Rattle.std.proofs.Math.Facts.{and_yes}
use Rattle.exact.specs.Meaning.Number.{Ω, ints, omegas, add_q, mul_q, const_q, conj_q, root2, root2^, odd, bit, residue}
use Rattle.exact.specs.Meaning.Triple.{Triple, squares, crosses, Unitary}
use Rattle.exact.proofs.Whole.Parity.{xr, odd_add, odd_sub, odd_neg, odd_mul}
use Rattle.exact.proofs.Algebra.Ring.{ints_laws}
use Rattle.exact.proofs.Algebra.Solver.{con, ◌⊕◌, ◌⊗◌, ⊖, exprs, ring₂}
use Rattle.exact.proofs.Algebra.Omega.{quad_path, omegas_laws, root2_square, X₀, parts, solve_q}

abbrev pub norm : Ω → Ω
norm x = mul_q ints x (conj_q ints x)

abbrev real : ℤ → ℤ → Ω
real p q = record { a = neg_ℤ q; b = pos 0; c = q; d = p }

pub norm_is : (x : Ω) → norm x ≡ real (squares ints x) (crosses ints x)
norm_is x =
    solve_q ints ints_laws (parts x []) (mul_q exprs X₀ (conj_q exprs X₀))
    (record { a = ⊖ (crosses exprs X₀); b = con (pos 0); c = crosses exprs X₀; d = squares exprs X₀ }) (tt, tt, tt, tt)

-- ---- unitary, as one equation
sum_is : (z w : Ω) → add_q ints (norm z) (norm w) ≡ add_q ints (real (squares ints z) (crosses ints z)) (real (squares ints w) (crosses ints w))
sum_is z w = ap₂ (add_q ints) (norm_is z) (norm_is w)

pub unitary_equation : {t : Triple} → Unitary t → add_q ints (norm t.z) (norm t.w) ≡ const_q ints (pos (2 ^ t.k))
unitary_equation {t} u =
    sum_is t.z t.w
    ∙ quad_path (opposite (crosses ints t.z) (crosses ints t.w) ∙ ap neg_ℤ u.crosses_sum) refl u.crosses_sum u.squares_sum
  where
    opposite : (a b : ℤ) → neg_ℤ a +ℤ neg_ℤ b ≡ neg_ℤ (a +ℤ b)
    opposite = ring₂ ints ints_laws (λ a b. ⊖ a ⊕ ⊖ b) (λ a b. ⊖ (a ⊕ b)) tt

pub equation_unitary : {t : Triple} → add_q ints (norm t.z) (norm t.w) ≡ const_q ints (pos (2 ^ t.k)) → Unitary t
equation_unitary {t} e =
    let f = sym (sum_is t.z t.w) ∙ e in
    record { squares_sum = ap (λ x. x.d) f; crosses_sum = ap (λ x. x.c) f }

-- 2 to the k is root two to the k, twice
pub two^ : (k : ℕ) → const_q ints (pos (2 ^ k)) ≡ mul_q ints (root2^ k) (root2^ k)
two^ zero = refl
two^ (suc k) =
    ap (λ n. const_q ints (pos n)) double
    ∙ omegas_laws.const_mul (pos 2) (pos (2 ^ k))
    ∙ ap₂ (mul_q ints) (sym (root2_square ints ints_laws)) (two^ k)
    ∙ ring₂ omegas omegas_laws (λ r x. (r ⊗ r) ⊗ (x ⊗ x)) (λ r x. (r ⊗ x) ⊗ (r ⊗ x)) tt (root2 ints) (root2^ k)
  where
    double : 2 ^ suc k ≡ 2 * 2 ^ k
    double = omega arith

-- ---- residues
module _ (a b c d : Bool) where
  abbrev odd_squares : Bool
  odd_squares = xr (xr (xr (a && a) (b && b)) (c && c)) (d && d)

  abbrev odd_crosses : Bool
  odd_crosses = xr (xr (xr (a && b) (b && c)) (c && d)) (d && a)

  -- the residue of the product, by the parities of the number
  abbrev pub norm_residue : ℕ
  norm_residue = bit odd_crosses * 8 + 0 * 4 + bit odd_crosses * 2 + bit odd_squares

odd_squares_lem : (x : Ω) → odd (squares ints x) ≡ odd_squares (odd x.a) (odd x.b) (odd x.c) (odd x.d)
odd_squares_lem x =
    odd_add (x.a *ℤ x.a +ℤ x.b *ℤ x.b +ℤ x.c *ℤ x.c) (x.d *ℤ x.d)
    ∙ ap₂ xr
    (odd_add (x.a *ℤ x.a +ℤ x.b *ℤ x.b) (x.c *ℤ x.c)
    ∙ ap₂ xr (odd_add (x.a *ℤ x.a) (x.b *ℤ x.b) ∙ ap₂ xr (odd_mul x.a x.a) (odd_mul x.b x.b)) (odd_mul x.c x.c))
    (odd_mul x.d x.d)

odd_crosses_lem : (x : Ω) → odd (crosses ints x) ≡ odd_crosses (odd x.a) (odd x.b) (odd x.c) (odd x.d)
odd_crosses_lem x =
    odd_sub (x.a *ℤ x.b +ℤ x.b *ℤ x.c +ℤ x.c *ℤ x.d) (x.d *ℤ x.a)
    ∙ ap₂ xr
    (odd_add (x.a *ℤ x.b +ℤ x.b *ℤ x.c) (x.c *ℤ x.d)
    ∙ ap₂ xr (odd_add (x.a *ℤ x.b) (x.b *ℤ x.c) ∙ ap₂ xr (odd_mul x.a x.b) (odd_mul x.b x.c)) (odd_mul x.c x.d))
    (odd_mul x.d x.a)

pub norm_residue_lem : (x : Ω) → residue (norm x) ≡ norm_residue (odd x.a) (odd x.b) (odd x.c) (odd x.d)
norm_residue_lem x =
    ap residue (norm_is x)
    ∙ ap₂ (λ p q. bit p * 8 + 0 * 4 + bit q * 2 + bit (odd (squares ints x))) (odd_neg (crosses ints x) ∙ odd_crosses_lem x) (odd_crosses_lem x)
    ∙ ap (λ r. bit (odd_crosses (odd x.a) (odd x.b) (odd x.c) (odd x.d)) * 8 + 0 * 4
    + bit (odd_crosses (odd x.a) (odd x.b) (odd x.c) (odd x.d)) * 2 + bit r) (odd_squares_lem x)

-- a test at both truth values
abbrev both : (Bool → Bool) → Bool
both f = f true && f false

both_at : (f : Bool → Bool) → T (both f) → (b : Bool) → T (f b)
both_at f t true = (and_yes (f true) (f false) t).0
both_at f t false = (and_yes (f true) (f false) t).1

-- a test of four parities, at all sixteen
pub all_parities : (f : Bool → Bool → Bool → Bool → Bool) → T (both (λ a. both (λ b. both (λ c. both (λ d. f a b c d))))) → (a b c d : Bool)
    → T (f a b c d)
all_parities f t a b c d =
    both_at (λ d. f a b c d)
    (both_at (λ c. both (λ d. f a b c d))
    (both_at (λ b. both (λ c. both (λ d. f a b c d))) (both_at (λ a. both (λ b. both (λ c. both (λ d. f a b c d)))) t a) b) c) d

pub no_1011 : (x : Ω) → residue (norm x) ≡ 0b1011 → ⊥
no_1011 x e =
    told (all_parities (λ a b c d. not (eqb (norm_residue a b c d) 0b1011)) tt (odd x.a) (odd x.b) (odd x.c) (odd x.d))
    (sym (norm_residue_lem x) ∙ e)
  where
    told : {m n : ℕ} → T (not (eqb m n)) → m ≡ n → ⊥
    told {m} {n} t p = eqb-false m n (go (eqb m n) t) p
      where
        go : (b : Bool) → T (not b) → b ≡ false
        go true t = absurd t
        go false t = refl
