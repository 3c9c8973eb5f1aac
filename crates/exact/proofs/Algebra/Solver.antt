-- A solver of polynomial identities, by computation. An expression (`Expr`) has a value in each commutative ring (`eval`) and a
-- normal form that is computed with native numbers (`norm`); the norm has the expression's value (`norm_sound`). So two expressions
-- whose difference has a norm with no coefficient but 0 have the same value, in every ring and at all values of the variables (`solve`).
-- A norm is in sparse Horner form: `hor p i q` is p·xᵢ + q, and no variable before xᵢ stands in p, nor one before xᵢ₊₁ in q.
-- That order is what makes the test find an identity; soundness does not rest on it. Assumes nothing.
use Rattle.std.specs.Prelude.{◌≡◌, refl, Bool, false, ◌&&◌, List, [], ◌∷◌, T, eqb, ℤ, pos, negsuc, ◌+ℤ◌, ◌*ℤ◌}
use Rattle.std.proofs.Common.{sym, ◌∙◌, ap, ap₂, eqb→eq}
use Rattle.std.proofs.Math.Path.{subst⁻¹}
use Prim.Native.Nat.{ℕ, zero, suc, compare, Ordering}
use Rattle.std.proofs.Math.Dec.{compare_is_eq}
use Rattle.std.proofs.Math.Facts.{and_yes}
use Rattle.exact.specs.Meaning.Number.{Ops}
use Rattle.exact.proofs.Algebra.Ring as Ring
use Rattle.exact.proofs.Algebra.Ring.{Laws}

-- ---- expressions
infixl 6 ◌⊕◌ ◌⊝◌
infixl 7 ◌⊗◌
pub data Expr : Type 0 where
  var : ℕ → Expr
  con : ℤ → Expr
  ◌⊕◌ : Expr → Expr → Expr
  ◌⊗◌ : Expr → Expr → Expr
  ⊖ : Expr → Expr

abbrev pub ◌⊝◌ : Expr → Expr → Expr
a ⊝ b = a ⊕ ⊖ b

-- the expressions have a ring's operations, so what is defined over `Ops` gives expressions too
abbrev pub exprs : Ops
exprs = record { Car = Expr; add = ◌⊕◌; mul = ◌⊗◌; neg = ⊖; const = con }

-- ---- a choice by an order: only the branch that is chosen is computed
abbrev pick : {A : Type 0} → Ordering → (Unit {0} → A) → (Unit {0} → A) → (Unit {0} → A) → A
pick Ordering.lt f g h = f tt
pick Ordering.eq f g h = g tt
pick Ordering.gt f g h = h tt

pick_ind : {A : Type 0} (P : A → Type 0) (i j : ℕ) (f g h : Unit {0} → A) → P (f tt) → (i ≡ j → P (g tt)) → P (h tt) → P (pick (compare i j) f g h)
pick_ind {A} P i j f g h a b c = go (compare i j) refl
  where
    go : (o : Ordering) → compare i j ≡ o → P (pick o f g h)
    go Ordering.lt e = a
    go Ordering.eq e = b (eqb→eq i j (subst⁻¹ (λ (o : Ordering). T (compare_is_eq o)) e tt))
    go Ordering.gt e = c

-- ---- normal forms
pub data Poly : Type 0 where
  num : ℤ → Poly
  hor : Poly → ℕ → Poly → Poly

abbrev add_c : ℤ → Poly → Poly
add_c c (num d) = num (c +ℤ d)
add_c c (hor p i q) = hor p i (add_c c q)

-- p·xᵢ + q, with p left out where it has come to 0
abbrev join : Poly → ℕ → Poly → Poly
join (num (pos zero)) i q = q
join (num (pos (suc n))) i q = hor (num (pos (suc n))) i q
join (num (negsuc n)) i q = hor (num (negsuc n)) i q
join (hor p j r) i q = hor (hor p j r) i q

-- p·xᵢ + q, and a third; f adds to p, and g to q
abbrev add_h : (Poly → Poly) → (Poly → Poly) → Poly → ℕ → Poly → Poly → Poly
add_h f g p i q (num d) = hor p i (g (num d))
add_h f g p i q (hor r j s) =
    pick (compare i j)
    (λ _. hor p i (g (hor r j s)))
    (λ _. join (f r) i (g s))
    (λ _. hor r j (add_h f g p i q s))

abbrev add_p : Poly → Poly → Poly
add_p (num c) r = add_c c r
add_p (hor p i q) r = add_h (add_p p) (add_p q) p i q r

abbrev scale : ℤ → Poly → Poly
scale c (num d) = num (c *ℤ d)
scale c (hor p i q) = hor (scale c p) i (scale c q)

-- xᵢ times a polynomial
abbrev mul_x : ℕ → Poly → Poly
mul_x i (num c) = join (num c) i (num (pos 0))
mul_x i (hor p j q) =
    pick (compare i j)
    (λ _. hor (hor p j q) i (num (pos 0)))
    (λ _. hor (hor p j q) i (num (pos 0)))
    (λ _. hor (mul_x i p) j (mul_x i q))

abbrev mul_p : Poly → Poly → Poly
mul_p (num (pos zero)) r = num (pos 0)
mul_p (num (pos (suc n))) r = scale (pos (suc n)) r
mul_p (num (negsuc n)) r = scale (negsuc n) r
mul_p (hor p i q) r = add_p (mul_x i (mul_p p r)) (mul_p q r)

abbrev pub norm : Expr → Poly
norm (var i) = hor (num (pos 1)) i (num (pos 0))
norm (con c) = num c
norm (a ⊕ b) = add_p (norm a) (norm b)
norm (a ⊗ b) = mul_p (norm a) (norm b)
norm (⊖ a) = scale (negsuc 0) (norm a)

-- every coefficient is 0
abbrev zero_z : ℤ → Bool
zero_z (pos n) = eqb n 0
zero_z (negsuc n) = false

abbrev zero_p : Poly → Bool
zero_p (num c) = zero_z c
zero_p (hor p i q) = zero_p p && zero_p q

-- the test that `solve` computes
abbrev pub same : Expr → Expr → Bool
same a b = zero_p (norm (a ⊝ b))

zero_z_is : (c : ℤ) → T (zero_z c) → c ≡ pos 0
zero_z_is (pos n) t = ap pos (eqb→eq n 0 t)
zero_z_is (negsuc n) t = absurd t

-- ---- values, and soundness
module _ (O : Ops) (ρ : ℕ → O.Car) where
  abbrev pub eval : Expr → O.Car
  eval (var i) = ρ i
  eval (con c) = O.const c
  eval (a ⊕ b) = O.add (eval a) (eval b)
  eval (a ⊗ b) = O.mul (eval a) (eval b)
  eval (⊖ a) = O.neg (eval a)

  abbrev val : Poly → O.Car
  val (num c) = O.const c
  val (hor p i q) = O.add (O.mul (val p) (ρ i)) (val q)

module _ (O : Ops) (L : Laws O) (ρ : ℕ → O.Car) where
  open O use {Car, add as ◌+◌, mul as ◌*◌, neg, const}
  open L use {add_assoc, zero_add, mul_assoc, add_mul, one_mul}

  infixl 6 ◌+◌
  infixl 7 ◌*◌
  abbrev v : Poly → Car
  v = val O ρ

  add_c_sound : (c : ℤ) (r : Poly) → v (add_c c r) ≡ const c + v r
  add_c_sound c (num d) = L.const_add c d
  add_c_sound c (hor p i q) = ap (λ x. v p * ρ i + x) (add_c_sound c q) ∙ Ring.add_left_comm O L (v p * ρ i) (const c) (v q)

  join_sound : (p : Poly) (i : ℕ) (q : Poly) → v (join p i q) ≡ v p * ρ i + v q
  join_sound (num (pos zero)) i q = sym (ap (λ x. x + v q) (Ring.zero_mul O L (ρ i)) ∙ zero_add (v q))
  join_sound (num (pos (suc n))) i q = refl
  join_sound (num (negsuc n)) i q = refl
  join_sound (hor p j r) i q = refl

  add_h_sound : (f g : Poly → Poly) (p : Poly) (i : ℕ) (q : Poly) → ((r : Poly) → v (f r) ≡ v p + v r) → ((s : Poly) → v (g s) ≡ v q + v s)
      → (r : Poly) → v (add_h f g p i q r) ≡ v p * ρ i + v q + v r
  add_h_sound f g p i q hf hg (num d) = ap (λ x. v p * ρ i + x) (hg (num d)) ∙ sym (add_assoc (v p * ρ i) (v q) (const d))
  add_h_sound f g p i q hf hg (hor r j s) =
      pick_ind (λ z. v z ≡ v p * ρ i + v q + (v r * ρ j + v s)) i j
      (λ _. hor p i (g (hor r j s)))
      (λ _. join (f r) i (g s))
      (λ _. hor r j (add_h f g p i q s))
      (ap (λ x. v p * ρ i + x) (hg (hor r j s)) ∙ sym (add_assoc (v p * ρ i) (v q) (v r * ρ j + v s)))
      (λ e. join_sound (f r) i (g s)
      ∙ ap₂ (λ x y. x * ρ i + y) (hf r) (hg s)
      ∙ ap (λ x. x + (v q + v s)) (add_mul (v p) (v r) (ρ i))
      ∙ exchange (v p * ρ i) (v r * ρ i) (v q) (v s)
      ∙ ap (λ n. v p * ρ i + v q + (v r * ρ n + v s)) e)
      (ap (λ x. v r * ρ j + x) (add_h_sound f g p i q hf hg s) ∙ Ring.add_left_comm O L (v r * ρ j) (v p * ρ i + v q) (v s))
    where
      exchange : (a b c d : Car) → a + b + (c + d) ≡ a + c + (b + d)
      exchange a b c d = add_assoc a b (c + d) ∙ ap (λ x. a + x) (Ring.add_left_comm O L b c d) ∙ sym (add_assoc a c (b + d))

  add_p_sound : (p r : Poly) → v (add_p p r) ≡ v p + v r
  add_p_sound (num c) r = add_c_sound c r
  add_p_sound (hor p i q) r = add_h_sound (add_p p) (add_p q) p i q (add_p_sound p) (add_p_sound q) r

  scale_sound : (c : ℤ) (r : Poly) → v (scale c r) ≡ const c * v r
  scale_sound c (num d) = L.const_mul c d
  scale_sound c (hor p i q) =
      ap₂ (λ x y. x * ρ i + y) (scale_sound c p) (scale_sound c q)
      ∙ ap (λ x. x + const c * v q) (mul_assoc (const c) (v p) (ρ i))
      ∙ sym (Ring.mul_add O L (const c) (v p * ρ i) (v q))

  mul_x_sound : (i : ℕ) (r : Poly) → v (mul_x i r) ≡ v r * ρ i
  mul_x_sound i (num c) = join_sound (num c) i (num (pos 0)) ∙ Ring.add_zero O L (const c * ρ i)
  mul_x_sound i (hor p j q) =
      pick_ind (λ z. v z ≡ (v p * ρ j + v q) * ρ i) i j
      (λ _. hor (hor p j q) i (num (pos 0)))
      (λ _. hor (hor p j q) i (num (pos 0)))
      (λ _. hor (mul_x i p) j (mul_x i q))
      (Ring.add_zero O L ((v p * ρ j + v q) * ρ i))
      (λ e. Ring.add_zero O L ((v p * ρ j + v q) * ρ i))
      (ap₂ (λ x y. x * ρ j + y) (mul_x_sound i p) (mul_x_sound i q)
      ∙ ap (λ x. x + v q * ρ i) (Ring.mul_right_comm O L (v p) (ρ i) (ρ j))
      ∙ sym (add_mul (v p * ρ j) (v q) (ρ i)))

  mul_p_sound : (p r : Poly) → v (mul_p p r) ≡ v p * v r
  mul_p_sound (num (pos zero)) r = sym (Ring.zero_mul O L (v r))
  mul_p_sound (num (pos (suc n))) r = scale_sound (pos (suc n)) r
  mul_p_sound (num (negsuc n)) r = scale_sound (negsuc n) r
  mul_p_sound (hor p i q) r =
      add_p_sound (mul_x i (mul_p p r)) (mul_p q r)
      ∙ ap₂ (λ x y. x + y) (mul_x_sound i (mul_p p r) ∙ ap (λ x. x * ρ i) (mul_p_sound p r) ∙ Ring.mul_right_comm O L (v p) (v r) (ρ i)) (mul_p_sound q r)
      ∙ sym (add_mul (v p * ρ i) (v q) (v r))

  neg_sound : (r : Poly) → v (scale (negsuc 0) r) ≡ neg (v r)
  neg_sound r = scale_sound (negsuc 0) r ∙ Ring.neg_unique O L (v r) (const (negsuc 0) * v r)
      (ap (λ x. x + const (negsuc 0) * v r) (sym (one_mul (v r)))
      ∙ sym (add_mul (const (pos 1)) (const (negsuc 0)) (v r))
      ∙ ap (λ x. x * v r) (sym (L.const_add (pos 1) (negsuc 0)))
      ∙ Ring.zero_mul O L (v r))

  pub norm_sound : (e : Expr) → v (norm e) ≡ eval O ρ e
  norm_sound (var i) = Ring.add_zero O L (const (pos 1) * ρ i) ∙ one_mul (ρ i)
  norm_sound (con c) = refl
  norm_sound (a ⊕ b) = add_p_sound (norm a) (norm b) ∙ ap₂ (λ x y. x + y) (norm_sound a) (norm_sound b)
  norm_sound (a ⊗ b) = mul_p_sound (norm a) (norm b) ∙ ap₂ (λ x y. x * y) (norm_sound a) (norm_sound b)
  norm_sound (⊖ a) = neg_sound (norm a) ∙ ap neg (norm_sound a)

  zero_p_sound : (p : Poly) → T (zero_p p) → v p ≡ const (pos 0)
  zero_p_sound (num c) t = ap const (zero_z_is c t)
  zero_p_sound (hor p i q) t =
      ap₂ (λ x y. x * ρ i + y) (zero_p_sound p (and_yes (zero_p p) (zero_p q) t).0) (zero_p_sound q (and_yes (zero_p p) (zero_p q) t).1)
      ∙ Ring.add_zero O L (const (pos 0) * ρ i) ∙ Ring.zero_mul O L (ρ i)

  pub same_sound : (a b : Expr) → T (same a b) → eval O ρ a ≡ eval O ρ b
  same_sound a b t = Ring.eq_of_sub O L (eval O ρ a) (eval O ρ b) (sym (norm_sound (a ⊝ b)) ∙ zero_p_sound (norm (a ⊝ b)) t)

-- ---- how it is called
-- the values of x₀, x₁, ..: those of the list, and 0 past its end
abbrev pub at : (O : Ops) → List O.Car → ℕ → O.Car
at O [] i = O.const (pos 0)
at O (x ∷ xs) zero = x
at O (x ∷ xs) (suc i) = at O xs i

-- the two expressions have the same value at the variables' values xs; the last argument is `tt`, where the test passes
pub solve : (O : Ops) → Laws O → (xs : List O.Car) (a b : Expr) → T (same a b) → eval O (at O xs) a ≡ eval O (at O xs) b
solve O L xs a b t = same_sound O L (at O xs) a b t

-- the same with the variables as a λ's, `ring₂ O L (λ x y. x ⊗ y) (λ x y. y ⊗ x) tt : (a b : O.Car) → ..`
module _ (O : Ops) (L : Laws O) where
  pub ring₁ : (f g : Expr → Expr) → T (same (f (var 0)) (g (var 0))) → (a : O.Car)
      → eval O (at O (a ∷ [])) (f (var 0)) ≡ eval O (at O (a ∷ [])) (g (var 0))
  ring₁ f g t a = solve O L (a ∷ []) (f (var 0)) (g (var 0)) t

  pub ring₂ : (f g : Expr → Expr → Expr) → T (same (f (var 0) (var 1)) (g (var 0) (var 1))) → (a b : O.Car)
      → eval O (at O (a ∷ b ∷ [])) (f (var 0) (var 1)) ≡ eval O (at O (a ∷ b ∷ [])) (g (var 0) (var 1))
  ring₂ f g t a b = solve O L (a ∷ b ∷ []) (f (var 0) (var 1)) (g (var 0) (var 1)) t

  pub ring₃ : (f g : Expr → Expr → Expr → Expr) → T (same (f (var 0) (var 1) (var 2)) (g (var 0) (var 1) (var 2))) → (a b c : O.Car)
      → eval O (at O (a ∷ b ∷ c ∷ [])) (f (var 0) (var 1) (var 2)) ≡ eval O (at O (a ∷ b ∷ c ∷ [])) (g (var 0) (var 1) (var 2))
  ring₃ f g t a b c = solve O L (a ∷ b ∷ c ∷ []) (f (var 0) (var 1) (var 2)) (g (var 0) (var 1) (var 2)) t

  pub ring₄ : (f g : Expr → Expr → Expr → Expr → Expr) → T (same (f (var 0) (var 1) (var 2) (var 3)) (g (var 0) (var 1) (var 2) (var 3)))
      → (a b c d : O.Car)
      → eval O (at O (a ∷ b ∷ c ∷ d ∷ [])) (f (var 0) (var 1) (var 2) (var 3))
      ≡ eval O (at O (a ∷ b ∷ c ∷ d ∷ [])) (g (var 0) (var 1) (var 2) (var 3))
  ring₄ f g t a b c d = solve O L (a ∷ b ∷ c ∷ d ∷ []) (f (var 0) (var 1) (var 2) (var 3)) (g (var 0) (var 1) (var 2) (var 3)) t

-- ---- from equations that hold
-- an equation l ≡ r, and the factor c by which it is used
pub record Use : Type 0 where
  pub c : Expr
  pub l : Expr
  pub r : Expr

abbrev pub Holds : (O : Ops) → List O.Car → List Use → Type 0
Holds O xs [] = Unit {0}
Holds O xs (u ∷ us) = (eval O (at O xs) u.l ≡ eval O (at O xs) u.r) × Holds O xs us

-- the sum of the c · (l - r)
abbrev pub combined : List Use → Expr
combined [] = con (pos 0)
combined (u ∷ us) = u.c ⊗ (u.l ⊝ u.r) ⊕ combined us

module _ (O : Ops) (L : Laws O) (xs : List O.Car) where
  open O use {Car, add as ◌+◌, mul as ◌*◌, neg, const}

  infixl 6 ◌+◌
  infixl 7 ◌*◌
  combined_zero : (us : List Use) → Holds O xs us → eval O (at O xs) (combined us) ≡ const (pos 0)
  combined_zero [] h = refl
  combined_zero (u ∷ us) h =
      ap₂ (λ x y. eval O (at O xs) u.c * (x + neg (eval O (at O xs) u.r)) + y) h.0 (combined_zero us h.1)
      ∙ ap (λ x. eval O (at O xs) u.c * x + const (pos 0)) (L.add_neg (eval O (at O xs) u.r))
      ∙ Ring.add_zero O L (eval O (at O xs) u.c * const (pos 0))
      ∙ L.mul_comm (eval O (at O xs) u.c) (const (pos 0))
      ∙ Ring.zero_mul O L (eval O (at O xs) u.c)

  -- a ≡ b from equations that hold, where a - b is the sum of their c · (l - r)
  pub solve_from : (us : List Use) (a b : Expr) → T (same (a ⊝ b) (combined us)) → Holds O xs us → eval O (at O xs) a ≡ eval O (at O xs) b
  solve_from us a b t h = Ring.eq_of_sub O L (eval O (at O xs) a) (eval O (at O xs) b) (solve O L xs (a ⊝ b) (combined us) t ∙ combined_zero us h)
