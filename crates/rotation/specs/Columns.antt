-- The columns of a unitary triple's rotation as the machine works them out: what each sum needs, and what it comes to. Every number on the way is at most
-- 2^62 in size: squares and products by the coefficients' limit 2^30, the entries, at most 2^60, since the rotation is orthogonal. Assumes nothing.
use Rattle.std.specs.Prelude.{◌≡◌, List, [], ◌∷◌, ℕ, ◌+◌, ◌^◌, ◌≤◌, T, leb, get_or, ℤ, nat_abs, ◌+ℤ◌, ◌-ℤ◌}
use Rattle.std.proofs.Common.{sym, ◌∙◌, ap, ap₂, subst, arith, SFits}
use Rattle.std.specs.Int.{w64}
use Rattle.exact.specs.Meaning.Number.{Ω, ints, Sized, mul_q, conj_q}
use Rattle.exact.specs.Meaning.Triple.{squares, crosses, Unitary}
use Rattle.exact.specs.Meaning.Rotation as Exact
use Rattle.exact.specs.Meaning.Rotation.{add_r}
use Rattle.exact.proofs.Whole.Machine.{held}
use Rattle.exact.proofs.Whole.Size.{nat_abs_neg, bound, Within, abs_by}
use Rattle.exact.proofs.Algebra.Solver.{Expr, exprs, eval, at}
use Rattle.exact.proofs.Algebra.Omega.{X₀, X₁, parts}
use Rattle.exact.specs.Algebra.RootTwo.{neg_r}
use Rattle.exact.proofs.Algebra.RootTwo.{root_path}
use Rattle.exact.proofs.Matrices.Sizes.{sized_le, z_sized, w_sized, squares_size, crosses_size}
use Rattle.exact.proofs.Rotation.Vectors.{vect_path}
use Rattle.exact.specs.Rotation.Sizes.{Up, UpC}
use Rattle.exact.proofs.Rotation.Sizes.{up_le, up_neg, up_of_neg}
use Rattle.exact.specs.Rotation.Worked.{square_re, square_im, twice_re, twice_im, sub_r, norms, columns, with_n}
use Rattle.exact.proofs.Rotation.Few.{columns_up}
use Rattle.ring.specs.Meaning.{quad}
use Rattle.ring.specs.Number.{Small}
use Rattle.ring.specs.declared.ZOmega.{ZOmega}
use Rattle.root_two.specs.Meaning.{root, vect}
use Rattle.rotation.specs.Meaning.{rotation_of}
use Rattle.root_two.specs.declared.Root.{Root}
use Rattle.root_two.specs.declared.Vect.{Vect}
use Rattle.rotation.specs.declared.columns.Parts.{Parts}
use Rattle.root_two.specs.Code.{Addable, Subtractable, sum_fits, sum_held, difference_fits, difference_held}

-- a real and an imaginary part
pub record HasParts (re im : Exact.Root ℤ) (r : Parts) : Type 0 where
  pub re_is : root r.re ≡ re
  pub im_is : root r.im ≡ im

-- ---- twice the parts of a product
pub record Twiced (x : Ω) : Type 0 where
  pub sized : Sized (2 ^ 62) x
  pub re_up : Up (2 ^ 62) (twice_re ints x)
  pub im_up : Up (2 ^ 62) (twice_im ints x)

module _ (x : ZOmega) (h : Twiced (quad x)) where
  abbrev s : Sized (2 ^ 62) (quad x)
  s = h.sized

  abbrev re : Up (2 ^ 62) (twice_re ints (quad x))
  re = h.re_up

  abbrev im : Up (2 ^ 62) (twice_im ints (quad x))
  im = h.im_up

  pub d_fits : SFits w64 (held w64 x.d +ℤ held w64 x.d)
  d_fits = sum_fits x.d x.d s.d_small s.d_small re.p_small

  pub ca_less : SFits w64 (held w64 x.c -ℤ held w64 x.a)
  ca_less = difference_fits x.c x.a s.c_small s.a_small re.q_small

  pub b_fits : SFits w64 (held w64 x.b +ℤ held w64 x.b)
  b_fits = sum_fits x.b x.b s.b_small s.b_small im.p_small

  pub ca_more : SFits w64 (held w64 x.c +ℤ held w64 x.a)
  ca_more = sum_fits x.c x.a s.c_small s.a_small im.q_small

  pub twice_is :
      HasParts (twice_re ints (quad x)) (twice_im ints (quad x))
      (record {
        re = record { p = held w64 (held w64 x.d +ℤ held w64 x.d); q = held w64 (held w64 x.c -ℤ held w64 x.a) };
        im = record { p = held w64 (held w64 x.b +ℤ held w64 x.b); q = held w64 (held w64 x.c +ℤ held w64 x.a) };
      })
  twice_is =
      record {
        re_is =
            root_path
            (sum_held x.d x.d s.d_small s.d_small re.p_small)
            (difference_held x.c x.a s.c_small s.a_small re.q_small);
        im_is =
            root_path
            (sum_held x.b x.b s.b_small s.b_small im.p_small)
            (sum_held x.c x.a s.c_small s.a_small im.q_small);
      }

-- ---- z·z* - w·w*
pub record Normed (z w : Ω) : Type 0 where
  pub z_sized : Sized (2 ^ 30) z
  pub w_sized : Sized (2 ^ 30) w
  pub up : Up (2 ^ 62) (norms ints z w)

module _ (z w : ZOmega) (h : Normed (quad z) (quad w)) where
  module _ (a b : ℤ) (a-is : a ≡ squares ints (quad z)) (b-is : b ≡ squares ints (quad w)) where
    a_small : nat_abs a ≤ 2 ^ 62
    a_small = rw a-is (squares_size (quad z) h.z_sized)

    b_small : nat_abs b ≤ 2 ^ 62
    b_small = rw b-is (squares_size (quad w) h.w_sized)

    p_small : nat_abs (a -ℤ b) ≤ 2 ^ 62
    p_small = rw (a-is, b-is) h.up.p_small

    pub squares_less : SFits w64 (held w64 a -ℤ held w64 b)
    squares_less = difference_fits a b a_small b_small p_small

    p_is : held w64 (held w64 a -ℤ held w64 b) ≡ squares ints (quad z) -ℤ squares ints (quad w)
    p_is = difference_held a b a_small b_small p_small ∙ ap₂ ◌-ℤ◌ a-is b-is

  module _ (c d : ℤ) (c-is : c ≡ crosses ints (quad z)) (d-is : d ≡ crosses ints (quad w)) where
    c_small : nat_abs c ≤ 2 ^ 62
    c_small = rw c-is (crosses_size (quad z) h.z_sized)

    d_small : nat_abs d ≤ 2 ^ 62
    d_small = rw d-is (crosses_size (quad w) h.w_sized)

    q_small : nat_abs (c -ℤ d) ≤ 2 ^ 62
    q_small = rw (c-is, d-is) h.up.q_small

    pub crosses_less : SFits w64 (held w64 c -ℤ held w64 d)
    crosses_less = difference_fits c d c_small d_small q_small

    q_is : held w64 (held w64 c -ℤ held w64 d) ≡ crosses ints (quad z) -ℤ crosses ints (quad w)
    q_is = difference_held c d c_small d_small q_small ∙ ap₂ ◌-ℤ◌ c-is d-is

  pub norms_is : (a b c d : ℤ) → a ≡ squares ints (quad z) → b ≡ squares ints (quad w) → c ≡ crosses ints (quad z) → d ≡ crosses ints (quad w)
      → ◌≡◌ {A = Exact.Root ℤ} (record { p = held w64 (held w64 a -ℤ held w64 b); q = held w64 (held w64 c -ℤ held w64 d) })
      (norms ints (quad z) (quad w))
  norms_is a b c d a-is b-is c-is d-is = root_path (p_is a b a-is b-is) (q_is c d c-is d-is)

-- ---- squares: naively at most 2^62
module _ (x : ZOmega) (s : Sized (2 ^ 30) (quad x)) where
  within : Within (parts (quad x) []) (2 ^ 30 ∷ 2 ^ 30 ∷ 2 ^ 30 ∷ 2 ^ 30 ∷ [])
  within = (s.a_small, (s.b_small, (s.c_small, (s.d_small, tt))))

  size : (e : Expr) → T (leb (bound (λ i. get_or (2 ^ 30 ∷ 2 ^ 30 ∷ 2 ^ 30 ∷ 2 ^ 30 ∷ []) i 0) e) (2 ^ 62))
      → nat_abs (eval ints (at ints (parts (quad x) [])) e) ≤ 2 ^ 62
  size e = abs_by (parts (quad x) []) (2 ^ 30 ∷ 2 ^ 30 ∷ 2 ^ 30 ∷ 2 ^ 30 ∷ []) within e (2 ^ 62)

  square_re_lem : Up (2 ^ 62) (square_re ints (quad x))
  square_re_lem = record { p_small = size (square_re exprs X₀).p tt; q_small = size (square_re exprs X₀).q tt }

  square_im_lem : Up (2 ^ 62) (square_im ints (quad x))
  square_im_lem = record { p_small = size (square_im exprs X₀).p tt; q_small = size (square_im exprs X₀).q tt }

-- products: as much
module _ (x y : Ω) (s : Sized (2 ^ 30) x) (t : Sized (2 ^ 30) y) where
  abbrev eight : List ℕ
  eight = 2 ^ 30 ∷ 2 ^ 30 ∷ 2 ^ 30 ∷ 2 ^ 30 ∷ 2 ^ 30 ∷ 2 ^ 30 ∷ 2 ^ 30 ∷ 2 ^ 30 ∷ []

  both : Within (parts x (parts y [])) eight
  both = (s.a_small, (s.b_small, (s.c_small, (s.d_small, (t.a_small, (t.b_small, (t.c_small, (t.d_small, tt))))))))

  product_size : (e : Expr) → T (leb (bound (λ i. get_or eight i 0) e) (2 ^ 62)) → nat_abs (eval ints (at ints (parts x (parts y []))) e) ≤ 2 ^ 62
  product_size e = abs_by (parts x (parts y [])) eight both e (2 ^ 62)

  product_sized : Sized (2 ^ 62) (mul_q ints x y)
  product_sized =
      let m = mul_q exprs X₀ X₁ in
      record {
        a_small = product_size m.a tt;
        b_small = product_size m.b tt;
        c_small = product_size m.c tt;
        d_small = product_size m.d tt;
      }

-- ---- what each column needs: small coefficients, and that the entries are small
pub record Held (z w : Ω) : Type 0 where
  pub z_in : Sized (2 ^ 30) z
  pub w_in : Sized (2 ^ 30) w
  pub up : UpC (2 ^ 60) (columns ints z w)

pub unitary_held : (k : ℕ) (z w : Ω) → k ≤ 60 → Unitary (with_n k 0 z w) → Held z w
unitary_held k z w few u = record { z_in = z_sized u 30 few; w_in = w_sized u 30 few; up = columns_up 60 k z w few u }

high : {r : Exact.Root ℤ} → Up (2 ^ 60) r → Up (2 ^ 62) r
high = up_le (omega arith)

-- of parts under other names
less_up : {u u' v v' : Exact.Root ℤ} → u ≡ u' → v ≡ v' → Up (2 ^ 62) (sub_r ints u' v') → Up (2 ^ 62) (sub_r ints u v)
less_up d e = subst (λ (r : Exact.Root ℤ). Up (2 ^ 62) r) (sym (ap₂ (sub_r ints) d e))

more_up : {u u' v v' : Exact.Root ℤ} → u ≡ u' → v ≡ v' → Up (2 ^ 62) (add_r ints u' v') → Up (2 ^ 62) (add_r ints u v)
more_up d e = subst (λ (r : Exact.Root ℤ). Up (2 ^ 62) r) (sym (ap₂ (add_r ints) d e))

module _ (z w : ZOmega) (h : Held (quad z) (quad w)) where
  pub z_small : Small z
  z_small = record { sized = sized_le (omega arith) h.z_in }

  pub straight_twiced : (m : ZOmega) → quad m ≡ mul_q ints (quad z) (quad w) → Twiced (quad m)
  straight_twiced m e =
      rw e
      (record {
        sized = product_sized (quad z) (quad w) h.z_in h.w_in;
        re_up = high (up_of_neg (twice_re ints (mul_q ints (quad z) (quad w))) h.up.x_up.z_up);
        im_up = high (up_of_neg (twice_im ints (mul_q ints (quad z) (quad w))) h.up.y_up.z_up);
      })

  module _ (c : ZOmega) (c-is : quad c ≡ conj_q ints (quad z)) where
    pub conj_in : Sized (2 ^ 30) (quad c)
    conj_in =
        rw c-is
        (record {
          a_small = rw (nat_abs_neg z.c) h.z_in.c_small;
          b_small = rw (nat_abs_neg z.b) h.z_in.b_small;
          c_small = rw (nat_abs_neg z.a) h.z_in.a_small;
          d_small = h.z_in.d_small;
        })

    pub crossed_twiced : (m : ZOmega) → quad m ≡ mul_q ints (quad c) (quad w) → Twiced (quad m)
    crossed_twiced m e =
        rw e
        (record {
          sized = product_sized (quad c) (quad w) conj_in h.w_in;
          re_up = subst (λ (y : Ω). Up (2 ^ 62) (twice_re ints (mul_q ints y (quad w)))) (sym c-is) (high h.up.z_up.x_up);
          im_up = subst (λ (y : Ω). Up (2 ^ 62) (twice_im ints (mul_q ints y (quad w)))) (sym c-is) (high h.up.z_up.y_up);
        })

-- ---- the squares s of z and t of w, and m, twice the product
-- what X becomes, and what it needs; and so for Y
abbrev pub x_of : Parts → Parts → Parts → Exact.Vect ℤ
x_of s t m = record {
  x = sub_r ints (root s.re) (root t.re);
  y = sub_r ints (neg_r ints (root s.im)) (root t.im);
  z = neg_r ints (root m.re);
}

abbrev pub y_of : Parts → Parts → Parts → Exact.Vect ℤ
y_of s t m = record {
  x = sub_r ints (root s.im) (root t.im);
  y = add_r ints (root s.re) (root t.re);
  z = neg_r ints (root m.im);
}

pub record XFits (s t m : Parts) : Type 0 where
  pub x_fits : Subtractable (root s.re) (root t.re)
  pub im_up : Up (2 ^ 62) (root s.im)
  pub y_fits : Subtractable (neg_r ints (root s.im)) (root t.im)
  pub z_up : Up (2 ^ 62) (root m.re)

pub record YFits (s t m : Parts) : Type 0 where
  pub x_fits : Subtractable (root s.im) (root t.im)
  pub y_fits : Addable (root s.re) (root t.re)
  pub z_up : Up (2 ^ 62) (root m.im)

-- where the negative is another name
pub minus_fits : (x n y : Root) → root n ≡ neg_r ints (root x) → Subtractable (neg_r ints (root x)) (root y) → Subtractable (root n) (root y)
minus_fits x n y e h = rw e h

pub x_made : (s t m : Parts) (n a b c : Root) → root n ≡ neg_r ints (root s.im) → root a ≡ sub_r ints (root s.re) (root t.re)
    → root b ≡ sub_r ints (root n) (root t.im) → root c ≡ neg_r ints (root m.re)
    → vect (record { x = a; y = b; z = c }) ≡ x_of s t m
x_made s t m n a b c n_is a-is b-is c-is = vect_path a-is (b-is ∙ ap (λ y. sub_r ints y (root t.im)) n_is) c-is

pub y_made : (s t m : Parts) (a b c : Root) → root a ≡ sub_r ints (root s.im) (root t.im) → root b ≡ add_r ints (root s.re) (root t.re)
    → root c ≡ neg_r ints (root m.im)
    → vect (record { x = a; y = b; z = c }) ≡ y_of s t m
y_made s t m a b c = vect_path

abbrev Squared : ZOmega → Parts → Type 0
Squared x s = HasParts (square_re ints (quad x)) (square_im ints (quad x)) s

abbrev Doubled : ZOmega → Parts → Type 0
Doubled x m = HasParts (twice_re ints (quad x)) (twice_im ints (quad x)) m

module _ (z w : ZOmega) (h : Held (quad z) (quad w)) (s t : Parts) (s_is : Squared z s) (t-is : Squared w t)
    (x : ZOmega) (m : Parts) (x_is : quad x ≡ mul_q ints (quad z) (quad w)) (m_is : Doubled x m) where
  s_re : Up (2 ^ 62) (root s.re)
  s_re = rw s_is.re_is (square_re_lem z h.z_in)

  s_im : Up (2 ^ 62) (root s.im)
  s_im = rw s_is.im_is (square_im_lem z h.z_in)

  t_re : Up (2 ^ 62) (root t.re)
  t_re = rw t-is.re_is (square_re_lem w h.w_in)

  t_im : Up (2 ^ 62) (root t.im)
  t_im = rw t-is.im_is (square_im_lem w h.w_in)

  pub x_fit : XFits s t m
  x_fit =
      record {
        x_fits = record { left = s_re; right = t_re; rest = less_up s_is.re_is t-is.re_is (high h.up.x_up.x_up) };
        im_up = s_im;
        y_fits = record { left = up_neg s_im; right = t_im; rest = less_up (ap (neg_r ints) s_is.im_is) t-is.im_is (high h.up.x_up.y_up) };
        z_up = rw m_is.re_is (straight_twiced z w h x x_is).re_up;
      }

  pub y_fit : YFits s t m
  y_fit =
      record {
        x_fits = record { left = s_im; right = t_im; rest = less_up s_is.im_is t-is.im_is (high h.up.y_up.x_up) };
        y_fits = record { left = s_re; right = t_re; total = more_up s_is.re_is t-is.re_is (high h.up.y_up.y_up) };
        z_up = rw m_is.im_is (straight_twiced z w h x x_is).im_up;
      }

  -- all three
  x_is_x : x_of s t m ≡ (columns ints (quad z) (quad w)).x
  x_is_x =
      vect_path
      (ap₂ (sub_r ints) s_is.re_is t-is.re_is)
      (ap₂ (λ a b. sub_r ints (neg_r ints a) b) s_is.im_is t-is.im_is)
      (ap (neg_r ints) (m_is.re_is ∙ ap (twice_re ints) x_is))

  y_is_y : y_of s t m ≡ (columns ints (quad z) (quad w)).y
  y_is_y =
      vect_path
      (ap₂ (sub_r ints) s_is.im_is t-is.im_is)
      (ap₂ (add_r ints) s_is.re_is t-is.re_is)
      (ap (neg_r ints) (m_is.im_is ∙ ap (twice_im ints) x_is))

  pub columns_made : (k : ℕ) (a b v : Vect) → vect a ≡ x_of s t m → vect b ≡ y_of s t m → vect v ≡ (columns ints (quad z) (quad w)).z
      → rotation_of (record { x = a; y = b; z = v; e = k + k }) ≡ record { m = columns ints (quad z) (quad w); e = k + k }
  columns_made k a b v a-is b-is v-is = λ i. record { m = record { x = (a-is ∙ x_is_x) i; y = (b-is ∙ y_is_y) i; z = v-is i }; e = k + k }

pub z_made : (z w c x : ZOmega) (m : Parts) (d : Root) → quad c ≡ conj_q ints (quad z) → quad x ≡ mul_q ints (quad c) (quad w) → Doubled x m
    → root d ≡ norms ints (quad z) (quad w)
    → vect (record { x = m.re; y = m.im; z = d }) ≡ (columns ints (quad z) (quad w)).z
z_made z w c x m d c-is x_is m_is d-is =
    let crossed = x_is ∙ ap (λ a. mul_q ints a (quad w)) c-is in
    vect_path (m_is.re_is ∙ ap (twice_re ints) crossed) (m_is.im_is ∙ ap (twice_im ints) crossed) d-is
