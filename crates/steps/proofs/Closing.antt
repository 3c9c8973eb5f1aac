-- The end of synthesis, k = 0: z or w is a power of omega and the other is 0, and the triple is spelled by at most one T, at most one X,
-- S at most 3 times and W at most 7 times. Assumes nothing.
use Rattle.std.specs.Prelude.{◌≡◌, refl, Bool, true, false, cond, ◌&&◌, List, [], ◌∷◌, ◌++◌, ℕ, zero, suc, ◌+◌, ◌-◌, ◌*◌, ◌/◌, ◌%◌, ◌^◌, ◌≤◌, ◌<◌, T, length, ℤ, pos, negsuc, nat_abs, ◌+ℤ◌, ◌*ℤ◌}
use Rattle.std.proofs.Common.{sym, ◌∙◌, ap, ap₂, arith, le-mul_of_pos_right, eqb→eq, length-append}
use Rattle.std.proofs.Math.Facts.{and_yes}
use Rattle.exact.specs.Meaning.Number.{Ω, ints, omegas, mul_q, const_q, omega^}
use Rattle.exact.specs.Meaning.Word.{Letter, S, X, W, T', word, tee, tees}
use Rattle.exact.specs.Meaning.Normal.{times}
use Rattle.exact.specs.Meaning.Triple.{Triple, squares, entries, Unitary}
use Rattle.exact.proofs.Whole.Parity.{false_true}
use Rattle.exact.proofs.Algebra.Solver.{con, ◌⊗◌, ring₁}
use Rattle.exact.proofs.Algebra.Omega.{omegas_laws, quad_path}
use Rattle.exact.specs.Algebra.OmegaPower.{which}
use Rattle.exact.proofs.Algebra.OmegaPower.{which_omega^, omega^_mod, omega^_add}
use Rattle.exact.specs.Matrices.Triples.{act}
use Rattle.exact.proofs.Matrices.Triples.{triple_of, word_triple}
use Rattle.exact.proofs.Unique.Tails.{tees_append}
use Rattle.steps.specs.Residues.{back}
use Rattle.steps.specs.Step.{act_all}
use Rattle.steps.proofs.Step.{turned, at_n, n_same}
use Rattle.steps.specs.Closing.{zero_z, is_zero, lead, swaps, unit_of, phase, quarters, spell, closing}

-- ---- a sum of squares that is 0, and one that is 1
abbrev sq : ℤ → ℕ
sq x = nat_abs x * nat_abs x

square_is : (x : ℤ) → x *ℤ x ≡ pos (sq x)
square_is (pos n) = refl
square_is (negsuc n) = refl

abbrev sqs : Ω → ℕ
sqs x = sq x.a + sq x.b + sq x.c + sq x.d

squares_are : (x : Ω) → squares ints x ≡ pos (sqs x)
squares_are x = ap₂ ◌+ℤ◌ (ap₂ ◌+ℤ◌ (ap₂ ◌+ℤ◌ (square_is x.a) (square_is x.b)) (square_is x.c)) (square_is x.d)

le_square : (n : ℕ) → n ≤ n * n
le_square zero = omega arith
le_square (suc n) = le-mul_of_pos_right (suc n) (omega arith)

nil_of : (x : ℤ) → sq x ≡ 0 → x ≡ pos 0
nil_of (pos n) e = ap pos (omega (arith, le_square n))
nil_of (negsuc n) e = absurd (omega (arith, le_square (suc n)))

data Signed (x : ℤ) : Type 0 where
  plus : x ≡ pos 1 → Signed x
  minus : x ≡ negsuc 0 → Signed x

signed : (x : ℤ) → sq x ≡ 1 → Signed x
signed (pos zero) e = absurd (omega arith)
signed (pos (suc n)) e = plus (ap pos (omega (arith, le_square (suc n))))
signed (negsuc n) e = minus (ap negsuc (omega (arith, le_square (suc n))))

data One (i j k l : ℕ) : Type 0 where
  first : i ≡ 1 → j ≡ 0 → k ≡ 0 → l ≡ 0 → One i j k l
  second : i ≡ 0 → j ≡ 1 → k ≡ 0 → l ≡ 0 → One i j k l
  third : i ≡ 0 → j ≡ 0 → k ≡ 1 → l ≡ 0 → One i j k l
  fourth : i ≡ 0 → j ≡ 0 → k ≡ 0 → l ≡ 1 → One i j k l

one_of : (i j k l : ℕ) → i + j + k + l ≡ 1 → One i j k l
one_of zero zero zero l e = fourth refl refl refl (omega arith)
one_of zero zero (suc k) l e = third refl refl (omega arith) (omega arith)
one_of zero (suc j) k l e = second refl (omega arith) (omega arith) (omega arith)
one_of (suc i) j k l e = first (omega arith) (omega arith) (omega arith) (omega arith)

pub record Power (x : Ω) : Type 0 where
  pub exponent : ℕ
  pub few : exponent < 8
  pub is : x ≡ omega^ exponent

power_of_lem : (x : Ω) → sqs x ≡ 1 → Power x
power_of_lem x e = go (one_of (sq x.a) (sq x.b) (sq x.c) (sq x.d) e)
  where
    at_a : Signed x.a → x.b ≡ pos 0 → x.c ≡ pos 0 → x.d ≡ pos 0 → Power x
    at_a (plus h) b c d = record { exponent = 3; few = omega arith; is = quad_path h b c d }
    at_a (minus h) b c d = record { exponent = 7; few = omega arith; is = quad_path h b c d }

    at_b : Signed x.b → x.a ≡ pos 0 → x.c ≡ pos 0 → x.d ≡ pos 0 → Power x
    at_b (plus h) a c d = record { exponent = 2; few = omega arith; is = quad_path a h c d }
    at_b (minus h) a c d = record { exponent = 6; few = omega arith; is = quad_path a h c d }

    at_c : Signed x.c → x.a ≡ pos 0 → x.b ≡ pos 0 → x.d ≡ pos 0 → Power x
    at_c (plus h) a b d = record { exponent = 1; few = omega arith; is = quad_path a b h d }
    at_c (minus h) a b d = record { exponent = 5; few = omega arith; is = quad_path a b h d }

    at_d : Signed x.d → x.a ≡ pos 0 → x.b ≡ pos 0 → x.c ≡ pos 0 → Power x
    at_d (plus h) a b c = record { exponent = 0; few = omega arith; is = quad_path a b c h }
    at_d (minus h) a b c = record { exponent = 4; few = omega arith; is = quad_path a b c h }

    go : One (sq x.a) (sq x.b) (sq x.c) (sq x.d) → Power x
    go (first h j k l) = at_a (signed x.a h) (nil_of x.b j) (nil_of x.c k) (nil_of x.d l)
    go (second h j k l) = at_b (signed x.b j) (nil_of x.a h) (nil_of x.c k) (nil_of x.d l)
    go (third h j k l) = at_c (signed x.c k) (nil_of x.a h) (nil_of x.b j) (nil_of x.d l)
    go (fourth h j k l) = at_d (signed x.d l) (nil_of x.a h) (nil_of x.b j) (nil_of x.c k)

pub power_which : {x : Ω} → Power x → x ≡ omega^ (which x)
power_which {x} p = p.is ∙ sym (ap omega^ (ap which p.is ∙ which_omega^ p.exponent) ∙ sym (omega^_mod p.exponent))

nothing_of : (x : Ω) → sqs x ≡ 0 → x ≡ const_q ints (pos 0)
nothing_of x e =
    quad_path
    (nil_of x.a (omega arith))
    (nil_of x.b (omega arith))
    (nil_of x.c (omega arith))
    (nil_of x.d (omega arith))

zero_is : (x : Ω) → is_zero x ≡ true → x ≡ const_q ints (pos 0)
zero_is x e =
    let t₁ = and_yes (zero_z x.a) (zero_z x.b && (zero_z x.c && zero_z x.d)) (rw e tt) in
    let t₂ = and_yes (zero_z x.b) (zero_z x.c && zero_z x.d) t₁.1 in
    let t₃ = and_yes (zero_z x.c) (zero_z x.d) t₂.1 in
    quad_path (nil x.a t₁.0) (nil x.b t₂.0) (nil x.c t₃.0) (nil x.d t₃.1)
  where
    nil : (y : ℤ) → T (zero_z y) → y ≡ pos 0
    nil (pos n) t = ap pos (eqb→eq n 0 t)
    nil (negsuc n) t = absurd (omega (arith, eqb→eq (suc n) 0 t))

-- ---- at k = 0
pub data Last (t : Triple) : Type 0 where
  diagonal : is_zero t.z ≡ false → Power t.z → t.w ≡ const_q ints (pos 0) → Last t
  swapped : is_zero t.z ≡ true → t.z ≡ const_q ints (pos 0) → Power t.w → Last t

pub last : (t : Triple) → Unitary t → t.k ≡ 0 → Last t
last t u e = go (is_zero t.z) refl
  where
    total : sqs t.z + sqs t.w ≡ 1
    total = ap nat_abs (sym (ap₂ ◌+ℤ◌ (squares_are t.z) (squares_are t.w)) ∙ u.squares_sum ∙ ap (λ k. pos (2 ^ k)) e)

    go : (b : Bool) → is_zero t.z ≡ b → Last t
    go true f =
        let z : t.z ≡ const_q ints (pos 0) = zero_is t.z f in
        let s : sqs t.z ≡ 0 = ap sqs z in
        swapped f z (power_of_lem t.w (omega (arith, total)))
    go false f = diagonal f (power_of_lem t.z (omega (arith, total, none))) (nothing_of t.w (omega (arith, total, none)))
      where
        none : sqs t.z ≡ 0 → ⊥
        none s = false_true (sym f ∙ ap is_zero (nothing_of t.z s))

-- ---- the triple that the letters spell
act_append : (u v : List Letter) → triple_of (u ++ v) ≡ act_all u (triple_of v)
act_append [] v = refl
act_append (l ∷ u) v = ap (act l) (act_append u v)

-- diagonal: z is omega^m, w is 0
abbrev flat : ℕ → ℕ → Triple
flat m n = record { k = 0; n = n; z = omega^ m; w = const_q ints (pos 0) }

ws_flat : (m : ℕ) → triple_of (times m W) ≡ flat m (2 * m)
ws_flat zero = refl
ws_flat (suc m) = ap (act W) (ws_flat m) ∙ ap (flat (suc m)) (more m)
  where
    more : (m : ℕ) → 2 * m + 2 ≡ 2 * suc m
    more m = omega arith

ss_flat : (s m n : ℕ) → act_all (times s S) (flat m n) ≡ flat m (n + 2 * s)
ss_flat zero m n = ap (flat m) more
  where
    more : n ≡ n + 2 * 0
    more = omega arith
ss_flat (suc s) m n = ap (act S) (ss_flat s m n) ∙ ap (flat m) more
  where
    more : n + 2 * s + 2 ≡ n + 2 * suc s
    more = omega arith

abbrev shaped : ℕ → ℕ → ℕ → ℕ → Triple
shaped p q s m = act_all (times p T') (act_all (times q X) (flat m (2 * m + 2 * s)))

spelled : (p q s m : ℕ) → triple_of (spell p q s m) ≡ shaped p q s m
spelled p q s m =
    act_append (times p T') (times q X ++ (times s S ++ times m W))
    ∙ ap (act_all (times p T')) (act_append (times q X) (times s S ++ times m W) ∙ ap (act_all (times q X)) after_x_lem)
  where
    after_x_lem : triple_of (times s S ++ times m W) ≡ flat m (2 * m + 2 * s)
    after_x_lem = act_append (times s S) (times m W) ∙ ap (act_all (times s S)) (ws_flat m) ∙ ss_flat s m (2 * m)

-- ---- the theorem
mod_8 : (a b x y : ℕ) → a + 8 * x ≡ b + 8 * y → a % 8 ≡ b % 8
mod_8 a b x y e = omega (arith, quotients)
  where
    quotients : a / 8 + x ≡ b / 8 + y
    quotients = omega arith

halves : (e : ℕ) → 2 * e % 8 / 2 ≡ e % 4
halves e = omega arith

-- what n comes to, modulo 8
closed : (n p q m s : ℕ) → p ≡ n % 2 → m < 8 → s ≡ (n + 4 * q + 16 - (p + 2 * m)) % 8 / 2 → (2 * m + 2 * s + 4 * q + p) % 8 ≡ n % 8
closed n p q m s e h f = mod_8 (2 * m + 2 * s + 4 * q + p) n (r / 4) (q + 2) (omega (arith, half_n, s_is))
  where
    half_n : n ≡ 2 * (n / 2) + p
    half_n = omega arith

    r : ℕ
    r = n / 2 + 2 * q + 8 - m

    twice : n + 4 * q + 16 - (p + 2 * m) ≡ 2 * r
    twice = omega (arith, half_n)

    s_is : s ≡ r % 4
    s_is = f ∙ ap (λ x. x % 8 / 2) twice ∙ halves r

nothing_times : (c : Ω) → mul_q ints c (const_q ints (pos 0)) ≡ const_q ints (pos 0)
nothing_times = ring₁ omegas omegas_laws (λ c. c ⊗ con (pos 0)) (λ c. con (pos 0)) tt

pub back_forth : (p : ℕ) (x : Ω) → p ≤ 8 → mul_q ints (omega^ p) (back p x) ≡ x
unfolding back
back_forth p x h =
    sym (omegas_laws.mul_assoc (omega^ p) (omega^ (8 - p)) x)
    ∙ ap (λ c. mul_q ints c x) (sym (omega^_add p (8 - p)) ∙ ap omega^ whole)
    ∙ omegas_laws.one_mul x
  where
    whole : p + (8 - p) ≡ 8
    whole = omega arith

back_power : (p : ℕ) {x : Ω} → Power x → Power (back p x)
unfolding back
back_power p {x} h = record {
  exponent = (8 - p + h.exponent) % 8;
  few = omega arith;
  is = ap (mul_q ints (omega^ (8 - p))) h.is ∙ sym (omega^_add (8 - p) h.exponent) ∙ omega^_mod (8 - p + h.exponent);
}

-- the two shapes that are left, by the count of X
data Left (t : Triple) (p q m : ℕ) : Type 0 where
  flat_left : q ≡ 0 → t.z ≡ omega^ m → t.w ≡ const_q ints (pos 0) → Left t p q m
  swapped_left : q ≡ 1 → t.z ≡ const_q ints (pos 0) → t.w ≡ mul_q ints (omega^ p) (omega^ m) → Left t p q m

module _ (t : Triple) (p q s m : ℕ) (e : t.k ≡ 0) where
  spelled_is : Left t p q m → shaped p q s m ≡ at_n t (2 * m + 2 * s + 4 * q + p)
  spelled_is (flat_left f z w) =
      ap (λ q. shaped p q s m) f
      ∙ turned p (flat m (2 * m + 2 * s))
      ∙ (λ i. record { k = sym e i; n = n_is i; z = sym z i; w = (nothing_times (omega^ p) ∙ sym w) i })
    where
      n_is : 2 * m + 2 * s + p ≡ 2 * m + 2 * s + 4 * q + p
      n_is = omega arith
  spelled_is (swapped_left f z w) =
      ap (λ q. shaped p q s m) f
      ∙ turned p (act X (flat m (2 * m + 2 * s)))
      ∙ (λ i. record { k = sym e i; n = n_is i; z = sym z i; w = sym w i })
    where
      n_is : 2 * m + 2 * s + 4 + p ≡ 2 * m + 2 * s + 4 * q + p
      n_is = omega arith

  finish : p ≡ t.n % 2 → m < 8 → s ≡ (t.n + 4 * q + 16 - (p + 2 * m)) % 8 / 2 → Left t p q m → word (spell p q s m) ≡ entries t
  finish hp hm hs l =
      sym (word_triple (spell p q s m))
      ∙ ap entries (spelled p q s m ∙ spelled_is l)
      ∙ n_same t (2 * m + 2 * s + 4 * q + p) (closed t.n p q m s hp hm hs)

unit_power : (t : Triple) → Last t → Power (unit_of t)
unit_power t (diagonal f h w) = rw f h
unit_power t (swapped f z h) = rw f (back_power (lead t) h)

pub phase_few : (t : Triple) → Unitary t → t.k ≡ 0 → phase t < 8
phase_few t u e = few_which (unit_power t (last t u e))
  where
    few_which : {x : Ω} → Power x → which x < 8
    few_which {x} p = omega (arith, ap which p.is ∙ which_omega^ p.exponent)

left_over : (t : Triple) → Last t → Left t (lead t) (swaps t) (phase t)
left_over t (diagonal f h w) = flat_left (ap (λ b. cond b 1 0) f) (power_which h ∙ ap (λ x. omega^ (which x)) (sym unit_is)) w
  where
    unit_is : unit_of t ≡ t.z
    unit_is = ap (λ b. cond b (back (lead t) t.w) t.z) f
left_over t (swapped f z h) =
    swapped_left (ap (λ b. cond b 1 0) f) z
    (sym (back_forth (lead t) t.w (omega arith)) ∙ ap (mul_q ints (omega^ (lead t))) is_power)
  where
    unit_is : unit_of t ≡ back (lead t) t.w
    unit_is = ap (λ b. cond b (back (lead t) t.w) t.z) f

    is_power : back (lead t) t.w ≡ omega^ (phase t)
    is_power = power_which (back_power (lead t) h) ∙ ap (λ x. omega^ (which x)) (sym unit_is)

pub closing_is : (t : Triple) → Unitary t → t.k ≡ 0 → word (closing t) ≡ entries t
unfolding closing
closing_is t u e = finish t (lead t) (swaps t) (quarters t) (phase t) e refl (phase_few t u e) refl (left_over t (last t u e))

-- ---- how many letters
pub length_times : (n : ℕ) (l : Letter) → length (times n l) ≡ n
length_times zero l = refl
length_times (suc n) l = ap suc (length_times n l)

pub closing_length : (t : Triple) → Unitary t → t.k ≡ 0 → length (closing t) ≤ 12
unfolding closing
closing_length t u e =
    simp (length-append, length_times) (omega (arith, phase_few t u e, at_most (is_zero t.z)))
  where
    at_most : (b : Bool) → cond b 1 0 ≤ 1
    at_most true = omega arith
    at_most false = omega arith

none_tees : (l : Letter) → tee l ≡ 0 → (n : ℕ) → tees (times n l) ≡ 0
none_tees l e zero = refl
none_tees l e (suc n) = omega (arith, none_tees l e n)

times_tees : (n : ℕ) → tees (times n T') ≡ n
times_tees zero = refl
times_tees (suc n) = omega (arith, times_tees n)

pub closing_tees : (t : Triple) → tees (closing t) ≡ lead t
unfolding closing
closing_tees t = go (lead t) (swaps t) (quarters t) (phase t)
  where
    go : (p q s m : ℕ) → tees (spell p q s m) ≡ p
    go p q s m = simp tees_append (omega (arith, times_tees p, none_tees X refl q, none_tees S refl s, none_tees W refl m))
