-- Powers of root two in ℤ[root two]: p + q·root two times root two to the n, and when it can be divided by that, which the powers of two in p and in q
-- say; the quotient by shifts. Assumes nothing.
use Rattle.std.specs.Prelude.{◌≡◌, refl, ℕ, zero, suc, ◌+◌, ◌*◌, ◌/◌, ◌%◌, ◌^◌, ◌≤◌, ℤ, pos, negsuc, nat_abs, ◌+ℤ◌, ◌*ℤ◌}
use Rattle.std.proofs.Common.{sym, ◌∙◌, ap, ap₂, subst, zero-add, suc-add, mul_comm, arith, pow_pos}
use Rattle.std.proofs.Math.Nat.{mod-one, div-add-mod}
use Rattle.std.specs.Int.Signed.{shr_z}
use Rattle.exact.specs.Meaning.Number.{ints}
use Rattle.exact.specs.Meaning.Rotation.{Root, times_r}
use Rattle.exact.proofs.Whole.Laws.{+ℤ_*ℤ, one_*ℤ}
use Rattle.exact.specs.Whole.Twos.{TwoTo}
use Rattle.exact.proofs.Whole.Twos.{multiple, less_often, shift_times}
use Rattle.exact.proofs.Algebra.RootTwo.{root_path}
use Rattle.exact.specs.Algebra.RootPower.{lift_r, DividesR}

pub lift_r_add : (m n : ℕ) (r : Root ℤ) → lift_r (m + n) r ≡ lift_r m (lift_r n r)
lift_r_add zero n r = ap (λ k. lift_r k r) (zero-add n)
lift_r_add (suc m) n r = ap (λ k. lift_r k r) (suc-add m n) ∙ ap (times_r ints) (lift_r_add m n r)

-- ---- 2 to the m
double : (m : ℕ) (z : ℤ) → pos (2 ^ m) *ℤ z +ℤ pos (2 ^ m) *ℤ z ≡ pos (2 ^ suc m) *ℤ z
double m z = sym (+ℤ_*ℤ (pos (2 ^ m)) (pos (2 ^ m)) z) ∙ ap (λ n. pos n *ℤ z) twice
  where
    twice : 2 ^ m + 2 ^ m ≡ 2 ^ suc m
    twice = omega arith

pub twos_lift : (m : ℕ) (r : Root ℤ) → lift_r (m + m) r ≡ record { p = pos (2 ^ m) *ℤ r.p; q = pos (2 ^ m) *ℤ r.q }
twos_lift zero r = root_path (sym (one_*ℤ r.p)) (sym (one_*ℤ r.q))
twos_lift (suc m) r =
    ap (λ n. lift_r n r) (two m)
    ∙ ap (λ s. times_r ints (times_r ints s)) (twos_lift m r)
    ∙ root_path (double m r.p) (double m r.q)
  where
    two : (m : ℕ) → suc m + suc m ≡ suc (suc (m + m))
    two m = omega arith

nat_abs_twice : (z : ℤ) → nat_abs (z +ℤ z) ≡ nat_abs z + nat_abs z
nat_abs_twice (pos n) = refl
nat_abs_twice (negsuc n) = omega arith

two_more : (m : ℕ) (z : ℤ) → TwoTo m z → TwoTo (suc m) (z +ℤ z)
two_more m z h = subst (λ n. n % 2 ^ suc m ≡ 0) (sym whole) (multiple c (2 ^ suc m) (pow_pos (suc m)))
  where
    c : ℕ
    c = nat_abs z / 2 ^ m

    once : nat_abs z ≡ c * 2 ^ m
    once = omega (arith, div-add-mod (nat_abs z) (2 ^ m), mul_comm c (2 ^ m))

    whole : nat_abs (z +ℤ z) ≡ c * 2 ^ suc m
    whole = nat_abs_twice z ∙ ap₂ (λ a b. a + b) once once ∙ doubled c (2 ^ m) (2 ^ suc m) (omega arith)
      where
        doubled : (c a b : ℕ) → b ≡ a + a → c * a + c * a ≡ c * b
        doubled c a b e = rw e (omega arith)

pub lift_divides : (n : ℕ) (r : Root ℤ) → DividesR n (lift_r n r)
lift_divides zero r = record { p_so = mod-one (nat_abs r.p); q_so = mod-one (nat_abs r.q) }
lift_divides (suc n) r =
    let h = lift_divides n r in
    record {
      p_so = subst (λ m. TwoTo m (lift_r (suc n) r).p) (up n) (two_more (n / 2) (lift_r n r).q h.q_so);
      q_so = subst (λ m. TwoTo m (lift_r n r).p) (across n) h.p_so;
    }
  where
    up : (n : ℕ) → suc (n / 2) ≡ (suc n + 1) / 2
    up n = omega arith

    across : (n : ℕ) → (n + 1) / 2 ≡ suc n / 2
    across n = omega arith

pub less_divides : (m n : ℕ) (r : Root ℤ) → m ≤ n → DividesR n r → DividesR m r
less_divides m n r l h =
    record {
      p_so = less_often ((m + 1) / 2) ((n + 1) / 2) (nat_abs r.p) (omega arith) h.p_so;
      q_so = less_often (m / 2) (n / 2) (nat_abs r.q) (omega arith) h.q_so;
    }

-- ---- divided
-- by root two to the m + m, and once more
abbrev pub evenly : ℕ → Root ℤ → Root ℤ
evenly m r = record { p = shr_z r.p (2 ^ m); q = shr_z r.q (2 ^ m) }

abbrev pub oddly : ℕ → Root ℤ → Root ℤ
oddly m r = record { p = shr_z r.q (2 ^ m); q = shr_z r.p (2 ^ suc m) }

pub evenly_lift : (n m : ℕ) (r : Root ℤ) → n ≡ m + m → DividesR n r → lift_r n (evenly m r) ≡ r
evenly_lift n m r e h =
    ap (λ k. lift_r k (evenly m r)) e
    ∙ twos_lift m (evenly m r)
    ∙ root_path
    (shift_times m r.p (subst (λ j. TwoTo j r.p) (up n m e) h.p_so))
    (shift_times m r.q (subst (λ j. TwoTo j r.q) (down n m e) h.q_so))
  where
    up : (n m : ℕ) → n ≡ m + m → (n + 1) / 2 ≡ m
    up n m e = omega arith

    down : (n m : ℕ) → n ≡ m + m → n / 2 ≡ m
    down n m e = omega arith

pub oddly_lift : (n m : ℕ) (r : Root ℤ) → n ≡ suc (m + m) → DividesR n r → lift_r n (oddly m r) ≡ r
oddly_lift n m r e h =
    ap (λ k. lift_r k (oddly m r)) e
    ∙ ap (times_r ints) (twos_lift m (oddly m r))
    ∙ root_path
    (double m (shr_z r.p (2 ^ suc m)) ∙ shift_times (suc m) r.p (subst (λ j. TwoTo j r.p) (up n m e) h.p_so))
    (shift_times m r.q (subst (λ j. TwoTo j r.q) (down n m e) h.q_so))
  where
    up : (n m : ℕ) → n ≡ suc (m + m) → (n + 1) / 2 ≡ suc m
    up n m e = omega arith

    down : (n m : ℕ) → n ≡ suc (m + m) → n / 2 ≡ m
    down n m e = omega arith
