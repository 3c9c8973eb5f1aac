-- What power of root two divides all nine entries, told by the trailing zeros of two numbers: the `or` of all p, and that of all q. Assumes nothing.
use Rattle.std.specs.Prelude.{◌≡◌, refl, ℕ, zero, suc, ◌+◌, ◌-◌, ◌*◌, ◌/◌, ◌%◌, ◌≤◌, ◌<◌, min, ℤ, pos, negsuc, nat_abs}
use Rattle.std.proofs.Common.{sym, ◌∙◌, ap, subst, arith, Fits, SFits, of_z, to_z, to_z-of_z}
use Rattle.std.specs.Int.{w8, w64}
use Rattle.std.specs.Int.Count.{count_trailing_zeros, trailing_of_zero}
use Rattle.exact.specs.Meaning.Rotation.{Root, Three, Vect, lift}
use Rattle.exact.proofs.Whole.Machine.{held}
use Rattle.exact.specs.Whole.Twos.{TwoTo, Zeros}
use Rattle.exact.proofs.Whole.Twos.{less_often}
use Rattle.ring.specs.Trailing.{counted}
use Rattle.root_two.specs.Common.{Common, SharesP, SharesQ}
use Rattle.exact.specs.Algebra.RootPower.{DividesR}
use Rattle.exact.specs.Rotation.Least.{DividesV, Divides, Deepest, lifts}
use Rattle.root_two.specs.Meaning.{vect}
use Rattle.rotation.specs.Meaning.{axes_of}
use Rattle.rotation.specs.declared.Rotation.{Rotation}

-- ---- how often 2 divides a number, 64 times if it is 0
pub record TwosIn (x : ℤ) (n : ℕ) : Type 0 where
  pub so_often : TwoTo n x
  pub no_more : n < 64 → TwoTo (suc n) x → ⊥
  pub few : n ≤ 64

pub twos_nought : (x : ℤ) → SFits w64 x → of_z w64 x ≡ 0 → TwosIn x 64
twos_nought x f e = record { so_often = ap (λ z. nat_abs z % 18446744073709551616) nought; no_more = λ l. absurd (omega arith); few = omega arith }
  where
    nought : x ≡ pos 0
    nought = sym (to_z-of_z f) ∙ ap (to_z w64) e

pub twos_some : (x : ℤ) (n : ℕ) → SFits w64 x → (of_z w64 x ≡ 0 → ⊥) → Zeros (to_z w64 (of_z w64 x)) n → TwosIn x n
twos_some x n f some z =
    let y = subst (λ (w : ℤ). Zeros w n) (to_z-of_z f) z in
    record { so_often = y.so_often; no_more = λ l. y.no_more (λ e. some (ap (of_z w64) e)); few = omega (arith, y.few) }

-- by the bits of its size
nought : (z : ℤ) → nat_abs z ≡ 0 → z ≡ pos 0
nought (pos n) e = ap pos e
nought (negsuc n) e = absurd (omega arith)

module _ (x : ℤ) (f : SFits w64 x) (s : ℕ) (is : s ≡ nat_abs (held w64 x)) where
  pub twos_counted : TwosIn x (count_trailing_zeros 64 s)
  twos_counted = go s refl
    where
      go : (m : ℕ) → s ≡ m → TwosIn x (count_trailing_zeros 64 s)
      go zero e =
          rw (e, trailing_of_zero 64)
          (twos_nought x f (ap (of_z w64) (nought x (ap nat_abs (sym (to_z-of_z f)) ∙ sym is ∙ e))))
      go (suc m) e =
          let some : s ≡ 0 → ⊥ = omega arith in
          twos_some x (count_trailing_zeros 64 s) f (λ h. some (is ∙ ap (λ n. nat_abs (to_z w64 n)) h))
          (subst (λ (y : ℤ). Zeros y (count_trailing_zeros 64 s)) (sym (to_z-of_z f)) (counted x f s is some))

  pub twos_cast : Fits w8 (count_trailing_zeros 64 s)
  twos_cast = record { fits = omega (arith, twos_counted.few) }

-- ---- all nine
-- 2 to the j divides that part of each
abbrev Each : (Root ℤ → ℤ) → ℕ → Vect ℤ → Type 0
Each part j v = TwoTo j (part v.x) × (TwoTo j (part v.y) × TwoTo j (part v.z))

pub record Nine (part : Root ℤ → ℤ) (m : Three (Vect ℤ)) (r : ℤ) : Type 0 where
  pub each : (j : ℕ) → j ≤ 64 → TwoTo j r → Each part j m.x × (Each part j m.y × Each part j m.z)
  pub all : (j : ℕ) → j ≤ 64 → Each part j m.x → Each part j m.y → Each part j m.z → TwoTo j r

abbrev pub NineP : Three (Vect ℤ) → ℤ → Type 0
NineP = Nine (λ r. r.p)

abbrev pub NineQ : Three (Vect ℤ) → ℤ → Type 0
NineQ = Nine (λ r. r.q)

-- a, b and c share what the columns do, and r what a, b and c share
module _ (part : Root ℤ → ℤ) (m : Three (Vect ℤ)) (a b c r : ℤ)
    (x : Common (part m.x.x) (part m.x.y) (part m.x.z) a)
    (y : Common (part m.y.x) (part m.y.y) (part m.y.z) b)
    (z : Common (part m.z.x) (part m.z.y) (part m.z.z) c) where
  nine : Common a b c r → Nine part m r
  nine h =
      record {
        each = λ j l t. let s = h.each j l t in (x.each j l s.0, (y.each j l s.1.0, z.each j l s.1.1));
        all = λ j l f g k.
            h.all j l (x.all j l f.0 f.1.0 f.1.1) (y.all j l g.0 g.1.0 g.1.1) (z.all j l k.0 k.1.0 k.1.1);
      }

module _ (m : Three (Vect ℤ)) (a b c r : ℤ) where
  pub nine_p : SharesP m.x a → SharesP m.y b → SharesP m.z c → Common a b c r → NineP m r
  nine_p = nine (λ r. r.p) m a b c r

  pub nine_q : SharesQ m.x a → SharesQ m.y b → SharesQ m.z c → Common a b c r → NineQ m r
  nine_q = nine (λ r. r.q) m a b c r

module _ (m : Three (Vect ℤ)) (f i j : ℕ) (few : f ≤ 121) (P Q : ℤ)
    (p : Nine (λ r. r.p) m P) (q : Nine (λ r. r.q) m Q) (p-twos : TwosIn P i) (q-twos : TwosIn Q j) where
  divides : (n : ℕ) → n ≤ 2 * i → n ≤ 2 * j + 1 → Divides n m
  divides n li lj =
      let s = p.each i p-twos.few p-twos.so_often in
      let t = q.each j q-twos.few q-twos.so_often in
      record { x_so = column m.x s.0 t.0; y_so = column m.y s.1.0 t.1.0; z_so = column m.z s.1.1 t.1.1 }
    where
      entry : (r : Root ℤ) → TwoTo i r.p → TwoTo j r.q → DividesR n r
      entry r g h =
          record {
            p_so = less_often ((n + 1) / 2) i (nat_abs r.p) (omega arith) g;
            q_so = less_often (n / 2) j (nat_abs r.q) (omega arith) h;
          }

      column : (v : Vect ℤ) → Each (λ r. r.p) i v → Each (λ r. r.q) j v → DividesV n v
      column v g h =
          record { x_so = entry v.x g.0 h.0; y_so = entry v.y g.1.0 h.1.0; z_so = entry v.z g.1.1 h.1.1 }

  -- once more by p's, and by q's
  module _ (n : ℕ) (d : Divides (suc n) m) (less : n < f) where
    not_p : n ≡ 2 * i → ⊥
    not_p e = p-twos.no_more (omega arith) (p.all (suc i) (omega arith) (column d.x_so) (column d.y_so) (column d.z_so))
      where
        up : (suc n + 1) / 2 ≡ suc i
        up = omega arith

        column : {v : Vect ℤ} → DividesV (suc n) v → Each (λ r. r.p) (suc i) v
        column {v} g = subst (λ k. Each (λ r. r.p) k v) up (g.x_so.p_so, (g.y_so.p_so, g.z_so.p_so))

    not_q : n ≡ 2 * j + 1 → ⊥
    not_q e = q-twos.no_more (omega arith) (q.all (suc j) (omega arith) (column d.x_so) (column d.y_so) (column d.z_so))
      where
        up : suc n / 2 ≡ suc j
        up = omega arith

        column : {v : Vect ℤ} → DividesV (suc n) v → Each (λ r. r.q) (suc j) v
        column {v} g = subst (λ k. Each (λ r. r.q) k v) up (g.x_so.q_so, (g.y_so.q_so, g.z_so.q_so))

  deepest : (n : ℕ) → n ≡ min (min (2 * i) (2 * j + 1)) f → Deepest f m n
  deepest n e =
      record {
        within = omega arith;
        so_often = divides n (omega arith) (omega arith);
        no_more = λ l d. omega (arith, not_p n d l, not_q n d l);
      }

-- as they are read back
pub deepest_found : (m : Three (Vect ℤ)) (f i j n r : ℕ) → f ≤ 121 → (P Q : ℤ) → SFits w64 P → SFits w64 Q → NineP m P → NineQ m Q
    → TwosIn (held w64 P) i → TwosIn (held w64 Q) j → n ≡ min (2 * i) (2 * j + 1) → r ≡ min n f → Deepest f m r
deepest_found m f i j n r few P Q fp fq p q p-twos q-twos e g =
    deepest m f i j few P Q p q (subst (λ (x : ℤ). TwosIn x i) (to_z-of_z fp) p-twos) (subst (λ (x : ℤ). TwosIn x j) (to_z-of_z fq) q-twos) r
    (g ∙ ap (λ k. min k f) e)

-- ---- r is s divided by root two to the n
pub record Lowered (n : ℕ) (s r : Rotation) : Type 0 where
  pub lifted : lifts n (axes_of r) ≡ axes_of s
  pub e_is : r.e ≡ s.e - n

pub lowered : (n : ℕ) (s r : Rotation) → lift n (vect r.x) ≡ vect s.x → lift n (vect r.y) ≡ vect s.y
    → lift n (vect r.z) ≡ vect s.z
    → r.e ≡ s.e - n → Lowered n s r
lowered n s r x y z e = record { lifted = λ i. record { x = x i; y = y i; z = z i }; e_is = e }
