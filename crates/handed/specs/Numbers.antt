-- Bytes in arrays of signed numbers, as the machine reads them back. Assumes nothing.
use Rattle.std.specs.Prelude.{◌≡◌, ℕ, ◌<◌, ◌^◌, ℤ, pos}
use Rattle.std.proofs.Common.{arith, Fits, to_z, to_z-of_z}
use Rattle.std.specs.Int.Signed.{mag}
use Rattle.std.specs.Int.{w8, w32, w64}
use Rattle.std.proofs.Math.Facts.{to_z_pos}
use Rattle.exact.proofs.Whole.Machine.{held}
use Rattle.exact.proofs.Whole.Size.{sfits_abs}
use Rattle.ring.specs.declared.ZOmega.{ZOmega}
use Rattle.root_two.specs.declared.Root.{Root}

-- ---- a byte as a signed number
pub record Wide (x : ℕ) (r : ℤ) : Type 0 where
  pub is : r ≡ pos x
  pub small : x < 256

pub wide_is : (x : ℕ) → Fits w8 x → Wide x (to_z w64 x)
wide_is x f = record { is = to_z_pos w64 (omega (arith, f.fits)); small = omega (arith, f.fits) }

pub narrow_is : (x : ℕ) → Fits w8 x → Wide x (to_z w32 x)
narrow_is x f = record { is = to_z_pos w32 (omega (arith, f.fits)); small = omega (arith, f.fits) }

-- as it is read back
pub wide_held : {x : ℕ} {r : ℤ} → Wide x r → held w64 r ≡ pos x
wide_held {x} {r} h = rw h.is (to_z-of_z {w = w64} {z = pos x} (sfits_abs (omega (arith, h.small))))

pub narrow_held : {x : ℕ} {r : ℤ} → Wide x r → held w32 r ≡ pos x
narrow_held {x} {r} h = rw h.is (to_z-of_z {w = w32} {z = pos x} (sfits_abs (omega (arith, h.small))))

pub held_is : (x : ℤ) → mag x < 2 ^ 63 → held w64 x ≡ x
held_is x f = to_z-of_z {w = w64} {z = x} (record { sfits = f })

pub four_held : {x : ZOmega} → mag x.a < 2 ^ 63 → mag x.b < 2 ^ 63 → mag x.c < 2 ^ 63 → mag x.d < 2 ^ 63
    → ◌≡◌ {A = ZOmega} (record { a = held w64 x.a; b = held w64 x.b; c = held w64 x.c; d = held w64 x.d }) x
four_held {x} a b c d = λ i. record { a = held_is x.a a i; b = held_is x.b b i; c = held_is x.c c i; d = held_is x.d d i }

-- p and q, each as it is read back
pub record Kept (r : Root) : Type 0 where
  pub p : held w64 r.p ≡ r.p
  pub q : held w64 r.q ≡ r.q

pub kept : {r : Root} → mag r.p < 2 ^ 63 → mag r.q < 2 ^ 63 → Kept r
kept {r} p q = record { p = held_is r.p p; q = held_is r.q q }
