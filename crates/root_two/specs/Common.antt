-- Trailing zeros that three numbers share: their `or` has them. Assumes nothing.
use Rattle.std.proofs.Common.{sym, ap, subst, SFits, of_z, to_z, to_z-of_z}
use Rattle.std.specs.Prelude.{ℕ, ◌≤◌, ℤ}
use Rattle.std.specs.Int.Bits.{bit_or}
use Rattle.std.specs.Int.{w64}
use Rattle.std.proofs.Math.Facts.{of_z-to_z}
use Rattle.exact.specs.Meaning.Rotation.{Vect}
use Rattle.exact.proofs.Whole.Machine.{held}
use Rattle.exact.specs.Whole.Twos.{TwoTo}
use Rattle.exact.proofs.Whole.Twos.{or_z, or_fits, or_sfits, or_each, or_all}

-- r has the trailing zeros that a, b and c share
pub record Common (a b c r : ℤ) : Type 0 where
  pub each : (m : ℕ) → m ≤ 64 → TwoTo m r → TwoTo m a × (TwoTo m b × TwoTo m c)
  pub all : (m : ℕ) → m ≤ 64 → TwoTo m a → TwoTo m b → TwoTo m c → TwoTo m r

abbrev pub SharesP : Vect ℤ → ℤ → Type 0
SharesP v r = Common v.x.p v.y.p v.z.p r

abbrev pub SharesQ : Vect ℤ → ℤ → Type 0
SharesQ v r = Common v.x.q v.y.q v.z.q r

-- the `or` of three, as the machine has it
pub or_common : (a b c : ℤ) → SFits w64 a → SFits w64 b → SFits w64 c → Common a b c (to_z w64 (bit_or (bit_or (of_z w64 a) (of_z w64 b)) (of_z w64 c)))
or_common a b c fa fb fc =
    subst (Common a b c) (ap (λ n. to_z w64 (bit_or n (of_z w64 c))) (of_z-to_z (or_fits a b fa fb)))
    (record {
      each = λ m l h.
          let s = or_each (or_z a b) c fab fc m l h in
          let t = or_each a b fa fb m l s.0 in
          (t.0, (t.1, s.1));
      all = λ m l x y z. or_all (or_z a b) c fab fc m l (or_all a b fa fb m l x y) z;
    })
  where
    fab : SFits w64 (or_z a b)
    fab = or_sfits a b fa fb

-- what was said of the numbers read back
pub common_back : (a b c r : ℤ) → SFits w64 a → SFits w64 b → SFits w64 c → SFits w64 r → Common (held w64 a) (held w64 b) (held w64 c) r
    → Common a b c (held w64 r)
common_back a b c r fa fb fc fr h =
    record {
      each = λ m l t.
          let s = h.each m l (subst (TwoTo m) (to_z-of_z fr) t) in
          (subst (TwoTo m) (to_z-of_z fa) s.0, (subst (TwoTo m) (to_z-of_z fb) s.1.0, subst (TwoTo m) (to_z-of_z fc) s.1.1));
      all = λ m l x y z.
          subst (TwoTo m) (sym (to_z-of_z fr))
          (h.all m l (subst (TwoTo m) (sym (to_z-of_z fa)) x) (subst (TwoTo m) (sym (to_z-of_z fb)) y) (subst (TwoTo m) (sym (to_z-of_z fc)) z));
    }
