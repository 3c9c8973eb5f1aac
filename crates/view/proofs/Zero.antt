-- Where A and B are 0 the float is +0, for every s. Assumes nothing.
use mathlib.Core.Path.{◌≡◌, refl, sym, ◌∙◌, ap}
use mathlib.Core.Bool.{false}
use Prim.Native.Nat.{ℕ, ◌*◌, ◌^◌, ◌≤◌}
use native.Mathlib.Nat.{mul-pos, zero-mul}
use lib.Dec.{lit<}
use lib.IntN.{pos}
use lib.Pow.{pow_pos}
use lib.Ieee.{Float, fin, binary64, round, add, mul, of_int, of_bits}
use lib.Ieee.Scale.{round_same}
use Rattle.view.specs.Meaning.Near.{root_two, half^, rounded, Shows}
use Rattle.view.specs.Meaning.Outcome.{nil}
use Rattle.view.proofs.Operations.{mul_of}
use Rattle.view.proofs.Powers.{half_value}

abbrev zero_sum : Float
zero_sum = add binary64 (of_int binary64 (pos 0)) (mul binary64 (of_int binary64 (pos 0)) root_two)

sum_is : zero_sum ≡ fin false 0 (pos 0)
unfolding add mul of_int of_bits
sum_is = refl

nil_is : round binary64 false 0 1 ≡ nil
unfolding round of_bits
nil_is = refl

pub rounded_zero : (s : ℕ) → s ≤ 52 → rounded (record { A = pos 0; B = pos 0; s = s }) ≡ nil
unfolding rounded
rounded_zero s h =
    ap (λ (x : Float). mul binary64 x (half^ s)) sum_is
    ∙ mul_of binary64 (fin false 0 (pos 0)) (half^ s) false false 0 1 1 (2 ^ s) (lit< tt) (pow_pos s) (refl, refl) (half_value s h)
    ∙ round_same binary64 false 0 (1 * 2 ^ s) 0 1 (mul-pos (lit< tt) (pow_pos s)) (lit< tt) (sym (zero-mul (1 * 2 ^ s)))
    ∙ nil_is

pub zero_shown : (s : ℕ) (r : Float) → s ≤ 52 → Shows (record { A = pos 0; B = pos 0; s = s }) r → r ≡ nil
zero_shown s r h a = a.is ∙ rounded_zero s h
