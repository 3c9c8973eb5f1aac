-- The arguments of job 6: whatever the four numbers, reduced they are in their ranges, and `modulo` is the remainder. Assumes nothing.
use Rattle.std.specs.Prelude.{◌≡◌, ℕ, suc, ◌-◌, ◌+◌, ◌*◌, ◌/◌, ◌%◌, ◌<◌, ◌≤◌, ℤ, pos, negsuc, neg_ℤ, ◌+ℤ◌, ◌*ℤ◌}
use Rattle.std.proofs.Common.{sym, ap, mod-lt, div-add-mod', suc-mul, arith}
use Rattle.exact.proofs.Whole.Linear.{int}
use Rattle.exact.proofs.Whole.Linear.{sum, negation}
use Rattle.clifford.specs.Meaning.{modulo, reduced, Ranged}

modulo_few : (x : ℤ) (m : ℕ) → 0 < m → modulo x m < m
modulo_few (pos n) m h = mod-lt n h
modulo_few (negsuc n) m h = omega arith

pub reduced_ranged : (a b c d : ℤ) → Ranged (reduced a b c d)
reduced_ranged a b c d = record {
  a_few = modulo_few a 3 (omega arith);
  b_few = modulo_few b 2 (omega arith);
  c_few = modulo_few c 4 (omega arith);
  d_few = modulo_few d 8 (omega arith);
}

-- `modulo` is the remainder: what is left is a multiple
pub record Remainder (z : ℤ) (m r : ℕ) : Type 0 where
  pub small : r < m
  pub quotient : ℤ
  pub is : z ≡ quotient *ℤ pos m +ℤ pos r

pub modulo_is : (z : ℤ) (m : ℕ) → 0 < m → Remainder z m (modulo z m)
modulo_is (pos n) m h = record { small = modulo_few (pos n) m h; quotient = pos (n / m); is = ap pos (sym (div-add-mod' n m)) }
modulo_is (negsuc n) m h = record {
  small = modulo_few (negsuc n) m h;
  quotient = negsuc (n / m);
  is = below (suc (n / m) * m) (n % m) n m turns (mod-lt n h) (omega (arith, div-add-mod' n m));
}
  where
    turns : suc (n / m) * m ≡ n - n % m + m
    turns = rw (suc-mul (n / m) m) (omega (arith, div-add-mod' n m))

    below : (k r n m : ℕ) → k ≡ n - r + m → r < m → r ≤ n → negsuc n ≡ neg_ℤ (pos k) +ℤ pos (m - 1 - r)
    below k r n m e l g = omega (arith, int, sum (neg_ℤ (pos k)) (pos (m - 1 - r)), negation (pos k))
