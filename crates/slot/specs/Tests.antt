-- The tests of a record, one by one: ranges, codes in front, nothing behind them. Assumes nothing.
use Rattle.std.specs.Prelude.{◌≡◌, List, [], ◌∷◌, ℕ, ◌+◌, ◌/◌, ◌≤◌, ◌<◌, get_or}

-- ---- the ranges of the six numbers
pub record Ranges (rest : List ℕ) : Type 0 where
  pub count_few : get_or rest 0 0 ≤ 4096
  pub a_few : get_or rest 2 0 < 3
  pub b_few : get_or rest 3 0 < 2
  pub c_few : get_or rest 4 0 < 4
  pub d_few : get_or rest 5 0 < 8

-- ---- the codes in front: a T at most first
pub record Fronts (items : List ℕ) (n : ℕ) : Type 0 where
  pub first : 0 < n → (0 < get_or items 0 0) × (get_or items 0 0 < 4)
  pub inner : (i : ℕ) → 0 < i → i < n → get_or items i 0 / 2 ≡ 1

abbrev pub sum : List ℕ → ℕ
sum [] = 0
sum (c ∷ cs) = c + sum cs

-- ---- nothing behind
pub record Behind (items : List ℕ) (from to : ℕ) : Type 0 where
  pub empty : (i : ℕ) → from ≤ i → i < to → get_or items i 0 ≡ 0
