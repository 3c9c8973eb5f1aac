-- Numbers and lines in lent bytes. Assumes nothing.
use Rattle.std.specs.Prelude.{◌≡◌, ◌⊎◌, List, [], ◌∷◌, ◌++◌, ℕ, zero, suc, ◌+◌, ◌*◌, ◌/◌, ◌%◌, ◌^◌, ◌≤◌, ◌<◌, length, set}
use Rattle.std.proofs.Common.{◌∙◌, ap, inl, inr, pow-suc, arith, Fits, length-append}
use Rattle.std.specs.Int.{w64}
use Rattle.exact.specs.Meaning.Record.{digits}
use Rattle.lent.specs.Written.{Written, written_both, written_byte, written_length}
use Rattle.decimal.specs.Decimal.{below_ten, digits_one, digits_more}

-- ---- digits
pub number_one : (old : List ℕ) (at v d : ℕ) → v < 10 → d ≡ 48 + v → Written old at (digits v) (set old at d) (at + 1)
number_one old at v d h e = rw (digits_one v h, e) (written_byte old at (48 + v))

module _ (old mid : List ℕ) (at v i : ℕ) (h : 10 ≤ v) (p : Written old at (digits (v / 10)) mid i) where
  pub number_more : (d : ℕ) → d ≡ 48 + v % 10 → Written old at (digits v) (set mid i d) (i + 1)
  number_more d e = rw (digits_more v h, e) (written_both p (written_byte mid i (48 + v % 10)))

pub length_one : (v : ℕ) → v < 10 → length (digits v) ≡ 1
length_one v h = rw (digits_one v h)

pub length_more : (v : ℕ) → 10 ≤ v → length (digits v) ≡ length (digits (v / 10)) + 1
length_more v h = ap length (digits_more v h) ∙ length-append (digits (v / 10)) ((48 + v % 10) ∷ [])

-- there is room for the last digit
pub number_room : (old mid : List ℕ) (at v i : ℕ) → 10 ≤ v → Written old at (digits (v / 10)) mid i → at + length (digits v) ≤ length old
    → i < length mid
number_room old mid at v i h p r = omega (arith, length_more v h, p.behind, written_length p)

pub number_end : (old mid : List ℕ) (at v i : ℕ) → 10 ≤ v → Written old at (digits (v / 10)) mid i → at + length (digits v) ≤ length old
    → length old < 2 ^ 64 → Fits w64 (i + 1)
number_end old mid at v i h p r l = record { fits = omega (arith, length_more v h, p.behind) }

tenth : (m p : ℕ) → m * 10 < 10 * p → m < p
tenth m p h = omega arith

-- as many digits as the power of ten has zeros
pub digits_few : (k n : ℕ) → n < 10 ^ suc k → length (digits n) ≤ suc k
digits_few zero n h = omega (arith, length_one n h)
digits_few (suc k) n h = go (below_ten n) (λ l. digits_few k (n / 10) l)
  where
    go : (n < 10) ⊎ (10 ≤ n) → (n / 10 < 10 ^ suc k → length (digits (n / 10)) ≤ suc k) → length (digits n) ≤ suc (suc k)
    go (inl l) r = omega (arith, length_one n l)
    go (inr l) r = omega (arith, length_more n l, r (tenth (n / 10) (10 ^ suc k) (omega (arith, pow-suc 10 (suc k)))))

-- ---- three texts in a row, as a line's name, value and LF: where they have room together, each has it behind the one before
module _ (old : List ℕ) (at : ℕ) (a b c : List ℕ) (room : at + length (a ++ (b ++ c)) ≤ length old) where
  all : at + length a + length b + length c ≤ length old
  all = omega (arith, length-append a (b ++ c), length-append b c)

  pub first_room : at + length a ≤ length old
  first_room = omega (arith, all)

  module _ (mid : List ℕ) (i : ℕ) (p : Written old at a mid i) where
    pub second_room : i + length b ≤ length mid
    second_room = omega (arith, all, written_length p)

    module _ (mid' : List ℕ) (j : ℕ) (q : Written mid i b mid' j) where
      pub third_room : j + length c ≤ length mid'
      third_room = omega (arith, all, written_length p, written_length q)

      pub row_written : (new : List ℕ) (k : ℕ) → Written mid' j c new k → Written old at (a ++ (b ++ c)) new k
      row_written new k r = written_both p (written_both q r)
