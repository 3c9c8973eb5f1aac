-- A syllable put into a buffer: its first letter, its second and its last. Assumes nothing.
use Rattle.std.specs.Prelude.{◌≡◌, List, [], ◌∷◌, ℕ, ◌+◌, ◌-◌, ◌*◌, ◌/◌, ◌≤◌, ◌<◌, length, set}
use Rattle.std.proofs.Common.{sym, ◌∙◌, ap, subst, add-zero, arith, length-set, set-set}
use Rattle.exact.specs.Meaning.Word.{bytes}
use Rattle.reading.specs.declared.Syllable.{Syllable}
use Rattle.reading.specs.Syllables.{syllable_number, syllable_word, syllable_size}
use Rattle.writing.specs.Runs.{past_of}
use Rattle.writing.specs.Put.{Put, put_none, put_one, put_more}

-- the first of n letters, and the second or the only one
abbrev pub first_of : ℕ → ℕ
first_of n = 84 - 12 * past_of n 2 + 11 * past_of n 3

abbrev pub second_of : ℕ → ℕ
second_of n = 84 - 12 * past_of n 3

pub spelt_size : {s t : Syllable} → s ≡ t → length (syllable_word s) ≡ length (syllable_word t)
spelt_size e = ap (λ (u : Syllable). length (syllable_word u)) e

pub spelt_room : {s t : Syllable} (at n : ℕ) → s ≡ t → at + length (syllable_word t) ≤ n → at + length (syllable_word s) ≤ n
spelt_room at n e l = omega (arith, spelt_size e)

-- ---- none
pub spelt_none : (old : List ℕ) (at : ℕ) (s : Syllable) (n : ℕ) → n ≡ syllable_number s → n ≡ 0 → Put old at (bytes (syllable_word s)) old at
spelt_none old at Syllable.I n e z = put_none old at
spelt_none old at Syllable.T n e z = absurd (omega arith)
spelt_none old at Syllable.HT n e z = absurd (omega arith)
spelt_none old at Syllable.SHT n e z = absurd (omega arith)

-- ---- what is left where places fall together
abbrev three : List ℕ → ℕ → ℕ → ℕ → ℕ → ℕ → List ℕ
three old at n a b c = set (set (set old at a) (at + n / 2) b) (at + (n - 1)) c

module _ (old : List ℕ) (at : ℕ) where
  put_T : at + 1 ≤ length old → Put old at (84 ∷ []) (three old at 1 84 84 84) (at + 1)
  put_T l = subst (λ (x : List ℕ). Put old at (84 ∷ []) x (at + 1)) (sym same) (put_one old at 84 (omega arith))
    where
      same : three old at 1 84 84 84 ≡ set old at 84
      same = rw (add-zero at) (set-set (set old at 84) at 84 84 ∙ set-set old at 84 84)

  two : (a b : ℕ) → at + 2 ≤ length old → Put old at (a ∷ b ∷ []) (set (set old at a) (at + 1) b) (at + 1 + 1)
  two a b l =
      put_more old at (a ∷ []) (set old at a) (at + 1) (put_one old at a (omega arith)) (omega arith) (b ∷ []) (set (set old at a) (at + 1) b)
      (at + 1 + 1) (put_one (set old at a) (at + 1) b (simp length-set (omega arith)))

  put_HT : at + 2 ≤ length old → Put old at (72 ∷ 84 ∷ []) (three old at 2 72 84 84) (at + 2)
  put_HT l = subst (λ (x : List ℕ). Put old at (72 ∷ 84 ∷ []) x (at + 2)) (sym (set-set (set old at 72) (at + 1) 84 84)) both
    where
      next : at + 1 + 1 ≡ at + 2
      next = omega arith

      both : Put old at (72 ∷ 84 ∷ []) (set (set old at 72) (at + 1) 84) (at + 2)
      both = subst (λ r. Put old at (72 ∷ 84 ∷ []) (set (set old at 72) (at + 1) 84) r) next (two 72 84 l)

  put_SHT : at + 3 ≤ length old → Put old at (83 ∷ 72 ∷ 84 ∷ []) (three old at 3 83 72 84) (at + 3)
  put_SHT l =
      put_more old at (83 ∷ 72 ∷ []) (set (set old at 83) (at + 1) 72) (at + 1 + 1) (two 83 72 (omega arith)) (omega arith) (84 ∷ [])
      (three old at 3 83 72 84) (at + 3) last
    where
      here : at + 1 + 1 ≡ at + 2
      here = omega arith

      next : at + 2 + 1 ≡ at + 3
      next = omega arith

      last : Put (set (set old at 83) (at + 1) 72) (at + 1 + 1) (84 ∷ []) (three old at 3 83 72 84) (at + 3)
      last = rw (here, ← next) (put_one (set (set old at 83) (at + 1) 72) (at + 2) 84 (simp length-set (omega arith)))

  -- a, b and T at the three places
  pub spelt : (s : Syllable) (n a b : ℕ)
      → n ≡ syllable_number s
      → (n ≡ 0 → ⊥)
      → a ≡ first_of n
      → b ≡ second_of n
      → at + length (syllable_word s) ≤ length old
      → Put old at (bytes (syllable_word s)) (set (set (set old at a) (at + n / 2) b) (at + (n - 1)) 84) (at + n)
  spelt Syllable.I n a b e f g h l = absurd (f e)
  spelt Syllable.T n a b e f g h l = rw (g, h, e) (put_T l)
  spelt Syllable.HT n a b e f g h l = rw (g, h, e) (put_HT l)
  spelt Syllable.SHT n a b e f g h l = rw (g, h, e) (put_SHT l)

-- the places are within the syllable
module _ (s : Syllable) (n at : ℕ) (old : List ℕ) (e : n ≡ syllable_number s) (l : at + length (syllable_word s) ≤ length old) where
  pub whole_room : at + n ≤ length old
  whole_room = omega (arith, syllable_size s)

  module _ (f : n ≡ 0 → ⊥) where
    pub first_there : at < length old
    first_there = omega (arith, f, whole_room)

    pub second_there : (a : ℕ) → at + n / 2 < length (set old at a)
    second_there a = simp length-set (omega (arith, f, whole_room))

    pub last_there : (a b : ℕ) → at + (n - 1) < length (set (set old at a) (at + n / 2) b)
    last_there a b = simp length-set (omega (arith, f, whole_room))
