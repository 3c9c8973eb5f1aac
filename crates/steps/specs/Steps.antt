-- Step after step until k is 0: there are at most two for each k, and the letters are those of the steps and then the closing ones.
-- Assumes nothing.
use Rattle.std.specs.Prelude.{Bool, cond, List, ◌++◌}
use Prim.Native.Nat.{ℕ, zero, suc, ◌-◌, ◌*◌}
use Rattle.exact.specs.Meaning.Word.{Letter}
use Rattle.exact.specs.Meaning.Triple.{Triple}
use Rattle.steps.specs.Meaning.{power}
use Rattle.steps.specs.Step.{block, falls, next}
use Rattle.steps.specs.Closing.{closing}

-- ---- how many steps there may be: two for each k, or one less where the first of them lowers k
abbrev pub left_by : Bool → ℕ → ℕ
left_by b k = cond b (2 * k - 1) (2 * k)

abbrev pub left : Triple → ℕ
left t = left_by (falls t) t.k

-- ---- what is gathered on the way
module _ (A : Type 0) (end : Triple → A) (more : Triple → A → A) where
  -- with so many steps at most
  abbrev pub within : ℕ → Triple → A
  within zero t = end t
  within (suc f) t = elim t.k [ zero ↦ end t | suc k ↦ more t (within f (next t)) ]

  unfoldable pub gathered : Triple → A
  gathered t = within (2 * t.k) t

-- ---- the letters, and the count of steps
unfoldable pub letters : Triple → List Letter
letters = gathered (List Letter) closing (λ t u. block (power t) ++ u)

unfoldable pub steps : Triple → ℕ
steps = gathered ℕ (λ t. 0) (λ t n. suc n)
