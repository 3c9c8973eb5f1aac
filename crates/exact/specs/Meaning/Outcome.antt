-- Outcomes (docs/SCOPE.md, Refusals): of the refusals in their order the first whose condition holds, at its place; where none holds, the answer.
use Rattle.std.specs.Prelude.{◌≡◌, Bool, true, false, ℕ}

-- a refusal: its number, and where its condition holds
pub record Refusal : Type 1 where
  pub number : ℕ
  pub At : ℕ → Type 0

-- a condition that names no place: its place is 0
abbrev pub plain : ℕ → Type 0 → Refusal
plain n C = record { number = n; At = λ p. C × (p ≡ 0) }

pub data Refusals : Type 1 where
  none : Refusals
  ◌then◌ : Refusal → Refusals → Refusals

infixr 5 ◌then◌
-- fs, and after them gs
infixr 4 ◌also◌
abbrev pub ◌also◌ : Refusals → Refusals → Refusals
none also gs = gs
(f then fs) also gs = f then (fs also gs)

-- given at a place where it holds, or passed because it holds nowhere
pub data Rung (Holds Gives : ℕ → Type 0) (Rest : Type 0) : Type 0 where
  given : (p : ℕ) → Holds p → Gives p → Rung Holds Gives Rest
  passed : ((p : ℕ) → Holds p → ⊥) → Rest → Rung Holds Gives Rest

-- what is handed back, r, for refusals in their order; `refused` makes it of a number and a place
module _ {R : Type 0} (refused : ℕ → ℕ → R) (Answer : R → Type 0) where
  abbrev pub Outcome : Refusals → R → Type 0
  Outcome none r = Answer r
  Outcome (f then fs) r = Rung f.At (λ p. r ≡ refused f.number p) (Outcome fs r)

-- handed on: s is a function of what a job may hand back
pub record HandsOn {R S : Type 0} (Job : R → Type 0) (f : R → S) (s : S) : Type 0 where
  pub job : R
  pub outcome : Job job
  pub is : s ≡ f job

-- a Boolean that says whether P holds
pub record Decides (P : Type 0) (b : Bool) : Type 0 where
  pub yes : b ≡ true → P
  pub no : b ≡ false → P → ⊥
