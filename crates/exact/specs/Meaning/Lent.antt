-- Writing into lent memory (docs/SCOPE.md, Jobs and Refusals): the answer's bytes from the start, those beyond as before; a refusal writes nothing.
use Rattle.std.specs.Prelude.{◌≡◌, List, ◌++◌, ℕ, length, drop}

-- what is handed back, and the lent bytes at the end
pub record Lent (H : Type 0) : Type 0 where
  pub handed : H
  pub buffer : List ℕ

abbrev pub lent : {H : Type 0} → H → List ℕ → Lent H
lent h s = record { handed = h; buffer = s }

abbrev pub over : List ℕ → List ℕ → List ℕ
over text old = text ++ drop (length text) old

abbrev pub untouched : {H : Type 0} → (ℕ → ℕ → H) → List ℕ → ℕ → ℕ → Lent H
untouched refused old n p = lent (refused n p) old

-- an answer v is written as its text, and `counts` is handed back with it
module _ {A H : Type 0} (text : A → List ℕ) (counts : A → H) (Answer : A → Type 0) (old : List ℕ) where
  pub record Writes (r : Lent H) : Type 0 where
    pub v : A
    pub answer : Answer v
    pub is : r ≡ lent (counts v) (over (text v) old)
