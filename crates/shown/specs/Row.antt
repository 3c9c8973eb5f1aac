-- Numbers in a row: a blank before each.
use Rattle.std.specs.Prelude.{ℕ, List, [], ◌∷◌, Option, Some}
use Rattle.std.specs.Fmt.{◌++?◌}

-- it says nothing where one of them has no text
abbrev pub row : {A : Type 0} → (A → Option (List ℕ)) → List A → Option (List ℕ)
row text [] = Some []
row text (x ∷ xs) = Some (32 ∷ []) ++? (text x ++? row text xs)
