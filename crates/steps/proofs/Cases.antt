-- The letters and steps of some triples, as one computed table: SCOPE's cases before normalising, the two that are written reduced
-- by many exponents, the longest closing, and words that come back as they were. Assumes nothing.
use Rattle.std.specs.Prelude.{◌≡◌, Bool, true, ◌&&◌, List, [], ◌∷◌, ℕ, ◌^◌, T, eqb, ℤ, pos, negsuc}
use Rattle.std.proofs.Common.{eqb→eq}
use Rattle.std.proofs.Math.Facts.{and_yes}
use Rattle.exact.specs.Meaning.Number.{Ω}
use Rattle.exact.specs.Meaning.Word.{Letter, H, S, X, W, T'}
use Rattle.exact.specs.Meaning.Triple.{Triple}
use Rattle.exact.proofs.Cases.Letters.{eq_word, eq_word_is}
use Rattle.exact.specs.Matrices.Least.{reduce}
use Rattle.steps.specs.Meaning.{power_by}
use Rattle.steps.specs.Residues.{falls_by, back}
use Rattle.steps.specs.Step.{next}
use Rattle.steps.specs.Closing.{closing}
use Rattle.steps.specs.Steps.{gathered, letters, steps}

abbrev quad : ℤ → ℤ → ℤ → ℤ → Ω
quad a b c d = record { a = a; b = b; c = c; d = d }

abbrev nil : Ω
nil = quad (pos 0) (pos 0) (pos 0) (pos 0)

abbrev one : Ω
one = quad (pos 0) (pos 0) (pos 0) (pos 1)

pub record Row : Type 0 where
  pub triple : Triple
  pub spelled : List Letter
  pub in_steps : ℕ

abbrev row : ℕ → ℕ → Ω → Ω → List Letter → ℕ → Row
row k n z w u i = record { triple = record { k = k; n = n; z = z; w = w }; spelled = u; in_steps = i }

unfoldable pub cases : List Row
cases =
    row 0 4 nil one (X ∷ []) 0
    ∷ row 0 1 one nil (T' ∷ []) 0
    ∷ row 1 4 one one (H ∷ []) 1
    ∷ row 1 0 (quad (negsuc 0) (pos 0) (pos 1) (pos 0)) nil [] 0
    ∷ row 60 0 (quad (pos 0) (pos 0) (pos 0) (pos (2 ^ 30))) nil [] 0
    ∷ row 0 1 nil one (T' ∷ X ∷ S ∷ S ∷ S ∷ W ∷ W ∷ W ∷ W ∷ W ∷ W ∷ W ∷ []) 0
    ∷ row 1 2 (quad (pos 0) (pos 0) (pos 1) (pos 0)) (quad (negsuc 0) (pos 0) (pos 0) (pos 0)) (S ∷ H ∷ X ∷ S ∷ S ∷ S ∷ W ∷ []) 1
    ∷ row 2 2 (quad (pos 0) (pos 0) (pos 1) (pos 1)) (quad (pos 0) (pos 0) (negsuc 0) (pos 1)) (H ∷ T' ∷ H ∷ T' ∷ []) 2
    ∷ row 3 0 (quad (pos 0) (pos 0) (pos 1) (negsuc 0)) (quad (negsuc 0) (pos 1) (pos 0) (pos 2))
    (S ∷ H ∷ T' ∷ H ∷ T' ∷ S ∷ H ∷ T' ∷ H ∷ T' ∷ X ∷ S ∷ W ∷ []) 4
    ∷ row 3 7 (quad (pos 1) (pos 1) (pos 1) (pos 0)) (quad (pos 2) (pos 0) (pos 0) (pos 1))
    (H ∷ T' ∷ S ∷ H ∷ T' ∷ H ∷ T' ∷ H ∷ T' ∷ S ∷ H ∷ T' ∷ X ∷ S ∷ S ∷ W ∷ []) 5
    ∷ []

abbrev row_test : Row → Bool
row_test r = eq_word (letters (reduce r.triple)) r.spelled && eqb (steps (reduce r.triple)) r.in_steps

abbrev every : List Row → Bool
every [] = true
every (r ∷ rs) = row_test r && every rs

pub record Spelled (r : Row) : Type 0 where
  pub letters_are : letters (reduce r.triple) ≡ r.spelled
  pub steps_are : steps (reduce r.triple) ≡ r.in_steps

abbrev pub Each : List Row → Type 0
Each [] = Unit {0}
Each (r ∷ rs) = Spelled r × Each rs

each : (rs : List Row) → T (every rs) → Each rs
each [] t = tt
each (r ∷ rs) t =
    let u = letters (reduce r.triple) in
    let n = steps (reduce r.triple) in
    let s = and_yes (row_test r) (every rs) t in
    let p = and_yes (eq_word u r.spelled) (eqb n r.in_steps) s.0 in
    (record { letters_are = eq_word_is u r.spelled p.0; steps_are = eqb→eq n r.in_steps p.1 }, each rs s.1)

pub all_cases : Each cases
unfolding cases letters steps gathered next power_by falls_by back closing
all_cases = each cases tt
