-- Programs that climb the ladder of refusals wrongly, each refuted at an input: a refusal skipped, two swapped, a place forgotten. Whatever
-- the answers are, so of job 3 and of job 5. Assumes nothing.
use Rattle.std.specs.Prelude.{◌≡◌, refl, List, [], ◌∷◌, ℕ, ◌<◌, ◌≤◌, length, replicate}
use Rattle.std.proofs.Common.{ap, arith}
use Rattle.exact.specs.Meaning.Word.{Letter as Gate, bytes, FirstOutside, Spelled}
use Rattle.exact.specs.Meaning.Limits.{longest, no_refusal, long_refusal, letter_refusal}
use Rattle.exact.specs.Meaning.Outcome.{none, ◌then◌}
use Rattle.exact.specs.Meaning.Lent.{lent, untouched, Writes}
use Rattle.exact.specs.Meaning.Refusals.{long, letter, room}
use Rattle.exact.proofs.Cases.Outside.{third, i_first, i_third}
use Rattle.exact.proofs.Outcomes.Ladder.{only_refused}
use Rattle.exact.proofs.Outcomes.Places.{one_plain, one_letter}
use Rattle.exact.proofs.Outcomes.Lent.{handed_same}
use Rattle.normal_form.specs.Meaning.{Written, refused, counts, WordOutcome}

-- ---- where the condition of a word's refusal holds, and none before it, nothing but that refusal is allowed
module _ (Answer : List Gate → List Gate → Type 0) (w old : List ℕ) (r : Written) (new : List ℕ) where
  pub only_long : longest < length w → WordOutcome Answer w old r new → lent r new ≡ untouched refused old long_refusal 0
  only_long l =
      only_refused (untouched refused old) (Writes bytes counts (Spelled Answer w) old) (long w) one_plain 0 (l, refl) none
      (letter w then room bytes (Spelled Answer w) old then none) tt (lent r new)

  pub only_letter : (p : ℕ) → length w ≤ longest → FirstOutside w p → WordOutcome Answer w old r new
      → lent r new ≡ untouched refused old letter_refusal p
  only_letter p l o =
      only_refused (untouched refused old) (Writes bytes counts (Spelled Answer w) old) (letter w) one_letter p o (long w then none)
      (room bytes (Spelled Answer w) old then none) ((λ q h. omega (arith, h.0)), tt) (lent r new)

-- ---- the inputs: `i`, 4,097 of them, and `HHi`
abbrev pub small : List ℕ
small = 105 ∷ []

abbrev pub many : List ℕ
many = 105 ∷ replicate longest 105

-- ---- the programs
module _ (Answer : List Gate → List Gate → Type 0) (old : List ℕ) (r : Written) (new : List ℕ) where
  -- the letter test skipped: `i` is taken
  pub skipped : WordOutcome Answer small old r new → r.refusal ≡ no_refusal → ⊥
  skipped o f =
      let e = handed_same (only_letter Answer small old r new 0 (omega arith) (i_first []) o) in
      omega (arith, ap (λ (x : Written). x.refusal) e)

  -- the letter test before the length test: 4,097 bytes outside are refused as such
  pub swapped : WordOutcome Answer many old r new → r.refusal ≡ letter_refusal → ⊥
  swapped o f =
      let e = handed_same (only_long Answer many old r new (omega arith) o) in
      omega (arith, ap (λ (x : Written). x.refusal) e)

  -- the place forgotten: `HHi` is refused at place 0
  pub misplaced : WordOutcome Answer third old r new → r.place ≡ 0 → ⊥
  misplaced o f =
      let e = handed_same (only_letter Answer third old r new 2 (omega arith) i_third o) in
      omega (arith, ap (λ (x : Written). x.place) e)
