-- The ways out of jobs 3 and 5: a lemma for each, over plain values. Assumes nothing.
use Rattle.std.specs.Prelude.{◌≡◌, refl, List, ℕ, ◌<◌, ◌≤◌, length}
use Rattle.std.proofs.Common.{sym, ap, subst, arith}
use Rattle.exact.specs.Meaning.Word.{Letter as Gate, bytes, FirstOutside, Spelled}
use Rattle.exact.specs.Meaning.Limits.{longest, long_refusal, letter_refusal, room_refusal}
use Rattle.exact.specs.Meaning.Outcome.{Rung, none, ◌then◌}
use Rattle.exact.specs.Meaning.Lent.{lent, over, untouched}
use Rattle.exact.specs.Meaning.Refusals.{long, letter}
use Rattle.exact.proofs.Cases.Letters.{bytes_length, none_outside}
use Rattle.exact.proofs.Outcomes.Ladder.{Only, Passed}
use Rattle.exact.proofs.Outcomes.Places.{one_spelled}
use Rattle.exact.proofs.Outcomes.Lent as Lent
use Rattle.exact.proofs.Outcomes.Lent.{written_as}
use Rattle.normal_form.specs.Meaning.{Written, refused, counts, WordOutcome}

-- by a refusal the lent bytes stay
stays : {r : Written} {n p : ℕ} (old : List ℕ) → r ≡ refused n p → lent r old ≡ untouched refused old n p
stays old e = ap (λ (x : Written). lent x old) e

-- a word that is not too long passes both of a word's refusals
pub word_passes : (u : List Gate) → length u ≤ longest → Passed (long (bytes u) then letter (bytes u) then none)
word_passes u l = ((λ p h. omega (arith, h.0, bytes_length u)), (none_outside u, tt))

module _ (Answer : List Gate → List Gate → Type 0) (w old : List ℕ) (r : Written) where
  pub too_long : longest < length w → r ≡ refused long_refusal 0 → WordOutcome Answer w old r old
  too_long l e = Rung.given 0 (l, refl) (stays old e)

  pub outside_at : (p : ℕ) → length w ≤ longest → FirstOutside w p → r ≡ refused letter_refusal p → WordOutcome Answer w old r old
  outside_at p l o e = Rung.passed (λ q h. omega (arith, h.0)) (Rung.given p o (stays old e))

-- the rungs below those of the word: room, or the answer written
abbrev pub RoomOutcome : (List Gate → Type 0) → List ℕ → Written → List ℕ → Type 0
RoomOutcome Answer old r new = Lent.Written bytes counts Answer old refused (lent r new)

-- the answer is v alone
module _ (v : List Gate) (old : List ℕ) (r : Written) where
  pub no_room : length old < length (bytes v) → r ≡ refused room_refusal 0 → RoomOutcome (λ x. x ≡ v) old r old
  no_room = Lent.no_room bytes counts v old refused r

  pub written_whole : (new : List ℕ) → length (bytes v) ≤ length old → r ≡ counts v → new ≡ over (bytes v) old
      → RoomOutcome (λ x. x ≡ v) old r new
  written_whole = Lent.written_whole bytes counts v old refused r

-- an answer v that is the only one is v alone
module _ {Answer : List Gate → List Gate → Type 0} (one : (u : List Gate) → Only (Answer u)) (w old : List ℕ) (v : List Gate)
    (a : Spelled Answer w v) (r : Written) (new : List ℕ) where
  below : RoomOutcome (λ x. x ≡ v) old r new → RoomOutcome (Spelled Answer w) old r new
  below =
      written_as bytes counts counts (λ x. x ≡ v) (Spelled Answer w) old refused refused (λ x. x) (λ n p. refl) (λ x. refl)
      (λ x e. subst (Spelled Answer w) (sym e) a) (λ x h. one_spelled Answer one w x v h a) (lent r new)

  pub answered_with : length w ≤ longest → ((p : ℕ) → FirstOutside w p → ⊥) → RoomOutcome (λ x. x ≡ v) old r new
      → WordOutcome Answer w old r new
  answered_with l i o = Rung.passed (λ q h. omega (arith, h.0)) (Rung.passed i (below o))
