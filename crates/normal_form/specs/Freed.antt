-- Job 5 at words: the table of phase-free words as outcomes, what room they take, and wrong programs, each refuted at an input. Assumes nothing.
use Rattle.std.specs.Prelude.{◌≡◌, List, [], ◌∷◌, ℕ, ◌≤◌, T, leb, length, get_or}
use Rattle.std.proofs.Common.{ap, arith, leb→le}
use Rattle.exact.specs.Meaning.Word.{Letter, I, H, W, T', bytes}
use Rattle.exact.specs.Meaning.Limits.{longest, no_refusal, room_refusal}
use Rattle.exact.specs.Meaning.Lent.{lent, over}
use Rattle.exact.proofs.Outcomes.Lent.{handed_same, bytes_same}
use Rattle.exact.proofs.Cases.Table.{Each, each_more}
use Rattle.exact.proofs.Cases.PhaseFree.{Freed, IsFreed, freed_words, all_freed}
use Rattle.normal_form.specs.Meaning.{Written, DropsPhase, refused, counts, PhaseFreeOutcome}
use Rattle.normal_form.specs.Unique.{drops_single}
use Rattle.normal_form.specs.Theorems.{fits, only_refused, job5_only, freed, one_T, dots}

-- ---- each row's word leaves its phase-free word, in a buffer with room for it
pub record FreedMet (r : Freed) : Type 0 where
  pub met : (old : List ℕ) → length (bytes r.freed) ≤ length old
      → PhaseFreeOutcome (bytes r.letters) old (counts r.freed) (over (bytes r.freed) old)

freed_row : (r : Freed) → T (leb (length r.letters) longest) → IsFreed r → FreedMet r
freed_row r t e = record { met = λ old. fits DropsPhase drops_single r.letters r.freed old (leb→le (length r.letters) longest t) e.is }

pub freed_met : Each FreedMet freed_words
unfolding freed_words
freed_met = each_more (λ r. leb (length r.letters) longest) IsFreed FreedMet freed_row freed_words tt all_freed

-- ---- room is counted by the phase-free word: T in one byte, WT in two
abbrev T_I : List Letter
T_I = T' ∷ I ∷ []

abbrev T_W : List Letter
T_W = T' ∷ W ∷ []

abbrev W_T : List Letter
W_T = W ∷ T' ∷ []

pub T_in_one : (r : Written) (new : List ℕ) → PhaseFreeOutcome (bytes one_T) (dots 1) r new → lent r new ≡ lent (refused room_refusal 0) (dots 1)
T_in_one r new = only_refused DropsPhase drops_single one_T T_I (dots 1) (omega arith) (freed one_T T_I T_I tt) r new (omega arith)

pub WT_in_two : (r : Written) (new : List ℕ) → PhaseFreeOutcome (bytes W_T) (dots 2) r new → lent r new ≡ lent (counts T_I) (bytes T_I)
WT_in_two r new = job5_only W_T T_I (dots 2) (omega arith) (omega arith) (freed W_T T_W T_I tt)

-- ---- wrong programs
-- the second byte that is left
second : {r s : Written} {x y : List ℕ} → lent r x ≡ lent s y → get_or x 1 0 ≡ get_or y 1 0
second e = ap (λ (l : List ℕ). get_or l 1 0) (bytes_same e)

-- an emptied tail written as nothing: TW gives T
pub emptied_as_nothing : (r : Written) → PhaseFreeOutcome (bytes T_W) (dots 2) r (84 ∷ dots 1) → ⊥
emptied_as_nothing r o = omega (arith, second (job5_only T_W T_I (dots 2) (omega arith) (omega arith) (freed T_W T_W T_I tt) o))

-- an I where the tail is not empty: HW gives HI
pub I_behind_a_letter : (r : Written) → PhaseFreeOutcome (bytes (H ∷ W ∷ [])) (dots 2) r (bytes (H ∷ I ∷ [])) → ⊥
I_behind_a_letter r o =
    let a = freed (H ∷ W ∷ []) (H ∷ W ∷ []) (H ∷ []) tt in
    omega (arith, second (job5_only (H ∷ W ∷ []) (H ∷ []) (dots 2) (omega arith) (omega arith) a o))

-- one W left: HWW gives HW
pub one_W_left : (r : Written) → PhaseFreeOutcome (bytes (H ∷ W ∷ W ∷ [])) (dots 2) r (bytes (H ∷ W ∷ [])) → ⊥
one_W_left r o =
    let u = H ∷ W ∷ W ∷ [] in
    omega (arith, second (job5_only u (H ∷ []) (dots 2) (omega arith) (omega arith) (freed u u (H ∷ []) tt) o))

-- room counted by the normal word's length: TWW refused two bytes
pub room_by_the_normal_word : (r : Written) (new : List ℕ) → PhaseFreeOutcome (bytes (T' ∷ W ∷ W ∷ [])) (dots 2) r new → r.refusal ≡ no_refusal
room_by_the_normal_word r new o =
    let u = T' ∷ W ∷ W ∷ [] in
    ap (λ (x : Written). x.refusal) (handed_same (job5_only u T_I (dots 2) (omega arith) (omega arith) (freed u u T_I tt) o))

-- room counted by the letters that are left when the W letters go: TW given one byte
pub room_by_what_is_left : (r : Written) (new : List ℕ) → PhaseFreeOutcome (bytes T_W) (dots 1) r new → r.refusal ≡ room_refusal
room_by_what_is_left r new o =
    ap (λ (x : Written). x.refusal)
    (handed_same (only_refused DropsPhase drops_single T_W T_I (dots 1) (omega arith) (freed T_W T_W T_I tt) r new (omega arith) o))
