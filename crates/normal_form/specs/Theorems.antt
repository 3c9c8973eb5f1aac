-- What follows from the outcomes of jobs 3 and 5: they are unique, a normal word always exists and has the fewest T letters, the table of
-- cases of docs/SCOPE.md, Either side, and that no useless program meets them. Assumes nothing.
use Rattle.std.specs.Prelude.{◌≡◌, refl, true, ◌&&◌, List, [], ◌∷◌, ◌++◌, ℕ, zero, suc, ◌<◌, ◌≤◌, T, leb, length, get_or}
use Rattle.std.proofs.Common.{ap, arith, leb→le}
use Rattle.std.proofs.Math.Facts.{and_yes}
use Rattle.exact.specs.Meaning.Matrix.{Same}
use Rattle.exact.specs.Meaning.Word.{Letter, I, S, W, T', word, tees, bytes, Spelled}
use Rattle.exact.specs.Meaning.Normal.{Normal, times, spell, without_w}
use Rattle.exact.specs.Meaning.Limits.{longest, no_refusal, room_refusal}
use Rattle.exact.specs.Meaning.Lent.{Lent, lent, over, untouched, Writes}
use Rattle.exact.proofs.Matrices.Test.{same_test, same_by}
use Rattle.exact.proofs.Unique.Normal.{normal_fewest}
use Rattle.exact.proofs.Outcomes.Ladder.{Only, always}
use Rattle.exact.proofs.Cases.Letters.{bytes_inj, bytes_length, none_outside, eq_word}
use Rattle.exact.proofs.Cases.NormalTest.{shape_of, normal_test, normal_by}
use Rattle.exact.proofs.Cases.Table.{Row, Each, each_more, cases, Normalised, all_cases}
use Rattle.exact.proofs.Cases.PhaseFree.{Freed, word_test, freed_test, freed_by}
use Rattle.exact.proofs.Outcomes.Lent.{handed_same, bytes_same}
use Rattle.normal_form.specs.Meaning.{Written, Normalises, DropsPhase, refused, counts, word_refusals, WordOutcome, NormaliseOutcome, PhaseFreeOutcome}
use Rattle.normal_form.specs.Unique.{normalises_single, drops_single, outcome_unique}
use Rattle.normal_form.specs.Ways.{RoomOutcome, no_room, written_whole, answered_with}
use Rattle.reading.specs.Readings.{start, run}
use Rattle.writing.specs.Endings.{text_of}
use Rattle.normal_form.specs.Answers.{answers}

-- ---- two outcomes that job 3 or job 5 allows are equal
module _ (w old : List ℕ) (r : Written) (new : List ℕ) (r' : Written) (new' : List ℕ) where
  pub normalise_unique : NormaliseOutcome w old r new → NormaliseOutcome w old r' new' → lent r new ≡ lent r' new'
  normalise_unique = outcome_unique normalises_single w old r new r' new'

  pub phase_free_unique : PhaseFreeOutcome w old r new → PhaseFreeOutcome w old r' new' → lent r new ≡ lent r' new'
  phase_free_unique = outcome_unique drops_single w old r new r' new'

-- ---- every word has a normal word
pub record HasNormal (u : List Letter) : Type 0 where
  pub v : List Letter
  pub normal : Normal v
  pub same : Same (word u) (word v)

pub has_normal : (u : List Letter) → HasNormal u
has_normal u = let a = answers true u in record { v = text_of true (run start u); normal = a.normal; same = a.same }

-- ---- normalising never adds a T
pub never_adds : (u : List Letter) (old : List ℕ) (r : Written) (new : List ℕ) → NormaliseOutcome (bytes u) old r new → r.tees ≤ tees u
never_adds u old r new o =
    always (untouched refused old) (Writes bytes counts (Spelled Normalises (bytes u)) old)
    (λ x. x.handed.tees ≤ tees u) (λ n p. omega arith) (word_refusals Normalises (bytes u) old) (λ h. fewest) (lent r new) o
  where
    fewest : (x : Lent Written) → Writes bytes counts (Spelled Normalises (bytes u)) old x → x.handed.tees ≤ tees u
    fewest x a =
        let s = a.answer in
        let m : (tees a.v ≤ tees s.letters) = normal_fewest s.letters s.holds.same s.holds.normal in
        omega (arith, ap (λ (y : Lent Written). y.handed.tees) a.is, ap tees (bytes_inj s.letters u s.spelled))

-- ---- the answer v to a word u that is not too long: what is handed back, and nothing else, where it fits and where it does not
module _ (Answer : List Letter → List Letter → Type 0) (one : (u : List Letter) → Only (Answer u)) (u v : List Letter) (old : List ℕ)
    (t : length u ≤ longest) (a : Answer u v) where
  by_room : (r : Written) (new : List ℕ) → RoomOutcome (λ x. x ≡ v) old r new → WordOutcome Answer (bytes u) old r new
  by_room r new =
      answered_with one (bytes u) old v (record { letters = u; spelled = refl; holds = a }) r new (omega (arith, bytes_length u)) (none_outside u)

  refused_there : length old < length (bytes v) → WordOutcome Answer (bytes u) old (refused room_refusal 0) old
  refused_there l = by_room (refused room_refusal 0) old (no_room v old (refused room_refusal 0) l refl)

  pub fits : length (bytes v) ≤ length old → WordOutcome Answer (bytes u) old (counts v) (over (bytes v) old)
  fits l = by_room (counts v) (over (bytes v) old) (written_whole v old (counts v) (over (bytes v) old) l refl refl)

  module _ (r : Written) (new : List ℕ) where
    pub only_fits : length (bytes v) ≤ length old → WordOutcome Answer (bytes u) old r new
        → lent r new ≡ lent (counts v) (over (bytes v) old)
    only_fits l o = outcome_unique one (bytes u) old r new (counts v) (over (bytes v) old) o (fits l)

    pub only_refused : length old < length (bytes v) → WordOutcome Answer (bytes u) old r new → lent r new ≡ lent (refused room_refusal 0) old
    only_refused l o = outcome_unique one (bytes u) old r new (refused room_refusal 0) old o (refused_there l)

-- ---- SCOPE's cases: the outcome of job 3 at each left side is the right side, in a buffer with room for it
pub record CaseMet (r : Row) : Type 0 where
  pub met : (old : List ℕ) → length (bytes r.right) ≤ length old
      → NormaliseOutcome (bytes r.left) old (counts r.right) (over (bytes r.right) old)

case_met : (r : Row) → T (leb (length r.left) longest) → Normalised r → CaseMet r
case_met r t e =
    let a : Normalises r.left r.right = record { normal = e.normal; same = e.same } in
    record { met = λ old. fits Normalises normalises_single r.left r.right old (leb→le (length r.left) longest t) a }

pub cases_met : Each CaseMet cases
unfolding cases
cases_met = each_more (λ r. leb (length r.left) longest) Normalised CaseMet case_met cases tt all_cases

-- ---- useless programs, each refuted at an input
normalised : (u v : List Letter) → T (normal_test v && same_test (word u) (word v)) → Normalises u v
normalised u v t =
    let s = and_yes (normal_test v) (same_test (word u) (word v)) t in
    record { normal = normal_by v s.0; same = same_by (word u) (word v) s.1 }

-- v the normal word, x the phase-free one
abbrev pub row : List Letter → List Letter → List Letter → Freed
row u v x = record { letters = u; normal = v; freed = x }

pub freed : (u v x : List Letter) → T (freed_test (row u v x)) → DropsPhase u x
freed u v x t = (freed_by (row u v x) t).is

-- a program's answer for a word u, where the right answer v fits, is v
module _ (u v : List Letter) (old : List ℕ) (t : length u ≤ longest) (l : length (bytes v) ≤ length old) {r : Written} {new : List ℕ} where
  pub job3_only : Normalises u v → NormaliseOutcome (bytes u) old r new → lent r new ≡ lent (counts v) (over (bytes v) old)
  job3_only a = only_fits Normalises normalises_single u v old t a r new l

  pub job5_only : DropsPhase u v → PhaseFreeOutcome (bytes u) old r new → lent r new ≡ lent (counts v) (over (bytes v) old)
  job5_only a = only_fits DropsPhase drops_single u v old t a r new l

-- so its first byte is v's
first_same : {r s : Written} {x y : List ℕ} → lent r x ≡ lent s y → get_or x 0 0 ≡ get_or y 0 0
first_same e = ap (λ (l : List ℕ). get_or l 0 0) (bytes_same e)

-- the inputs
abbrev pub none : List Letter
none = []

abbrev pub one_T : List Letter
one_T = T' ∷ []

abbrev pub two_T : List Letter
two_T = T' ∷ T' ∷ []

-- a hundred letters W, and then TT
unfoldable pub hundred : List Letter
hundred = times 100 W ++ two_T

abbrev pub dots : ℕ → List ℕ
dots zero = []
dots (suc n) = 46 ∷ dots n

-- ---- refuses all
pub refuses_all_3 : (r : Written) (new : List ℕ) → NormaliseOutcome [] (dots 1) r new → r.refusal ≡ 0
refuses_all_3 r new o =
    let a = normalised none (I ∷ []) tt in
    ap (λ (x : Written). x.refusal) (handed_same (job3_only none (I ∷ []) (dots 1) (omega arith) (omega arith) a o))

pub refuses_all_5 : (r : Written) (new : List ℕ) → PhaseFreeOutcome [] (dots 1) r new → r.refusal ≡ 0
refuses_all_5 r new o =
    let a = freed none (I ∷ []) (I ∷ []) tt in
    ap (λ (x : Written). x.refusal) (handed_same (job5_only none (I ∷ []) (dots 1) (omega arith) (omega arith) a o))

-- ---- always I
T_normalised : Normalises one_T (T' ∷ I ∷ [])
T_normalised = normalised one_T (T' ∷ I ∷ []) tt

T_freed : DropsPhase one_T (T' ∷ I ∷ [])
T_freed = freed one_T (T' ∷ I ∷ []) (T' ∷ I ∷ []) tt

pub always_I_3 : (r : Written) → NormaliseOutcome (bytes one_T) (dots 2) r (bytes (I ∷ []) ++ dots 1) → ⊥
always_I_3 r o = omega (arith, first_same (job3_only one_T (T' ∷ I ∷ []) (dots 2) (omega arith) (omega arith) T_normalised o))

pub always_I_5 : (r : Written) → PhaseFreeOutcome (bytes one_T) (dots 2) r (bytes (I ∷ []) ++ dots 1) → ⊥
always_I_5 r o = omega (arith, first_same (job5_only one_T (T' ∷ I ∷ []) (dots 2) (omega arith) (omega arith) T_freed o))

-- ---- the word copied through
pub copied_3 : (r : Written) → NormaliseOutcome (bytes two_T) (dots 2) r (bytes two_T) → ⊥
copied_3 r o = omega (arith, first_same (job3_only two_T (S ∷ []) (dots 2) (omega arith) (omega arith) (normalised two_T (S ∷ []) tt) o))

pub copied_5 : (r : Written) → PhaseFreeOutcome (bytes two_T) (dots 2) r (bytes two_T) → ⊥
copied_5 r o = omega (arith, first_same (job5_only two_T (S ∷ []) (dots 2) (omega arith) (omega arith) (freed two_T (S ∷ []) (S ∷ []) tt) o))

-- ---- the first hundred letters normalised, and the others copied: those hundred are WWWW
pub first_hundred : Normalises (times 100 W) (times 4 W)
first_hundred = normalised (times 100 W) (times 4 W) tt

abbrev hundred_row : Freed
hundred_row = row hundred (S ∷ times 4 W) (S ∷ [])

whole_hundred : T (freed_test hundred_row)
unfolding hundred
whole_hundred = tt

normal_hundred : T (word_test hundred_row)
normal_hundred = (and_yes (word_test hundred_row) (eq_word (spell (without_w (shape_of (S ∷ times 4 W)))) (S ∷ [])) whole_hundred).0

short_hundred : length hundred ≤ longest
unfolding hundred
short_hundred = leb→le (length hundred) longest tt

pub first_letters_3 : (r : Written) → NormaliseOutcome (bytes hundred) (dots 8) r (bytes (times 4 W ++ two_T) ++ dots 2) → ⊥
first_letters_3 r o =
    let a = normalised hundred (S ∷ times 4 W) normal_hundred in
    omega (arith, first_same (job3_only hundred (S ∷ times 4 W) (dots 8) short_hundred (omega arith) a o))

pub first_letters_5 : (r : Written) → PhaseFreeOutcome (bytes hundred) (dots 8) r (bytes two_T ++ dots 6) → ⊥
first_letters_5 r o =
    let a = freed hundred (S ∷ times 4 W) (S ∷ []) whole_hundred in
    omega (arith, first_same (job5_only hundred (S ∷ []) (dots 8) short_hundred (omega arith) a o))

-- ---- a T count one too high
pub tees_too_many : (new : List ℕ)
    → NormaliseOutcome (bytes one_T) (dots 2) (record { refusal = no_refusal; place = 0; bytes = 2; tees = 2 }) new → ⊥
tees_too_many new o =
    let e = handed_same (job3_only one_T (T' ∷ I ∷ []) (dots 2) (omega arith) (omega arith) T_normalised o) in
    omega (arith, ap (λ (x : Written). x.tees) e)

-- ---- a byte written before the room test: the word T with room for one byte
pub early_byte : (r : Written) → NormaliseOutcome (bytes one_T) (dots 1) r (84 ∷ []) → ⊥
early_byte r o =
    let e = only_refused Normalises normalises_single one_T (T' ∷ I ∷ []) (dots 1) (omega arith) T_normalised r (84 ∷ []) (omega arith) o in
    omega (arith, first_same e)
