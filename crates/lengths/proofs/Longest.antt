-- The longest normal words: 16 + 24·j letters have a normal word of at most 29 + 32·j letters and a phase-free one of at most 24 + 32·j. Assumes
-- nothing.
use Rattle.std.specs.Prelude.{◌≡◌, refl, Bool, true, false, ◌&&◌, List, [], ◌∷◌, ℕ, zero, suc, ◌+◌, ◌*◌, ◌≤◌, T, leb, eqb, length}
use Rattle.std.proofs.Common.{ap, arith, leb→le, eqb→eq, length-append}
use Rattle.std.proofs.Math.Facts.{and_yes}
use Rattle.exact.specs.Meaning.Matrix.{Matrix}
use Rattle.exact.specs.Meaning.Word.{Letter, I, H, S, X, W, T', word}
use Rattle.exact.specs.Meaning.Normal.{Syllable, HT, SHT, Tail, tail_word, or_i, spell, no_w, without_w, NormalOf, PhaseFreeOf}
use Rattle.exact.specs.Meaning.Limits.{longest, normal_enough, phase_free_enough}
use Rattle.exact.proofs.Unique.PhaseFree.{phase_free_once}
use Rattle.exact.proofs.Outcomes.Places.{one_normal}
use Rattle.clifford.specs.declared.Axis.{Axis}
use Rattle.clifford.specs.declared.Clifford.{Clifford}
use Rattle.clifford.specs.Meaning.{Ranged}
use Rattle.clifford.specs.Cliffords.{mul_c, inv_c, split_c, tconj_c}
use Rattle.reading.specs.Readings.{State, prefix, prefix_length, start, start_ranged, tee, read, read_ranged, run, tail_at, shape_to, spelled}
use Rattle.reading.specs.Readings.{shape, normal, normal_of, phase_free}
use Rattle.lengths.specs.Growth.{teed}
use Rattle.lengths.proofs.Growth.{most, moves_of, after, better, better_upper, value, mapped, moves, again, first, worth, worth_none}
use Rattle.lengths.proofs.Growth.{worth_more, round_test, growth}
use Rattle.lengths.specs.Longest.{sixteen}

-- ---- a reading's syllables, and what f gives for its Clifford
abbrev before : State → ℕ
before st = length (prefix st.lead st.stack)

abbrev sized : (Clifford → ℕ) → State → ℕ
sized f st = before st + f st.q

module _ (f : Clifford → ℕ) where
  tee_sized : (q : Clifford) (a : Axis) (b : Bool) (ss : List Syllable)
      → sized f (tee a (tconj_c q).rest b ss) ≤ length (prefix b ss) + teed f (moves_of q) a
  tee_sized q Axis.H b ss = omega (arith, prefix_length b HT ss)
  tee_sized q Axis.SH b ss = omega (arith, prefix_length b SHT ss)
  tee_sized q Axis.I b (HT ∷ ss) = omega (arith, prefix_length b HT ss)
  tee_sized q Axis.I b (SHT ∷ ss) = omega (arith, prefix_length b SHT ss)
  tee_sized q Axis.I true [] = omega arith
  tee_sized q Axis.I false [] = omega arith

  read_sized : (l : Letter) (st : State) → sized f (read l st) ≤ before st + after f (moves_of st.q) l
  read_sized I st = omega arith
  read_sized H st = omega arith
  read_sized S st = omega arith
  read_sized X st = omega arith
  read_sized W st = omega arith
  read_sized T' st = tee_sized st.q (tconj_c st.q).axis st.lead st.stack

-- ---- so the letters to come are worth no more than their table says
run_sized : (f : Clifford → ℕ) (u : List Letter) (st : State) → Ranged st.q
    → sized f (run st u) ≤ before st + worth (length u) (first f moves) st.q
run_sized f [] st h = omega (arith, worth_none st.q h f)
run_sized f (l ∷ u) st h =
    let g = worth (length u) (first f moves) in
    omega (
      arith,
      run_sized f u (read l st) (read_ranged l st h),
      read_sized g l st,
      better_upper g (moves_of st.q) l,
      worth_more st.q h (length u) (first f moves),
    )

-- ---- the letters of a tail, with or without W
abbrev written : Bool → Tail → Tail
written true t = t
written false t = no_w t

abbrev tail_size : Bool → Clifford → ℕ
tail_size phase q = length (or_i (tail_word (written phase (tail_at (split_c q)))))

whole_tested : T (round_test (tail_size true) (sixteen true))
unfolding mul_c inv_c tconj_c most better value mapped moves again round_test
whole_tested = tt

free_tested : T (round_test (tail_size false) (sixteen false))
unfolding mul_c inv_c tconj_c most better value mapped moves again round_test
free_tested = tt

tested : (phase : Bool) → T (round_test (tail_size phase) (sixteen phase))
tested true = whole_tested
tested false = free_tested

text_few : (phase : Bool) (u : List Letter) (j : ℕ) → length u ≤ 16 + 24 * j
    → length (spell (shape_to (run start u) (written phase (tail_at (split_c (run start u).q))))) ≤ sixteen phase + 32 * j
text_few phase u j l =
    let st = run start u in
    let tail = written phase (tail_at (split_c st.q)) in
    omega (
      arith,
      ap length (spelled st tail),
      length-append (prefix st.lead st.stack) (or_i (tail_word tail)),
      run_sized (tail_size phase) u start start_ranged,
      growth (tail_size phase) (sixteen phase) (tested phase) (length u) j l,
    )

-- ---- a word's normal word, and its phase-free word
abbrev whole : List Letter → List Letter
whole u = spell (shape u)

abbrev freed : List Letter → List Letter
freed u = spell (without_w (shape u))

whole_is : (u : List Letter) → NormalOf (word u) (whole u)
whole_is u = record { normal = normal u; same = normal_of u }

freed_is : (u : List Letter) → PhaseFreeOf (word u) (freed u)
freed_is u = record { whole = whole u; phase_free = phase_free u (freed u) refl; same = normal_of u }

-- ---- the law, for every word with that matrix
module _ (u v : List Letter) where
  pub longest_normal : (j : ℕ) → length u ≤ 16 + 24 * j → NormalOf (word u) v → length v ≤ 29 + 32 * j
  longest_normal j l a =
      omega (arith, ap length (one_normal (word u) v (whole u) a (whole_is u)), text_few true u j l)

  pub longest_phase_free : (j : ℕ) → length u ≤ 16 + 24 * j → PhaseFreeOf (word u) v → length v ≤ 24 + 32 * j
  longest_phase_free j l a = omega (arith, ap length (phase_free_once a (freed_is u)), text_few false u j l)

  -- 4,096 letters are 16 + 24·170
  pub normal_enough_lem : length u ≤ longest → NormalOf (word u) v → length v ≤ normal_enough
  normal_enough_lem l a = omega (arith, longest_normal 170 (omega arith) a)

  pub phase_free_enough_lem : length u ≤ longest → PhaseFreeOf (word u) v → length v ≤ phase_free_enough
  phase_free_enough_lem l a = omega (arith, longest_phase_free 170 (omega arith) a)

-- ---- no less is enough: a word that is not too long has an answer of n letters
pub record Attained (Of : Matrix → List Letter → Type 0) (n : ℕ) : Type 0 where
  pub letters : List Letter
  pub answer : List Letter
  pub few : length letters ≤ longest
  pub holds : Of (word letters) answer
  pub size : length answer ≡ n

attained : (Of : Matrix → List Letter → Type 0) (f : List Letter → List Letter) → ((u : List Letter) → Of (word u) (f u)) → (n : ℕ) (u : List Letter)
    → T (leb (length u) longest && eqb (length (f u)) n) → Attained Of n
attained Of f h n u t =
    let s = and_yes (leb (length u) longest) (eqb (length (f u)) n) t in
    record { letters = u; answer = f u; few = leb→le (length u) longest s.0; holds = h u; size = eqb→eq (length (f u)) n s.1 }

-- HT so many times
abbrev pairs : ℕ → List Letter
pairs zero = []
pairs (suc n) = H ∷ T' ∷ pairs n

unfoldable long_normal : List Letter
long_normal = X ∷ H ∷ X ∷ T' ∷ pairs 2046

unfoldable long_freed : List Letter
long_freed = X ∷ T' ∷ pairs 2047

normal_test_lem : T (leb (length long_normal) longest && eqb (length (whole long_normal)) normal_enough)
unfolding long_normal mul_c inv_c tconj_c
normal_test_lem = tt

freed_test_lem : T (leb (length long_freed) longest && eqb (length (freed long_freed)) phase_free_enough)
unfolding long_freed mul_c inv_c tconj_c
freed_test_lem = tt

pub normal_attained : Attained NormalOf normal_enough
normal_attained = attained NormalOf whole whole_is normal_enough long_normal normal_test_lem

pub phase_free_attained : Attained PhaseFreeOf phase_free_enough
phase_free_attained = attained PhaseFreeOf freed freed_is phase_free_enough long_freed freed_test_lem
