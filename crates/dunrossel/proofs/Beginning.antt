-- What is answered to a beginning that fills the buffer is the answer to the whole input. Assumes nothing.
use Rattle.std.specs.Prelude.{Bool, true, false, not, List, ℕ, ◌≤◌, ◌<◌, T, ltb, length, take}
use Rattle.std.proofs.Common.{subst, arith, ltb→lt, nltb→le, take_all}
use Rattle.record.specs.Longest.{longest_record}
use Rattle.dunrossel.specs.Meaning.Bench.{BenchOutcome}
use Rattle.dunrossel.specs.Beginning.{Begins, Answers, both_refused, beginning_long}

module _ (s : List ℕ) (n : ℕ) (long : longest_record < n) (there : n ≤ length s) (old : List ℕ) (size : ℕ) (new : List ℕ) where
  pub beginning_whole : BenchOutcome (take n s) old size new → BenchOutcome s old size new
  beginning_whole = both_refused (take n s) s (beginning_long s n long there old size new) (omega arith) old size new

  pub whole_beginning : BenchOutcome s old size new → BenchOutcome (take n s) old size new
  whole_beginning = both_refused s (take n s) (omega arith) (beginning_long s n long there old size new) old size new

-- ---- the answer to the bytes that are there is the answer to the whole
module _ (buffer : List ℕ) (size : ℕ) (old : List ℕ) (bytes : ℕ) (new : List ℕ) where
  pub answered : longest_record < length buffer → size ≤ length buffer → BenchOutcome (take size buffer) old bytes new
      → Answers buffer size old bytes new
  answered long there o = record { whole = λ input b. by input b (ltb (length buffer) (length input)) (ltb→lt _ _) (nltb→le _ _) }
    where
      first : (input : List ℕ) → Begins input buffer size → BenchOutcome (take size input) old bytes new
      first input b = subst (λ (s : List ℕ). BenchOutcome s old bytes new) b.is o

      by : (input : List ℕ) → Begins input buffer size → (filled : Bool) → (T filled → length buffer < length input)
          → (T (not filled) → length input ≤ length buffer)
          → BenchOutcome input old bytes new
      by input b true f g = beginning_whole input size (omega (arith, b.ends, f tt)) (omega (arith, b.ends, f tt)) old bytes new (first input b)
      by input b false f g =
          subst (λ (s : List ℕ). BenchOutcome s old bytes new) (take_all size input (omega (arith, b.ends, g tt))) (first input b)
