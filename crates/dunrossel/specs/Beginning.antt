-- A beginning that is longer than any right record is answered as the whole is: both are refused 8. So a program may stop reading there,
-- and what it answers to the bytes that it has is what it would answer to all of its input. Assumes nothing.
use Rattle.std.specs.Prelude.{◌≡◌, List, ℕ, ◌≤◌, ◌<◌, min, length, take}
use Rattle.std.proofs.Common.{sym, arith, length-take, take-take}
use Rattle.exact.specs.Meaning.Outcome.{Rung}
use Rattle.exact.specs.Meaning.Record.{Numbers, RightRecord}
use Rattle.record.specs.Longest.{longest_record, right_short}
use Rattle.dunrossel.specs.Meaning.Bench.{BenchOutcome}

-- ---- what reading into a buffer leaves: the input's first bytes, all of them, or as many as the buffer holds
pub record Begins (input buffer : List ℕ) (size : ℕ) : Type 0 where
  pub is : take size buffer ≡ take size input
  pub ends : size ≡ min (length input) (length buffer)

-- what is answered to such a beginning: the answer to the whole input, whatever it is
pub record Answers (buffer : List ℕ) (size : ℕ) (old : List ℕ) (bytes : ℕ) (new : List ℕ) : Type 0 where
  pub whole : (input : List ℕ) → Begins input buffer size → BenchOutcome input old bytes new

-- ---- neither is a right record
too_long : (s : List ℕ) → longest_record < length s → (x : Numbers) → RightRecord s x → ⊥
too_long s h x p = omega (arith, right_short s x p)

-- two inputs that are both too long have one answer
pub both_refused : (s t : List ℕ) → longest_record < length s → longest_record < length t → (old : List ℕ) (size : ℕ) (new : List ℕ)
    → BenchOutcome s old size new
    → BenchOutcome t old size new
both_refused s t l m old size new (Rung.given p h e) = Rung.given p (too_long t m, h.1) e
both_refused s t l m old size new (Rung.passed n x) = absurd (too_long s l x.numbers x.right)

module _ (s : List ℕ) (n : ℕ) (long : longest_record < n) (there : n ≤ length s) (old : List ℕ) (size : ℕ) (new : List ℕ) where
  pub beginning_long : longest_record < length (take n s)
  beginning_long = omega (arith, length-take n s)

-- the bytes that are there may be all of the input, so that some input always begins so
pub begins_itself : (buffer : List ℕ) (size : ℕ) → size ≤ length buffer → Begins (take size buffer) buffer size
begins_itself buffer size there =
    record { is = sym (take-take size size buffer (omega arith)); ends = omega (arith, length-take size buffer) }
