-- From what a stream gave to the answer to all that it had: what is in the buffer is the input's beginning. Assumes nothing.
use Rattle.std.specs.Prelude.{◌≡◌, ℕ, ◌+◌, ◌≤◌, ◌<◌, min, Bool, true, false, not, T, ltb, List, [], ◌++◌, length, take, IfSome}
use Rattle.std.specs.declared.option.Option.{Option}
use Rattle.std.specs.declared.option.Option.TheVariants.{None, Some}
use Rattle.std.proofs.Common.{sym, ◌∙◌, ap, arith, ltb→lt, nltb→le, length-append, length-take-le, take_all}
use Rattle.std.proofs.lemmas.List.{take-append-le}
use Rattle.std.specs.Io.KnownBytes.{Consumes, IsAtEnd}
use Rattle.dunrossel.specs.Beginning.{Begins, Answers}
use Rattle.dunrossel.specs.Meaning.Bench.{BenchOutcome}

module _ (buffer : List ℕ) (size : ℕ) (there : size ≤ length buffer) where
  taken : length (take size buffer) ≡ size
  taken = length-take-le size buffer there

  begins : (input left : List ℕ) → input ≡ take size buffer ++ left → (size < length buffer → left ≡ []) → Begins input buffer size
  begins input left is ends =
      record { is = sym front; ends = by (ltb size (length buffer)) (ltb→lt _ _) (nltb→le _ _) }
    where
      front : take size input ≡ take size buffer
      front = ap (take size) is ∙ take-append-le size (take size buffer) left (omega (arith, taken)) ∙ take_all size (take size buffer) (omega (arith, taken))

      long : length input ≡ size + length left
      long = ap length is ∙ length-append (take size buffer) left ∙ ap (λ n. n + length left) taken

      by : (short : Bool) → (T short → size < length buffer) → (T (not short) → length buffer ≤ size) → size ≡ min (length input) (length buffer)
      by true f g = omega (arith, long, f tt, ap length (ends (f tt)))
      by false f g = omega (arith, long, there, g tt)

  pub stream_answered : (known left : Option (List ℕ)) (old : List ℕ) (bytes : ℕ) (new : List ℕ) → Consumes known left (take size buffer)
      → (size < length buffer → IsAtEnd left)
      → Answers buffer size old bytes new
      → IfSome known (λ input. BenchOutcome input old bytes new)
  stream_answered None left old bytes new consumed ends a = tt
  stream_answered (Some input) None old bytes new consumed ends a = absurd consumed
  stream_answered (Some input) (Some left) old bytes new consumed ends a = a.whole input (begins input left consumed ends)
