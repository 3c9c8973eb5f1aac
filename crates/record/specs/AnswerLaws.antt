-- The answer's lines have room in 512 bytes, and are its text; two outcomes of one call are one. Assumes nothing.
use Rattle.std.specs.Prelude.{◌≡◌, refl, List, [], ℕ, zero, suc, ◌+◌, ◌^◌, ◌≤◌, ◌<◌, length}
use Rattle.std.proofs.Common.{sym, ◌∙◌, ap, arith, lit<, lit≤, length-append}
use Rattle.exact.specs.Meaning.Limits.{enough}
use Rattle.exact.specs.Meaning.Lent.{over}
use Rattle.exact.specs.Meaning.Record.{answer_lines, answer_text}
use Rattle.record.specs.Meaning.{WriteOutcome}
use Rattle.lent.specs.Written.{Written, written_over}
use Rattle.decimal.specs.Write.{digits_few}

-- ---- 512 bytes are enough
module _ (refusal : ℕ) (old : List ℕ) (fits : refusal < 256) (room : 512 ≤ length old) where
  pub lines_room : (word : List ℕ) (t steps : ℕ) → length word ≤ enough → t < 2 ^ 64 → steps < 2 ^ 64
      → 0 + length (answer_lines refusal word t steps) ≤ length old
  lines_room word t steps h k l =
      simp length-append (omega (
        arith,
        digits_few 2 refusal (omega arith),
        digits_few 19 t (omega arith),
        digits_few 2 (length word) (omega arith),
        digits_few 19 steps (omega arith),
      ))

  -- ---- the outcome
  module _ (word : List ℕ) (t steps : ℕ) (new : List ℕ) (size : ℕ) where
    outcome : (s : List ℕ) → s ≡ answer_text refusal word t steps → 0 + length s ≤ length old → Written old 0 s new size
        → WriteOutcome refusal word t steps old new size
    outcome s e h p =
        let w = written_over s p (omega arith) in
        record { is_size = w.0 ∙ ap length e; is = w.1 ∙ ap (λ u. over u old) e }

    pub write_accepted : length word ≤ enough → t < 2 ^ 64 → steps < 2 ^ 64 → refusal ≡ 0
        → Written old 0 (answer_lines refusal word t steps) new size → WriteOutcome refusal word t steps old new size
    write_accepted h k l e p = outcome (answer_lines refusal word t steps) (go refusal e) (lines_room word t steps h k l) p
      where
        go : (r : ℕ) → r ≡ 0 → answer_lines r word t steps ≡ answer_text r word t steps
        go zero e = refl
        go (suc r) e = absurd (omega arith)

    -- a refused call writes no word, and counts of 0, whatever it is given
    pub write_refused : (refusal ≡ 0 → ⊥) → Written old 0 (answer_lines refusal [] 0 0) new size → WriteOutcome refusal word t steps old new size
    write_refused n p = outcome (answer_lines refusal [] 0 0) (go refusal n) (lines_room [] 0 0 (lit≤ tt) (lit< tt) (lit< tt)) p
      where
        go : (r : ℕ) → (r ≡ 0 → ⊥) → answer_lines r [] 0 0 ≡ answer_text r word t steps
        go zero n = absurd (n refl)
        go (suc r) n = refl

-- two outcomes of one call are one: the size, and every byte
module _ (refusal : ℕ) (word : List ℕ) (t steps : ℕ) (old new new' : List ℕ) (size size' : ℕ) where
  pub write_once : WriteOutcome refusal word t steps old new size → WriteOutcome refusal word t steps old new' size'
      → (size ≡ size') × (new ≡ new')
  write_once p q = (p.is_size ∙ sym q.is_size, p.is ∙ sym q.is)
