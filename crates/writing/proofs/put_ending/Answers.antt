-- `writing::put_ending` meets its contract. Assumes nothing.
use mathlib.Core.Path.{◌≡◌, sym, ◌∙◌}
use Prim.Native.Nat.{ℕ}
use native.Mathlib.Omega.{arith}
use borrow.Author.Rules.{rules}
use lib.ListN.{length}
use Rattle.exact.specs.Meaning.Word.{bytes}
use Rattle.exact.proofs.Cases.Letters.{bytes_length}
use Rattle.writing.specs.Endings.{end_word, end_size, end_length, letter_in_lem}
use Rattle.writing.specs.Put.{putting_none, putting_more}
use Rattle.writing.specs.declared.Ending.{Ending}
use Rattle.writing.proofs.put_ending.Goals as goal

sized : (e : Ending) (n : ℕ) → n ≡ end_size e → length (bytes (end_word e)) ≡ n
sized e n h = bytes_length (end_word e) ∙ end_length e ∙ sym h

pub loop-j-init : goal.loop-j-init
loop-j-init c = (search rules, putting_none _ _ _ _ (sized c.args.e _ c.size-n.ensures) (omega arith))

pub loop-j-preserved : goal.loop-j-preserved
loop-j-preserved c =
    let l = c.loop-j in
    let a = c.args in
    (search rules, putting_more l.invariant.1 (search rules) (c.letter.ensures ∙ letter_in_lem a.e l.j (omega arith)))
