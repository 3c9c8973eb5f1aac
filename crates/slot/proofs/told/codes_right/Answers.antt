-- `slot::told::codes_right` meets its contract. Assumes nothing.
use Rattle.std.specs.Prelude.{◌≡◌, ◌&&◌, List, ℕ, ◌-◌, ◌/◌, eqb, length, take, drop, get_or}
use Rattle.std.proofs.Common.{refl, ◌∙◌, ap, arith, add_comm, length-drop, take_all}
use Rattle.std.proofs.lemmas.Grind.{get_or_after_one}
use Rattle.slot.proofs.Tests.{fronts_first, fronts_more, fronts_end}
use Rattle.slot.proofs.told.codes_right.Goals as goal

-- the codes behind the first, as they are cut
others : (codes : List ℕ) → take (length codes - 1) (drop 1 codes) ≡ drop 1 codes
others codes = take_all (length codes - 1) (drop 1 codes) (omega (arith, length-drop 1 codes))

pub loop-code-init : goal.loop-code-init
loop-code-init c = fronts_first (omega arith) refl

pub loop-code-preserved : goal.loop-code-preserved
loop-code-preserved c =
    let codes = c.args.codes.now in
    let i = c.loop-code.code-index in
    let here = ap (λ (xs : List ℕ). get_or xs i 0) (others codes) ∙ get_or_after_one codes i 0 ∙ ap (λ (j : ℕ). get_or codes j 0) (add_comm 1 i) in
    let short = ap length (others codes) in
    fronts_more c.loop-code.invariant (omega (arith, short, length-drop 1 codes))
    (ap (λ (x : ℕ). c.loop-code.right && eqb (x / 2) 1) here)

pub returns : goal.returns
returns c =
    let codes = c.args.codes.now in
    let short = ap length (others codes) in
    fronts_end c.loop-code.invariant (omega (arith, short, length-drop 1 codes))
