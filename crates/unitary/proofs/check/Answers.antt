-- `unitary::check` meets its contract: the tests stand in the order of docs/SCOPE.md, Refusals, and each way out is a lemma of `Checked`.
use mathlib.Core.Path.{◌≡◌, ap}
use mathlib.Core.Bool.{Bool, true, false, not}
use Rattle.unitary.specs.Checked.{refused_low, refused_high, few_inside, refused_z, refused_w, small_inside, refused_sums, all_passed}
use Rattle.unitary.proofs.check.Goals as goal
use Rattle.unitary.proofs.check.Goals.{then-t-lt0-via-then-t-lt0, then-t-lt0-via-else-t-lt0+then-t-gt-DEEPEST}
use Rattle.unitary.proofs.check.Goals.{then-not-within_limits-via-then-not-within_limits, then-not-within_limits-via-else-not-within_limits+then-not-within_limits-2}

-- a test the other way round
yes : {b : Bool} → b ≡ true → not b ≡ false
yes e = ap not e

no : {b : Bool} → b ≡ false → not b ≡ true
no e = ap not e

pub returns-then-t-lt0 : goal.returns-then-t-lt0
returns-then-t-lt0 c =
    elim c.then-t-lt0.branch [ then-t-lt0-via-then-t-lt0 w ↦ search refused_low | then-t-lt0-via-else-t-lt0+then-t-gt-DEEPEST w ↦ search refused_high ]

pub returns-then-not-within_limits : goal.returns-then-not-within_limits
returns-then-not-within_limits c =
    elim c.then-not-within_limits.branch [
      | then-not-within_limits-via-then-not-within_limits w ↦ search (refused_z, no)
      | then-not-within_limits-via-else-not-within_limits+then-not-within_limits-2 w ↦ search (refused_w, no)
    ]

pub is_unitary-requires : goal.is_unitary-requires
is_unitary-requires c = record { fact_1 = search few_inside; fact_2 = search (small_inside, yes) }

pub returns-then-not-is_unitary : goal.returns-then-not-is_unitary
returns-then-not-is_unitary c = search (refused_sums, yes)

pub returns : goal.returns
returns c = search (all_passed, yes)
