-- `writing::ending_of` meets its contract. Assumes nothing.
use Prim.Native.Nat.{◌≤◌}
use native.Mathlib.Omega.{arith}
use Rattle.writing.specs.Endings.{Few, split_few, kept_few, ended}
use Rattle.reading.specs.Steps.{fits_ranged}
use Rattle.writing.proofs.ending_of.Goals as goal

pub overflow_add-first : goal.overflow_add-first
overflow_add-first c = let parts : Few c.split-axis.result = search (split_few, fits_ranged) in omega (arith, parts)

pub overflow_add-first-2 : goal.overflow_add-first-2
overflow_add-first-2 c = let parts : Few c.split-axis.result = search (split_few, fits_ranged) in omega (arith, parts)

pub overflow_add-first-3 : goal.overflow_add-first-3
overflow_add-first-3 c = let parts : Few c.split-axis.result = search (split_few, fits_ranged) in omega (arith, parts)

pub overflow_add-first-4 : goal.overflow_add-first-4
overflow_add-first-4 c =
    let last : c.kept-last.result ≤ 7 = search (kept_few, split_few, fits_ranged) in
    let parts : Few c.split-axis.result = search (split_few, fits_ranged) in
    omega (arith, last, parts)

pub returns : goal.returns
returns c = search (ended, fits_ranged)
