-- Job 7's outcome for every input: refusals 3, 4 and 5 in that order (docs/SCOPE.md, Refusals), with eight zeros; or the view of the
-- triple's matrix: the real and the imaginary part of each entry, row by row.
use Rattle.std.specs.Prelude.{◌≡◌, ℕ, ℤ, Float, Result}
use Rattle.std.specs.Float.{binary64}
use Rattle.std.specs.Float.Ieee.{of_bits}
use Rattle.exact.specs.Meaning.Number.{Ω}
use Rattle.exact.specs.Meaning.Triple.{Triple, entries}
use Rattle.exact.specs.Meaning.Limits.{no_refusal}
use Rattle.exact.specs.Meaning.Outcome.{Outcome}
use Rattle.exact.specs.Meaning.Refusals.{checks}
use Rattle.exact.specs.Meaning.Handed.{handed}
use Rattle.exact.specs.declared.Refusal.{Refusal}
use Rattle.ring.specs.Meaning.{quad}
use Rattle.ring.specs.declared.ZOmega.{ZOmega}
use Rattle.unitary.specs.Meaning.{given}
use Rattle.view.specs.Meaning.Surd.{real, imaginary}
use Rattle.view.specs.Meaning.Near.{Shows}
use Rattle.view.specs.declared.matrix.View.{View}

-- ---- an accepted triple
-- re and im show the two parts of x over root two to the k
pub record Entry (k : ℕ) (x : Ω) (re im : Float) : Type 0 where
  pub re_shown : Shows (real k x) re
  pub im_shown : Shows (imaginary k x) im

-- v shows the four entries of the triple's matrix [p q; r s]
pub record Viewed (t : Triple) (v : View) : Type 0 where
  pub p : Entry t.k (entries t).m.p v.re00 v.im00
  pub q : Entry t.k (entries t).m.q v.re01 v.im01
  pub r : Entry t.k (entries t).m.r v.re10 v.im10
  pub s : Entry t.k (entries t).m.s v.re11 v.im11

-- ---- every input
-- +0
abbrev pub nil : Float
nil = of_bits binary64 0

abbrev pub nothing : View
nothing = record { re00 = nil; im00 = nil; re01 = nil; im01 = nil; re10 = nil; im10 = nil; re11 = nil; im11 = nil }

-- what is handed back
pub record Answer : Type 0 where
  pub refusal : ℕ
  pub view : View

abbrev pub refused : ℕ → ℕ → Answer
refused n p = record { refusal = n; view = nothing }

-- of a result
abbrev pub as_answer : Result View Refusal → Answer
as_answer = handed refused (λ (v : View). record { refusal = no_refusal; view = v })

pub record Views (t : Triple) (r : Answer) : Type 0 where
  pub taken : r.refusal ≡ no_refusal
  pub viewed : Viewed t r.view

abbrev pub ViewOutcome : ℤ → ℕ → ZOmega → ZOmega → Answer → Type 0
ViewOutcome k n z w r = Outcome refused (Views (given k n z w)) (checks k (quad z) (quad w)) r
