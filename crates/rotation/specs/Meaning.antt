-- What the rotation and the T count promise for every input (docs/SCOPE.md, Rotation): refusals 3, 4 and 5 in that order, with zeros; or the rotation of
-- the triple's matrix over the least power of root two; or that power alone. And a machine's rotation as the exact one.
use Rattle.std.specs.Prelude.{◌≡◌, ℕ, ℤ, pos, Result}
use Rattle.exact.specs.Meaning.Matrix.{Matrix}
use Rattle.exact.specs.Meaning.Triple.{entries}
use Rattle.exact.specs.Meaning.Rotation as Exact
use Rattle.exact.specs.Meaning.Rotation.{Three, LeastExponent, RotationOf}
use Rattle.exact.specs.Meaning.Limits.{no_refusal}
use Rattle.exact.specs.Meaning.Outcome.{Outcome}
use Rattle.exact.specs.Meaning.Refusals.{checks}
use Rattle.exact.specs.Meaning.Handed.{handed}
use Rattle.exact.specs.declared.Refusal.{Refusal}
use Rattle.ring.specs.Meaning.{quad}
use Rattle.ring.specs.declared.ZOmega.{ZOmega}
use Rattle.unitary.specs.Meaning.{given}
use Rattle.root_two.specs.Meaning.{vect}
use Rattle.root_two.specs.declared.Vect.{Vect}
use Rattle.rotation.specs.declared.Rotation.{Rotation}

-- ---- a machine's rotation as the exact one
abbrev pub axes_of : Rotation → Three (Exact.Vect ℤ)
axes_of r = record { x = vect r.x; y = vect r.y; z = vect r.z }

abbrev pub rotation_of : Rotation → Exact.Rotation
rotation_of r = record { m = axes_of r; e = r.e }

-- what a refusal hands back: numbers 0
abbrev nil : Vect
nil = record { x = record { p = pos 0; q = pos 0 }; y = record { p = pos 0; q = pos 0 }; z = record { p = pos 0; q = pos 0 } }

abbrev pub none : Rotation
none = record { x = nil; y = nil; z = nil; e = 0 }

-- ---- the rotation, with its least exponent
-- what is handed back
pub record Answer : Type 0 where
  pub refusal : ℕ
  pub rotation : Rotation

abbrev pub refused : ℕ → ℕ → Answer
refused n p = record { refusal = n; rotation = none }

-- of a result
abbrev pub as_answer : Result Rotation Refusal → Answer
as_answer = handed refused (λ r. record { refusal = no_refusal; rotation = r })

pub record AnswersRotation (m : Matrix) (r : Answer) : Type 0 where
  pub taken : r.refusal ≡ no_refusal
  pub is : RotationOf m (rotation_of r.rotation)
  pub least : LeastExponent (rotation_of r.rotation) r.rotation.e

abbrev pub RotationOutcome : ℤ → ℕ → ZOmega → ZOmega → Answer → Type 0
RotationOutcome k n z w r = Outcome refused (AnswersRotation (entries (given k n z w))) (checks k (quad z) (quad w)) r

-- ---- the T count: that exponent alone
pub record Count : Type 0 where
  pub refusal : ℕ
  pub tees : ℕ

abbrev pub refused_count : ℕ → ℕ → Count
refused_count n p = record { refusal = n; tees = 0 }

abbrev pub as_count : Result ℕ Refusal → Count
as_count = handed refused_count (λ n. record { refusal = no_refusal; tees = n })

pub record AnswersCount (m : Matrix) (r : Count) : Type 0 where
  pub taken : r.refusal ≡ no_refusal
  pub rotation : Exact.Rotation
  pub is : RotationOf m rotation
  pub least : LeastExponent rotation r.tees

abbrev pub CountOutcome : ℤ → ℕ → ZOmega → ZOmega → Count → Type 0
CountOutcome k n z w r = Outcome refused_count (AnswersCount (entries (given k n z w))) (checks k (quad z) (quad w)) r
