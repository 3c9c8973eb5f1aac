-- A machine's number of ℤ[root two] as the exact one, and a vector of three.
use Rattle.std.specs.Prelude.{ℤ}
use Rattle.exact.specs.Meaning.Rotation as Exact
use Rattle.root_two.specs.declared.Root.{Root}
use Rattle.root_two.specs.declared.Vect.{Vect}

abbrev pub root : Root → Exact.Root ℤ
root r = record { p = r.p; q = r.q }

abbrev pub vect : Vect → Exact.Vect ℤ
vect v = record { x = root v.x; y = root v.y; z = root v.z }
