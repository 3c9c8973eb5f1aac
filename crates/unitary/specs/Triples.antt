-- When two triples are equal, and that a machine's triple is told by the exact one. Assumes nothing.
use Rattle.std.specs.Prelude.{◌≡◌}
use Rattle.exact.specs.Meaning.Number.{Ω}
use Rattle.exact.specs.Meaning.Triple.{Triple}
use Rattle.ring.specs.declared.ZOmega.{ZOmega}
use Rattle.unitary.specs.declared.DOmegaUnitary.{DOmegaUnitary}
use Rattle.unitary.specs.Meaning.{triple}

pub by_parts : {s t : Triple} → s.k ≡ t.k → s.n ≡ t.n → s.z ≡ t.z → s.w ≡ t.w → s ≡ t
by_parts k n z w = λ i. record { k = k i; n = n i; z = z i; w = w i }

abbrev pub number : Ω → ZOmega
number x = record { a = x.a; b = x.b; c = x.c; d = x.d }

pub triple_inj : {s t : DOmegaUnitary} → triple s ≡ triple t → s ≡ t
triple_inj e = λ i. record { z = number (e i).z; w = number (e i).w; n = (e i).n; k = (e i).k }
