-- A machine's ring number as the exact one.
use Rattle.exact.specs.Meaning.Number.{Ω}
use Rattle.ring.specs.declared.ZOmega.{ZOmega}

abbrev pub quad : ZOmega → Ω
quad x = record { a = x.a; b = x.b; c = x.c; d = x.d }
