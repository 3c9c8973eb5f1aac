-- A ring number in text: a,b,c,d.
use Rattle.std.specs.Prelude.{ℕ, List, ◌∷◌, ◌++◌}
use Rattle.std.specs.Fmt.{signed_decimal}
use Rattle.ring.specs.declared.ZOmega.{ZOmega}

abbrev pub coefficients : ZOmega → List ℕ
coefficients x = signed_decimal x.a ++ (44 ∷ (signed_decimal x.b ++ (44 ∷ (signed_decimal x.c ++ (44 ∷ signed_decimal x.d)))))
