-- The rotation at some words, to be held against a textbook: T turns X to (X + Y) over root two and Y to (Y - X) over root two; S turns X to Y; H changes X
-- for Z and turns Y round. Assumes nothing.
use Rattle.std.specs.Prelude.{[], ◌∷◌, ℕ, ℤ, pos, negsuc}
use Rattle.exact.specs.Meaning.Word.{H, S, X, T', word}
use Rattle.exact.specs.Meaning.Rotation.{Vect, Rotation, RotationOf}
use Rattle.exact.proofs.Rotation.Laws.{rotation_word}

abbrev whole : ℤ → ℤ → ℤ → Vect ℤ
whole a b c = record { x = record { p = a; q = pos 0 }; y = record { p = b; q = pos 0 }; z = record { p = c; q = pos 0 } }

abbrev one : ℤ
one = pos 1

abbrev nil : ℤ
nil = pos 0

abbrev minus : ℤ
minus = negsuc 0

abbrev columns : ℕ → Vect ℤ → Vect ℤ → Vect ℤ → Rotation
columns e x y z = record { m = record { x = x; y = y; z = z }; e = e }

-- root two along Z, and along X
abbrev root_z : Vect ℤ
root_z = record { x = record { p = nil; q = nil }; y = record { p = nil; q = nil }; z = record { p = nil; q = one } }

abbrev root_x : Vect ℤ
root_x = record { x = record { p = nil; q = one }; y = record { p = nil; q = nil }; z = record { p = nil; q = nil } }

t_turns : RotationOf (word (T' ∷ [])) (columns 1 (whole one one nil) (whole minus one nil) root_z)
t_turns = rotation_word (T' ∷ [])

s_turns : RotationOf (word (S ∷ [])) (columns 0 (whole nil one nil) (whole minus nil nil) (whole nil nil one))
s_turns = rotation_word (S ∷ [])

h_turns : RotationOf (word (H ∷ [])) (columns 0 (whole nil nil one) (whole nil minus nil) (whole one nil nil))
h_turns = rotation_word (H ∷ [])

x_turns : RotationOf (word (X ∷ [])) (columns 0 (whole one nil nil) (whole nil minus nil) (whole nil nil minus))
x_turns = rotation_word (X ∷ [])

ht_turns : RotationOf (word (H ∷ T' ∷ [])) (columns 1 (whole nil minus one) (whole nil minus minus) root_x)
ht_turns = rotation_word (H ∷ T' ∷ [])
