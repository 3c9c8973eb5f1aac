-- The definitions run: the example of docs/SCOPE.md, The record, and numbers at the ends of the range. Assumes nothing.
use Rattle.std.specs.Prelude.{◌≡◌, refl, [], ◌∷◌, pos, negsuc}
use Rattle.exact.specs.Meaning.Number.{Ω}
use Rattle.exact.specs.Meaning.Record.{digits_of, digits, text, record_text, answer_text}

-- k=1, n=4, z=0,0,0,1, w=0,0,0,1, a line each
abbrev one : Ω
one = record { a = pos 0; b = pos 0; c = pos 0; d = pos 1 }

example_record : record_text (record { k = pos 1; n = 4; z = one; w = one })
    ≡ 107 ∷ 61 ∷ 49 ∷ 10
    ∷ 110 ∷ 61 ∷ 52 ∷ 10
    ∷ 122 ∷ 61 ∷ 48 ∷ 44 ∷ 48 ∷ 44 ∷ 48 ∷ 44 ∷ 49 ∷ 10
    ∷ 119 ∷ 61 ∷ 48 ∷ 44 ∷ 48 ∷ 44 ∷ 48 ∷ 44 ∷ 49 ∷ 10 ∷ []
unfolding digits digits_of
example_record = refl

-- refusal=0, word=H, t=0, bytes=1, steps=1, a line each
example_answer : answer_text 0 (72 ∷ []) 0 1
    ≡ 114 ∷ 101 ∷ 102 ∷ 117 ∷ 115 ∷ 97 ∷ 108 ∷ 61 ∷ 48 ∷ 10
    ∷ 119 ∷ 111 ∷ 114 ∷ 100 ∷ 61 ∷ 72 ∷ 10
    ∷ 116 ∷ 61 ∷ 48 ∷ 10
    ∷ 98 ∷ 121 ∷ 116 ∷ 101 ∷ 115 ∷ 61 ∷ 49 ∷ 10
    ∷ 115 ∷ 116 ∷ 101 ∷ 112 ∷ 115 ∷ 61 ∷ 49 ∷ 10 ∷ []
unfolding digits digits_of
example_answer = refl

-- -9223372036854775808
least_number : text (negsuc 9223372036854775807)
    ≡ 45 ∷ 57 ∷ 50 ∷ 50 ∷ 51 ∷ 51 ∷ 55 ∷ 50 ∷ 48 ∷ 51 ∷ 54 ∷ 56 ∷ 53 ∷ 52 ∷ 55 ∷ 55 ∷ 53 ∷ 56 ∷ 48 ∷ 56 ∷ []
unfolding digits digits_of
least_number = refl
