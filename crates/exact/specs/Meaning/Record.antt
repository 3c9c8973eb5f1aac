-- The bench record and its answer in bytes (docs/SCOPE.md, The record).
-- Bytes: 10 is LF, 44 a comma, 45 a minus, 48 to 57 the digits, 61 `=`.
use Rattle.std.specs.Prelude.{◌≡◌, true, false, List, [], ◌∷◌, ◌++◌, ℕ, zero, suc, ◌+◌, ◌/◌, ◌%◌, ◌^◌, ◌≤◌, ◌<◌, ltb, ℤ, pos, negsuc, length}
use Rattle.exact.specs.Meaning.Number.{Ω}

-- ---- a decimal number: no leading zeros, an optional minus, no -0
-- one digit, or the digits of n / 10 and the last; f bounds their number, and n + 1 is always enough
unfoldable pub digits_of : ℕ → ℕ → List ℕ
digits_of zero n = []
digits_of (suc f) n = elim (ltb n 10) [ true ↦ (48 + n) ∷ [] | false ↦ digits_of f (n / 10) ++ ((48 + n % 10) ∷ []) ]

unfoldable pub digits : ℕ → List ℕ
digits n = digits_of (suc n) n

abbrev pub text : ℤ → List ℕ
text (pos n) = digits n
text (negsuc n) = 45 ∷ digits (suc n)

-- within 64-bit signed range
abbrev pub InRange : ℤ → Type 0
InRange (pos n) = n < 2 ^ 63
InRange (negsuc n) = suc n ≤ 2 ^ 63

-- ---- lines: a name, `=`, a value, LF
abbrev pub line : List ℕ → List ℕ → List ℕ
line name value = name ++ (61 ∷ (value ++ (10 ∷ [])))

-- four numbers parted by commas
abbrev pub four : Ω → List ℕ
four x = text x.a ++ (44 ∷ (text x.b ++ (44 ∷ (text x.c ++ (44 ∷ text x.d)))))

-- ---- the record: k, n, z and w, in that order
pub record Numbers : Type 0 where
  pub k : ℤ
  pub n : ℕ
  pub z : Ω
  pub w : Ω

-- the names are k, n, z and w
abbrev pub record_text : Numbers → List ℕ
record_text x = line (107 ∷ []) (text x.k) ++ (line (110 ∷ []) (digits x.n) ++ (line (122 ∷ []) (four x.z) ++ line (119 ∷ []) (four x.w)))

pub record RingInRange (x : Ω) : Type 0 where
  pub a_in : InRange x.a
  pub b_in : InRange x.b
  pub c_in : InRange x.c
  pub d_in : InRange x.d

-- the bytes of a right record, and its numbers
pub record RightRecord (s : List ℕ) (x : Numbers) : Type 0 where
  pub is : s ≡ record_text x
  pub k_in : InRange x.k
  pub n_in : x.n ≤ 255
  pub z_in : RingInRange x.z
  pub w_in : RingInRange x.w

-- ---- the answer: refusal number, word, counts; the names are refusal, word, t, bytes and steps
-- the word's T letters, its length, the steps of its synthesis
abbrev pub count_lines : ℕ → ℕ → ℕ → List ℕ
count_lines t bytes steps =
    line (116 ∷ []) (digits t)
    ++ (line (98 ∷ 121 ∷ 116 ∷ 101 ∷ 115 ∷ []) (digits bytes)
    ++ line (115 ∷ 116 ∷ 101 ∷ 112 ∷ 115 ∷ []) (digits steps))

abbrev pub answer_lines : ℕ → List ℕ → ℕ → ℕ → List ℕ
answer_lines refusal word t steps =
    line (114 ∷ 101 ∷ 102 ∷ 117 ∷ 115 ∷ 97 ∷ 108 ∷ []) (digits refusal)
    ++ (line (119 ∷ 111 ∷ 114 ∷ 100 ∷ []) word
    ++ count_lines t (length word) steps)

-- when refused the word is empty, and all three counts are 0
abbrev pub answer_text : ℕ → List ℕ → ℕ → ℕ → List ℕ
answer_text zero word t steps = answer_lines zero word t steps
answer_text (suc r) word t steps = answer_lines (suc r) [] 0 0
