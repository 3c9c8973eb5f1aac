-- A right record has at most 201 bytes, and one has as many, so that whoever has read one byte more can stop, and no sooner: the answer is 8
-- whatever follows. Assumes nothing.
use Rattle.std.specs.Prelude.{◌≡◌, refl, List, [], ◌∷◌, ◌++◌, ℕ, suc, ◌+◌, ◌≤◌, ◌<◌, ℤ, pos, negsuc, length, take}
use Rattle.std.proofs.Common.{ap, arith, length-append, length-take}
use Rattle.exact.specs.Meaning.Number.{Ω}
use Rattle.exact.specs.Meaning.Limits.{record_refusal}
use Rattle.exact.specs.Meaning.Record.{Numbers, RightRecord, RingInRange, InRange, digits_of, digits, text, line, four, record_text}
use Rattle.record.specs.Meaning.{refused_record, ReadOutcome}
use Rattle.record.specs.Returns.{refuses}
use Rattle.decimal.specs.Write.{digits_few}

abbrev pub longest_record : ℕ
longest_record = 201

text_short : (z : ℤ) → InRange z → length (text z) ≤ 20
text_short (pos n) h = omega (arith, digits_few 18 n (omega arith))
text_short (negsuc n) h = omega (arith, digits_few 18 (suc n) (omega arith))

line_length : (name : ℕ) (value : List ℕ) → length (line (name ∷ []) value) ≡ length value + 3
line_length name value = omega (arith, length-append value (10 ∷ []))

four_short : (x : Ω) → RingInRange x → length (four x) ≤ 83
four_short x h =
    omega (
      arith,
      text_short x.a h.a_in,
      text_short x.b h.b_in,
      text_short x.c h.c_in,
      text_short x.d h.d_in,
      length-append (text x.a) (44 ∷ (text x.b ++ (44 ∷ (text x.c ++ (44 ∷ text x.d))))),
      length-append (text x.b) (44 ∷ (text x.c ++ (44 ∷ text x.d))),
      length-append (text x.c) (44 ∷ text x.d),
    )

abbrev kl : Numbers → List ℕ
kl x = line (107 ∷ []) (text x.k)

abbrev nl : Numbers → List ℕ
nl x = line (110 ∷ []) (digits x.n)

abbrev zl : Numbers → List ℕ
zl x = line (122 ∷ []) (four x.z)

abbrev wl : Numbers → List ℕ
wl x = line (119 ∷ []) (four x.w)

pub right_short : (s : List ℕ) (x : Numbers) → RightRecord s x → length s ≤ longest_record
right_short s x p =
    omega (
      arith,
      ap length p.is,
      length-append (kl x) (nl x ++ (zl x ++ wl x)),
      length-append (nl x) (zl x ++ wl x),
      length-append (zl x) (wl x),
      line_length 107 (text x.k),
      line_length 110 (digits x.n),
      line_length 122 (four x.z),
      line_length 119 (four x.w),
      text_short x.k p.k_in,
      digits_few 2 x.n (omega (arith, p.n_in)),
      four_short x.z p.z_in,
      four_short x.w p.w_in,
    )

-- ---- and one is as long: n is 255, every other number -2^63
abbrev least : ℤ
least = negsuc 9223372036854775807

abbrev leasts : Ω
leasts = record { a = least; b = least; c = least; d = least }

abbrev pub longest_numbers : Numbers
longest_numbers = record { k = least; n = 255; z = leasts; w = leasts }

leasts_in : RingInRange leasts
leasts_in = record { a_in = omega arith; b_in = omega arith; c_in = omega arith; d_in = omega arith }

pub longest_right : RightRecord (record_text longest_numbers) longest_numbers
longest_right = record { is = refl; k_in = omega arith; n_in = omega arith; z_in = leasts_in; w_in = leasts_in }

pub longest_there : length (record_text longest_numbers) ≡ longest_record
unfolding digits digits_of
longest_there = refl

-- ---- what is longer is refused, and so is its start, once it is longer too
pub long_refused : (s : List ℕ) → longest_record < length s → ReadOutcome s (refused_record record_refusal 0)
long_refused s h = refuses (λ x p. omega (arith, right_short s x p)) refl

pub start_refused : (s : List ℕ) (n : ℕ) → longest_record < n → n ≤ length s → ReadOutcome (take n s) (refused_record record_refusal 0)
start_refused s n h l = long_refused (take n s) (omega (arith, length-take n s))
