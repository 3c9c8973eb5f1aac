-- A letter is told by its byte, and a word by its bytes; equality of words by one computed test. Assumes nothing.
use Rattle.std.specs.Prelude.{◌≡◌, refl, Bool, true, false, ◌&&◌, List, [], ◌∷◌, ◌++◌, ℕ, zero, suc, ◌+◌, ◌<◌, T, eqb, length, get_or}
use Rattle.std.proofs.Common.{sym, ◌∙◌, ap, ap₂, subst, arith, eqb-true, eqb→eq}
use Rattle.std.proofs.lemmas.Bool.{eqb-false}
use Rattle.std.proofs.Math.Facts.{and_yes}
use Rattle.exact.specs.Meaning.Word.{Letter, I, H, S, X, W, T', byte, bytes, IsLetter, FirstOutside}
use Rattle.exact.specs.Cases.Letters.{letter_of, letters_of, Inside}

pub letter_of_byte : (l : Letter) → letter_of (byte l) ≡ l
letter_of_byte I = refl
letter_of_byte H = refl
letter_of_byte S = refl
letter_of_byte X = refl
letter_of_byte W = refl
letter_of_byte T' = refl

pub byte_inj : (l m : Letter) → byte l ≡ byte m → l ≡ m
byte_inj l m e = sym (letter_of_byte l) ∙ ap letter_of e ∙ letter_of_byte m

pub letters_of_bytes : (u : List Letter) → letters_of (bytes u) ≡ u
letters_of_bytes [] = refl
letters_of_bytes (l ∷ u) = ap₂ ◌∷◌ (letter_of_byte l) (letters_of_bytes u)

pub bytes_inj : (u v : List Letter) → bytes u ≡ bytes v → u ≡ v
bytes_inj u v e = sym (letters_of_bytes u) ∙ ap letters_of e ∙ letters_of_bytes v

pub bytes_length : (u : List Letter) → length (bytes u) ≡ length u
bytes_length [] = refl
bytes_length (l ∷ u) = ap suc (bytes_length u)

pub letters_of_append : (v w : List ℕ) → letters_of (v ++ w) ≡ letters_of v ++ letters_of w
letters_of_append [] w = refl
letters_of_append (b ∷ v) w = ap (λ x. letter_of b ∷ x) (letters_of_append v w)

pub letters_of_length : (w : List ℕ) → length (letters_of w) ≡ length w
letters_of_length [] = refl
letters_of_length (b ∷ w) = ap suc (letters_of_length w)

-- ---- which bytes are letters
pub letter_back : {b : ℕ} → IsLetter b → byte (letter_of b) ≡ b
letter_back l = subst (λ b. byte (letter_of b) ≡ b) l.is (ap byte (letter_of_byte l.letter_there))

pub is_letter : {b : ℕ} → byte (letter_of b) ≡ b → IsLetter b
is_letter {b} e = record { letter_there = letter_of b; is = e }

pub inside_none : (w : List ℕ) → Inside w 0
inside_none w = λ i h. absurd (omega arith)

pub inside_more : (w : List ℕ) (n : ℕ) → Inside w n → IsLetter (get_or w n 0) → Inside w (n + 1)
inside_more w n f h = λ i l. at i l (eqb i n) refl
  where
    at : (i : ℕ) → i < n + 1 → (b : Bool) → eqb i n ≡ b → IsLetter (get_or w i 0)
    at i l true e = subst (λ (j : ℕ). IsLetter (get_or w j 0)) (sym (eqb-true i n e)) h
    at i l false e = let g : (i ≡ n → ⊥) = eqb-false i n e in f i (omega (arith, g))

-- all of a word's bytes are, and bytes that all are spell a word
all_inside : (u : List Letter) → Inside (bytes u) (length (bytes u))
all_inside [] i h = absurd (omega arith)
all_inside (l ∷ u) zero h = record { letter_there = l; is = refl }
all_inside (l ∷ u) (suc i) h = all_inside u i (omega arith)

pub bytes_back : (w : List ℕ) → Inside w (length w) → bytes (letters_of w) ≡ w
bytes_back [] f = refl
bytes_back (b ∷ w) f = ap₂ ◌∷◌ (letter_back (f 0 (omega arith))) (bytes_back w (λ i h. f (suc i) (omega arith)))

pub inside_passes : (w : List ℕ) → Inside w (length w) → (p : ℕ) → FirstOutside w p → ⊥
inside_passes w f p o = o.outside (f p o.there)

pub none_outside : (u : List Letter) (p : ℕ) → FirstOutside (bytes u) p → ⊥
none_outside u = inside_passes (bytes u) (all_inside u)

-- ---- the tests
abbrev pub eq_letter : Letter → Letter → Bool
eq_letter l m = eqb (byte l) (byte m)

abbrev pub eq_word : List Letter → List Letter → Bool
eq_word [] [] = true
eq_word [] (m ∷ v) = false
eq_word (l ∷ u) [] = false
eq_word (l ∷ u) (m ∷ v) = eq_letter l m && eq_word u v

pub eq_word_is : (u v : List Letter) → T (eq_word u v) → u ≡ v
eq_word_is [] [] t = refl
eq_word_is [] (m ∷ v) t = absurd t
eq_word_is (l ∷ u) [] t = absurd t
eq_word_is (l ∷ u) (m ∷ v) t =
    let s = and_yes (eq_letter l m) (eq_word u v) t in
    ap₂ ◌∷◌ (byte_inj l m (eqb→eq (byte l) (byte m) s.0)) (eq_word_is u v s.1)
