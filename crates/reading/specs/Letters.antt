-- Whether a byte is a letter, by its number, and what a word is read as: a text, or the first byte that is no letter. Assumes nothing.
use Rattle.std.specs.Prelude.{◌≡◌, refl, Bool, true, false, cond, List, ℕ, ◌<◌, ◌≤◌, eqb, length, get_or, Option, Some, None, Result, Ok, Err}
use Rattle.std.proofs.Common.{sym, ◌∙◌, ap, arith, eqb-true}
use Rattle.std.proofs.lemmas.Bool.{eqb-false}
use Rattle.std.specs.Option.{ok_or}
use Rattle.exact.specs.Meaning.Word.{byte, IsLetter}
use Rattle.exact.specs.Meaning.Limits as Limits
use Rattle.exact.specs.Meaning.Handed.{number, place}
use Rattle.exact.specs.declared.Refusal.{Refusal}
use Rattle.exact.specs.Outcomes.Enums.{Says}
use Rattle.exact.specs.Meaning.Refusals.{letter}
use Rattle.exact.specs.Cases.Letters.{letter_of, letters_of, Inside}
use Rattle.exact.proofs.Cases.Letters.{letter_back, is_letter}
use Rattle.reading.specs.declared.Text.{Text}
use Rattle.reading.specs.Readings.{start, run}
use Rattle.reading.specs.Steps.{letter_number, letter_at, letter_at_is, number_few, number_few_of, number_of, numbered}
use Rattle.reading.specs.Texts.{HoldsText}

-- ---- a byte, by its number
module _ (b n : ℕ) (e : n ≡ number_of b) where
  known : (t : Bool) → eqb (byte (letter_of b)) b ≡ t → n ≡ cond t (letter_number (letter_of b)) 6
  known t f = e ∙ ap (λ x. cond x (letter_number (letter_of b)) 6) f

  module _ (h : n ≤ 5) where
    told : (byte (letter_of b) ≡ b) × (n ≡ letter_number (letter_of b))
    told = go (eqb (byte (letter_of b)) b) refl
      where
        go : (t : Bool) → eqb (byte (letter_of b)) b ≡ t → (byte (letter_of b) ≡ b) × (n ≡ letter_number (letter_of b))
        go true f = (eqb-true (byte (letter_of b)) b f, known true f)
        go false f = absurd (omega (arith, known false f))

    pub numbered_in : IsLetter b
    numbered_in = is_letter told.0

    pub numbered_at : letter_at n ≡ letter_of b
    numbered_at = ap letter_at told.1 ∙ letter_at_is (letter_of b)

  pub numbered_out : 5 < n → IsLetter b → ⊥
  numbered_out h l = go (eqb (byte (letter_of b)) b) refl
    where
      go : (t : Bool) → eqb (byte (letter_of b)) b ≡ t → ⊥
      go true f = omega (arith, known true f, number_few (letter_of b))
      go false f = eqb-false (byte (letter_of b)) b f (letter_back l)

-- ---- the letter at a place: its number, or the refusal
pub record NumberOf (b n : ℕ) : Type 0 where
  pub is : n ≡ number_of b
  pub few : n ≤ 5

abbrev pub NumberAt : List ℕ → ℕ → Result ℕ Refusal → Type 0
NumberAt w i (Ok n) = NumberOf (get_or w i 0) n
NumberAt w i (Err e) = (e ≡ Refusal.Letter i) × (IsLetter (get_or w i 0) → ⊥)

module _ (w : List ℕ) (i : ℕ) where
  by_number : (n : ℕ) → n ≡ number_of (get_or w i 0) → (t : Bool) → eqb n 6 ≡ t
      → NumberAt w i (ok_or {T = ℕ} {E = Refusal} (cond t None (Some n)) (Refusal.Letter i))
  by_number n e true f = (refl, numbered_out (get_or w i 0) n e (omega (arith, eqb-true n 6 f)))
  by_number n e false f = record { is = e; few = omega (arith, eqb-false n 6 f, number_few_of (get_or w i 0)) }

  pub number_at_by : {o : Option ℕ} {r : Result ℕ Refusal} → o ≡ numbered (get_or w i 0) → r ≡ ok_or o (Refusal.Letter i) → NumberAt w i r
  number_at_by e f = rw (f, e) (by_number (number_of (get_or w i 0)) refl (eqb (number_of (get_or w i 0)) 6) refl)

-- what an option says of a byte
module _ (b : ℕ) where
  pub letter_number_of : {n : ℕ} → numbered b ≡ Some n → NumberOf b n
  letter_number_of {n} e = go (eqb (number_of b) 6) refl
    where
      go : (t : Bool) → eqb (number_of b) 6 ≡ t → NumberOf b n
      go true f = let none : ◌≡◌ {A = Option ℕ} None (Some n) = sym (ap (λ (t : Bool). cond t None (Some (number_of b))) f) ∙ e in cc
      go false f =
          let some : ◌≡◌ {A = Option ℕ} (Some (number_of b)) (Some n) = sym (ap (λ (t : Bool). cond t None (Some (number_of b))) f) ∙ e in
          let same : number_of b ≡ n = cc in
          record { is = sym same; few = omega (arith, eqb-false (number_of b) 6 f, number_few_of b) }

  pub no_letter : numbered b ≡ None → IsLetter b → ⊥
  no_letter e = go (eqb (number_of b) 6) refl
    where
      go : (t : Bool) → eqb (number_of b) 6 ≡ t → IsLetter b → ⊥
      go true f l = numbered_out b (number_of b) refl (omega (arith, eqb-true (number_of b) 6 f)) l
      go false f l =
          let some : ◌≡◌ {A = Option ℕ} (Some (number_of b)) None = sym (ap (λ (t : Bool). cond t None (Some (number_of b))) f) ∙ e in cc

-- ---- a word: each case by its refusal and place
abbrev pub refusal_of : Result Text Refusal → ℕ × ℕ
refusal_of (Ok r) = (Limits.no_refusal, 0)
refusal_of (Err e) = (number e, place e)

abbrev pub ReadAs : List ℕ → List ℕ → Result Text Refusal → Type 0
ReadAs w items (Ok r) = Inside w (length w) × HoldsText items r (run start (letters_of w))
ReadAs w items (Err e) = ⊥

abbrev pub Reads : List ℕ → List ℕ → Result Text Refusal → Type 0
Reads w items r = Says (refusal_of r) (letter w) (ReadAs w items r)

-- no refusal but that of a letter
pub letter_refused : (w items : List ℕ) (e : Refusal) → Reads w items (Err e) → (number e ≡ Limits.letter_refusal) × (letter w).At (place e)
letter_refused w items Refusal.Long h = absurd h
letter_refused w items (Refusal.Letter p) h = (refl, h)
letter_refused w items Refusal.Exponent h = absurd h
letter_refused w items Refusal.Coefficient h = absurd h
letter_refused w items Refusal.Unitary h = absurd h
letter_refused w items (Refusal.Deep p) h = absurd h
letter_refused w items Refusal.Room h = absurd h
letter_refused w items Refusal.Record h = absurd h
letter_refused w items (Refusal.Statement p) h = absurd h
letter_refused w items (Refusal.Phase p) h = absurd h
letter_refused w items Refusal.Slot h = absurd h
letter_refused w items Refusal.Full h = absurd h
