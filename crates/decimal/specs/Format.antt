-- Formats: how values of a kind are written, and which are allowed; what it is to find such a text at a place of the input,
-- or to find none; and that a text determines its value and what follows, as a number's does. Assumes nothing.
use Rattle.std.specs.Prelude.{◌≡◌, List, [], ◌∷◌, ◌++◌, ℕ, ◌≤◌, ◌<◌, ℤ, length, drop}
use Rattle.std.proofs.Common.{sym, ◌∙◌, append_assoc}
use Rattle.exact.specs.Meaning.Record.{digits, text, InRange}
use Rattle.decimal.specs.Decimal.{digits_once, text_once}

pub record Format (A : Type 0) : Type 1 where
  pub show : A → List ℕ
  pub allowed : A → Type 0

-- l begins with the text of a; what follows are the bytes of s from next on
pub record Found {A : Type 0} (F : Format A) (l s : List ℕ) (a : A) (next : ℕ) : Type 0 where
  pub is : l ≡ F.show a ++ drop next s
  pub fine : F.allowed a
  pub within : next ≤ length s

-- l begins with no text of the format
pub record Missing {A : Type 0} (F : Format A) (l : List ℕ) : Type 0 where
  pub none : (a : A) (rest : List ℕ) → F.allowed a → l ≡ F.show a ++ rest → ⊥

pub record Once {A : Type 0} (F : Format A) : Type 0 where
  pub once : (a b : A) (r t : List ℕ) → F.show a ++ r ≡ F.show b ++ t → (a ≡ b) × (r ≡ t)

-- ---- numbers
-- a number from 0 to most, and the byte e
abbrev pub natural : ℕ → ℕ → Format ℕ
natural most e = record { show = λ n. digits n ++ (e ∷ []); allowed = λ n. n ≤ most }

-- a number in range, and the byte e
abbrev pub whole : ℕ → Format ℤ
whole e = record { show = λ z. text z ++ (e ∷ []); allowed = InRange }

module _ (e : ℕ) (h : e < 48) where
  pub once_natural : (most : ℕ) → Once (natural most e)
  once_natural most = record {
    once = λ m n r t p. digits_once e m n r t h (sym (append_assoc (digits m) (e ∷ []) r) ∙ p ∙ append_assoc (digits n) (e ∷ []) t);
  }

  pub once_whole : Once (whole e)
  once_whole = record {
    once = λ x y r t p. text_once e x y r t h (sym (append_assoc (text x) (e ∷ []) r) ∙ p ∙ append_assoc (text y) (e ∷ []) t);
  }
