-- Which bytes are letters, and the first that is none. Assumes nothing.
use Rattle.std.specs.Prelude.{◌≡◌, refl, Bool, true, false, not, List, ℕ, ◌+◌, ◌≤◌, ◌<◌, eqb, length, get_or, Option, Some, None, MatchOption}
use Rattle.std.specs.List.{AllWithin, HoldsAt}
use Rattle.std.proofs.Common.{sym, arith, eqb-true}
use Rattle.std.proofs.lemmas.Bool.{eqb-false, not-true, not-false}
use Rattle.exact.specs.Meaning.Word.{Letter, I, H, S, X, W, T', byte, IsLetter, FirstOutside}
use Rattle.exact.specs.Cases.Letters.{Inside}
use Rattle.exact.proofs.Cases.Letters.{inside_more}
use Rattle.exact.proofs.Whole.Parity.{false_true}
use Rattle.exact.specs.Meaning.Outcome.{Decides}

pub record Scanned (bs : List ℕ) (r : ℕ) : Type 0 where
  pub most : r ≤ length bs
  pub before : Inside bs r
  pub outside : r < length bs → IsLetter (get_or bs r 0) → ⊥

-- one place more, and the two ways out of the scan
module _ (bs : List ℕ) (i : ℕ) (passed : Inside bs i) where
  module _ {b : Bool} (d : Decides (IsLetter (get_or bs i 0)) b) where
    pub scanned_more : not b ≡ false → Inside bs (i + 1)
    scanned_more t = inside_more bs i passed (d.yes (not-false b t))

    pub scanned_stop : not b ≡ true → i < length bs → Scanned bs i
    scanned_stop t h = record { most = omega arith; before = passed; outside = λ l. d.no (not-true b t) }

  pub scanned_end : i ≤ length bs → length bs ≤ i → Scanned bs i
  scanned_end l h = record { most = l; before = passed; outside = λ k. absurd (omega arith) }

pub scanned_first : {bs : List ℕ} {r : ℕ} → Scanned bs r → r < length bs → FirstOutside bs r
scanned_first s h = record { there = h; outside = s.outside h; before = s.before }

pub scanned_all : {bs : List ℕ} {r : ℕ} → Scanned bs r → length bs ≤ r → Inside bs (length bs)
scanned_all s h i l = s.before i (omega arith)

pub scanned_at : (bs : List ℕ) (p : ℕ) → FirstOutside bs p → Scanned bs p
scanned_at bs p f = record { most = omega (arith, f.there); before = f.before; outside = λ h. f.outside }

pub scanned_whole : (bs : List ℕ) (r : Option ℕ) → MatchOption r (Inside bs (length bs)) (FirstOutside bs) → ((p : ℕ) → r ≡ Some p → ⊥)
    → Scanned bs (length bs)
scanned_whole bs None i n = record { most = omega arith; before = i; outside = λ h. absurd (omega arith) }
scanned_whole bs (Some p) f n = absurd (n p refl)

-- what a search through the list says
pub outside_of : (bs : List ℕ) (r : Option ℕ)
    → MatchOption r (AllWithin IsLetter bs 0 (length bs)) (λ i. (i < length bs) × HoldsAt (λ b. IsLetter b → ⊥) bs i × AllWithin IsLetter bs 0 i)
    → MatchOption r (Inside bs (length bs)) (FirstOutside bs)
outside_of bs None h = λ i l. h i 0 (omega arith) l
outside_of bs (Some p) h = record { there = h.0; outside = h.1 0; before = λ i l. h.2 i 0 (omega arith) l }

-- ---- a letter
pub letter_yes : (l : Letter) (g : ℕ) → g ≡ byte l → Decides (IsLetter g) true
letter_yes l g e = record { yes = λ p. record { letter_there = l; is = sym e }; no = λ p. absurd (false_true (sym p)) }

-- one of two that stand side by side
pub letter_of_two : (l m : Letter) (g : ℕ) → byte m ≡ byte l + 1 → byte l ≤ g → g ≤ byte m → Decides (IsLetter g) true
letter_of_two l m g e a b = go (eqb g (byte l)) refl
  where
    go : (t : Bool) → eqb g (byte l) ≡ t → Decides (IsLetter g) true
    go true p = letter_yes l g (eqb-true g (byte l) p)
    go false p = letter_yes m g (omega (arith, eqb-false g (byte l) p))

pub letter_last : (g : ℕ) → (g ≡ 73 → ⊥) → (g ≡ 72 → ⊥) → (g ≡ 83 → ⊥) → (g ≡ 88 → ⊥) → (g ≡ 87 → ⊥) → Decides (IsLetter g) (eqb g 84)
letter_last g i h s x w =
    record {
      yes = λ p. record { letter_there = T'; is = sym (eqb-true g 84 p) };
      no = λ p q. none q.letter_there q.is p;
    }
  where
    none : (l : Letter) → byte l ≡ g → eqb g 84 ≡ false → ⊥
    none I e p = i (sym e)
    none H e p = h (sym e)
    none S e p = s (sym e)
    none X e p = x (sym e)
    none W e p = w (sym e)
    none T' e p = eqb-false g 84 p (sym e)
