-- The formats of the record's lines: a name and `=`, and numbers, put together by `before`. Assumes nothing.
use Rattle.std.specs.Prelude.{◌≡◌, refl, List, [], ◌∷◌, ◌++◌, ℕ, ℤ, drop}
use Rattle.std.proofs.Common.{sym, ◌∙◌, ap, ap₂, append_assoc}
use Rattle.decimal.specs.Format.{Format, Found, Missing, Once, natural, whole}

-- ---- one after the other
module _ {A B : Type 0} (F : Format A) (G : Format B) where
  abbrev pub before : Format (A × B)
  before = record { show = λ p. F.show p.0 ++ G.show p.1; allowed = λ p. F.allowed p.0 × G.allowed p.1 }

  -- its text is the first's and the second's
  parts : (a : A) (b : B) (rest : List ℕ) → before.show (a, b) ++ rest ≡ F.show a ++ (G.show b ++ rest)
  parts a b rest = append_assoc (F.show a) (G.show b) rest

  pub found_both : {l s : List ℕ} {a : A} {b : B} {i j : ℕ} → Found F l s a i → Found G (drop i s) s b j → Found before l s (a, b) j
  found_both {l} {s} {a} {b} {i} {j} f g = record {
    is = f.is ∙ ap (λ x. F.show a ++ x) g.is ∙ sym (parts a b (drop j s));
    fine = (f.fine, g.fine);
    within = g.within;
  }

  pub missing_first : {l : List ℕ} → Missing F l → Missing before l
  missing_first m = record { none = λ p rest ok e. m.none p.0 (G.show p.1 ++ rest) ok.0 (e ∙ parts p.0 p.1 rest) }

  pub missing_second : {l s : List ℕ} {a : A} {i : ℕ} → Once F → Found F l s a i → Missing G (drop i s) → Missing before l
  missing_second {l} {s} {a} {i} o f m = record {
    none = λ p rest ok e.
        let first = o.once a p.0 (drop i s) (G.show p.1 ++ rest) (sym f.is ∙ e ∙ parts p.0 p.1 rest) in
        m.none p.1 rest ok.1 first.1;
  }

  pub once_both : Once F → Once G → Once before
  once_both o q = record {
    once = λ p p' r t e.
        let same = sym (parts p.0 p.1 r) ∙ e ∙ parts p'.0 p'.1 t in
        let first = o.once p.0 p'.0 (G.show p.1 ++ r) (G.show p'.1 ++ t) same in
        let second = q.once p.1 p'.1 r t first.1 in
        (ap₂ (λ a b. (a, b)) first.0 second.0, second.1);
  }

-- ---- a name and `=`
abbrev pub named : ℕ → Format (Unit {0})
named name = record { show = λ u. name ∷ 61 ∷ []; allowed = λ u. Unit {0} }

tails : {a b c d : ℕ} {s t : List ℕ} → a ∷ b ∷ s ≡ c ∷ d ∷ t → s ≡ t
tails h = cc

pub once_named : (name : ℕ) → Once (named name)
once_named name = record { once = λ a b r t e. (refl, tails e) }

-- ---- the lines
abbrev pub Four : Type 0
Four = ℤ × (ℤ × (ℤ × ℤ))

abbrev pub four_numbers : Format Four
four_numbers = before (whole 44) (before (whole 44) (before (whole 44) (whole 10)))

abbrev pub ring_line : ℕ → Format ((Unit {0}) × Four)
ring_line name = before (named name) four_numbers

abbrev pub k_line : Format ((Unit {0}) × ℤ)
k_line = before (named 107) (whole 10)

abbrev pub n_line : Format ((Unit {0}) × ℕ)
n_line = before (named 110) (natural 255 10)
