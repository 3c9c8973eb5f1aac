-- Ladders of refusals: two allowed outcomes are equal; what follows where none of the refusals holds; and outcomes made of other outcomes.
-- Assumes nothing.
use Rattle.std.specs.Prelude.{◌≡◌, ℕ}
use Rattle.std.proofs.Common.{sym, ◌∙◌, ap, ap₂, subst}
use Rattle.exact.specs.Meaning.Outcome.{Refusal, Refusals, none, ◌then◌, ◌also◌, Rung, Outcome, HandsOn}
use Rattle.exact.specs.Outcomes.Ladder.{Checks}

-- none of the refusals holds anywhere
abbrev pub Passed : Refusals → Type 0
Passed none = Unit {0}
Passed (f then fs) = ((p : ℕ) → f.At p → ⊥) × Passed fs

-- ---- two allowed outcomes are equal
-- each refusal has at most one place
abbrev pub OnePlace : Refusals → Type 0
OnePlace none = Unit {0}
OnePlace (f then fs) = ((p q : ℕ) → f.At p → f.At q → p ≡ q) × OnePlace fs

-- at most one fits
abbrev pub Only : {R : Type 0} → (R → Type 0) → Type 0
Only {R} P = (r s : R) → P r → P s → r ≡ s

module _ {R : Type 0} {r s : R} {Holds : ℕ → Type 0} (gives : ℕ → R) {X Y : Type 0} where
  one_rung : ((p q : ℕ) → Holds p → Holds q → p ≡ q) → (((p : ℕ) → Holds p → ⊥) → X → Y → r ≡ s)
      → Rung Holds (λ p. r ≡ gives p) X → Rung Holds (λ p. s ≡ gives p) Y → r ≡ s
  one_rung o rest (Rung.given p h e) (Rung.given q k g) = e ∙ ap gives (o p q h k) ∙ sym g
  one_rung o rest (Rung.given p h e) (Rung.passed n y) = absurd (n p h)
  one_rung o rest (Rung.passed n x) (Rung.given q k g) = absurd (n q k)
  one_rung o rest (Rung.passed n x) (Rung.passed m y) = rest n x y

module _ {R : Type 0} (refused : ℕ → ℕ → R) (Answer : R → Type 0) where
  pub one_outcome : (fs : Refusals) → OnePlace fs → (Passed fs → Only Answer) → Only (Outcome refused Answer fs)
  one_outcome none o one r s x y = one tt r s x y
  one_outcome (f then fs) o one r s x y = one_rung (refused f.number) o.0 (λ n. one_outcome fs o.1 (λ h. one (n, h)) r s) x y

pub one_handed : {R S : Type 0} (Job : R → Type 0) (f : R → S) → Only Job → Only (HandsOn Job f)
one_handed Job f o r s x y = x.is ∙ ap f (o x.job y.job x.outcome y.outcome) ∙ sym y.is

-- ---- from an outcome, and to one
module _ {R : Type 0} (refused : ℕ → ℕ → R) (Answer : R → Type 0) where
  -- where none holds the answer is given
  pub answered : (fs : Refusals) → Passed fs → (r : R) → Outcome refused Answer fs r → Answer r
  answered none h r x = x
  answered (f then fs) h r (Rung.given p k e) = absurd (h.0 p k)
  answered (f then fs) h r (Rung.passed n x) = answered fs h.1 r x

  -- and so it is where what is handed back is that of no refusal
  abbrev pub NoneGives : (R → Type 0) → Refusals → Type 0
  NoneGives P none = Unit {0}
  NoneGives P (f then fs) = ((p : ℕ) → P (refused f.number p) → ⊥) × NoneGives P fs

  pub accepted : (P : R → Type 0) (fs : Refusals) → NoneGives P fs → (r : R) → P r → Outcome refused Answer fs r → Answer r
  accepted P none h r a x = x
  accepted P (f then fs) h r a (Rung.given p k e) = absurd (h.0 p (subst P e a))
  accepted P (f then fs) h r a (Rung.passed n x) = accepted P fs h.1 r a x

  -- refusals that don't give it are passed, and what comes behind them stands alone
  pub through : (P : R → Type 0) (fs gs : Refusals) → NoneGives P fs → (r : R) → P r → Outcome refused Answer (fs also gs) r
      → Passed fs × Outcome refused Answer gs r
  through P none gs h r a x = (tt, x)
  through P (f then fs) gs h r a (Rung.given p k e) = absurd (h.0 p (subst P e a))
  through P (f then fs) gs h r a (Rung.passed n x) = let s = through P fs gs h.1 r a x in ((n, s.0), s.1)

  -- where one holds and those before it don't, it is given, at its place, and nothing else is
  module _ (f : Refusal) (one : (p q : ℕ) → f.At p → f.At q → p ≡ q) (p : ℕ) (h : f.At p) where
    pub only_refused : (fs gs : Refusals) → Passed fs → (r : R) → Outcome refused Answer (fs also (f then gs)) r → r ≡ refused f.number p
    only_refused none gs n r (Rung.given q k e) = e ∙ ap (refused f.number) (one q p k h)
    only_refused none gs n r (Rung.passed m x) = absurd (m p h)
    only_refused (g then fs) gs n r (Rung.given q k e) = absurd (n.0 q k)
    only_refused (g then fs) gs n r (Rung.passed m x) = only_refused fs gs n.1 r x

  -- and what comes behind refusals that are passed stands alone
  pub skip : (fs gs : Refusals) → Passed fs → (r : R) → Outcome refused Answer (fs also gs) r → Outcome refused Answer gs r
  skip none gs h r x = x
  skip (f then fs) gs h r (Rung.given p k e) = absurd (h.0 p k)
  skip (f then fs) gs h r (Rung.passed n x) = skip fs gs h.1 r x

  pub pass : (fs gs : Refusals) → Passed fs → (r : R) → Outcome refused Answer gs r → Outcome refused Answer (fs also gs) r
  pass none gs h r x = x
  pass (f then fs) gs h r x = Rung.passed h.0 (pass fs gs h.1 r x)

  -- what holds of every refusal, and of every answer where none holds
  module _ (P : R → Type 0) (at-refused : (n p : ℕ) → P (refused n p)) where
    pub always : (fs : Refusals) → (Passed fs → (r : R) → Answer r → P r) → (r : R) → Outcome refused Answer fs r → P r
    always none at-answer r x = at-answer tt r x
    always (f then fs) at-answer r (Rung.given p k e) = subst P (sym e) (at-refused f.number p)
    always (f then fs) at-answer r (Rung.passed n x) = always fs (λ h. at-answer (n, h)) r x

-- an outcome made of another, whose refusals become those of the one
module _ {R S : Type 0} (refused : ℕ → ℕ → R) (Answer : R → Type 0) (refused' : ℕ → ℕ → S) (Answer' : S → Type 0) (f : R → S) where
  pub carry : ((n p : ℕ) → f (refused n p) ≡ refused' n p) → (fs gs hs : Refusals)
      → ((r : R) → Passed fs → Outcome refused Answer gs r → Outcome refused' Answer' hs (f r))
      → (r : R) → Outcome refused Answer (fs also gs) r → Outcome refused' Answer' (fs also hs) (f r)
  carry same none gs hs rest r x = rest r tt x
  carry same (g then fs) gs hs rest r (Rung.given p h e) = Rung.given p h (ap f e ∙ same g.number p)
  carry same (g then fs) gs hs rest r (Rung.passed n x) = Rung.passed n (carry same fs gs hs (λ s h y. rest s (n, h) y) r x)

-- no refusal has the number 0, and none names a place
abbrev pub Placeless : Refusals → Type 0
Placeless none = Unit {0}
Placeless (f then fs) = ((f.number ≡ 0 → ⊥) × ((p : ℕ) → f.At p → p ≡ 0)) × Placeless fs

pub check_passed : (fs : Refusals) → Placeless fs → (r : ℕ) → Checks fs r → r ≡ 0 → Passed fs
check_passed none o r x e = tt
check_passed (f then fs) o r (Rung.given p h g) e = absurd (o.0.0 (sym g ∙ e))
check_passed (f then fs) o r (Rung.passed n x) e = (n, check_passed fs o.1 r x e)

module _ {R : Type 0} (refused : ℕ → ℕ → R) (Answer : R → Type 0) where
  pub check_refused : (fs gs : Refusals) → Placeless fs → (r : ℕ) → Checks fs r → (r ≡ 0 → ⊥)
      → Outcome refused Answer (fs also gs) (refused r 0)
  check_refused none gs o r x n = absurd (n x)
  check_refused (f then fs) gs o r (Rung.given p h e) n = Rung.given p h (ap₂ refused e (sym (o.0.1 p h)))
  check_refused (f then fs) gs o r (Rung.passed m x) n = Rung.passed m (check_refused fs gs o.1 r x n)
