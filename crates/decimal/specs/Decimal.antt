-- Laws of decimal text: a digit more, the value that digits have, and where they end. Assumes nothing.
use Rattle.std.specs.Prelude.{◌≡◌, refl, ◌⊎◌, Bool, true, false, List, [], ◌∷◌, ◌++◌, ℕ, zero, suc, ◌+◌, ◌-◌, ◌*◌, ◌/◌, ◌%◌, ◌≤◌, ◌<◌, ltb, ℤ, pos}
use Rattle.std.specs.Prelude.{negsuc, length}
use Rattle.std.proofs.Common.{sym, ◌∙◌, ap, ap₂, subst, inl, inr, arith, lt-ltb, le-ltb, ltb-true, ltb-false}
use Rattle.exact.specs.Meaning.Record.{digits_of, digits, text}

-- ---- by one digit and by more, whatever the fuel
one_of : (f n : ℕ) → n < 10 → digits_of (suc f) n ≡ (48 + n) ∷ []
unfolding digits_of
one_of f n h = rw (lt-ltb n 10 h, digits_of)

more_of : (f n : ℕ) → 10 ≤ n → digits_of (suc f) n ≡ digits_of f (n / 10) ++ ((48 + n % 10) ∷ [])
unfolding digits_of
more_of f n h = rw (le-ltb n 10 h, digits_of)

-- n is below 10 or not
pub below_ten : (n : ℕ) → (n < 10) ⊎ (10 ≤ n)
below_ten n = go (ltb n 10) refl
  where
    go : (b : Bool) → ltb n 10 ≡ b → (n < 10) ⊎ (10 ≤ n)
    go true e = inl (ltb-true n 10 e)
    go false e = inr (ltb-false n 10 e)

-- what holds of each number below 10, and of n where it holds of n / 10, holds of each number's digits, whatever the fuel above it
of_digits : (P : ℕ → List ℕ → Type 0)
    → ((n : ℕ) → n < 10 → P n ((48 + n) ∷ []))
    → ((n : ℕ) (s : List ℕ) → 10 ≤ n → P (n / 10) s → P n (s ++ ((48 + n % 10) ∷ [])))
    → (f n : ℕ) → n < f → P n (digits_of f n)
of_digits P one more zero n h = absurd (omega arith)
of_digits P one more (suc f) n h = go (below_ten n) (λ l. of_digits P one more f (n / 10) l)
  where
    go : (n < 10) ⊎ (10 ≤ n) → (n / 10 < f → P (n / 10) (digits_of f (n / 10))) → P n (digits_of (suc f) n)
    go (inl l) r = rw (one_of f n l) (one n l)
    go (inr l) r = rw (more_of f n l) (more n (digits_of f (n / 10)) l (r (omega arith)))

by_digits : (P : ℕ → List ℕ → Type 0)
    → ((n : ℕ) → n < 10 → P n ((48 + n) ∷ []))
    → ((n : ℕ) (s : List ℕ) → 10 ≤ n → P (n / 10) s → P n (s ++ ((48 + n % 10) ∷ [])))
    → (n : ℕ) → P n (digits n)
unfolding digits
by_digits P one more n = of_digits P one more (suc n) n (omega arith)

-- ---- one digit, and a digit more
enough_of : (f n : ℕ) → n < f → digits n ≡ digits_of f n
enough_of f n h = by_digits (λ n s. (f : ℕ) → n < f → s ≡ digits_of f n) one more n f h
  where
    one : (n : ℕ) → n < 10 → (f : ℕ) → n < f → (48 + n) ∷ [] ≡ digits_of f n
    one n l zero h = absurd (omega arith)
    one n l (suc f) h = sym (one_of f n l)

    more : (n : ℕ) (s : List ℕ) → 10 ≤ n → ((f : ℕ) → n / 10 < f → s ≡ digits_of f (n / 10))
        → (f : ℕ) → n < f → s ++ ((48 + n % 10) ∷ []) ≡ digits_of f n
    more n s l r zero h = absurd (omega arith)
    more n s l r (suc f) h = ap (λ x. x ++ ((48 + n % 10) ∷ [])) (r f (omega arith)) ∙ sym (more_of f n l)

pub digits_one : (n : ℕ) → n < 10 → digits n ≡ (48 + n) ∷ []
unfolding digits
digits_one n h = one_of n n h

pub digits_more : (n : ℕ) → 10 ≤ n → digits n ≡ digits (n / 10) ++ ((48 + n % 10) ∷ [])
unfolding digits
digits_more n h = more_of n n h ∙ ap (λ x. x ++ ((48 + n % 10) ∷ [])) (sym (enough_of n (n / 10) (omega arith)))

pub digits_push : (v d : ℕ) → 0 < v → d < 10 → digits (v * 10 + d) ≡ digits v ++ ((48 + d) ∷ [])
digits_push v d h l = digits_more (v * 10 + d) (omega arith) ∙ ap₂ (λ q r. digits q ++ ((48 + r) ∷ [])) front rest
  where
    front : (v * 10 + d) / 10 ≡ v
    front = omega arith

    rest : (v * 10 + d) % 10 ≡ d
    rest = omega arith

-- ---- the value of digits read from the left, after what came before
abbrev pub value : ℕ → List ℕ → ℕ
value v [] = v
value v (b ∷ s) = value (v * 10 + (b - 48)) s

value_append : (v : ℕ) (s t : List ℕ) → value v (s ++ t) ≡ value (value v s) t
value_append v [] t = refl
value_append v (b ∷ s) t = value_append (v * 10 + (b - 48)) s t

pub value_digits : (n : ℕ) → value 0 (digits n) ≡ n
value_digits = by_digits (λ n s. value 0 s ≡ n) one more
  where
    one : (n : ℕ) → n < 10 → 0 * 10 + (48 + n - 48) ≡ n
    one n l = omega arith

    more : (n : ℕ) (s : List ℕ) → 10 ≤ n → value 0 s ≡ n / 10 → value 0 (s ++ ((48 + n % 10) ∷ [])) ≡ n
    more n s l r = value_append 0 s ((48 + n % 10) ∷ []) ∙ ap (λ v. v * 10 + (48 + n % 10 - 48)) r ∙ omega arith

pub value_grows : (v : ℕ) (s : List ℕ) → v ≤ value v s
value_grows v [] = omega arith
value_grows v (b ∷ s) = omega (arith, value_grows (v * 10 + (b - 48)) s)

pub digits_same : (m n : ℕ) → digits m ≡ digits n → m ≡ n
digits_same m n e = sym (value_digits m) ∙ ap (value 0) e ∙ value_digits n

-- ---- each byte is a digit
pub record Digit (b : ℕ) : Type 0 where
  pub low : 48 ≤ b
  pub high : b ≤ 57

abbrev pub Digits : List ℕ → Type 0
Digits [] = Unit {0}
Digits (b ∷ s) = Digit b × Digits s

digits_append : (s t : List ℕ) → Digits s → Digits t → Digits (s ++ t)
digits_append [] t h l = l
digits_append (b ∷ s) t h l = (h.0, digits_append s t h.1 l)

pub digits_digits : (n : ℕ) → Digits (digits n)
digits_digits = by_digits (λ n s. Digits s)
    (λ n l. (record { low = omega arith; high = omega arith }, tt))
    (λ n s l r. digits_append s ((48 + n % 10) ∷ []) r (record { low = omega arith; high = omega arith }, tt))

-- ---- the first byte: there is one, and it is 0 at 0 alone
abbrev Starts : List ℕ → Type 0
Starts [] = ⊥
Starts (b ∷ s) = b ≡ 48 → ⊥

starts_append : (s t : List ℕ) → Starts s → Starts (s ++ t)
starts_append [] t h = absurd h
starts_append (b ∷ s) t h = h

starts_digits : (n : ℕ) → 0 < n → Starts (digits n)
starts_digits = by_digits (λ n s. 0 < n → Starts s)
    (λ n l h e. omega arith)
    (λ n s l r h. starts_append s ((48 + n % 10) ∷ []) (r (omega arith)))

-- ---- where digits end
-- two runs of digits, one ended by e, which is no digit, and one by b: e is b and they are the same, or the first goes on with b
pub record Ends (xs ys r t : List ℕ) (e b : ℕ) : Type 0 where
  pub end : b ≡ e
  pub same : xs ≡ ys
  pub rest : r ≡ t

pub record Goes (xs ys : List ℕ) (b : ℕ) : Type 0 where
  pub more : List ℕ
  pub is : xs ≡ ys ++ (b ∷ more)

pub cons_head : {a b : ℕ} {s t : List ℕ} → a ∷ s ≡ b ∷ t → a ≡ b
cons_head h = cc

pub cons_tail : {a b : ℕ} {s t : List ℕ} → a ∷ s ≡ b ∷ t → s ≡ t
cons_tail h = cc

module _ (e b : ℕ) (r t : List ℕ) (h : Digit e → ⊥) where
  pub cut : (xs ys : List ℕ) → Digits ys → xs ++ (e ∷ r) ≡ ys ++ (b ∷ t) → Ends xs ys r t e b ⊎ Goes xs ys b
  cut [] [] d p = inl (record { end = sym (cons_head p); same = refl; rest = cons_tail p })
  cut [] (y ∷ ys) d p = absurd (h (subst Digit (sym (cons_head p)) d.0))
  cut (x ∷ xs) [] d p = inr (record { more = xs; is = ap (λ a. a ∷ xs) (cons_head p) })
  cut (x ∷ xs) (y ∷ ys) d p = go (cut xs ys d.1 (cons_tail p))
    where
      go : Ends xs ys r t e b ⊎ Goes xs ys b → Ends (x ∷ xs) (y ∷ ys) r t e b ⊎ Goes (x ∷ xs) (y ∷ ys) b
      go (inl g) = inl (record { end = g.end; same = ap₂ (λ a s. a ∷ s) (cons_head p) g.same; rest = g.rest })
      go (inr g) = inr (record { more = g.more; is = ap₂ (λ a s. a ∷ s) (cons_head p) g.is })

-- the digits of n begin with those of v and go on with b: v is not 0, b is a digit, and n is no less than both make
pub record Grown (v b n : ℕ) : Type 0 where
  pub digit : Digit b
  pub positive : 0 < v
  pub least : v * 10 + (b - 48) ≤ n

digits_part : (s t : List ℕ) → Digits (s ++ t) → Digits t
digits_part [] t h = h
digits_part (b ∷ s) t h = digits_part s t h.1

pub goes_on : (v b n : ℕ) (zs : List ℕ) → digits n ≡ digits v ++ (b ∷ zs) → Grown v b n
goes_on v b n zs p = record {
  digit = (digits_part (digits v) (b ∷ zs) (subst Digits p (digits_digits n))).0;
  positive = positive v p;
  least = least;
}
  where
    least : v * 10 + (b - 48) ≤ n
    least =
        let front = value_append 0 (digits v) (b ∷ zs) ∙ ap (λ x. value (x * 10 + (b - 48)) zs) (value_digits v) in
        let whole : n ≡ value (v * 10 + (b - 48)) zs = sym (value_digits n) ∙ ap (value 0) p ∙ front in
        omega (arith, value_grows (v * 10 + (b - 48)) zs)

    zero_first : (m : ℕ) → digits m ≡ 48 ∷ (b ∷ zs) → ⊥
    zero_first zero q = let z : ◌≡◌ {A = List ℕ} [] (b ∷ zs) = cons_tail (sym (digits_one 0 (omega arith)) ∙ q) in
        let y : 0 ≡ suc (length zs) = ap length z in omega arith
    zero_first (suc m) q = subst Starts q (starts_digits (suc m) (omega arith)) refl

    positive : (v : ℕ) → digits n ≡ digits v ++ (b ∷ zs) → 0 < v
    positive zero q = absurd (zero_first n (q ∙ ap (λ x. x ++ (b ∷ zs)) (digits_one 0 (omega arith))))
    positive (suc v) q = omega arith

-- the first of the digits of n, and what comes behind
pub record First (b n : ℕ) : Type 0 where
  pub digit : Digit b
  pub least : b - 48 ≤ n

pub first_of : (n b : ℕ) (r t : List ℕ) → digits n ++ r ≡ b ∷ t → First b n
first_of n b r t p = go (digits n) refl p
  where
    nothing : (n : ℕ) → digits n ≡ [] → ⊥
    nothing zero q = let y : ◌≡◌ {A = ℕ} 1 0 = ap length (sym (digits_one 0 (omega arith)) ∙ q) in omega arith
    nothing (suc n) q = subst Starts q (starts_digits (suc n) (omega arith))

    go : (s : List ℕ) → digits n ≡ s → s ++ r ≡ b ∷ t → First b n
    go [] e q = absurd (nothing n e)
    go (d ∷ s) e q =
        let whole : n ≡ value (0 * 10 + (d - 48)) s = sym (value_digits n) ∙ ap (value 0) e in
        subst (λ x. First x n) (cons_head q) (record {
          digit = (subst Digits e (digits_digits n)).0;
          least = omega (arith, value_grows (0 * 10 + (d - 48)) s);
        })

-- digits alone hold nothing that is no digit
pub all_digits : (s t r : List ℕ) (e : ℕ) → Digits t → s ++ (e ∷ r) ≡ t → Digit e
all_digits s t r e h p = (digits_part s (e ∷ r) (subst Digits (sym p) h)).0

-- what ends below 48 ends the digits
pub no_digit : (e : ℕ) → e < 48 → Digit e → ⊥
no_digit e h d = omega arith

-- ---- the text determines the number, and what follows
pub digits_once : (e m n : ℕ) (r t : List ℕ) → e < 48 → digits m ++ (e ∷ r) ≡ digits n ++ (e ∷ t) → (m ≡ n) × (r ≡ t)
digits_once e m n r t h p = go (cut e e r t (no_digit e h) (digits m) (digits n) (digits_digits n) p)
  where
    go : Ends (digits m) (digits n) r t e e ⊎ Goes (digits m) (digits n) e → (m ≡ n) × (r ≡ t)
    go (inl g) = (digits_same m n g.same, g.rest)
    go (inr g) = absurd (no_digit e h (digits_part (digits n) (e ∷ g.more) (subst Digits g.is (digits_digits m))).0)

-- digits and a minus differ
pub minus_first : (n : ℕ) (r t : List ℕ) → digits n ++ r ≡ 45 ∷ t → ⊥
minus_first n r t p = let f : First 45 n = first_of n 45 r t p in omega (arith, f.digit)

pub text_once : (e : ℕ) (x y : ℤ) (r t : List ℕ) → e < 48 → text x ++ (e ∷ r) ≡ text y ++ (e ∷ t) → (x ≡ y) × (r ≡ t)
text_once e (pos m) (pos n) r t h p = let g = digits_once e m n r t h p in (ap pos g.0, g.1)
text_once e (pos m) (negsuc n) r t h p = absurd (minus_first m (e ∷ r) (digits (suc n) ++ (e ∷ t)) p)
text_once e (negsuc m) (pos n) r t h p = absurd (minus_first n (e ∷ t) (digits (suc m) ++ (e ∷ r)) (sym p))
text_once e (negsuc m) (negsuc n) r t h p =
    let g = digits_once e (suc m) (suc n) r t h (cons_tail p) in
    let q : m ≡ n = omega (arith, g.0) in (ap negsuc q, g.1)
