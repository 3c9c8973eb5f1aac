-- Why the readers of one number answer right: a step of theirs by each law. Assumes nothing.
use Rattle.std.specs.Prelude.{◌≡◌, refl, ◌⊎◌, List, [], ◌∷◌, ◌++◌, ℕ, zero, suc, ◌+◌, ◌-◌, ◌*◌, ◌/◌, ◌^◌, ◌≤◌, ◌<◌, ℤ, pos, negsuc, ◌-ℤ◌, length}
use Rattle.std.specs.Prelude.{get_or, drop, Option, Some, None}
use Rattle.std.proofs.Common.{sym, ◌∙◌, ap, subst, inl, inr, append_assoc, append-nil, add-one, arith, drop_of_length-le, length-append, drop-cons, SFits, to_z}
use Rattle.std.specs.Int.{w64}
use Rattle.std.proofs.lemmas.Int.{to_z_pos, to_z-of_z}
use Rattle.exact.specs.Meaning.Record.{digits, text, InRange}
use Rattle.exact.proofs.Whole.Machine.{held}
use Rattle.decimal.specs.Decimal.{Digit, Digits, Grown, First, Ends, Goes, digits_one, digits_push, digits_digits, digits_once}
use Rattle.decimal.specs.Decimal.{cut, goes_on, first_of, all_digits, no_digit, minus_first, cons_head, cons_tail}
use Rattle.decimal.specs.Format.{Found, Missing, natural, whole}
use Rattle.decimal.specs.Read.{Taken, DigitIs, PushIs, NaturalIs, WholeIs}

-- ---- a digit more
module _ (w b most : ℕ) (x : Option ℕ) (is-d : DigitIs b 9 x) where
  pub push_stop : x ≡ None → PushIs w b most None
  push_stop e g =
      let stop : First b 9 → ⊥ = subst (DigitIs b 9) e is-d in
      stop (record { digit = g.digit; least = omega (arith, g.digit) })

  module _ (d : ℕ) (has-d : x ≡ Some d) where
    digit_taken : Taken 0 b 9 d
    digit_taken = subst (DigitIs b 9) has-d is-d

    pub push_over : most - w * 10 < d → PushIs w b most None
    push_over h g = omega (arith, g.least, digit_taken.is)

    pub push_more : (w ≡ 0 → ⊥) → w ≤ most / 10 → d ≤ most - w * 10 → PushIs w b most (Some (w * 10 + d))
    push_more p l h = (record { digit = digit_taken.digit; is = omega (arith, digit_taken.is); small = omega arith }, omega arith)

-- ---- a run of digits: those from at to i are those of v
pub record Reading (s : List ℕ) (at most v i : ℕ) : Type 0 where
  pub is : drop at s ≡ digits v ++ drop i s
  pub small : v ≤ most
  pub within : i ≤ length s

-- a byte of s, and those behind it
pub byte_and : (s : List ℕ) (i : ℕ) → i < length s → drop i s ≡ get_or s i 0 ∷ drop (i + 1) s
byte_and s i h = drop-cons s i 0 h ∙ ap (λ j. get_or s i 0 ∷ drop j s) (sym (add-one i))

digit_of : (b d : ℕ) → Digit b → d ≡ b - 48 → 48 + d ≡ b
digit_of b d h e = omega (arith, h)

pub reading_first : (s : List ℕ) (at most v : ℕ) (x : Option ℕ) → at < length s → DigitIs (get_or s at 0) most x → x ≡ Some v
    → Reading s at most v (at + 1)
reading_first s at most v x h is-d e =
    record {
      is = byte_and s at h ∙ ap (λ u. u ++ drop (at + 1) s) digits_of;
      small = t.small;
      within = omega arith;
    }
  where
    t : Taken 0 (get_or s at 0) most v
    t = subst (DigitIs (get_or s at 0) most) e is-d

    digits_of : get_or s at 0 ∷ [] ≡ digits v
    digits_of =
        ap (λ b. b ∷ []) (sym (digit_of (get_or s at 0) v t.digit (omega (arith, t.is))))
        ∙ sym (digits_one v (omega (arith, t.is, t.digit)))

module _ (s : List ℕ) (at most v i : ℕ) (r : Reading s at most v i) (h : i < length s) where
  abbrev byte : ℕ
  byte = get_or s i 0

  -- the bytes from at: those digits, the byte at i, and the bytes behind it
  here : drop at s ≡ digits v ++ (byte ∷ drop (i + 1) s)
  here = r.is ∙ ap (λ x. digits v ++ x) (byte_and s i h)

  pub reading_more : (v' : ℕ) (x : Option ℕ) → PushIs v byte most x → x ≡ Some v' → Reading s at most v' (i + 1)
  reading_more v' x is-v e =
      record {
        is = here ∙ sym (append_assoc (digits v) (byte ∷ []) (drop (i + 1) s)) ∙ ap (λ x. x ++ drop (i + 1) s) digits_of;
        small = p.0.small;
        within = omega arith;
      }
    where
      p : Taken v byte most v' × (0 < v)
      p = subst (PushIs v byte most) e is-v

      digits_of : digits v ++ (byte ∷ []) ≡ digits v'
      digits_of =
          ap (λ b. digits v ++ (b ∷ [])) (sym (digit_of byte (byte - 48) p.0.digit refl))
          ∙ sym (digits_push v (byte - 48) p.1 (omega (arith, p.0.digit)))
          ∙ ap digits (sym p.0.is)

  pub reading_found : (e : ℕ) → get_or s i 0 ≡ e → Found (natural most e) (drop at s) s v (i + 1)
  reading_found e q = record {
    is = here ∙ ap (λ b. digits v ++ (b ∷ drop (i + 1) s)) q ∙ sym (append_assoc (digits v) (e ∷ []) (drop (i + 1) s));
    fine = r.small;
    within = omega arith;
  }

  pub reading_stop : (e : ℕ) (x : Option ℕ) → e < 48 → (byte ≡ e → ⊥) → PushIs v byte most x → x ≡ None → Missing (natural most e) (drop at s)
  reading_stop e x l q is-v h' = record { none = none }
    where
      stop : Grown v byte most → ⊥
      stop = subst (PushIs v byte most) h' is-v

      go : (n : ℕ) (rest : List ℕ) → n ≤ most
          → Ends (digits n) (digits v) rest (drop (i + 1) s) e byte ⊎ Goes (digits n) (digits v) byte → ⊥
      go n rest ok (inl x) = q x.end
      go n rest ok (inr x) =
          let w = goes_on v byte n x.more x.is in
          stop (record { digit = w.digit; positive = w.positive; least = omega (arith, w.least) })

      none : (n : ℕ) (rest : List ℕ) → n ≤ most → drop at s ≡ (digits n ++ (e ∷ [])) ++ rest → ⊥
      none n rest ok p =
          let same = sym (append_assoc (digits n) (e ∷ []) rest) ∙ sym p ∙ here in
          go n rest ok (cut e byte rest (drop (i + 1) s) (no_digit e l) (digits n) (digits v) (digits_digits v) same)

module _ (s : List ℕ) (at most e : ℕ) (l : e < 48) where
  -- there are digits from at, and nothing else
  pub only_digits : (xs : List ℕ) → Digits xs → drop at s ≡ xs → Missing (natural most e) (drop at s)
  only_digits xs d q = record {
    none = λ n rest ok p.
        no_digit e l (all_digits (digits n) xs rest e d (sym (append_assoc (digits n) (e ∷ []) rest) ∙ sym p ∙ q));
  }

  pub reading_end : (v i : ℕ) → Reading s at most v i → length s ≤ i → Missing (natural most e) (drop at s)
  reading_end v i r h =
      only_digits (digits v) (digits_digits v) (r.is ∙ ap (λ x. digits v ++ x) (drop_of_length-le s h) ∙ append-nil (digits v))

  pub natural_past : length s ≤ at → Missing (natural most e) (drop at s)
  natural_past h = only_digits [] tt (drop_of_length-le s h)

  pub natural_first : (x : Option ℕ) → at < length s → DigitIs (get_or s at 0) most x → x ≡ None → Missing (natural most e) (drop at s)
  natural_first x h is-d q = record {
    none = λ n rest ok p.
        let stop : First (get_or s at 0) most → ⊥ = subst (DigitIs (get_or s at 0) most) q is-d in
        let same = sym (append_assoc (digits n) (e ∷ []) rest) ∙ sym p ∙ byte_and s at h in
        let w = first_of n (get_or s at 0) ((e ∷ []) ++ rest) (drop (at + 1) s) same in
        stop (record { digit = w.digit; least = omega (arith, w.least) });
  }

-- ---- with no minus
module _ (s : List ℕ) (at e most : ℕ) (x : Option (ℕ × ℕ)) (is-v : NaturalIs s (drop at s) e most x) where
  pub positive_none : 2 ^ 63 ≤ most + 1 → at < length s → (get_or s at 0 ≡ 45 → ⊥) → x ≡ None → Missing (whole e) (drop at s)
  positive_none l h n q = record { none = none }
    where
      m : Missing (natural most e) (drop at s)
      m = subst (NaturalIs s (drop at s) e most) q is-v

      none : (z : ℤ) (rest : List ℕ) → InRange z → drop at s ≡ (text z ++ (e ∷ [])) ++ rest → ⊥
      none (pos n) rest ok p = m.none n rest (omega arith) p
      none (negsuc m) rest ok p = n (cons_head (sym (byte_and s at h) ∙ p))

  module _ (v next : ℕ) (has-v : x ≡ Some (v, next)) (l : most < 2 ^ 63) where
    found_v : Found (natural most e) (drop at s) s v next
    found_v = subst (NaturalIs s (drop at s) e most) has-v is-v

    pub positive_fits : SFits w64 (pos v)
    positive_fits = record { sfits = omega (arith, found_v.fine) }

    pub positive_found : Found (whole e) (drop at s) s (to_z w64 v) next
    positive_found =
        rw (to_z_pos w64 v (omega (arith, found_v.fine)))
        (record { is = found_v.is; fine = omega (arith, found_v.fine); within = found_v.within })

-- ---- behind a minus
module _ (l : List ℕ) (e : ℕ) where
  negatives : ((n : ℕ) (rest : List ℕ) → suc n ≤ 2 ^ 63 → l ≡ (digits (suc n) ++ (e ∷ [])) ++ rest → ⊥) → Missing (whole e) (45 ∷ l)
  negatives h = record { none = none }
    where
      none : (z : ℤ) (rest : List ℕ) → InRange z → 45 ∷ l ≡ (text z ++ (e ∷ [])) ++ rest → ⊥
      none (pos n) rest ok p = minus_first n ((e ∷ []) ++ rest) l (sym (append_assoc (digits n) (e ∷ []) rest) ∙ sym p)
      none (negsuc n) rest ok p = h n rest ok (cons_tail p)

minus_one_less : (m : ℕ) → negsuc 0 -ℤ pos m ≡ negsuc m
minus_one_less zero = refl
minus_one_less (suc m) = ap (λ n. negsuc n) (omega arith)

less_is : (m : ℕ) → m < 2 ^ 63 → negsuc 0 -ℤ to_z w64 m ≡ negsuc m
less_is m h = ap (λ z. negsuc 0 -ℤ z) (to_z_pos w64 m h) ∙ minus_one_less m

module _ (s l : List ℕ) (e : ℕ) (x : Option (ℕ × ℕ)) (is-v : NaturalIs s l e (2 ^ 63) x) where
  pub negative_none : x ≡ None → Missing (whole e) (45 ∷ l)
  negative_none q = negatives l e (λ n rest ok p. m.none (suc n) rest ok p)
    where
      m : Missing (natural (2 ^ 63) e) l
      m = subst (NaturalIs s l e (2 ^ 63)) q is-v

  module _ (v next : ℕ) (has-v : x ≡ Some (v, next)) where
    found_n : Found (natural (2 ^ 63) e) l s v next
    found_n = subst (NaturalIs s l e (2 ^ 63)) has-v is-v

    pub negative_zero : e < 48 → v ≡ 0 → Missing (whole e) (45 ∷ l)
    negative_zero h q =
        negatives l e (λ n rest ok p.
        let begins = sym (append_assoc (digits v) (e ∷ []) (drop next s)) ∙ sym found_n.is in
        let same = begins ∙ p ∙ append_assoc (digits (suc n)) (e ∷ []) rest in
        omega (arith, (digits_once e v (suc n) (drop next s) rest h same).0))

    module _ (n : v ≡ 0 → ⊥) where
      small : v - 1 < 2 ^ 63
      small = omega (arith, found_n.fine)

      pub less_fits : SFits w64 (pos (v - 1))
      less_fits = record { sfits = small }

      pub negative_fits : SFits w64 (negsuc 0 -ℤ to_z w64 (v - 1))
      negative_fits = rw (less_is (v - 1) small) (record { sfits = small })

      pub negative_found : Found (whole e) (45 ∷ l) s (held w64 (negsuc 0 -ℤ to_z w64 (v - 1))) next
      negative_found =
          rw (to_z-of_z w64 (negsuc 0 -ℤ to_z w64 (v - 1)) negative_fits, less_is (v - 1) small)
          (record { is = ap (λ u. 45 ∷ u) found_n.is ∙ same; fine = omega (arith, found_n.fine); within = found_n.within })
        where
          one_more : v ≡ suc (v - 1)
          one_more = omega arith

          same : 45 ∷ ((digits v ++ (e ∷ [])) ++ drop next s) ≡ 45 ∷ ((digits (suc (v - 1)) ++ (e ∷ [])) ++ drop next s)
          same = ap (λ n. 45 ∷ ((digits n ++ (e ∷ [])) ++ drop next s)) one_more

-- ---- with a minus or not
pub minus_there : (s : List ℕ) (at e : ℕ) (x : Option (ℤ × ℕ)) → at < length s → get_or s at 0 ≡ 45 → WholeIs s (45 ∷ drop (at + 1) s) e x
    → WholeIs s (drop at s) e x
minus_there s at e x h q w = subst (λ l. WholeIs s l e x) (sym (byte_and s at h ∙ ap (λ b. b ∷ drop (at + 1) s) q)) w

pub whole_past : (s : List ℕ) (at e : ℕ) → length s ≤ at → Missing (whole e) (drop at s)
whole_past s at e h = record { none = λ z rest ok p. nothing z rest (ap length (sym (drop_of_length-le s h) ∙ p)) }
  where
    nothing : (z : ℤ) (rest : List ℕ) → 0 ≡ length ((text z ++ (e ∷ [])) ++ rest) → ⊥
    nothing z rest q = omega (arith, simp length-append at q)
