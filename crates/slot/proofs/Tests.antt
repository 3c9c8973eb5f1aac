-- The tests of a record, one by one: ranges, codes in front, nothing behind them. Assumes nothing.
use Rattle.std.specs.Prelude.{◌≡◌, refl, Bool, true, false, ◌&&◌, List, [], ◌∷◌, ◌++◌, ℕ, zero, suc, ◌+◌, ◌*◌, ◌/◌, ◌≤◌, ◌<◌, eqb, ltb, ◌-◌, length}
use Rattle.std.specs.Prelude.{take, drop, get_or}
use Rattle.std.proofs.Common.{sym, ◌∙◌, ap, subst, add-zero, add-one, arith, eqb-true, ltb-true, ltb-false, Fits as FitsIn, take-suc, length-take-le}
use Rattle.std.proofs.Common.{length-drop, get_or-take, get_or-drop}
use Rattle.std.proofs.lemmas.Bool.{false≢true, eqb-false}
use Rattle.std.specs.Int.{w16}
use Rattle.exact.specs.Meaning.Outcome.{Decides}
use Rattle.slot.specs.Tests.{Fronts, sum, Behind}

-- ---- deciding
pub refuted : {P : Type 0} → (P → ⊥) → Decides P false
refuted f = record { yes = λ e. absurd (false≢true e); no = λ e. f }

pub shown : {P : Type 0} → P → Decides P true
shown p = record { yes = λ e. p; no = λ e h. false≢true (sym e) }

-- both of two tests
pub both_decide : {P Q R : Type 0} {b c r : Bool} → Decides P b → Decides Q c → r ≡ b && c → (P → Q → R) → (R → P × Q) → Decides R r
both_decide {P} {Q} {R} {b} {c} {r} p q e to from = subst (Decides R) (sym e) (go b c p q)
  where
    go : (b c : Bool) → Decides P b → Decides Q c → Decides R (b && c)
    go true true p q = shown (to (p.yes refl) (q.yes refl))
    go true false p q = refuted (λ h. q.no refl (from h).1)
    go false c p q = refuted (λ h. p.no refl (from h).0)

pub less_decides : (m n : ℕ) → Decides (m < n) (ltb m n)
less_decides m n = record { yes = ltb-true m n; no = λ e h. omega (arith, ltb-false m n e) }

pub equal_decides : (m n : ℕ) → Decides (m ≡ n) (eqb m n)
equal_decides m n = record { yes = eqb-true m n; no = eqb-false m n }

-- one that decides P decides what follows from it and gives it
decides_along : {P Q : Type 0} {b : Bool} → (P → Q) → (Q → P) → Decides P b → Decides Q b
decides_along to from d = record { yes = λ e. to (d.yes e); no = λ e q. d.no e (from q) }

pub sum_append : (cs ds : List ℕ) → sum (cs ++ ds) ≡ sum cs + sum ds
sum_append [] ds = omega arith
sum_append (c ∷ cs) ds = omega (arith, sum_append cs ds)

pub sum_next : (items : List ℕ) (i : ℕ) → i < length items → sum (take (suc i) items) ≡ sum (take i items) + get_or items i 0
sum_next items i l =
    ap sum (take-suc items i 0 l)
    ∙ sum_append (take i items) (get_or items i 0 ∷ [])
    ∙ ap (λ (n : ℕ). sum (take i items) + n) (add-zero (get_or items i 0))

pub fronts_none : {items : List ℕ} {n : ℕ} → n ≡ 0 → Decides (Fronts items n) true
fronts_none e = rw e (shown (record { first = λ l. absurd (omega arith); inner = λ i k l. absurd (omega arith) }))

-- what the loop knows of the codes before i
pub record Fronting (items : List ℕ) (count : ℕ) (right : Bool) (i : ℕ) : Type 0 where
  pub low : 0 < i
  pub high : i ≤ count
  pub told : Decides (Fronts items i) right

pub fronts_first : {items : List ℕ} {count : ℕ} {right : Bool} → (count ≡ 0 → ⊥) → right ≡ ltb 0 (get_or items 0 0) && ltb (get_or items 0 0) 4
    → Fronting items count right 1
fronts_first {items} f e =
    record {
      low = omega arith;
      high = omega (arith, f);
      told =
          both_decide (less_decides 0 (get_or items 0 0)) (less_decides (get_or items 0 0) 4) e
          (λ p q. record { first = λ k. (p, q); inner = λ i j k. absurd (omega arith) }) (λ h. h.first (omega arith));
    }

module _ {items : List ℕ} {count : ℕ} {right : Bool} {i : ℕ} (h : Fronting items count right i) where
  pub fronts_more : {r : Bool} → i < count → r ≡ right && eqb (get_or items i 0 / 2) 1 → Fronting items count r (i + 1)
  fronts_more k e =
      record {
        low = omega arith;
        high = omega arith;
        told = both_decide h.told (equal_decides (get_or items i 0 / 2) 1) e joined parted;
      }
    where
      joined : Fronts items i → get_or items i 0 / 2 ≡ 1 → Fronts items (i + 1)
      joined p q = record { first = λ z. p.first h.low; inner = λ j y z. at j y z (eqb j i) refl }
        where
          at : (j : ℕ) → 0 < j → j < i + 1 → (b : Bool) → eqb j i ≡ b → get_or items j 0 / 2 ≡ 1
          at j y z true f = rw (eqb-true j i f) q
          at j y z false f = p.inner j y (omega (arith, eqb-false j i f))

      parted : Fronts items (i + 1) → Fronts items i × (get_or items i 0 / 2 ≡ 1)
      parted p =
          (record { first = λ z. p.first (omega arith); inner = λ j y z. p.inner j y (omega arith) }, p.inner i h.low (omega arith))

  pub fronts_end : count ≤ i → Decides (Fronts items count) right
  fronts_end l =
      let e : i ≡ count = omega (arith, h.high) in
      subst (λ (n : ℕ). Decides (Fronts items n) right) e h.told

-- ---- the letters of right codes
pub code_most : {items : List ℕ} {n : ℕ} → Fronts items n → (i : ℕ) → i < n → get_or items i 0 ≤ 3
code_most h zero l = omega (arith, (h.first l).1)
code_most h (suc i) l = omega (arith, h.inner (suc i) (omega arith) l)

pub record Summing (items : List ℕ) (letters i : ℕ) : Type 0 where
  pub sum_is : letters ≡ sum (take i items)
  pub few : letters ≤ 3 * i

pub sum_none : {items : List ℕ} → Summing items 0 0
sum_none = record { sum_is = refl; few = omega arith }

module _ {items : List ℕ} {count letters i : ℕ} (f : Fronts items count) (h : Summing items letters i) (l : i < count) where
  module _ (c : count ≤ length items) where
    pub sum_fits : length items ≤ 4096 → FitsIn w16 (letters + get_or items i 0)
    sum_fits m = omega (arith, code_most f i l, h.few)

    pub sum_more : Summing items (letters + get_or items i 0) (i + 1)
    sum_more =
        record {
          sum_is =
              omega (arith, h.sum_is, ap (λ (n : ℕ). sum (take n items)) (add-one i), sum_next items i (omega arith));
          few = omega (arith, code_most f i l, h.few);
        }

pub sum_end : {items : List ℕ} {count letters i : ℕ} → Summing items letters i → i ≤ count → count ≤ i → letters ≡ sum (take count items)
sum_end {items} {count} {letters} {i} h l m = let e : i ≡ count = omega arith in h.sum_is ∙ ap (λ (n : ℕ). sum (take n items)) e

-- what the loop knows of the places before i
pub record Emptying (items : List ℕ) (from : ℕ) (empty : Bool) (i : ℕ) : Type 0 where
  pub low : from ≤ i
  pub high : i ≤ length items
  pub told : Decides (Behind items from i) empty

pub behind_start : {items : List ℕ} {n : ℕ} → n ≤ length items → Emptying items n true n
behind_start l = record { low = omega arith; high = l; told = shown (record { empty = λ i k l. absurd (omega arith) }) }

module _ {items : List ℕ} {n i : ℕ} {b : Bool} (h : Emptying items n b i) where
  pub behind_more : {r : Bool} → i < length items → r ≡ b && eqb (get_or items i 0) 0 → Emptying items n r (i + 1)
  behind_more l e =
      record {
        low = omega (arith, h.low);
        high = omega arith;
        told =
            both_decide h.told (equal_decides (get_or items i 0) 0) e joined
            (λ p. (record { empty = λ j y z. p.empty j y (omega arith) }, p.empty i h.low (omega arith)));
      }
    where
      joined : Behind items n i → get_or items i 0 ≡ 0 → Behind items n (i + 1)
      joined p q = record { empty = λ j y z. at j y z (eqb j i) refl }
        where
          at : (j : ℕ) → n ≤ j → j < i + 1 → (b : Bool) → eqb j i ≡ b → get_or items j 0 ≡ 0
          at j y z true f = rw (eqb-true j i f) q
          at j y z false f = p.empty j y (omega (arith, eqb-false j i f))

  pub behind_end : length items ≤ i → Decides (Behind items n (length items)) b
  behind_end l =
      let e : i ≡ length items = omega (arith, h.high) in
      subst (λ (m : ℕ). Decides (Behind items n m) b) e h.told

-- ---- codes and places that are cut apart
module _ (items : List ℕ) (n : ℕ) (l : n ≤ length items) {codes places : List ℕ} (p : codes ≡ take n items) (q : places ≡ drop n items) where
  few : length codes ≡ n
  few = ap length p ∙ length-take-le n items l

  same_front : (i : ℕ) → i < n → get_or codes i 0 ≡ get_or items i 0
  same_front i k = ap (λ (xs : List ℕ). get_or xs i 0) p ∙ get_or-take n items i 0 k

  pub front_in : {b : Bool} → Decides (Fronts codes (length codes)) b → Decides (Fronts items n) b
  front_in d = decides_along to from d
    where
      to : Fronts codes (length codes) → Fronts items n
      to h =
          record {
            first = λ k. rw (sym (same_front 0 k)) (h.first (omega (arith, few)));
            inner = λ i j k. ap (λ (c : ℕ). c / 2) (sym (same_front i k)) ∙ h.inner i j (omega (arith, few));
          }

      from : Fronts items n → Fronts codes (length codes)
      from h =
          record {
            first = λ k. let z : 0 < n = omega (arith, few) in rw (same_front 0 z) (h.first z);
            inner = λ i j k. let z : i < n = omega (arith, few) in ap (λ (c : ℕ). c / 2) (same_front i z) ∙ h.inner i j z;
          }

  pub behind_in : {b : Bool} → Decides (Behind places 0 (length places)) b → Decides (Behind items n (length items)) b
  behind_in d = decides_along to from d
    where
      at : (i : ℕ) → get_or places i 0 ≡ get_or items (n + i) 0
      at i = ap (λ (xs : List ℕ). get_or xs i 0) q ∙ get_or-drop n items i 0

      long : length places + n ≡ length items
      long = omega (arith, ap length q, length-drop n items)

      to : Behind places 0 (length places) → Behind items n (length items)
      to h =
          record {
            empty = λ i j k.
                let same : n + (i - n) ≡ i = omega arith in
                ap (λ (m : ℕ). get_or items m 0) (sym same) ∙ sym (at (i - n)) ∙ h.empty (i - n) (omega arith) (omega (arith, long));
          }

      from : Behind items n (length items) → Behind places 0 (length places)
      from h = record { empty = λ i j k. at i ∙ h.empty (n + i) (omega arith) (omega (arith, long)) }
