-- A commutative ring with the whole numbers in it: the laws of its operations (`Laws`), those of the whole numbers, and what follows from the laws.
-- `const` takes a whole number to the ring; among the whole numbers it is the number itself, so that a literal costs nothing. Assumes nothing.
use Rattle.std.specs.Prelude.{◌≡◌, refl, ℤ, pos, neg_ℤ, ◌+ℤ◌, ◌*ℤ◌}
use Rattle.std.proofs.Common.{sym, ◌∙◌, ap, ap₂}
use Rattle.std.proofs.Math.IntN.{+ℤ_idl, +ℤ_assoc, +ℤ_comm, +ℤ_invr, *ℤ_comm}
use Rattle.exact.proofs.Whole.Laws.{+ℤ_*ℤ, *ℤ_assoc, one_*ℤ}
use Rattle.exact.specs.Meaning.Number.{Ops, ints}

pub record Laws (O : Ops) : Type 0 where
  pub add_assoc : (a b c : O.Car) → O.add (O.add a b) c ≡ O.add a (O.add b c)
  pub add_comm : (a b : O.Car) → O.add a b ≡ O.add b a
  pub zero_add : (a : O.Car) → O.add (O.const (pos 0)) a ≡ a
  pub add_neg : (a : O.Car) → O.add a (O.neg a) ≡ O.const (pos 0)
  pub mul_assoc : (a b c : O.Car) → O.mul (O.mul a b) c ≡ O.mul a (O.mul b c)
  pub mul_comm : (a b : O.Car) → O.mul a b ≡ O.mul b a
  pub one_mul : (a : O.Car) → O.mul (O.const (pos 1)) a ≡ a
  pub add_mul : (a b c : O.Car) → O.mul (O.add a b) c ≡ O.add (O.mul a c) (O.mul b c)
  pub const_add : (a b : ℤ) → O.const (a +ℤ b) ≡ O.add (O.const a) (O.const b)
  pub const_mul : (a b : ℤ) → O.const (a *ℤ b) ≡ O.mul (O.const a) (O.const b)

-- ---- the integers
pub ints_laws : Laws ints
ints_laws = record {
  add_assoc = +ℤ_assoc;
  add_comm = +ℤ_comm;
  zero_add = +ℤ_idl;
  add_neg = +ℤ_invr;
  mul_assoc = *ℤ_assoc;
  mul_comm = *ℤ_comm;
  one_mul = one_*ℤ;
  add_mul = +ℤ_*ℤ;
  const_add = λ a b. refl;
  const_mul = λ a b. refl;
}

-- ---- what follows from the laws
module _ (O : Ops) (L : Laws O) where
  open O use {Car, add as ◌+◌, mul as ◌*◌, neg, const}

  infixl 6 ◌+◌
  infixl 7 ◌*◌
  pub add_zero : (a : Car) → a + const (pos 0) ≡ a
  add_zero a = L.add_comm a (const (pos 0)) ∙ L.zero_add a

  pub mul_add : (a b c : Car) → a * (b + c) ≡ a * b + a * c
  mul_add a b c = L.mul_comm a (b + c) ∙ L.add_mul b c a ∙ ap₂ (λ x y. x + y) (L.mul_comm b a) (L.mul_comm c a)

  pub add_left_comm : (a b c : Car) → a + (b + c) ≡ b + (a + c)
  add_left_comm a b c = sym (L.add_assoc a b c) ∙ ap (λ x. x + c) (L.add_comm a b) ∙ L.add_assoc b a c

  pub mul_right_comm : (a b c : Car) → a * b * c ≡ a * c * b
  mul_right_comm a b c = L.mul_assoc a b c ∙ ap (λ x. a * x) (L.mul_comm b c) ∙ sym (L.mul_assoc a c b)

  pub add_left_cancel : (a b c : Car) → a + b ≡ a + c → b ≡ c
  add_left_cancel a b c h = sym (drop b) ∙ ap (λ x. neg a + x) h ∙ drop c
    where
      drop : (x : Car) → neg a + (a + x) ≡ x
      drop x = sym (L.add_assoc (neg a) a x) ∙ ap (λ y. y + x) (L.add_comm (neg a) a ∙ L.add_neg a) ∙ L.zero_add x

  pub zero_mul : (a : Car) → const (pos 0) * a ≡ const (pos 0)
  zero_mul a = add_left_cancel (const (pos 0) * a) (const (pos 0) * a) (const (pos 0))
      (sym (L.add_mul (const (pos 0)) (const (pos 0)) a) ∙ ap (λ x. x * a) (L.zero_add (const (pos 0))) ∙ sym (add_zero (const (pos 0) * a)))

  -- what adds to nothing is the negation
  pub neg_unique : (a b : Car) → a + b ≡ const (pos 0) → b ≡ neg a
  neg_unique a b h = add_left_cancel a b (neg a) (h ∙ sym (L.add_neg a))

  pub const_neg : (a : ℤ) → const (neg_ℤ a) ≡ neg (const a)
  const_neg a = neg_unique (const a) (const (neg_ℤ a)) (sym (L.const_add a (neg_ℤ a)) ∙ ap const (+ℤ_invr a))

  -- two values whose difference is nothing are equal
  pub eq_of_sub : (a b : Car) → a + neg b ≡ const (pos 0) → a ≡ b
  eq_of_sub a b h = add_left_cancel (neg b) a b (L.add_comm (neg b) a ∙ h ∙ sym (L.add_comm (neg b) b ∙ L.add_neg b))
