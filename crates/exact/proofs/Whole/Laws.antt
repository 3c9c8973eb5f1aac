-- The ring laws of the whole numbers that the library lacks: the product distributes over the sum and is associative, and a sign moves out of it.
-- Each is by induction on the first factor, by successor and predecessor (`ℤ_steps`). Assumes nothing.
use Rattle.std.specs.Prelude.{◌≡◌, zero, suc, ℤ, pos, negsuc, neg_ℤ, ◌+ℤ◌, ◌-ℤ◌, ◌*ℤ◌}
use Rattle.std.proofs.Common.{sym, ◌∙◌, ap, ap₂}
use Rattle.std.proofs.Math.IntN.{one, suc_ℤ, pred_ℤ, +ℤ_idl, +ℤ_idr, +ℤ_assoc, +ℤ_comm, +ℤ_invl, +ℤ_invr, suc_ℤ-+ℤ, pred_ℤ-+ℤ, zero-*ℤ, *ℤ-one, suc_ℤ-*ℤ, pred_ℤ-*ℤ, *ℤ_comm}

-- what holds at 0 and is kept by successor and predecessor holds at every integer
pub ℤ_steps {ℓ} : (P : ℤ → Type ℓ) → P (pos zero) → ((k : ℤ) → P k → P (suc_ℤ k)) → ((k : ℤ) → P k → P (pred_ℤ k)) → (k : ℤ) → P k
ℤ_steps P z s p (pos zero) = z
ℤ_steps P z s p (pos (suc n)) = s (pos n) (ℤ_steps P z s p (pos n))
ℤ_steps P z s p (negsuc zero) = p (pos zero) z
ℤ_steps P z s p (negsuc (suc n)) = p (negsuc n) (ℤ_steps P z s p (negsuc n))

-- the last two summands change places
pub +ℤ_swap : (a b c : ℤ) → a +ℤ b +ℤ c ≡ a +ℤ c +ℤ b
+ℤ_swap a b c = +ℤ_assoc a b c ∙ ap (λ x. a +ℤ x) (+ℤ_comm b c) ∙ sym (+ℤ_assoc a c b)

pub +ℤ_*ℤ : (a b c : ℤ) → (a +ℤ b) *ℤ c ≡ a *ℤ c +ℤ b *ℤ c
+ℤ_*ℤ a b c = ℤ_steps (λ k. (k +ℤ b) *ℤ c ≡ k *ℤ c +ℤ b *ℤ c)
    (ap (λ x. x *ℤ c) (+ℤ_idl b) ∙ sym (ap (λ x. x +ℤ b *ℤ c) (zero-*ℤ c) ∙ +ℤ_idl (b *ℤ c)))
    (λ k h. ap (λ x. x *ℤ c) (suc_ℤ-+ℤ k b)
    ∙ suc_ℤ-*ℤ (k +ℤ b) c
    ∙ ap (λ x. x +ℤ c) h
    ∙ +ℤ_swap (k *ℤ c) (b *ℤ c) c
    ∙ ap (λ x. x +ℤ b *ℤ c) (sym (suc_ℤ-*ℤ k c)))
    (λ k h. ap (λ x. x *ℤ c) (pred_ℤ-+ℤ k b)
    ∙ pred_ℤ-*ℤ (k +ℤ b) c
    ∙ ap (λ x. x -ℤ c) h
    ∙ +ℤ_swap (k *ℤ c) (b *ℤ c) (neg_ℤ c)
    ∙ ap (λ x. x +ℤ b *ℤ c) (sym (pred_ℤ-*ℤ k c)))
    a

pub *ℤ_+ℤ : (a b c : ℤ) → a *ℤ (b +ℤ c) ≡ a *ℤ b +ℤ a *ℤ c
*ℤ_+ℤ a b c = *ℤ_comm a (b +ℤ c) ∙ +ℤ_*ℤ b c a ∙ ap₂ (λ x y. x +ℤ y) (*ℤ_comm b a) (*ℤ_comm c a)

-- the only inverse of b is -b
pub neg_unique : (a b : ℤ) → a +ℤ b ≡ pos zero → a ≡ neg_ℤ b
neg_unique a b h =
    sym (+ℤ_idr a) ∙ ap (λ x. a +ℤ x) (sym (+ℤ_invr b)) ∙ sym (+ℤ_assoc a b (neg_ℤ b)) ∙ ap (λ x. x +ℤ neg_ℤ b) h ∙ +ℤ_idl (neg_ℤ b)

pub negℤ_*ℤ : (a b : ℤ) → neg_ℤ a *ℤ b ≡ neg_ℤ (a *ℤ b)
negℤ_*ℤ a b = neg_unique (neg_ℤ a *ℤ b) (a *ℤ b) (sym (+ℤ_*ℤ (neg_ℤ a) a b) ∙ ap (λ x. x *ℤ b) (+ℤ_invl a) ∙ zero-*ℤ b)

pub *ℤ_negℤ : (a b : ℤ) → a *ℤ neg_ℤ b ≡ neg_ℤ (a *ℤ b)
*ℤ_negℤ a b = *ℤ_comm a (neg_ℤ b) ∙ negℤ_*ℤ b a ∙ ap neg_ℤ (*ℤ_comm b a)

pub *ℤ_assoc : (a b c : ℤ) → (a *ℤ b) *ℤ c ≡ a *ℤ (b *ℤ c)
*ℤ_assoc a b c = ℤ_steps (λ k. (k *ℤ b) *ℤ c ≡ k *ℤ (b *ℤ c))
    (ap (λ x. x *ℤ c) (zero-*ℤ b) ∙ zero-*ℤ c ∙ sym (zero-*ℤ (b *ℤ c)))
    (λ k h. ap (λ x. x *ℤ c) (suc_ℤ-*ℤ k b) ∙ +ℤ_*ℤ (k *ℤ b) b c ∙ ap (λ x. x +ℤ b *ℤ c) h ∙ sym (suc_ℤ-*ℤ k (b *ℤ c)))
    (λ k h. ap (λ x. x *ℤ c) (pred_ℤ-*ℤ k b) ∙ +ℤ_*ℤ (k *ℤ b) (neg_ℤ b) c ∙ ap₂ (λ x y. x +ℤ y) h (negℤ_*ℤ b c) ∙ sym (pred_ℤ-*ℤ k (b *ℤ c)))
    a

pub one_*ℤ : (a : ℤ) → pos 1 *ℤ a ≡ a
unfolding one
one_*ℤ a = *ℤ_comm (pos 1) a ∙ *ℤ-one a
