-- Numbers in a row, and one more: what was written grows by a blank and its text.
use Rattle.std.specs.Prelude.{ℕ, List, [], ◌∷◌, ◌++◌, Option, Some, None, IfSome, ◌≡◌, refl}
use Rattle.std.proofs.Common.{sym, ◌∙◌, ap, subst, append_assoc, append-nil}
use Rattle.std.specs.Fmt.{◌++?◌}
use Rattle.std.specs.Io.KnownBytes.{Appends}
use Rattle.shown.specs.Row.{row}

assoc : (o p q : Option (List ℕ)) → (o ++? p) ++? q ≡ o ++? (p ++? q)
assoc None p q = refl
assoc (Some a) None q = refl
assoc (Some a) (Some b) None = refl
assoc (Some a) (Some b) (Some c) = ap Some (append_assoc a b c)

right_none : (o : Option (List ℕ)) → o ++? Some [] ≡ o
right_none None = refl
right_none (Some a) = ap Some (append-nil a)

left_none : (o : Option (List ℕ)) → Some [] ++? o ≡ o
left_none None = refl
left_none (Some a) = refl

module _ {A : Type 0} (text : A → Option (List ℕ)) where
  row_more : (xs : List A) (x : A) → row text (xs ++ x ∷ []) ≡ row text xs ++? (Some (32 ∷ []) ++? text x)
  row_more [] x = ap (λ o. Some (32 ∷ []) ++? o) (right_none (text x)) ∙ sym (left_none (Some (32 ∷ []) ++? text x))
  row_more (y ∷ ys) x =
      ap (λ o. Some (32 ∷ []) ++? (text y ++? o)) (row_more ys x)
      ∙ ap (λ o. Some (32 ∷ []) ++? o) (sym (assoc (text y) (row text ys) (Some (32 ∷ []) ++? text x)))
      ∙ sym (assoc (Some (32 ∷ [])) (text y ++? row text ys) (Some (32 ∷ []) ++? text x))

-- what is said of the whole follows from what is said of its parts
joined : (o p : Option (List ℕ)) (a b c : Option (List ℕ)) → IfSome o (Appends a b) → IfSome p (Appends b c) → IfSome (o ++? p) (Appends a c)
joined None p a b c g h = tt
joined (Some s) None a b c g h = tt
joined (Some s) (Some t) None b c g h = tt
joined (Some s) (Some t) (Some x) None c g h = absurd g
joined (Some s) (Some t) (Some x) (Some y) None g h = absurd h
joined (Some s) (Some t) (Some x) (Some y) (Some z) g h = h ∙ ap (λ l. l ++ t) g ∙ append_assoc x s t

pub grown : {A : Type 0} (text : A → Option (List ℕ)) (xs : List A) (x : A) (a b c d : Option (List ℕ)) → IfSome (row text xs) (Appends a b)
    → Appends b c (32 ∷ []) → IfSome (text x) (Appends c d) → IfSome (row text (xs ++ x ∷ [])) (Appends a d)
grown text xs x a b c d g s h =
    subst (λ (o : Option (List ℕ)). IfSome o (Appends a d)) (sym (row_more text xs x))
    (joined (row text xs) (Some (32 ∷ []) ++? text x) a b d g (joined (Some (32 ∷ [])) (text x) b c d s h))
