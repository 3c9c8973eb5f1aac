-- What is left in lent bytes: a text in place of as many of them from a place on; and that two texts put in a row are one of both.
-- Assumes nothing.
use Rattle.std.specs.Prelude.{◌≡◌, refl, List, [], ◌∷◌, ◌++◌, ℕ, suc, ◌+◌, ◌≤◌, ◌<◌, length, set, take, drop, get_or}
use Rattle.std.proofs.Common.{sym, ◌∙◌, ap, ap₂, subst, subst₂, add-one, arith, length-append, take-suc, take_all}
use Rattle.std.proofs.lemmas.List.Edits.{sets, sets-eq}
use Rattle.std.proofs.Math.Seq.{length-sets}
use Rattle.exact.specs.Meaning.Lent.{over}

pub record Written (old : List ℕ) (at : ℕ) (t new : List ℕ) (next : ℕ) : Type 0 where
  pub is : new ≡ sets old at t
  pub behind : next ≡ at + length t

sets_append : (l : List ℕ) (at : ℕ) (t u : List ℕ) → sets l at (t ++ u) ≡ sets (sets l at t) (at + length t) u
sets_append l at [] u = ap (λ i. sets l i u) (omega arith)
sets_append l at (b ∷ t) u =
    sets_append (set l at b) (suc at) t u ∙ ap (λ i. sets (sets (set l at b) (suc at) t) i u) (omega arith)

module _ {old mid new : List ℕ} {at i j : ℕ} {t u : List ℕ} where
  pub written_both : Written old at t mid i → Written mid i u new j → Written old at (t ++ u) new j
  written_both p q = record {
    is = q.is ∙ ap₂ (λ l k. sets l k u) p.is p.behind ∙ sym (sets_append old at t u);
    behind = omega (arith, p.behind, q.behind, length-append t u);
  }

-- one byte
pub written_byte : (old : List ℕ) (at b : ℕ) → Written old at (b ∷ []) (set old at b) (at + 1)
written_byte old at b = record { is = refl; behind = refl }

pub written_length : {old : List ℕ} {at : ℕ} {t new : List ℕ} {next : ℕ} → Written old at t new next → length new ≡ length old
written_length {old} {at} {t} p = ap length p.is ∙ length-sets old at t

-- a text written at the start, which has room
pub written_over : (s : List ℕ) {old new : List ℕ} {size : ℕ} → Written old 0 s new size → length s ≤ length old
    → (size ≡ length s) × (new ≡ over s old)
written_over s {old} p h =
    let none : 0 + length s ≡ length s = omega arith in
    (p.behind ∙ none, p.is ∙ sets-eq s old 0 (omega arith) ∙ ap (λ n. s ++ drop n old) none)

-- ---- bytes copied: the first i are in place
pub record Putting (old : List ℕ) (at : ℕ) (src now : List ℕ) (i : ℕ) : Type 0 where
  pub within : i ≤ length src
  pub done : Written old at (take i src) now (at + i)

pub putting_none : (old : List ℕ) (at : ℕ) (src : List ℕ) → Putting old at src old 0
putting_none old at src = record { within = omega arith; done = record { is = refl; behind = refl } }

pub putting_more : (old : List ℕ) (at : ℕ) (src now : List ℕ) (i : ℕ) → Putting old at src now i → i < length src
    → Putting old at src (set now (at + i) (get_or src i 0)) (i + 1)
putting_more old at src now i p h = record {
  within = omega arith;
  done = subst₂ (λ t j. Written old at t (set now (at + i) (get_or src i 0)) j) one_more (omega arith)
      (written_both p.done (written_byte now (at + i) (get_or src i 0)));
}
  where
    one_more : take i src ++ (get_or src i 0 ∷ []) ≡ take (i + 1) src
    one_more = sym (ap (λ j. take j src) (add-one i) ∙ take-suc src i 0 h)

pub putting_all : (old : List ℕ) (at : ℕ) (src now : List ℕ) (i : ℕ) → Putting old at src now i → length src ≤ i
    → Written old at src now (at + i)
putting_all old at src now i p h = subst (λ t. Written old at t now (at + i)) (take_all i src h) p.done
