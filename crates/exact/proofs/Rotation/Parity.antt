-- Parities of vectors modulo root two, p + q·root two having that of p: how a letter turns them, and what the count of T letters has to do with them.
-- Assumes nothing.
use Rattle.std.specs.Prelude.{◌≡◌, refl, Bool, false, List, [], ◌∷◌, ◌++◌, ℕ, suc, ◌+◌, ◌-◌, ◌≤◌, ◌<◌, ℤ}
use Rattle.std.proofs.Common.{sym, ◌∙◌, ap, arith}
use Rattle.exact.specs.Meaning.Number.{ints, odd}
use Rattle.exact.specs.Meaning.Matrix.{Same}
use Rattle.exact.specs.Meaning.Word.{Letter, I, H, S, X, W, T', word, tees}
use Rattle.exact.specs.Meaning.Rotation.{Vect, times_v, lift}
use Rattle.exact.proofs.Whole.Parity.{xr, odd_sub, odd_add, odd_neg, odd_double}
use Rattle.exact.proofs.Matrices.Same.{Same-sym}
use Rattle.exact.proofs.Rotation.Vectors.{turn_l, turn, lift_add, lift_cancel}
use Rattle.exact.proofs.Rotation.Turns.{same_turn}

pub record Par : Type 0 where
  pub x : Bool
  pub y : Bool
  pub z : Bool

abbrev pub par : Vect ℤ → Par
par v = record { x = odd v.x.p; y = odd v.y.p; z = odd v.z.p }

abbrev pub none : Par
none = record { x = false; y = false; z = false }

par_path : {a b : Par} → a.x ≡ b.x → a.y ≡ b.y → a.z ≡ b.z → a ≡ b
par_path h k m = λ i. record { x = h i; y = k i; z = m i }

-- the parity of x + y
abbrev pub s_of : Par → Bool
s_of a = xr a.x a.y

abbrev pub pturn_l : Letter → Par → Par
pturn_l I a = a
pturn_l H a = record { x = a.z; y = a.y; z = a.x }
pturn_l S a = record { x = a.y; y = a.x; z = a.z }
pturn_l X a = a
pturn_l W a = a
pturn_l T' a = record { x = s_of a; y = s_of a; z = false }

abbrev pub pturn : List Letter → Par → Par
pturn [] a = a
pturn (l ∷ u) a = pturn_l l (pturn u a)

par_turn_l : (l : Letter) (v : Vect ℤ) → par (turn_l ints l v) ≡ pturn_l l (par v)
par_turn_l I v = refl
par_turn_l H v = par_path refl (odd_neg v.y.p) refl
par_turn_l S v = par_path (odd_neg v.y.p) refl refl
par_turn_l X v = par_path refl (odd_neg v.y.p) (odd_neg v.z.p)
par_turn_l W v = refl
par_turn_l T' v =
    par_path
    (odd_sub v.x.p v.y.p)
    (odd_add v.x.p v.y.p)
    (odd_double v.z.q)

pub par_turn : (u : List Letter) (v : Vect ℤ) → par (turn u v) ≡ pturn u (par v)
par_turn [] v = refl
par_turn (l ∷ u) v = par_turn_l l (turn u v) ∙ ap (pturn_l l) (par_turn u v)

pub par_times : (v : Vect ℤ) → par (times_v ints v) ≡ none
par_times v = par_path (odd_double v.x.q) (odd_double v.y.q) (odd_double v.z.q)

-- ---- the count of T letters is the matrix's, where some vector's turned parities are not all even
pub record Seen (u : List Letter) : Type 0 where
  pub at : Vect ℤ
  pub odd_there : (pturn u (par at) ≡ none) → ⊥

no_less : (u v : List Letter) → Same (word u) (word v) → Seen v → tees u < tees v → ⊥
no_less u v h s l = s.odd_there (sym (par_turn v s.at) ∙ ap par (sym e) ∙ par_times (lift k (turn u s.at)))
  where
    k : ℕ
    k = tees v - suc (tees u)

    n : tees v ≡ tees u + suc k
    n = omega arith

    e : lift (suc k) (turn u s.at) ≡ turn v s.at
    e =
        lift_cancel (tees u) (lift (suc k) (turn u s.at)) (turn v s.at)
        (sym (lift_add (tees u) (suc k) (turn u s.at)) ∙ ap (λ j. lift j (turn u s.at)) (sym n) ∙ same_turn u v h s.at)

-- no word with the same matrix has fewer T letters
pub fewest : (u v : List Letter) → Same (word u) (word v) → Seen v → tees v ≤ tees u
fewest u v h s = omega (arith, no_less u v h s)

pub same_count : (u v : List Letter) → Same (word u) (word v) → Seen u → Seen v → tees u ≡ tees v
same_count u v h s t = omega (arith, no_less u v h t, no_less v u (Same-sym h) s)

pub same_turns : (u v : List Letter) → Same (word u) (word v) → Seen u → Seen v → (x : Vect ℤ) → turn u x ≡ turn v x
same_turns u v h s t x = lift_cancel (tees u) (turn u x) (turn v x) (ap (λ n. lift n (turn u x)) (same_count u v h s t) ∙ same_turn u v h x)

pub same_parities : (u v : List Letter) → Same (word u) (word v) → Seen u → Seen v → (x : Vect ℤ) → pturn u (par x) ≡ pturn v (par x)
same_parities u v h s t x = sym (par_turn u x) ∙ ap par (same_turns u v h s t x) ∙ par_turn v x

-- where a vector is seen, the turned vector is no multiple of root two: the count of T is the least exponent
pub least : (u : List Letter) (s : Seen u) (n : ℕ) (y : Vect ℤ) → turn u s.at ≡ lift (suc n) y → ⊥
least u s n y e = s.odd_there (sym (par_turn u s.at) ∙ ap par e ∙ par_times (lift n y))

pub turn_append : (u v : List Letter) (x : Vect ℤ) → turn (u ++ v) x ≡ turn u (turn v x)
turn_append [] v x = refl
turn_append (l ∷ u) v x = ap (turn_l ints l) (turn_append u v x)
