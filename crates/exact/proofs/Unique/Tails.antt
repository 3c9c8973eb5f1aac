-- Tails: the 192 tails have 192 different matrices, and so have the 192 quadruples (a,b,c,d). Both are a front that sends the third axis to
-- one of the three, and then letters X, S and W; where that axis goes gives the front and the X, and what is left is diagonal. Assumes
-- nothing.
use Rattle.std.specs.Prelude.{◌≡◌, refl, Bool, true, false, cond, ◌||◌, List, [], ◌∷◌, ◌++◌, ℕ, zero, suc, ◌+◌, ◌/◌, ◌%◌, ◌<◌, ◌≤◌, ℤ, pos, negsuc}
use Rattle.std.proofs.Common.{sym, ◌∙◌, ap, ap₂, subst, arith, zero-add, add_assoc}
use Rattle.exact.specs.Meaning.Number.{Ω, ints, omegas, mul_q, const_q, omega', omega^, odd}
use Rattle.exact.specs.Meaning.Matrix.{mul_m, Matrix, ◌·◌, Same}
use Rattle.exact.specs.Meaning.Word.{Letter, S, X, W, letter, word, tee, tees}
use Rattle.exact.specs.Meaning.Normal.{Front, nothing, onlyH, onlySH, Tail, times, front_word, tail_word, or_i, Fits}
use Rattle.exact.specs.Meaning.Clifford.{Clifford, Within, cycle, clifford}
use Rattle.exact.specs.Meaning.Rotation.{Vect, lift}
use Rattle.exact.proofs.Algebra.Solver.{var, con, ◌⊗◌, exprs}
use Rattle.exact.proofs.Algebra.Omega.{omegas_laws}
use Rattle.exact.proofs.Algebra.OmegaPower.{omega^_same}
use Rattle.exact.proofs.Matrices.Laws.{solve_m}
use Rattle.exact.proofs.Matrices.Same.{matrix_path, Same-level}
use Rattle.exact.proofs.Matrices.Words.{strike_word}
use Rattle.exact.proofs.Rotation.Vectors.{turn_l, turn}
use Rattle.exact.proofs.Rotation.Turns.{same_turn}
use Rattle.exact.proofs.Rotation.Parity.{turn_append}

-- ---- the axes
abbrev whole : ℤ → ℤ → ℤ → Vect ℤ
whole a b c = record { x = record { p = a; q = pos 0 }; y = record { p = b; q = pos 0 }; z = record { p = c; q = pos 0 } }

abbrev pub e₁ : Vect ℤ
e₁ = whole (pos 1) (pos 0) (pos 0)

abbrev pub e₃ : Vect ℤ
e₃ = whole (pos 0) (pos 0) (pos 1)

-- where a front sends the third axis, after so many X
abbrev image : Front → ℕ → Vect ℤ
image nothing zero = e₃
image onlyH zero = e₁
image onlySH zero = whole (pos 0) (pos 1) (pos 0)
image nothing (suc n) = whole (pos 0) (pos 0) (negsuc 0)
image onlyH (suc n) = whole (negsuc 0) (pos 0) (pos 0)
image onlySH (suc n) = whole (pos 0) (negsuc 0) (pos 0)

abbrev read_front : Vect ℤ → Front
read_front v = cond (odd v.x.p) onlyH (cond (odd v.y.p) onlySH nothing)

abbrev below : ℤ → Bool
below (pos n) = false
below (negsuc n) = true

abbrev read_x : Vect ℤ → ℕ
read_x v = cond (below v.x.p || (below v.y.p || below v.z.p)) 1 0

front_read : (f : Front) (n : ℕ) → read_front (image f n) ≡ f
front_read nothing zero = refl
front_read onlyH zero = refl
front_read onlySH zero = refl
front_read nothing (suc n) = refl
front_read onlyH (suc n) = refl
front_read onlySH (suc n) = refl

x_read : (f : Front) (n : ℕ) → n ≤ 1 → read_x (image f n) ≡ n
x_read nothing zero h = refl
x_read onlyH zero h = refl
x_read onlySH zero h = refl
x_read nothing (suc n) h = omega arith
x_read onlyH (suc n) h = omega arith
x_read onlySH (suc n) h = omega arith

-- ---- S and W are diagonal
abbrev diagonal : Ω → Ω → Matrix
diagonal a d = record { m = record { p = a; q = const_q ints (pos 0); r = const_q ints (pos 0); s = d }; e = 0 }

diagonal_mul : (a d x y : Ω) → diagonal a d · diagonal x y ≡ diagonal (mul_q ints a x) (mul_q ints d y)
diagonal_mul a d x y =
    matrix_path
    (solve_m omegas omegas_laws (a ∷ d ∷ x ∷ y ∷ [])
    (mul_m exprs (record { p = var 0; q = con (pos 0); r = con (pos 0); s = var 1 })
    (record { p = var 2; q = con (pos 0); r = con (pos 0); s = var 3 }))
    (record { p = var 0 ⊗ var 2; q = con (pos 0); r = con (pos 0); s = var 1 ⊗ var 3 }) (tt, tt, tt, tt))
    refl

-- m letters S and n letters W
abbrev pub ending : ℕ → ℕ → List Letter
ending m n = times m S ++ times n W

-- the power of omega in the lower entry: twice m, and n
abbrev lower_power : ℕ → ℕ → ℕ
lower_power zero n = n
lower_power (suc m) n = suc (suc (lower_power m n))

lower_power_is : (m n : ℕ) → lower_power m n ≡ m + m + n
lower_power_is zero n = omega arith
lower_power_is (suc m) n = omega (arith, lower_power_is m n)

ending_is : (m n : ℕ) → word (ending m n) ≡ diagonal (omega^ n) (omega^ (lower_power m n))
ending_is zero zero = refl
ending_is zero (suc n) = ap (λ x. letter W · x) (ending_is zero n) ∙ diagonal_mul (omega' ints) (omega' ints) (omega^ n) (omega^ n)
ending_is (suc m) n =
    ap (λ x. letter S · x) (ending_is m n)
    ∙ diagonal_mul (const_q ints (pos 1)) (mul_q ints (omega' ints) (omega' ints)) (omega^ n) (omega^ (lower_power m n))
    ∙ ap₂ diagonal (omegas_laws.one_mul (omega^ n)) (omegas_laws.mul_assoc (omega' ints) (omega' ints) (omega^ (lower_power m n)))

record Ends (m n k l : ℕ) : Type 0 where
  ss_same : m ≡ k
  ws_same : n ≡ l

ending_unique : (m n k l : ℕ) → m ≤ 3 → n ≤ 7 → k ≤ 3 → l ≤ 7 → Same (word (ending m n)) (word (ending k l)) → Ends m n k l
ending_unique m n k l hm hn hk hl h =
    let i : n ≡ l = low n l hn hl (omega^_same n l (ap (λ x. x.p) e)) in
    record {
      ss_same =
          high m k n hm hk hn
          (ap (λ j. j % 8) (sym (lower_power_is m n))
          ∙ omega^_same (lower_power m n) (lower_power k l) (ap (λ x. x.s) e)
          ∙ ap (λ j. lower_power k j % 8) (sym i)
          ∙ ap (λ j. j % 8) (lower_power_is k n));
      ws_same = i;
    }
  where
    e : (diagonal (omega^ n) (omega^ (lower_power m n))).m ≡ (diagonal (omega^ l) (omega^ (lower_power k l))).m
    e = Same-level (rw (ending_is m n, ending_is k l) at h) refl

    low : (n l : ℕ) → n ≤ 7 → l ≤ 7 → n % 8 ≡ l % 8 → n ≡ l
    low n l hn hl e = omega arith

    high : (m k n : ℕ) → m ≤ 3 → k ≤ 3 → n ≤ 7 → (m + m + n) % 8 ≡ (k + k + n) % 8 → m ≡ k
    high m k n hm hk hn e =
        let f : (m + m + n) / 8 ≤ (k + k + n) / 8 = omega arith in
        let g : (k + k + n) / 8 ≤ (m + m + n) / 8 = omega arith in
        omega arith

turn_ending : (m n : ℕ) → turn (ending m n) e₃ ≡ e₃
turn_ending zero zero = refl
turn_ending zero (suc n) = turn_ending zero n
turn_ending (suc m) n = ap (turn_l ints S) (turn_ending m n)

pub ending_tees : (m n : ℕ) → tees (ending m n) ≡ 0
ending_tees zero zero = refl
ending_tees zero (suc n) = zero-add (tees (times n W)) ∙ ending_tees zero n
ending_tees (suc m) n = zero-add (tees (ending m n)) ∙ ending_tees m n

pub tees_append : (u v : List Letter) → tees (u ++ v) ≡ tees u + tees v
tees_append [] v = sym (zero-add (tees v))
tees_append (l ∷ u) v = ap (λ n. tee l + n) (tees_append u v) ∙ sym (add_assoc (tee l) (tees u) (tees v))

-- ---- three fronts, with no T letter, that send the third axis to three axes and its opposite to their opposites
pub record Fronts (front : Front → List Letter) : Type 0 where
  pub sends : (f : Front) → turn (front f) e₃ ≡ image f 0
  pub sends_back : (f : Front) → turn (front f) (image nothing 1) ≡ image f 1
  pub no_tee : (f : Front) → tees (front f) ≡ 0

module _ (front : Front → List Letter) (fronts : Fronts front) where
  abbrev pub spelled : Tail → List Letter
  spelled t = front t.front ++ (times t.xs X ++ ending t.ss t.ws)

  x_tees : (n : ℕ) → tees (times n X) ≡ 0
  x_tees zero = refl
  x_tees (suc n) = zero-add (tees (times n X)) ∙ x_tees n

  pub spelled_tees : (t : Tail) → tees (spelled t) ≡ 0
  spelled_tees t =
      omega (
        arith,
        tees_append (front t.front) (times t.xs X ++ ending t.ss t.ws),
        tees_append (times t.xs X) (ending t.ss t.ws),
        fronts.no_tee t.front,
        x_tees t.xs,
        ending_tees t.ss t.ws,
      )

  x_image : (f : Front) (n : ℕ) → n ≤ 1 → turn (front f) (turn (times n X) e₃) ≡ image f n
  x_image f zero h = fronts.sends f
  x_image f (suc zero) h = fronts.sends_back f
  x_image f (suc (suc n)) h = absurd (omega arith)

  spelled_image : (t : Tail) → Fits t → turn (spelled t) e₃ ≡ image t.front t.xs
  spelled_image t fits =
      turn_append (front t.front) (times t.xs X ++ ending t.ss t.ws) e₃
      ∙ ap (turn (front t.front))
      (turn_append (times t.xs X) (ending t.ss t.ws) e₃ ∙ ap (turn (times t.xs X)) (turn_ending t.ss t.ws))
      ∙ x_image t.front t.xs (omega (arith, fits.xs_few))

  pub spelled_unique : (t r : Tail) → Fits t → Fits r → Same (word (spelled t)) (word (spelled r)) → t ≡ r
  spelled_unique t r ft fr h =
      let d : Ends t.ss t.ws r.ss r.ws =
      ending_unique t.ss t.ws r.ss r.ws ft.ss_few ft.ws_few fr.ss_few fr.ws_few rest in
      λ i. record { front = front_same i; xs = xs_same i; ss = d.ss_same i; ws = d.ws_same i }
    where
      turns : turn (spelled t) e₃ ≡ turn (spelled r) e₃
      turns =
          ap (λ n. lift n (turn (spelled t) e₃)) (sym (spelled_tees r))
          ∙ same_turn (spelled t) (spelled r) h e₃
          ∙ ap (λ n. lift n (turn (spelled r) e₃)) (spelled_tees t)

      images : image t.front t.xs ≡ image r.front r.xs
      images = sym (spelled_image t ft) ∙ turns ∙ spelled_image r fr

      front_same : t.front ≡ r.front
      front_same = sym (front_read t.front t.xs) ∙ ap read_front images ∙ front_read r.front r.xs

      xs_same : t.xs ≡ r.xs
      xs_same = sym (x_read t.front t.xs ft.xs_few) ∙ ap read_x images ∙ x_read r.front r.xs fr.xs_few

      rest : Same (word (ending t.ss t.ws)) (word (ending r.ss r.ws))
      rest =
          strike_word (times t.xs X) (ending t.ss t.ws) (ending r.ss r.ws)
          (strike_word (front t.front) (times t.xs X ++ ending t.ss t.ws) (times t.xs X ++ ending r.ss r.ws)
          (subst (λ (n : ℕ). Same (word (spelled t)) (word (front t.front ++ (times n X ++ ending r.ss r.ws)))) (sym xs_same)
          (subst (λ (f : Front). Same (word (spelled t)) (word (front f ++ (times r.xs X ++ ending r.ss r.ws)))) (sym front_same) h)))

-- ---- tails
tail_fronts : Fronts front_word
tail_fronts = record { sends = sends; sends_back = back; no_tee = none }
  where
    sends : (f : Front) → turn (front_word f) e₃ ≡ image f 0
    sends nothing = refl
    sends onlyH = refl
    sends onlySH = refl

    back : (f : Front) → turn (front_word f) (image nothing 1) ≡ image f 1
    back nothing = refl
    back onlyH = refl
    back onlySH = refl

    none : (f : Front) → tees (front_word f) ≡ 0
    none nothing = refl
    none onlyH = refl
    none onlySH = refl

pub tail_tees : (t : Tail) → tees (tail_word t) ≡ 0
tail_tees = spelled_tees front_word tail_fronts

-- with the I of an empty one
pub or_i_tail_tees : (t : Tail) → tees (or_i (tail_word t)) ≡ 0
or_i_tail_tees t = or_i_tees (tail_word t) ∙ tail_tees t
  where
    or_i_tees : (u : List Letter) → tees (or_i u) ≡ tees u
    or_i_tees [] = refl
    or_i_tees (l ∷ u) = refl

pub tail_unique : (t r : Tail) → Fits t → Fits r → Same (word (tail_word t)) (word (tail_word r)) → t ≡ r
tail_unique = spelled_unique front_word tail_fronts

-- ---- quadruples
abbrev turns_of : Front → ℕ
turns_of nothing = 0
turns_of onlyH = 1
turns_of onlySH = 2

cycle_fronts : Fronts (λ f. cycle (turns_of f))
cycle_fronts = record { sends = sends; sends_back = back; no_tee = none }
  where
    sends : (f : Front) → turn (cycle (turns_of f)) e₃ ≡ image f 0
    sends nothing = refl
    sends onlyH = refl
    sends onlySH = refl

    back : (f : Front) → turn (cycle (turns_of f)) (image nothing 1) ≡ image f 1
    back nothing = refl
    back onlyH = refl
    back onlySH = refl

    none : (f : Front) → tees (cycle (turns_of f)) ≡ 0
    none nothing = refl
    none onlyH = refl
    none onlySH = refl

record Numbered (n : ℕ) : Type 0 where
  front : Front
  is : turns_of front ≡ n

numbered : (n : ℕ) → n < 3 → Numbered n
numbered zero h = record { front = nothing; is = refl }
numbered (suc zero) h = record { front = onlyH; is = refl }
numbered (suc (suc zero)) h = record { front = onlySH; is = refl }
numbered (suc (suc (suc n))) h = absurd (omega arith)

pub clifford_unique : (q r : Clifford) → Within q → Within r → Same (word (clifford q)) (word (clifford r)) → q ≡ r
clifford_unique q r hq hr h =
    λ i. record { a = (sym f.is ∙ ap (λ t. turns_of t.front) e ∙ g.is) i; b = (e i).xs; c = (e i).ss; d = (e i).ws }
  where
    f : Numbered q.a
    f = numbered q.a hq.a_few

    g : Numbered r.a
    g = numbered r.a hr.a_few

    tail_of : (q : Clifford) → Front → Tail
    tail_of q f = record { front = f; xs = q.b; ss = q.c; ws = q.d }

    few : (q : Clifford) → Within q → (f : Front) → Fits (tail_of q f)
    few q h f = record { xs_few = omega arith; ss_few = omega arith; ws_few = omega arith }

    word_is : (q : Clifford) (f : Numbered q.a) → word (cycle (turns_of f.front) ++ (times q.b X ++ ending q.c q.d)) ≡ word (clifford q)
    word_is q f = ap (λ n. word (cycle n ++ (times q.b X ++ ending q.c q.d))) f.is

    e : tail_of q f.front ≡ tail_of r g.front
    e =
        spelled_unique (λ f. cycle (turns_of f)) cycle_fronts (tail_of q f.front) (tail_of r g.front) (few q hq f.front)
        (few r hr g.front) (rw (word_is q f, word_is r g) h)
