-- How long a reading's text can become, by its Clifford and by how many letters come: a table of values for each number of letters, in which a T
-- that removes a syllable may remove any. One computed test, over a round of 24 letters, makes it a law for every number. Assumes nothing.
use Rattle.std.specs.Prelude.{◌≡◌, refl, Bool, ◌&&◌, List, [], ◌∷◌, map, ℕ, zero, suc, max, ◌+◌, ◌-◌, ◌*◌, ◌<◌, ◌≤◌, T, leb, get_or}
use Rattle.std.proofs.Common.{sym, ◌∙◌, ap, arith, leb→le}
use Rattle.std.proofs.Math.Facts.{and_yes}
use Rattle.exact.specs.Meaning.Word.{Letter, I, H, S, X, W, T'}
use Rattle.clifford.specs.declared.Axis.{Axis}
use Rattle.clifford.specs.declared.Clifford.{Clifford}
use Rattle.clifford.specs.Meaning.{Ranged}
use Rattle.clifford.specs.Tables.{quadruple, all}
use Rattle.clifford.proofs.Tables.{at, all3, at3}
use Rattle.clifford.specs.Cliffords.{mul_c, tconj_c, clifford_i, clifford_x, clifford_s, clifford_w, clifford_h, clifford_HS, clifford_SHS}
use Rattle.clifford.proofs.Cliffords.{mul_ranged, tconj_ranged}
use Rattle.reading.specs.Readings.{start_ranged}
use Rattle.lengths.specs.Growth.{Moves, teed, gain}

-- ---- the greater of two numbers
raised : (a b a' b' c : ℕ) → a ≤ a' + c → b ≤ b' + c → max a b ≤ max a' b' + c
raised a b a' b' c h k = omega arith

-- ---- the greatest of six numbers, one for each letter
unfoldable pub most : (Letter → ℕ) → ℕ
most h = max (h I) (max (h H) (max (h S) (max (h X) (max (h W) (h T')))))

most_upper : (h : Letter → ℕ) (l : Letter) → h l ≤ most h
unfolding most
most_upper h I = omega arith
most_upper h H = omega arith
most_upper h S = omega arith
most_upper h X = omega arith
most_upper h W = omega arith
most_upper h T' = omega arith

most_least : (h : Letter → ℕ) (m : ℕ) → ((l : Letter) → h l ≤ m) → most h ≤ m
unfolding most
most_least h m f = omega (arith, f I, f H, f S, f X, f W, f T')

abbrev pub moves_of : Clifford → Moves
moves_of q =
    record {
      here = q;
      by_H = mul_c q clifford_h;
      by_S = mul_c q clifford_s;
      by_X = mul_c q clifford_x;
      by_W = mul_c q clifford_w;
      axis = (tconj_c q).axis;
      rest = (tconj_c q).rest;
      met_T = mul_c clifford_s (tconj_c q).rest;
      met_HT = mul_c clifford_HS (tconj_c q).rest;
      met_SHT = mul_c clifford_SHS (tconj_c q).rest;
    }

abbrev pub after : (Clifford → ℕ) → Moves → Letter → ℕ
after f m I = f m.here
after f m H = f m.by_H
after f m S = f m.by_S
after f m X = f m.by_X
after f m W = f m.by_W
after f m T' = teed f m m.axis

unfoldable pub better : (Clifford → ℕ) → Moves → ℕ
better f m = most (after f m)

pub better_upper : (f : Clifford → ℕ) (m : Moves) (l : Letter) → after f m l ≤ better f m
unfolding better
better_upper f m = most_upper (after f m)

-- ---- f is at most c over g
abbrev Below : (Clifford → ℕ) → (Clifford → ℕ) → ℕ → Type 0
Below f g c = (q : Clifford) → Ranged q → f q ≤ g q + c

module _ (f g : Clifford → ℕ) (c : ℕ) (h : Below f g c) (q : Clifford) where
  less : (s : Clifford) (n : ℕ) → f (mul_c s (tconj_c q).rest) - n ≤ g (mul_c s (tconj_c q).rest) - n + c
  less s n = omega (arith, h (mul_c s (tconj_c q).rest) (mul_ranged s (tconj_c q).rest))

  teed_below : (a : Axis) → teed f (moves_of q) a ≤ teed g (moves_of q) a + c
  teed_below Axis.H = omega (arith, h (tconj_c q).rest (tconj_ranged q))
  teed_below Axis.SH = omega (arith, h (tconj_c q).rest (tconj_ranged q))
  teed_below Axis.I =
      raised _ _ _ _ c (omega (arith, h (tconj_c q).rest (tconj_ranged q)))
      (raised _ _ _ _ c (less clifford_s 1) (raised _ _ _ _ c (less clifford_HS 2) (less clifford_SHS 3)))

  after_below : Ranged q → (l : Letter) → after f (moves_of q) l ≤ after g (moves_of q) l + c
  after_below k I = h q k
  after_below k H = h (mul_c q clifford_h) (mul_ranged q clifford_h)
  after_below k S = h (mul_c q clifford_s) (mul_ranged q clifford_s)
  after_below k X = h (mul_c q clifford_x) (mul_ranged q clifford_x)
  after_below k W = h (mul_c q clifford_w) (mul_ranged q clifford_w)
  after_below k T' = teed_below (tconj_c q).axis

  better_below : Ranged q → better f (moves_of q) ≤ better g (moves_of q) + c
  unfolding better
  better_below k =
      most_least (after f (moves_of q)) (most (after g (moves_of q)) + c)
      (λ l. omega (arith, after_below k l, most_upper (after g (moves_of q)) l))

-- ---- tables, by a, b, c and d of a Clifford
abbrev pub Table : Type 0 → Type 0
Table A = List (List (List (List A)))

unfoldable pub value : Table ℕ → Clifford → ℕ
value t q = get_or (get_or (get_or (get_or t q.a []) q.b []) q.c []) q.d 0

unfoldable pub mapped : (Moves → ℕ) → Table Moves → Table ℕ
mapped f t = map (map (map (map f))) t

abbrev listed : {A : Type 0} → ℕ → (ℕ → A) → List A
listed zero f = []
listed (suc n) f = f 0 ∷ listed n (λ k. f (suc k))

-- a product takes long to compute, so each Clifford's moves are computed once
unfoldable pub moves : Table Moves
moves = listed 3 (λ a. listed 2 (λ b. listed 4 (λ c. listed 8 (λ d. moves_of (quadruple a b c d)))))

listed_at : {A B : Type 0} (n : ℕ) (f : A → B) (g : ℕ → A) (d : B) (k : ℕ) → k < n → get_or (map f (listed n g)) k d ≡ f (g k)
listed_at zero f g d k h = absurd (omega arith)
listed_at (suc n) f g d zero h = refl
listed_at (suc n) f g d (suc k) h = listed_at n f (λ k. g (suc k)) d k (omega arith)

mapped_value : (q : Clifford) → Ranged q → (f : Moves → ℕ) → value (mapped f moves) q ≡ f (moves_of q)
unfolding value mapped moves
mapped_value q h f =
    ap (λ t. get_or (get_or (get_or t q.b []) q.c []) q.d 0)
    (listed_at 3 (map (map (map f))) (λ a. listed 2 (λ b. listed 4 (λ c. listed 8 (λ d. moves_of (quadruple a b c d))))) [] q.a (omega (arith, h.a_few)))
    ∙ ap (λ t. get_or (get_or t q.c []) q.d 0)
    (listed_at 2 (map (map f)) (λ b. listed 4 (λ c. listed 8 (λ d. moves_of (quadruple q.a b c d)))) [] q.b (omega (arith, h.b_few)))
    ∙ ap (λ t. get_or t q.d 0)
    (listed_at 4 (map f) (λ c. listed 8 (λ d. moves_of (quadruple q.a q.b c d))) [] q.c (omega (arith, h.c_few)))
    ∙ listed_at 8 f (λ d. moves_of (quadruple q.a q.b q.c d)) 0 q.d (omega (arith, h.d_few))

-- ---- n letters more, by the table of moves; what a `let` binds is computed once
unfoldable pub again : Table Moves → ℕ → Table ℕ → Table ℕ
again m zero t = t
again m (suc n) t = let u = mapped (better (value t)) m in again m n u

abbrev step : Table ℕ → Table ℕ
step t = mapped (better (value t)) moves

-- where none comes, what f gives for the Clifford
abbrev pub first : (Clifford → ℕ) → Table Moves → Table ℕ
first f m = mapped (λ x. f x.here) m

-- at q, after n letters more
abbrev pub worth : ℕ → Table ℕ → Clifford → ℕ
worth n t q = value (again moves n t) q

again_none : (t : Table ℕ) → again moves 0 t ≡ t
unfolding again
again_none t = refl

again_first : (n : ℕ) (t : Table ℕ) → again moves (suc n) t ≡ again moves n (step t)
unfolding again
again_first n t = refl

again_last : (n : ℕ) (t : Table ℕ) → again moves (suc n) t ≡ step (again moves n t)
again_last zero t = again_first 0 t ∙ again_none (step t) ∙ ap step (sym (again_none t))
again_last (suc n) t = again_first (suc n) t ∙ again_last n (step t) ∙ ap step (sym (again_first n t))

again_sum : (m n : ℕ) (t : Table ℕ) → again moves (m + n) t ≡ again moves n (again moves m t)
again_sum zero n t =
    let e : zero + n ≡ n = omega arith in
    ap (λ k. again moves k t) e ∙ ap (again moves n) (sym (again_none t))
again_sum (suc m) n t =
    let e : suc m + n ≡ suc (m + n) = omega arith in
    ap (λ k. again moves k t) e ∙ again_first (m + n) t ∙ again_sum m n (step t) ∙ ap (again moves n) (sym (again_first m t))

module _ (q : Clifford) (k : Ranged q) where
  pub worth_none : (f : Clifford → ℕ) → worth 0 (first f moves) q ≡ f q
  worth_none f = ap (λ x. value x q) (again_none (first f moves)) ∙ mapped_value q k (λ x. f x.here)

  pub worth_more : (n : ℕ) (t : Table ℕ) → worth (suc n) t q ≡ better (worth n t) (moves_of q)
  worth_more n t = ap (λ x. value x q) (again_last n t) ∙ mapped_value q k (better (worth n t))

-- a table at most c over another stays so
again_below : (n : ℕ) (t u : Table ℕ) (c : ℕ) → Below (value t) (value u) c → Below (worth n t) (worth n u) c
again_below zero t u c h q k = omega (arith, h q k, ap (λ x. value x q) (again_none t), ap (λ x. value x q) (again_none u))
again_below (suc n) t u c h q k =
    omega (
      arith,
      worth_more q k n t,
      worth_more q k n u,
      better_below (worth n t) (worth n u) c (again_below n t u c h) q k,
    )

-- the letter I adds nothing, so more letters are never worth less
again_grows : (n : ℕ) (t : Table ℕ) → Below (value t) (worth n t) 0
again_grows zero t q k = omega (arith, ap (λ x. value x q) (again_none t))
again_grows (suc n) t q k =
    omega (arith, again_grows n t q k, worth_more q k n t, better_upper (worth n t) (moves_of q) I)

turns : (t : Table ℕ) → Below (worth 24 t) (value t) gain → (j : ℕ) → Below (worth (24 * j) t) (value t) (gain * j)
turns t h zero q k = omega (arith, ap (λ x. value x q) (again_none t))
turns t h (suc j) q k =
    let e : 24 * suc j ≡ 24 + 24 * j = omega arith in
    omega (
      arith,
      ap (λ n. worth n t q) e,
      ap (λ x. value x q) (again_sum 24 (24 * j) t),
      again_below (24 * j) (again moves 24 t) t gain h q k,
      turns t h j q k,
    )

-- the test, from 16 letters on: what the start is worth then, and that a round adds no more at any Clifford
abbrev steady : Table ℕ → Table ℕ → Clifford → Bool
steady u v q = leb (value v q) (value u q + gain)

abbrev steady_at : Table ℕ → Table ℕ → ℕ → ℕ → ℕ → Bool
steady_at u v a b c = all 8 (λ d. steady u v (quadruple a b c d))

unfoldable pub round_test : (Clifford → ℕ) → ℕ → Bool
round_test f c =
    let m = moves in
    let u = again m 16 (first f m) in
    let v = again m 24 u in
    leb (value u clifford_i) c && all3 (steady_at u v)

module _ (f : Clifford → ℕ) (c : ℕ) (h : T (round_test f c)) where
  abbrev t : Table ℕ
  t = first f moves

  abbrev u : Table ℕ
  u = again moves 16 t

  abbrev v : Table ℕ
  v = again moves 24 u

  tests : T (leb (value u clifford_i) c) × T (all3 (steady_at u v))
  unfolding round_test
  tests = and_yes (leb (value u clifford_i) c) (all3 (steady_at u v)) h

  round : Below (value v) (value u) gain
  round q k =
      leb→le (value v q) (value u q + gain)
      (at 8 (λ d. steady u v (quadruple q.a q.b q.c d))
      (at3 (steady_at u v) tests.1 q.a q.b q.c (omega (arith, k.a_few)) (omega (arith, k.b_few)) (omega (arith, k.c_few)))
      q.d (omega (arith, k.d_few)))

  -- what so many letters are worth, from the start
  pub growth : (n j : ℕ) → n ≤ 16 + 24 * j → worth n (first f moves) clifford_i ≤ c + gain * j
  growth n j l =
      let d = 16 + 24 * j - n in
      let e : n + d ≡ 16 + 24 * j = omega arith in
      omega (
        arith,
        again_grows d (again moves n t) clifford_i start_ranged,
        ap (λ x. value x clifford_i) (again_sum n d t),
        ap (λ m. worth m t clifford_i) e,
        ap (λ x. value x clifford_i) (again_sum 16 (24 * j) t),
        turns u round j clifford_i start_ranged,
        leb→le (value u clifford_i) c tests.0,
      )
