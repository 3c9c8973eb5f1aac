-- Two normal words with the same matrix, phase included, are the same letters (Giles and Selinger); and no word with a normal word's matrix has fewer
-- T letters. The first syllable is read off the parities of a turned vector that the tail makes odd; it is struck, and so on. Assumes nothing.
use Rattle.std.specs.Prelude.{◌≡◌, refl, Bool, true, false, List, [], ◌∷◌, ◌++◌, ℕ, zero, suc, ◌≤◌, ℤ}
use Rattle.std.proofs.Common.{sym, ◌∙◌, ap, subst, arith}
use Rattle.exact.specs.Meaning.Matrix.{◌·◌, unit, Same}
use Rattle.exact.specs.Meaning.Word.{Letter, H, S, X, W, T', letter, word, tees}
use Rattle.exact.specs.Meaning.Normal.{Syllable, HT, SHT, Front, nothing, onlyH, onlySH, Tail, Shape, times, front_word, tail_word, or_i}
use Rattle.exact.specs.Meaning.Normal.{after, leading, spell, Fits, Normal}
use Rattle.exact.specs.Meaning.Rotation.{Vect}
use Rattle.exact.proofs.Whole.Parity.{xr_comm, xr_false, false_true}
use Rattle.exact.proofs.Matrices.Same.{unit_mul, Same-sym}
use Rattle.exact.proofs.Matrices.Words.{strike_word}
use Rattle.exact.proofs.Rotation.Parity.{Par, par, s_of, pturn_l, pturn, Seen, fewest, same_count, same_parities}
use Rattle.exact.proofs.Unique.Tails.{e₁, e₃, ending, tail_tees, tail_unique}

-- ---- what a tail and syllables do to parities
ws_still : (n : ℕ) (a : Par) → pturn (times n W) a ≡ a
ws_still zero a = refl
ws_still (suc n) a = ws_still n a

ending_sum : (m n : ℕ) (a : Par) → s_of (pturn (ending m n) a) ≡ s_of a
ending_sum zero n a = ap s_of (ws_still n a)
ending_sum (suc m) n a = xr_comm (pturn (ending m n) a).y (pturn (ending m n) a).x ∙ ending_sum m n a

ending_axis : (m n : ℕ) → pturn (ending m n) (par e₃) ≡ par e₃
ending_axis zero n = ws_still n (par e₃)
ending_axis (suc m) n = ap (pturn_l S) (ending_axis m n)

xs_still : (n : ℕ) (u : List Letter) (a : Par) → pturn (times n X ++ u) a ≡ pturn u a
xs_still zero u a = refl
xs_still (suc n) u a = xs_still n u a

-- a vector whose x + y the word makes odd
record Bright (u : List Letter) : Type 0 where
  at : Vect ℤ
  bright : s_of (pturn u (par at)) ≡ true

tail_bright : (f : Front) (x m n : ℕ) → Bright (front_word f ++ (times x X ++ ending m n))
tail_bright nothing x m n = record { at = e₁; bright = ap s_of (xs_still x (ending m n) (par e₁)) ∙ ending_sum m n (par e₁) }
tail_bright onlyH x m n = record { at = e₃; bright = ap (λ a. s_of (pturn_l H a)) (xs_still x (ending m n) (par e₃) ∙ ending_axis m n) }
tail_bright onlySH x m n = record { at = e₃; bright = ap (λ a. s_of (pturn_l S (pturn_l H a))) (xs_still x (ending m n) (par e₃) ∙ ending_axis m n) }

after_sum : (ss : List Syllable) (u : List Letter) (a : Par) → s_of (pturn (after ss u) a) ≡ s_of (pturn u a)
after_sum [] u a = refl
after_sum (HT ∷ ss) u a = after_sum ss u a
after_sum (SHT ∷ ss) u a = xr_false (s_of (pturn (after ss u) a)) ∙ after_sum ss u a

-- ---- a normal word but for its leading T and the I of an empty tail
abbrev pub core : List Syllable → Tail → List Letter
core ss t = after ss (tail_word t)

core_bright : (ss : List Syllable) (t : Tail) → Bright (core ss t)
core_bright ss t =
    let b = tail_bright t.front t.xs t.ss t.ws in
    record { at = b.at; bright = after_sum ss (tail_word t) (par b.at) ∙ b.bright }

core_seen : (ss : List Syllable) (t : Tail) → Seen (core ss t)
core_seen ss t = let b = core_bright ss t in record { at = b.at; odd_there = λ e. false_true (sym (ap s_of e) ∙ b.bright) }

lead_seen : (ss : List Syllable) (t : Tail) → Seen (T' ∷ core ss t)
lead_seen ss t = let b = core_bright ss t in record { at = b.at; odd_there = λ e. false_true (sym (ap (λ a. a.x) e) ∙ b.bright) }

-- ---- the first syllable: T turns to (s,s,0), HT to (0,s,s), SHT to (s,0,s)
-- words that the same vector shows different are not the same: one has s where the other has 0
module _ (u v : List Letter) (su : Seen u) (sv : Seen v) (h : Same (word u) (word v)) where
  clash : (coordinate : Par → Bool) (x : Vect ℤ) → coordinate (pturn u (par x)) ≡ true → coordinate (pturn v (par x)) ≡ false → ⊥
  clash coordinate x p q = false_true (sym q ∙ sym (ap coordinate (same_parities u v h su sv x)) ∙ p)

module _ (ss rr : List Syllable) (t r : Tail) where
  HT_SHT : Same (word (core (HT ∷ ss) t)) (word (core (SHT ∷ rr) r)) → ⊥
  HT_SHT h =
      let b = core_bright ss t in
      clash (core (HT ∷ ss) t) (core (SHT ∷ rr) r) (core_seen (HT ∷ ss) t) (core_seen (SHT ∷ rr) r) h (λ a. a.y) b.at b.bright refl

  T_HT : Same (word (T' ∷ core ss t)) (word (core (HT ∷ rr) r)) → ⊥
  T_HT h =
      let b = core_bright ss t in
      clash (T' ∷ core ss t) (core (HT ∷ rr) r) (lead_seen ss t) (core_seen (HT ∷ rr) r) h (λ a. a.x) b.at b.bright refl

  T_SHT : Same (word (T' ∷ core ss t)) (word (core (SHT ∷ rr) r)) → ⊥
  T_SHT h =
      let b = core_bright ss t in
      clash (T' ∷ core ss t) (core (SHT ∷ rr) r) (lead_seen ss t) (core_seen (SHT ∷ rr) r) h (λ a. a.y) b.at b.bright refl

-- ---- a tail against a word with a syllable: T counts differ
no_tail : (r : Tail) (u : List Letter) (n : ℕ) → tees u ≡ suc n → Seen u → Same (word (tail_word r)) (word u) → ⊥
no_tail r u n e s h = omega (arith, tail_tees r, same_count (tail_word r) u h (core_seen [] r) s)

more : (s : Syllable) (ss : List Syllable) (t r : Tail) → Same (word (tail_word r)) (word (core (s ∷ ss) t)) → ⊥
more HT ss t r h = no_tail r (core (HT ∷ ss) t) (tees (core ss t)) (omega arith) (core_seen (HT ∷ ss) t) h
more SHT ss t r h = no_tail r (core (SHT ∷ ss) t) (tees (core ss t)) (omega arith) (core_seen (SHT ∷ ss) t) h

record Cores (ss rr : List Syllable) (t r : Tail) : Type 0 where
  syllables_same : ss ≡ rr
  tails_same : t ≡ r

core_unique : (ss rr : List Syllable) (t r : Tail) → Fits t → Fits r → Same (word (core ss t)) (word (core rr r)) → Cores ss rr t r
core_unique [] [] t r ft fr h = record { syllables_same = refl; tails_same = tail_unique t r ft fr h }
core_unique [] (s ∷ rr) t r ft fr h = absurd (more s rr r t h)
core_unique (s ∷ ss) [] t r ft fr h = absurd (more s ss t r (Same-sym h))
core_unique (HT ∷ ss) (HT ∷ rr) t r ft fr h =
    let d = core_unique ss rr t r ft fr (strike_word (H ∷ T' ∷ []) (core ss t) (core rr r) h) in
    record { syllables_same = ap (λ l. HT ∷ l) d.syllables_same; tails_same = d.tails_same }
core_unique (HT ∷ ss) (SHT ∷ rr) t r ft fr h = absurd (HT_SHT ss rr t r h)
core_unique (SHT ∷ ss) (HT ∷ rr) t r ft fr h = absurd (HT_SHT rr ss r t (Same-sym h))
core_unique (SHT ∷ ss) (SHT ∷ rr) t r ft fr h =
    let d = core_unique ss rr t r ft fr (strike_word (S ∷ H ∷ T' ∷ []) (core ss t) (core rr r) h) in
    record { syllables_same = ap (λ l. SHT ∷ l) d.syllables_same; tails_same = d.tails_same }

-- ---- the T in front
T_core : (ss rr : List Syllable) (t r : Tail) → Same (word (T' ∷ core ss t)) (word (core rr r)) → ⊥
T_core ss [] t r h = no_tail r (T' ∷ core ss t) (tees (core ss t)) (omega arith) (lead_seen ss t) (Same-sym h)
T_core ss (HT ∷ rr) t r h = T_HT ss rr t r h
T_core ss (SHT ∷ rr) t r h = T_SHT ss rr t r h

abbrev shaped : Bool → List Syllable → Tail → Shape
shaped b ss t = record { lead = b; syllables = ss; tail = t }

shape_same : (b : Bool) {ss rr : List Syllable} {t r : Tail} → Cores ss rr t r → shaped b ss t ≡ shaped b rr r
shape_same b d = λ i. record { lead = b; syllables = d.syllables_same i; tail = d.tails_same i }

led_unique : (a b : Bool) (ss rr : List Syllable) (t r : Tail) → Fits t → Fits r
    → Same (word (leading a (core ss t))) (word (leading b (core rr r))) → shaped a ss t ≡ shaped b rr r
led_unique true true ss rr t r ft fr h = shape_same true (core_unique ss rr t r ft fr (strike_word (T' ∷ []) (core ss t) (core rr r) h))
led_unique true false ss rr t r ft fr h = absurd (T_core ss rr t r h)
led_unique false true ss rr t r ft fr h = absurd (T_core rr ss r t (Same-sym h))
led_unique false false ss rr t r ft fr h = shape_same false (core_unique ss rr t r ft fr h)

-- ---- I for an empty tail changes neither the matrix nor parities
or_i_word : (u : List Letter) → word (or_i u) ≡ word u
or_i_word [] = unit_mul unit
or_i_word (l ∷ u) = refl

after_word : (ss : List Syllable) (u v : List Letter) → word u ≡ word v → word (after ss u) ≡ word (after ss v)
after_word [] u v e = e
after_word (HT ∷ ss) u v e = ap (λ m. letter H · (letter T' · m)) (after_word ss u v e)
after_word (SHT ∷ ss) u v e = ap (λ m. letter S · (letter H · (letter T' · m))) (after_word ss u v e)

leading_word : (b : Bool) (u v : List Letter) → word u ≡ word v → word (leading b u) ≡ word (leading b v)
leading_word true u v e = ap (λ m. letter T' · m) e
leading_word false u v e = e

abbrev pub core_of : Shape → List Letter
core_of n = leading n.lead (core n.syllables n.tail)

pub spell_word : (n : Shape) → word (spell n) ≡ word (core_of n)
spell_word n =
    leading_word n.lead (after n.syllables (or_i (tail_word n.tail))) (core n.syllables n.tail)
    (after_word n.syllables (or_i (tail_word n.tail)) (tail_word n.tail) (or_i_word (tail_word n.tail)))

-- ---- the theorem
pub shape_unique : (m n : Shape) → Fits m.tail → Fits n.tail → Same (word (spell m)) (word (spell n)) → m ≡ n
shape_unique m n fm fn h =
    led_unique m.lead n.lead m.syllables n.syllables m.tail n.tail fm fn (rw (spell_word m, spell_word n) at h)

pub unique : {u v : List Letter} → Normal u → Normal v → Same (word u) (word v) → u ≡ v
unique nu nv h =
    sym nu.spelled
    ∙ ap spell (shape_unique nu.shape nv.shape nu.fits nv.fits (rw (nu.spelled, nv.spelled) h))
    ∙ nv.spelled

-- ---- a normal word has the fewest T letters of all words with its matrix
or_i_turn : (u : List Letter) (a : Par) → pturn (or_i u) a ≡ pturn u a
or_i_turn [] a = refl
or_i_turn (l ∷ u) a = refl

after_turn : (ss : List Syllable) (u v : List Letter) (a : Par) → pturn u a ≡ pturn v a → pturn (after ss u) a ≡ pturn (after ss v) a
after_turn [] u v a e = e
after_turn (HT ∷ ss) u v a e = ap (λ b. pturn_l H (pturn_l T' b)) (after_turn ss u v a e)
after_turn (SHT ∷ ss) u v a e = ap (λ b. pturn_l S (pturn_l H (pturn_l T' b))) (after_turn ss u v a e)

spell_turn : (ss : List Syllable) (t : Tail) (a : Par) → pturn (after ss (or_i (tail_word t))) a ≡ pturn (core ss t) a
spell_turn ss t a = after_turn ss (or_i (tail_word t)) (tail_word t) a (or_i_turn (tail_word t) a)

spell_seen : (b : Bool) (ss : List Syllable) (t : Tail) → Seen (leading b (after ss (or_i (tail_word t))))
spell_seen true ss t =
    let s = lead_seen ss t in
    record { at = s.at; odd_there = λ e. s.odd_there (ap (pturn_l T') (sym (spell_turn ss t (par s.at))) ∙ e) }
spell_seen false ss t = let s = core_seen ss t in record { at = s.at; odd_there = λ e. s.odd_there (sym (spell_turn ss t (par s.at)) ∙ e) }

pub normal_seen : {u : List Letter} → Normal u → Seen u
normal_seen n = subst Seen n.spelled (spell_seen n.shape.lead n.shape.syllables n.shape.tail)

pub normal_fewest : (u : List Letter) {v : List Letter} → Same (word u) (word v) → Normal v → tees v ≤ tees u
normal_fewest u {v} h n = fewest u v h (normal_seen n)
