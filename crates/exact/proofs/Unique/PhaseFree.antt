-- Phase-free words: each is normal, has as many T letters as the normal word and no more letters, and is its own phase-free word; and two
-- matrices have the same phase-free word exactly when they differ by a power of omega, of which there is one from 0 to 7. Assumes nothing.
use Rattle.std.specs.Prelude.{◌≡◌, refl, Bool, true, false, List, [], ◌∷◌, ◌++◌, ℕ, ◌+◌, ◌-◌, ◌%◌, ◌≤◌, length}
use Rattle.std.proofs.Common.{sym, ◌∙◌, ap, append_assoc, arith, length-append}
use Rattle.exact.specs.Meaning.Number.{omega^}
use Rattle.exact.specs.Meaning.Matrix.{Matrix, Same, scaled, ByOmega}
use Rattle.exact.specs.Meaning.Word.{Letter, H, S, X, W, T', word, tees}
use Rattle.exact.specs.Meaning.Normal.{Syllable, HT, SHT, Tail, Shape, times, front_word, tail_word, or_i, after, leading, spell, Fits}
use Rattle.exact.specs.Meaning.Normal.{Normal, no_w, without_w, PhaseFree, PhaseFreeOf}
use Rattle.exact.proofs.Matrices.Same.{Same-refl, Same-of, Same-sym, Same-trans}
use Rattle.exact.proofs.Matrices.Phase.{scaled_same, same_apart, omega_twice, omega_mod, ws_behind}
use Rattle.exact.proofs.Unique.Tails.{or_i_tail_tees}
use Rattle.exact.proofs.Unique.Normal.{core_of, spell_word, shape_unique}

-- ---- a tail's letters: those without W, and then the W letters
tail_ws : (t : Tail) → tail_word (no_w t) ++ times t.ws W ≡ tail_word t
tail_ws t =
    append_assoc (front_word t.front) (times t.xs X ++ (times t.ss S ++ [])) (times t.ws W)
    ∙ ap (λ u. front_word t.front ++ u)
    (append_assoc (times t.xs X) (times t.ss S ++ []) (times t.ws W)
    ∙ ap (λ u. times t.xs X ++ u) (append_assoc (times t.ss S) [] (times t.ws W)))

after_append : (ss : List Syllable) (u v : List Letter) → after ss (u ++ v) ≡ after ss u ++ v
after_append [] u v = refl
after_append (HT ∷ ss) u v = ap (λ x. H ∷ T' ∷ x) (after_append ss u v)
after_append (SHT ∷ ss) u v = ap (λ x. S ∷ H ∷ T' ∷ x) (after_append ss u v)

leading_append : (b : Bool) (u v : List Letter) → leading b (u ++ v) ≡ leading b u ++ v
leading_append true u v = refl
leading_append false u v = refl

core_ws : (n : Shape) → core_of n ≡ core_of (without_w n) ++ times n.tail.ws W
core_ws n =
    let u = tail_word (no_w n.tail) in
    let ws = times n.tail.ws W in
    ap (λ x. leading n.lead (after n.syllables x)) (sym (tail_ws n.tail))
    ∙ ap (leading n.lead) (after_append n.syllables u ws)
    ∙ leading_append n.lead (after n.syllables u) ws

-- ---- as many T letters, and no more letters
after_tees : (ss : List Syllable) (u v : List Letter) → tees u ≡ tees v → tees (after ss u) ≡ tees (after ss v)
after_tees [] u v e = e
after_tees (HT ∷ ss) u v e = omega (arith, after_tees ss u v e)
after_tees (SHT ∷ ss) u v e = omega (arith, after_tees ss u v e)

leading_tees : (b : Bool) (u v : List Letter) → tees u ≡ tees v → tees (leading b u) ≡ tees (leading b v)
leading_tees true u v e = omega (arith, e)
leading_tees false u v e = e

spell_tees : (n : Shape) → tees (spell (without_w n)) ≡ tees (spell n)
spell_tees n =
    let u = or_i (tail_word (no_w n.tail)) in
    let v = or_i (tail_word n.tail) in
    leading_tees n.lead (after n.syllables u) (after n.syllables v)
    (after_tees n.syllables u v (or_i_tail_tees (no_w n.tail) ∙ sym (or_i_tail_tees n.tail)))

or_i_length : (u v : List Letter) → length (or_i u) ≤ length (or_i (u ++ v))
or_i_length [] [] = omega arith
or_i_length [] (l ∷ v) = omega arith
or_i_length (l ∷ u) v = omega (arith, length-append u v)

after_length : (ss : List Syllable) (u v : List Letter) → length u ≤ length v → length (after ss u) ≤ length (after ss v)
after_length [] u v h = h
after_length (HT ∷ ss) u v h = omega (arith, after_length ss u v h)
after_length (SHT ∷ ss) u v h = omega (arith, after_length ss u v h)

leading_length : (b : Bool) (u v : List Letter) → length u ≤ length v → length (leading b u) ≤ length (leading b v)
leading_length true u v h = omega (arith, h)
leading_length false u v h = h

spell_length : (n : Shape) → length (spell (without_w n)) ≤ length (spell n)
spell_length n =
    let u = tail_word (no_w n.tail) in
    let v = tail_word n.tail in
    leading_length n.lead (after n.syllables (or_i u)) (after n.syllables (or_i v))
    (after_length n.syllables (or_i u) (or_i v) (rw (sym (tail_ws n.tail)) (or_i_length u (times n.tail.ws W))))

no_w_fits : {t : Tail} → Fits t → Fits (no_w t)
no_w_fits f = record { xs_few = f.xs_few; ss_few = f.ss_few; ws_few = omega arith }

-- so many W letters in place of a shape's own
abbrev with_ws : ℕ → Shape → Shape
with_ws k n =
    let t = n.tail in
    record { lead = n.lead; syllables = n.syllables; tail = record { front = t.front; xs = t.xs; ss = t.ss; ws = k } }

-- u is the phase-free word of the normal word v
module _ {u v : List Letter} (f : PhaseFree u v) where
  pub phase_free_normal : Normal u
  phase_free_normal = record { shape = without_w f.normal.shape; fits = no_w_fits f.normal.fits; spelled = f.spelled }

  pub phase_free_tees : tees u ≡ tees v
  phase_free_tees = sym (ap tees f.spelled) ∙ spell_tees f.normal.shape ∙ ap tees f.normal.spelled

  pub phase_free_length : length u ≤ length v
  phase_free_length = omega (arith, ap length f.spelled, spell_length f.normal.shape, ap length f.normal.spelled)

  pub phase_free_own : PhaseFree u u
  unfolding phase_free_normal
  phase_free_own = record { normal = phase_free_normal; spelled = f.spelled }

-- a normal word with no W in its tail is its own
pub normal_own : {u : List Letter} (n : Normal u) → n.shape.tail.ws ≡ 0 → PhaseFree u u
normal_own n e = record { normal = n; spelled = ap (λ k. spell (with_ws k n.shape)) (sym e) ∙ n.spelled }

-- ---- the matrix: a power of omega times the phase-free word's
spell_phase : (n : Shape) → word (spell n) ≡ scaled (omega^ n.tail.ws) (word (spell (without_w n)))
spell_phase n =
    spell_word n
    ∙ ap word (core_ws n)
    ∙ ws_behind (core_of (without_w n)) n.tail.ws
    ∙ ap (scaled (omega^ n.tail.ws)) (sym (spell_word (without_w n)))

-- times a further power
further : (k : ℕ) (n : Shape) → scaled (omega^ k) (word (spell n)) ≡ scaled (omega^ ((k + n.tail.ws) % 8)) (word (spell (without_w n)))
further k n =
    let u = word (spell (without_w n)) in
    ap (scaled (omega^ k)) (spell_phase n) ∙ omega_twice k n.tail.ws u ∙ omega_mod (k + n.tail.ws) u

-- ---- the same phase-free word, and a power of omega between the matrices
module _ {x y : Matrix} {u v : List Letter} (p : PhaseFreeOf x u) (q : PhaseFreeOf y v) where
  abbrev m : Shape
  m = p.phase_free.normal.shape

  abbrev n : Shape
  n = q.phase_free.normal.shape

  x_is : Same x (word (spell m))
  x_is = rw p.phase_free.normal.spelled p.same

  scaled_y : (k : ℕ) → Same (scaled (omega^ k) y) (scaled (omega^ ((k + n.tail.ws) % 8)) (word (spell (without_w n))))
  scaled_y k = Same-trans (scaled_same (omega^ k) (rw q.phase_free.normal.spelled q.same)) (Same-of (further k n))

  shapes : (d : ByOmega x y) → m ≡ with_ws ((d.power + n.tail.ws) % 8) n
  shapes d =
      shape_unique m turned p.phase_free.normal.fits fits
      (Same-trans (Same-sym x_is) (Same-trans d.same (Same-trans (scaled_y d.power) (Same-of (sym (spell_phase turned))))))
    where
      turned : Shape
      turned = with_ws ((d.power + n.tail.ws) % 8) n

      fits : Fits turned.tail
      fits = let f = q.phase_free.normal.fits in record { xs_few = f.xs_few; ss_few = f.ss_few; ws_few = omega arith }

  pub by_omega_same : ByOmega x y → u ≡ v
  by_omega_same d = sym p.phase_free.spelled ∙ ap (λ s. spell (without_w s)) (shapes d) ∙ q.phase_free.spelled

  -- by how many W letters the normal words differ, up to 8
  abbrev pub apart : ℕ
  apart = (m.tail.ws + (8 - n.tail.ws)) % 8

  round : m.tail.ws ≡ (apart + n.tail.ws) % 8
  round = omega (arith, p.phase_free.normal.fits.ws_few, q.phase_free.normal.fits.ws_few)

  pub same_by_omega : u ≡ v → ByOmega x y
  same_by_omega e = record { power = apart; few = omega arith; same = Same-trans x_is (Same-trans (Same-of words) (Same-sym (scaled_y apart))) }
    where
      words : word (spell m) ≡ scaled (omega^ ((apart + n.tail.ws) % 8)) (word (spell (without_w n)))
      words =
          spell_phase m
          ∙ ap (λ s. scaled (omega^ m.tail.ws) (word s)) (p.phase_free.spelled ∙ e ∙ sym q.phase_free.spelled)
          ∙ ap (λ k. scaled (omega^ k) (word (spell (without_w n)))) round

  -- it is the only power
  pub power_named : (d : ByOmega x y) → d.power ≡ apart
  power_named d = omega (arith, d.few, q.phase_free.normal.fits.ws_few, ap (λ (s : Shape). s.tail.ws) (shapes d))

-- so a matrix has one phase-free word
pub phase_free_once : {x : Matrix} {u v : List Letter} → PhaseFreeOf x u → PhaseFreeOf x v → u ≡ v
phase_free_once {x} p q = by_omega_same p q (same_apart (Same-refl x))
