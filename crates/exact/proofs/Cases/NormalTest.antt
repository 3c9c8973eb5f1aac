-- A computed test for normal words: the shape is read off the letters, and its spelling compared with them; and their phase-free words. Assumes
-- nothing.
use Rattle.std.specs.Prelude.{◌≡◌, Bool, true, false, cond, ◌&&◌, List, [], ◌∷◌, ℕ, zero, suc, T, leb, length, drop}
use Rattle.std.proofs.Common.{arith, leb→le}
use Rattle.std.proofs.Math.Facts.{and_yes}
use Rattle.exact.specs.Meaning.Word.{Letter, H, S, X, W, T'}
use Rattle.exact.specs.Meaning.Normal.{Syllable, HT, SHT, Front, nothing, onlyH, onlySH, Tail, Shape, front_word, after, spell, Fits, Normal}
use Rattle.exact.specs.Meaning.Normal.{without_w, PhaseFree}
use Rattle.exact.proofs.Cases.Letters.{eq_letter, eq_word, eq_word_is}

-- ---- reading a shape
abbrev starts : List Letter → List Letter → Bool
starts [] u = true
starts (l ∷ p) [] = false
starts (l ∷ p) (m ∷ u) = eq_letter l m && starts p u

-- how many letters l stand in front
abbrev run : Letter → List Letter → ℕ
run l [] = 0
run l (m ∷ u) = elim (eq_letter l m) [ true ↦ suc (run l u) | false ↦ 0 ]

-- the syllables in front, up to so many
abbrev syllables_of : ℕ → List Letter → List Syllable
syllables_of zero u = []
syllables_of (suc n) u =
    elim (starts (H ∷ T' ∷ []) u) [
      | true ↦ HT ∷ syllables_of n (drop 2 u)
      | false ↦ elim (starts (S ∷ H ∷ T' ∷ []) u) [ true ↦ SHT ∷ syllables_of n (drop 3 u) | false ↦ [] ]
    ]

abbrev front_of : List Letter → Front
front_of u = cond (starts (H ∷ []) u) onlyH (cond (starts (S ∷ H ∷ []) u) onlySH nothing)

abbrev tail_of : List Letter → Tail
tail_of u =
    let f = front_of u in
    let v = drop (length (front_word f)) u in
    let x = run X v in
    let s = run S (drop x v) in
    record { front = f; xs = x; ss = s; ws = run W (drop s (drop x v)) }

abbrev pub shape_of : List Letter → Shape
shape_of u =
    let b = starts (T' ∷ []) u in
    let v = drop (cond b 1 0) u in
    let ss = syllables_of (length v) v in
    record { lead = b; syllables = ss; tail = tail_of (drop (length (after ss [])) v) }

-- ---- the test
abbrev fits_test : Tail → Bool
fits_test t = leb t.xs 1 && (leb t.ss 3 && leb t.ws 7)

fits_test_is : (t : Tail) → T (fits_test t) → Fits t
fits_test_is t h =
    let p = and_yes (leb t.xs 1) (leb t.ss 3 && leb t.ws 7) h in
    let q = and_yes (leb t.ss 3) (leb t.ws 7) p.1 in
    record {
      xs_few = omega (arith, leb→le t.xs 1 p.0);
      ss_few = omega (arith, leb→le t.ss 3 q.0);
      ws_few = omega (arith, leb→le t.ws 7 q.1);
    }

abbrev pub normal_test : List Letter → Bool
normal_test u = fits_test (shape_of u).tail && eq_word (spell (shape_of u)) u

pub normal_by : (u : List Letter) → T (normal_test u) → Normal u
normal_by u t =
    let p = and_yes (fits_test (shape_of u).tail) (eq_word (spell (shape_of u)) u) t in
    record { shape = shape_of u; fits = fits_test_is (shape_of u).tail p.0; spelled = eq_word_is (spell (shape_of u)) u p.1 }

pub phase_free_by : (u v : List Letter) → T (normal_test u) → spell (without_w (shape_of u)) ≡ v → PhaseFree v u
unfolding normal_by
phase_free_by u v t e = record { normal = normal_by u t; spelled = e }
