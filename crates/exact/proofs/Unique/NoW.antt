-- A phase-free word has no W: where OpenQASM 2.0 is to be written for it, refusal 10 holds nowhere. Assumes nothing.
use Rattle.std.specs.Prelude.{◌≡◌, Bool, true, false, List, [], ◌∷◌, ◌++◌, ℕ, zero, suc, get_or}
use Rattle.std.proofs.Common.{subst, arith}
use Rattle.exact.specs.Meaning.Word.{Letter, S, X, W, byte, bytes, First}
use Rattle.exact.specs.Meaning.Normal.{Syllable, HT, SHT, Front, nothing, onlyH, onlySH, Shape, times, front_word, tail_word, or_i, after, leading, spell}
use Rattle.exact.specs.Meaning.Normal.{without_w, PhaseFree}

-- no letter is W
abbrev NoW : List Letter → Type 0
NoW [] = Unit {0}
NoW (l ∷ u) = (byte l ≡ byte W → ⊥) × NoW u

none_there : (u : List Letter) → NoW u → (i : ℕ) → get_or (bytes u) i 0 ≡ byte W → ⊥
none_there [] h i e = omega (arith, e)
none_there (l ∷ u) h zero e = h.0 e
none_there (l ∷ u) h (suc i) e = none_there u h.1 i e

of_append : (u v : List Letter) → NoW u → NoW v → NoW (u ++ v)
of_append [] v h k = k
of_append (l ∷ u) v h k = (h.0, of_append u v h.1 k)

of_times : (n : ℕ) (l : Letter) → (byte l ≡ byte W → ⊥) → NoW (times n l)
of_times zero l h = tt
of_times (suc n) l h = (h, of_times n l h)

of_front : (f : Front) → NoW (front_word f)
of_front nothing = tt
of_front onlyH = ((λ e. omega arith), tt)
of_front onlySH = ((λ e. omega arith), ((λ e. omega arith), tt))

of_or_i : (u : List Letter) → NoW u → NoW (or_i u)
of_or_i [] h = ((λ e. omega arith), tt)
of_or_i (l ∷ u) h = h

of_after : (ss : List Syllable) (u : List Letter) → NoW u → NoW (after ss u)
of_after [] u h = h
of_after (HT ∷ ss) u h = ((λ e. omega arith), ((λ e. omega arith), of_after ss u h))
of_after (SHT ∷ ss) u h = ((λ e. omega arith), ((λ e. omega arith), ((λ e. omega arith), of_after ss u h)))

of_leading : (b : Bool) (u : List Letter) → NoW u → NoW (leading b u)
of_leading true u h = ((λ e. omega arith), h)
of_leading false u h = h

of_spell : (n : Shape) → NoW (spell (without_w n))
of_spell n =
    let t = n.tail in
    let ss = of_append (times t.ss S) [] (of_times t.ss S (λ e. omega arith)) tt in
    let xs = of_append (times t.xs X) (times t.ss S ++ []) (of_times t.xs X (λ e. omega arith)) ss in
    let u = tail_word (without_w n).tail in
    of_leading n.lead (after n.syllables (or_i u))
    (of_after n.syllables (or_i u) (of_or_i u (of_append (front_word t.front) (times t.xs X ++ (times t.ss S ++ [])) (of_front t.front) xs)))

pub phase_free_no_W : {u v : List Letter} → PhaseFree u v → (place : ℕ) → First (byte W) (bytes u) place → ⊥
phase_free_no_W {u} f place h = none_there u (subst NoW f.spelled (of_spell f.normal.shape)) place h.is
