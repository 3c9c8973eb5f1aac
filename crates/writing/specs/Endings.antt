-- The letters of a tail, counted one letter after the other, with its W letters or without. Assumes nothing.
use Rattle.std.specs.Prelude.{◌≡◌, refl, Bool, true, false, cond, List, [], ◌∷◌, ◌++◌, ℕ, zero, suc, ◌+◌, ◌-◌, ◌≤◌, ◌<◌, eqb, ltb, length, get_or}
use Rattle.std.proofs.Common.{sym, ◌∙◌, ap, subst, append-nil, zero-add, suc-add, arith, length-append, eqb-true, ne_eqb, ltb-true, ltb-false}
use Rattle.std.proofs.lemmas.Bool.{eqb-false}
use Rattle.exact.specs.Meaning.Word.{Letter, I, H, S, X, W, byte, bytes, tees}
use Rattle.exact.specs.Meaning.Normal.{Tail, times, tail_word, or_i, spell}
use Rattle.exact.proofs.Unique.Tails.{tees_append}
use Rattle.clifford.specs.declared.Axis.{Axis}
use Rattle.clifford.specs.declared.Clifford.{Clifford}
use Rattle.clifford.specs.declared.Coset.{Coset}
use Rattle.writing.specs.declared.Ending.{Ending}
use Rattle.clifford.specs.Meaning.{Ranged}
use Rattle.clifford.specs.Cliffords.{split_c}
use Rattle.clifford.proofs.Cliffords.{split_right}
use Rattle.reading.specs.Readings.{State, prefix, front_of, shape_to, spelled, times_length}

abbrev pub esses_of : Axis → ℕ
esses_of Axis.I = 0
esses_of Axis.H = 0
esses_of Axis.SH = 1

abbrev pub aitches_of : Axis → ℕ
aitches_of Axis.I = 0
aitches_of Axis.H = 1
aitches_of Axis.SH = 1

-- the letters from each run on
abbrev from_s : Ending → List Letter
from_s e = times e.s S ++ times e.w W

abbrev from_x : Ending → List Letter
from_x e = times e.x X ++ from_s e

abbrev from_i : Ending → List Letter
from_i e = times e.i I ++ from_x e

abbrev from_h : Ending → List Letter
from_h e = times e.h H ++ from_i e

abbrev pub end_word : Ending → List Letter
end_word e = times e.first S ++ from_h e

abbrev pub end_size : Ending → ℕ
end_size e = e.first + e.h + e.i + e.x + e.s + e.w

-- ---- the letter at a place
-- where each run ends
abbrev pub to_h : Ending → ℕ
to_h e = e.first + e.h

abbrev pub to_i : Ending → ℕ
to_i e = to_h e + e.i

abbrev pub to_x : Ending → ℕ
to_x e = to_i e + e.x

abbrev pub to_s : Ending → ℕ
to_s e = to_x e + e.s

-- and the letter there
abbrev at_s : Ending → ℕ → ℕ
at_s e j = cond (ltb j (to_s e)) 83 87

abbrev at_x : Ending → ℕ → ℕ
at_x e j = cond (ltb j (to_x e)) 88 (at_s e j)

abbrev at_i : Ending → ℕ → ℕ
at_i e j = cond (ltb j (to_i e)) 73 (at_x e j)

abbrev at_h : Ending → ℕ → ℕ
at_h e j = cond (ltb j (to_h e)) 72 (at_i e j)

abbrev pub letter_in : Ending → ℕ → ℕ
letter_in e j = cond (ltb j e.first) 83 (at_h e j)

-- among some of one letter, or past them
in_run : (n : ℕ) (l : Letter) (u : List Letter) (j : ℕ) → j < n → byte l ≡ get_or (bytes (times n l ++ u)) j 0
in_run zero l u j h = absurd (omega arith)
in_run (suc n) l u zero h = refl
in_run (suc n) l u (suc j) h = in_run n l u j (omega arith)

past_run : (n : ℕ) (l : Letter) (u : List Letter) (j k : ℕ) → j ≡ n + k → get_or (bytes u) k 0 ≡ get_or (bytes (times n l ++ u)) j 0
past_run zero l u j k e = ap (λ i. get_or (bytes u) i 0) (sym (e ∙ zero-add k))
past_run (suc n) l u j k e = rw (e ∙ suc-add n k) (past_run n l u (n + k) k refl)

-- place j of all is place k of these letters, which end at b
run_next : (b n : ℕ) (l : Letter) (u : List Letter) (j k x : ℕ)
    → j + n ≡ k + b
    → (b ≤ j → x ≡ get_or (bytes u) (j - b) 0)
    → cond (ltb j b) (byte l) x ≡ get_or (bytes (times n l ++ u)) k 0
run_next b n l u j k x h f = go (ltb j b) refl
  where
    go : (t : Bool) → ltb j b ≡ t → cond t (byte l) x ≡ get_or (bytes (times n l ++ u)) k 0
    go true e = in_run n l u k (omega (arith, ltb-true j b e))
    go false e = f (ltb-false j b e) ∙ past_run n l u k (j - b) (omega (arith, ltb-false j b e))

pub letter_in_lem : (e : Ending) (j : ℕ) → j < end_size e → letter_in e j ≡ get_or (bytes (end_word e)) j 0
letter_in_lem e j h = run_next e.first e.first S (from_h e) j j (at_h e j) refl after_s
  where
    after_all : to_s e ≤ j → 87 ≡ get_or (bytes (times e.w W)) (j - to_s e) 0
    after_all k =
        in_run e.w W [] (j - to_s e) (omega (arith, h, k))
        ∙ ap (λ v. get_or (bytes v) (j - to_s e) 0) (append-nil (times e.w W))

    after_x : to_x e ≤ j → at_s e j ≡ get_or (bytes (from_s e)) (j - to_x e) 0
    after_x k = run_next (to_s e) e.s S (times e.w W) j (j - to_x e) 87 (omega (arith, k)) after_all

    after_i : to_i e ≤ j → at_x e j ≡ get_or (bytes (from_x e)) (j - to_i e) 0
    after_i k = run_next (to_x e) e.x X (from_s e) j (j - to_i e) (at_s e j) (omega (arith, k)) after_x

    after_h : to_h e ≤ j → at_i e j ≡ get_or (bytes (from_i e)) (j - to_h e) 0
    after_h k = run_next (to_i e) e.i I (from_x e) j (j - to_h e) (at_x e j) (omega (arith, k)) after_i

    after_s : e.first ≤ j → at_h e j ≡ get_or (bytes (from_h e)) (j - e.first) 0
    after_s k = run_next (to_h e) e.h H (from_i e) j (j - e.first) (at_i e j) (omega (arith, k)) after_h

-- the W letters of a tail that are written
abbrev pub kept_of : Bool → Coset → ℕ
kept_of phase r = cond phase r.rest.d 0

-- a tail with no letter to write is one I
abbrev ending_by : Axis → Clifford → ℕ → Ending
ending_by a c w =
    record {
      first = esses_of a;
      h = aitches_of a;
      i = cond (eqb (esses_of a + aitches_of a + c.b + c.c + w) 0) 1 0;
      x = c.b;
      s = c.c;
      w = w;
    }

abbrev pub ending_at : Bool → Coset → Ending
ending_at phase r = ending_by r.axis r.rest (kept_of phase r)

abbrev pub ending_of : Bool → Clifford → Ending
ending_of phase q = ending_at phase (split_c q)

-- a size that a program's number holds
abbrev pub Sized : ℕ → Type 0
Sized n = n < 9223372036854775808

pub record Ended (phase : Bool) (q : Clifford) (r : Ending) : Type 0 where
  pub is : r ≡ ending_of phase q
  pub few : end_size r ≤ 64

-- ---- sizes
pub end_length : (e : Ending) → length (end_word e) ≡ end_size e
end_length e = simp (length-append, times_length) (omega arith)

axis_few : (a : Axis) → esses_of a + aitches_of a ≤ 2
axis_few Axis.I = omega arith
axis_few Axis.H = omega arith
axis_few Axis.SH = omega arith

cond_few : (b : Bool) (n m : ℕ) → cond b n m ≤ n + m
cond_few true n m = omega arith
cond_few false n m = omega arith

pub end_few : (phase : Bool) (q : Clifford) → Ranged q → end_size (ending_of phase q) ≤ 64
end_few phase q h =
    let r = split_c q in
    let p = (split_right q h).ranged in
    let n = esses_of r.axis + aitches_of r.axis + r.rest.b + r.rest.c + kept_of phase r in
    omega (arith, p.b_few, p.c_few, p.d_few, axis_few r.axis, cond_few phase r.rest.d 0, cond_few (eqb n 0) 1 0)

-- ---- the tail with the W letters that are kept, I where it is empty
or_i_more : (u : List Letter) → (length u ≡ 0 → ⊥) → or_i u ≡ u
or_i_more [] f = absurd (f refl)
or_i_more (l ∷ u) f = refl

end_none : (x s w : ℕ) (b : Bool)
    → eqb (0 + 0 + x + s + w) 0 ≡ b
    → times (cond b 1 0) I ++ (times x X ++ (times s S ++ times w W)) ≡ or_i (times x X ++ (times s S ++ times w W))
end_none x s w true k =
    let z : 0 + 0 + x + s + w ≡ 0 = eqb-true (0 + 0 + x + s + w) 0 k in
    let a : x ≡ 0 = omega arith in
    let b : s ≡ 0 = omega arith in
    let c : w ≡ 0 = omega arith in
    rw (a, b, c)
end_none x s w false k =
    let z : (0 + 0 + x + s + w ≡ 0 → ⊥) = eqb-false (0 + 0 + x + s + w) 0 k in
    sym (or_i_more (times x X ++ (times s S ++ times w W)) (λ e. z (omega (arith, simp (length-append, times_length) at e))))

abbrev pub tail_kept : Bool → Coset → Tail
tail_kept phase r = record { front = front_of r.axis; xs = r.rest.b; ss = r.rest.c; ws = kept_of phase r }

end_at : (a : Axis) (c : Clifford) (w : ℕ)
    → end_word (ending_by a c w) ≡ or_i (tail_word (record { front = front_of a; xs = c.b; ss = c.c; ws = w }))
end_at Axis.H c w = rw (ne_eqb (0 + 1 + c.b + c.c + w) 0 (λ z. omega arith))
end_at Axis.SH c w = rw (ne_eqb (1 + 1 + c.b + c.c + w) 0 (λ z. omega arith))
end_at Axis.I c w = end_none c.b c.c w (eqb (0 + 0 + c.b + c.c + w) 0) refl

pub end_whole : (phase : Bool) (r : Coset) → end_word (ending_at phase r) ≡ or_i (tail_word (tail_kept phase r))
end_whole phase r = end_at r.axis r.rest (kept_of phase r)

-- the text of a reading
abbrev pub text_of : Bool → State → List Letter
text_of phase st = prefix st.lead st.stack ++ end_word (ending_of phase st.q)

pub text_is : (phase : Bool) (st : State) → spell (shape_to st (tail_kept phase (split_c st.q))) ≡ text_of phase st
text_is phase st =
    let r = split_c st.q in
    spelled st (tail_kept phase r) ∙ ap (λ x. prefix st.lead st.stack ++ x) (sym (end_whole phase r))

-- ---- T letters
pub times_tees : (n : ℕ) (l : Letter) → Rattle.exact.specs.Meaning.Word.tee l ≡ 0 → tees (times n l) ≡ 0
times_tees zero l e = refl
times_tees (suc n) l e = omega (arith, times_tees n l e)

pub end_tees : (e : Ending) → tees (end_word e) ≡ 0
end_tees e = simp (tees_append, times_tees)

-- ---- as the program has it
pub record Few (r : Coset) : Type 0 where
  pub axis : esses_of r.axis + aitches_of r.axis ≤ 2
  pub b : r.rest.b ≤ 1
  pub c : r.rest.c ≤ 3
  pub d : r.rest.d ≤ 7

pub split_few : {q : Clifford} {r : Coset} → Ranged q → r ≡ split_c q → Few r
split_few {q} h e =
    let p = (split_right q h).ranged in
    rw e
    (record {
      axis = axis_few (split_c q).axis;
      b = omega (arith, p.b_few);
      c = omega (arith, p.c_few);
      d = omega (arith, p.d_few);
    })

pub kept_few : (phase : Bool) {r : Coset} {w last : ℕ} → Few r → w ≡ r.rest.d → last ≡ cond phase w 0 → last ≤ 7
kept_few phase {r} {w} h e k = omega (arith, h.d, cond_few phase w 0)

pub ended : {phase : Bool} {q : Clifford} {r : Coset} {first h i x s w last : ℕ}
    → Ranged q
    → r ≡ split_c q
    → first ≡ esses_of r.axis
    → h ≡ aitches_of r.axis
    → x ≡ r.rest.b
    → s ≡ r.rest.c
    → w ≡ r.rest.d
    → last ≡ cond phase w 0
    → i ≡ cond (eqb (first + h + x + s + last) 0) 1 0
    → Ended phase q (record { first = first; h = h; i = i; x = x; s = s; w = last })
ended {phase} {q} {r} {first} {h} {i} {x} {s} {w} {last} k e e₁ e₂ e₃ e₄ e₅ e₆ e₇ =
    record { is = is; few = subst (λ (n : Ending). end_size n ≤ 64) (sym is) (end_few phase q k) }
  where
    is : ◌≡◌ {A = Ending} (record { first = first; h = h; i = i; x = x; s = s; w = last }) (ending_of phase q)
    is = rw (e₇, e₆, e₁, e₂, e₃, e₄, e₅, e)
