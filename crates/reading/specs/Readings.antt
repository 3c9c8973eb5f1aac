-- Readings: syllables and a Clifford. Reading a letter keeps the matrix of the letters read and the shape, a T at most in front and then
-- HT and SHT. So every word has a normal word, and its length and T letters are known before it is written. Assumes nothing.
use Rattle.std.specs.Prelude.{◌≡◌, refl, Bool, true, false, cond, List, [], ◌∷◌, ◌++◌, ℕ, zero, suc, ◌+◌, ◌≤◌, eqb, length}
use Rattle.std.proofs.Common.{sym, ◌∙◌, ap, ap₂, append_assoc, append-nil, arith, ne_eqb, length-append}
use Rattle.exact.specs.Meaning.Matrix.{Same}
use Rattle.exact.specs.Meaning.Word.{Letter, I, H, S, X, W, T', word, tees}
use Rattle.exact.specs.Meaning.Normal.{Syllable, HT, SHT, Front, nothing, onlyH, onlySH, Tail, Shape, Fits, Normal, times, front_word, tail_word, or_i}
use Rattle.exact.specs.Meaning.Normal.{after, leading, spell, without_w, PhaseFree}
use Rattle.exact.specs.Meaning.Clifford.{cycle}
use Rattle.exact.proofs.Matrices.Same.{Same-of}
use Rattle.exact.proofs.Unique.Normal.{spell_word}
use Rattle.exact.proofs.Unique.Tails.{tees_append}
use Rattle.clifford.specs.declared.Axis.{Axis}
use Rattle.clifford.specs.declared.Clifford.{Clifford}
use Rattle.clifford.specs.declared.Coset.{Coset}
use Rattle.clifford.specs.Meaning.{letters, axis_word, axis_number, Ranged, Split}
use Rattle.clifford.specs.Words.{◌≈◌}
use Rattle.clifford.proofs.Words.{by_test, by_refl, by_eq, by_sym, ◌⨾◌, under, before}
use Rattle.clifford.specs.Cliffords.{mul_c, split_c, tconj_c, clifford_i, clifford_x}
use Rattle.clifford.proofs.Cliffords.{mul_right, mul_ranged, split_right, tconj_ranged, tconj_same, few}
use Rattle.clifford.specs.Cliffords.{clifford_s, clifford_w, clifford_h, clifford_HS, clifford_SHS}
use Rattle.clifford.proofs.Cliffords.{H_is, HS_is, SHS_is, H_ranged}

-- the syllables with the last one first
pub record State : Type 0 where
  pub lead : Bool
  pub stack : List Syllable
  pub q : Clifford

abbrev pub state : Bool → List Syllable → Clifford → State
state b ss q = record { lead = b; stack = ss; q = q }

abbrev pub syllable : Syllable → List Letter
syllable HT = H ∷ T' ∷ []
syllable SHT = S ∷ H ∷ T' ∷ []

abbrev pub prefix : Bool → List Syllable → List Letter
prefix b [] = leading b []
prefix b (s ∷ ss) = prefix b ss ++ syllable s

-- the letters that a reading stands for
abbrev pub text : State → List Letter
text st = prefix st.lead st.stack ++ letters st.q

abbrev pub start : State
start = state false [] clifford_i

-- ---- reading a letter
-- a T whose axis is a, with the Clifford r behind it: T-as-T is S, HT-as-T is HS, SHT-as-T is SHS
abbrev pub tee : Axis → Clifford → Bool → List Syllable → State
tee Axis.H r b ss = state b (HT ∷ ss) r
tee Axis.SH r b ss = state b (SHT ∷ ss) r
tee Axis.I r b (HT ∷ ss) = state b ss (mul_c clifford_HS r)
tee Axis.I r b (SHT ∷ ss) = state b ss (mul_c clifford_SHS r)
tee Axis.I r true [] = state false [] (mul_c clifford_s r)
tee Axis.I r false [] = state true [] r

abbrev pub read : Letter → State → State
read I st = st
read H st = state st.lead st.stack (mul_c st.q clifford_h)
read S st = state st.lead st.stack (mul_c st.q clifford_s)
read X st = state st.lead st.stack (mul_c st.q clifford_x)
read W st = state st.lead st.stack (mul_c st.q clifford_w)
read T' st = tee (tconj_c st.q).axis (tconj_c st.q).rest st.lead st.stack

abbrev pub run : State → List Letter → State
run st [] = st
run st (l ∷ u) = run (read l st) u

pub run_append : (st : State) (u v : List Letter) → run st (u ++ v) ≡ run (run st u) v
run_append st [] v = refl
run_append st (l ∷ u) v = run_append (read l st) u v

-- ---- Cliffords stay in their ranges
tee_ranged : (a : Axis) (r : Clifford) (b : Bool) (ss : List Syllable) → Ranged r → Ranged (tee a r b ss).q
tee_ranged Axis.H r b ss h = h
tee_ranged Axis.SH r b ss h = h
tee_ranged Axis.I r b (HT ∷ ss) h = mul_ranged clifford_HS r
tee_ranged Axis.I r b (SHT ∷ ss) h = mul_ranged clifford_SHS r
tee_ranged Axis.I r true [] h = mul_ranged clifford_s r
tee_ranged Axis.I r false [] h = h

pub read_ranged : (l : Letter) (st : State) → Ranged st.q → Ranged (read l st).q
read_ranged I st h = h
read_ranged H st h = mul_ranged st.q clifford_h
read_ranged S st h = mul_ranged st.q clifford_s
read_ranged X st h = mul_ranged st.q clifford_x
read_ranged W st h = mul_ranged st.q clifford_w
read_ranged T' st h = tee_ranged (tconj_c st.q).axis (tconj_c st.q).rest st.lead st.stack (tconj_ranged st.q)

pub run_ranged : (st : State) (u : List Letter) → Ranged st.q → Ranged (run st u).q
run_ranged st [] h = h
run_ranged st (l ∷ u) h = run_ranged (read l st) u (read_ranged l st h)

-- ---- the matrix of the letters read
pub times_Clifford : (x y : Clifford) → Ranged x → Ranged y → letters x ++ letters y ≈ letters (mul_c x y)
times_Clifford x y hx hy = by_sym (record { same = (mul_right x y hx hy).same })

-- a Clifford before the letters of another, given by a word with the same matrix
gained : (c x : Clifford) (u v : List Letter) → Ranged c → Ranged x → letters c ≈ v → u ≈ v → u ++ letters x ≈ letters (mul_c c x)
gained c x u v hc hx h k = before (k ⨾ by_sym h) (letters x) ⨾ times_Clifford c x hc hx

pub X_ranged : Ranged clifford_x
X_ranged = few 0 1 0 0 (omega arith) (omega arith) (omega arith) (omega arith)

pub W_ranged : Ranged clifford_w
W_ranged = few 0 0 0 1 (omega arith) (omega arith) (omega arith) (omega arith)

pub S_ranged : Ranged clifford_s
S_ranged = few 0 0 1 0 (omega arith) (omega arith) (omega arith) (omega arith)

pub HS_ranged : Ranged clifford_HS
HS_ranged = few 1 0 2 5 (omega arith) (omega arith) (omega arith) (omega arith)

pub SHS_ranged : Ranged clifford_SHS
SHS_ranged = few 2 0 1 3 (omega arith) (omega arith) (omega arith) (omega arith)

tee_same : (a : Axis) (r : Clifford) (b : Bool) (ss : List Syllable)
    → Ranged r
    → prefix b ss ++ (axis_word a ++ (T' ∷ letters r)) ≈ text (tee a r b ss)
tee_same Axis.H r b ss h = by_eq (sym (append_assoc (prefix b ss) (H ∷ T' ∷ []) (letters r)))
tee_same Axis.SH r b ss h = by_eq (sym (append_assoc (prefix b ss) (S ∷ H ∷ T' ∷ []) (letters r)))
tee_same Axis.I r b (HT ∷ ss) h =
    let same = by_test (H ∷ T' ∷ T' ∷ []) (H ∷ S ∷ []) tt in
    by_eq (append_assoc (prefix b ss) (H ∷ T' ∷ []) (T' ∷ letters r))
    ⨾ under (prefix b ss) (gained clifford_HS r (H ∷ T' ∷ T' ∷ []) (H ∷ S ∷ []) HS_ranged h HS_is same)
tee_same Axis.I r b (SHT ∷ ss) h =
    let same = by_test (S ∷ H ∷ T' ∷ T' ∷ []) (S ∷ H ∷ S ∷ []) tt in
    by_eq (append_assoc (prefix b ss) (S ∷ H ∷ T' ∷ []) (T' ∷ letters r))
    ⨾ under (prefix b ss) (gained clifford_SHS r (S ∷ H ∷ T' ∷ T' ∷ []) (S ∷ H ∷ S ∷ []) SHS_ranged h SHS_is same)
tee_same Axis.I r true [] h =
    let same = by_test (T' ∷ T' ∷ []) (S ∷ []) tt in
    gained clifford_s r (T' ∷ T' ∷ []) (S ∷ []) S_ranged h (by_refl (S ∷ [])) same
tee_same Axis.I r false [] h = by_refl (T' ∷ letters r)

-- a Clifford letter goes into the tail
tail_same : (st : State) (c : Clifford) (u : List Letter)
    → Ranged st.q
    → Ranged c
    → letters c ≈ u
    → text st ++ u ≈ text (state st.lead st.stack (mul_c st.q c))
tail_same st c u hq hc h =
    by_eq (append_assoc (prefix st.lead st.stack) (letters st.q) u)
    ⨾ under (prefix st.lead st.stack) (under (letters st.q) (by_sym h) ⨾ times_Clifford st.q c hq hc)

pub read_same : (l : Letter) (st : State) → Ranged st.q → text st ++ (l ∷ []) ≈ text (read l st)
read_same I st h = under (text st) (by_test (I ∷ []) [] tt) ⨾ by_eq (append-nil (text st))
read_same H st h = tail_same st clifford_h (H ∷ []) h H_ranged H_is
read_same S st h = tail_same st clifford_s (S ∷ []) h S_ranged (by_refl (S ∷ []))
read_same X st h = tail_same st clifford_x (X ∷ []) h X_ranged (by_refl (X ∷ []))
read_same W st h = tail_same st clifford_w (W ∷ []) h W_ranged (by_refl (W ∷ []))
read_same T' st h =
    by_eq (append_assoc (prefix st.lead st.stack) (letters st.q) (T' ∷ []))
    ⨾ under (prefix st.lead st.stack) (tconj_same st.q h)
    ⨾ tee_same (tconj_c st.q).axis (tconj_c st.q).rest st.lead st.stack (tconj_ranged st.q)

run_same : (st : State) (u : List Letter) → Ranged st.q → text st ++ u ≈ text (run st u)
run_same st [] h = by_eq (append-nil (text st))
run_same st (l ∷ u) h =
    by_eq (sym (append_assoc (text st) (l ∷ []) u))
    ⨾ before (read_same l st h) u
    ⨾ run_same (read l st) u (read_ranged l st h)

pub start_ranged : Ranged clifford_i
start_ranged = few 0 0 0 0 (omega arith) (omega arith) (omega arith) (omega arith)

-- ---- the normal word
abbrev pub front_of : Axis → Front
front_of Axis.I = nothing
front_of Axis.H = onlyH
front_of Axis.SH = onlySH

-- a Clifford as a tail
abbrev pub tail_at : Coset → Tail
tail_at r = record { front = front_of r.axis; xs = r.rest.b; ss = r.rest.c; ws = r.rest.d }

abbrev pub turned : List Syllable → List Syllable → List Syllable
turned [] acc = acc
turned (s ∷ ss) acc = turned ss (s ∷ acc)

-- a reading's syllables before a tail
abbrev pub shape_to : State → Tail → Shape
shape_to st t = record { lead = st.lead; syllables = turned st.stack []; tail = t }

abbrev pub shape_of : State → Shape
shape_of st = shape_to st (tail_at (split_c st.q))

after_cons : (s : Syllable) (ss : List Syllable) (u : List Letter) → after (s ∷ ss) u ≡ syllable s ++ after ss u
after_cons HT ss u = refl
after_cons SHT ss u = refl

leading_append : (b : Bool) (u : List Letter) → leading b u ≡ leading b [] ++ u
leading_append true u = refl
leading_append false u = refl

turned_is : (b : Bool) (ss acc : List Syllable) (u : List Letter) → leading b (after (turned ss acc) u) ≡ prefix b ss ++ after acc u
turned_is b [] acc u = leading_append b (after acc u)
turned_is b (s ∷ ss) acc u =
    turned_is b ss (s ∷ acc) u
    ∙ ap (λ v. prefix b ss ++ v) (after_cons s acc u)
    ∙ sym (append_assoc (prefix b ss) (syllable s) (after acc u))

-- the prefix, and then the tail
pub spelled : (st : State) (t : Tail) → spell (shape_to st t) ≡ prefix st.lead st.stack ++ or_i (tail_word t)
spelled st t = turned_is st.lead st.stack [] (or_i (tail_word t))

front_is : (a : Axis) → front_word (front_of a) ≡ axis_word a
front_is Axis.I = refl
front_is Axis.H = refl
front_is Axis.SH = refl

pub tail_is : (x : Clifford) (r : Coset) → Split x r → letters x ≈ tail_word (tail_at r)
tail_is x r p =
    let behind = times r.rest.b X ++ (times r.rest.c S ++ times r.rest.d W) in
    record { same = p.same }
    ⨾ by_eq (ap₂ (λ u n. u ++ (cycle n ++ behind)) (sym (front_is r.axis)) p.rest_a)

pub normal_same : (st : State) → Ranged st.q → text st ≈ spell (shape_of st)
normal_same st h =
    under (prefix st.lead st.stack) (tail_is st.q (split_c st.q) (split_right st.q h))
    ⨾ by_eq (sym (turned_is st.lead st.stack [] (tail_word (tail_at (split_c st.q)))))
    ⨾ record { same = Same-of (sym (spell_word (shape_of st))) }

pub fits : (q : Clifford) → Ranged q → Fits (tail_at (split_c q))
fits q h =
    let p = (split_right q h).ranged in
    record { xs_few = omega (arith, p.b_few); ss_few = omega (arith, p.c_few); ws_few = omega (arith, p.d_few) }

-- the normal word of a word
abbrev pub shape : List Letter → Shape
shape u = shape_of (run start u)

pub normal : (u : List Letter) → Normal (spell (shape u))
normal u = record { shape = shape u; fits = fits (run start u).q (run_ranged start u start_ranged); spelled = refl }

pub phase_free : (u v : List Letter) → spell (without_w (shape u)) ≡ v → PhaseFree v (spell (shape u))
unfolding normal
phase_free u v e = record { normal = normal u; spelled = e }

pub normal_of : (u : List Letter) → Same (word u) (word (spell (shape u)))
normal_of u = (run_same start u start_ranged ⨾ normal_same (run start u) (run_ranged start u start_ranged)).same

-- ---- length and T letters
pub times_length : (n : ℕ) (l : Letter) → length (times n l) ≡ n
times_length zero l = refl
times_length (suc n) l = ap suc (times_length n l)

-- a tail's letters as they are written, one I where there is none
abbrev pub tail_size : Clifford → ℕ
tail_size q = length (or_i (tail_word (tail_at (split_c q))))

or_i_length : (u : List Letter) → length (or_i u) ≡ cond (eqb (length u) 0) 1 (length u)
or_i_length [] = refl
or_i_length (l ∷ u) = ap (λ (b : Bool). cond b 1 (length (l ∷ u))) (sym (ne_eqb (length (l ∷ u)) 0 (λ e. omega arith)))

front_length : (a : Axis) → length (front_word (front_of a)) ≡ axis_number a
front_length Axis.I = refl
front_length Axis.H = refl
front_length Axis.SH = refl

-- counted by its axis and the Clifford behind it
abbrev pub letters_in : Coset → ℕ
letters_in r = axis_number r.axis + r.rest.b + r.rest.c + r.rest.d

pub tail_size_lem : (q : Clifford) → tail_size q ≡ cond (eqb (letters_in (split_c q)) 0) 1 (letters_in (split_c q))
tail_size_lem q = or_i_length (tail_word (tail_at (split_c q))) ∙ ap (λ (n : ℕ). cond (eqb n 0) 1 n) whole
  where
    r : Coset
    r = split_c q

    whole : length (tail_word (tail_at r)) ≡ letters_in r
    whole = simp (length-append, times_length) (omega (arith, front_length r.axis))

-- the bytes of the text of a reading
abbrev pub text_size : State → ℕ
text_size st = length (spell (shape_of st))

pub text_size_lem : (st : State) → text_size st ≡ length (prefix st.lead st.stack) + tail_size st.q
text_size_lem st =
    ap length (spelled st (tail_at (split_c st.q)))
    ∙ length-append (prefix st.lead st.stack) (or_i (tail_word (tail_at (split_c st.q))))

abbrev pub size : Bool → List Syllable → ℕ
size b ss = cond b 1 0 + length ss

-- one law for a syllable that is added, which is that of one removed
pub prefix_length : (b : Bool) (s : Syllable) (ss : List Syllable) → length (prefix b (s ∷ ss)) ≡ length (prefix b ss) + length (syllable s)
prefix_length b s ss = length-append (prefix b ss) (syllable s)

syllable_tees : (s : Syllable) → tees (syllable s) ≡ 1
syllable_tees HT = refl
syllable_tees SHT = refl

pub prefix_tees : (b : Bool) (ss : List Syllable) → tees (prefix b ss) ≡ size b ss
prefix_tees true [] = refl
prefix_tees false [] = refl
prefix_tees b (s ∷ ss) = omega (arith, tees_append (prefix b ss) (syllable s), syllable_tees s, prefix_tees b ss)

-- a reading has at most as many syllables as letters were read
tee_size : (a : Axis) (r : Clifford) (b : Bool) (ss : List Syllable) → size (tee a r b ss).lead (tee a r b ss).stack ≤ size b ss + 1
tee_size Axis.H r b ss = omega arith
tee_size Axis.SH r b ss = omega arith
tee_size Axis.I r b (HT ∷ ss) = omega arith
tee_size Axis.I r b (SHT ∷ ss) = omega arith
tee_size Axis.I r true [] = omega arith
tee_size Axis.I r false [] = omega arith

abbrev pub size_of : State → ℕ
size_of st = size st.lead st.stack

pub read_size : (l : Letter) (st : State) → size_of (read l st) ≤ size_of st + 1
read_size I st = omega arith
read_size H st = omega arith
read_size S st = omega arith
read_size X st = omega arith
read_size W st = omega arith
read_size T' st = tee_size (tconj_c st.q).axis (tconj_c st.q).rest st.lead st.stack

pub run_size : (st : State) (u : List Letter) → size_of (run st u) ≤ size_of st + length u
run_size st [] = omega arith
run_size st (l ∷ u) = omega (arith, read_size l st, run_size (read l st) u)
