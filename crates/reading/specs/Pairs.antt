-- Two letters at once: the kind of change to the syllables, and the Clifford behind them. TT is S and changes no syllable. Assumes nothing.
use Rattle.std.specs.Prelude.{◌≡◌, refl, Bool, true, false, ◌&&◌, List, [], ◌∷◌, ℕ, zero, suc, ◌≤◌, T, eqb}
use Rattle.std.proofs.Common.{◌∙◌, ap, append_assoc, arith, eqb→eq}
use Rattle.std.proofs.Math.Facts.{and_yes}
use Rattle.exact.specs.Meaning.Word.{Letter, I, H, S, X, W, T'}
use Rattle.exact.specs.Meaning.Normal.{Syllable, HT, SHT}
use Rattle.clifford.specs.declared.Axis.{Axis}
use Rattle.clifford.specs.declared.Clifford.{Clifford}
use Rattle.clifford.specs.Meaning.{letters, Ranged, axis_number}
use Rattle.clifford.proofs.Unique.{axis_at_lem, one_Clifford}
use Rattle.clifford.specs.Words.{◌≈◌}
use Rattle.clifford.proofs.Words.{by_eq, by_sym, ◌⨾◌, under, before}
use Rattle.clifford.specs.Tables.{quadruple, all}
use Rattle.clifford.proofs.Tables.{at, all3, at3}
use Rattle.clifford.specs.Cliffords.{mul_c, tconj_c, clifford_x, clifford_s, clifford_w, clifford_h, clifford_HS, clifford_SHS}
use Rattle.clifford.proofs.Cliffords.{mul_ranged, tconj_ranged, H_ranged}
use Rattle.reading.specs.Readings.{State, state, tee, read, times_Clifford, X_ranged, W_ranged, S_ranged, HS_ranged, SHS_ranged}

-- ---- one letter: 0 where the syllables stay, 1 where a T meets the last of them, 2 where HT is added and 3 where SHT is
abbrev pub kind_of : Axis → ℕ
kind_of Axis.I = 1
kind_of Axis.H = 2
kind_of Axis.SH = 3

abbrev pub after : ℕ → Clifford → Bool → List Syllable → State
after zero q b ss = state b ss q
after (suc zero) q b ss = tee Axis.I q b ss
after (suc (suc zero)) q b ss = tee Axis.H q b ss
after (suc (suc (suc n))) q b ss = tee Axis.SH q b ss

abbrev pub kind : Letter → Clifford → ℕ
kind I q = 0
kind H q = 0
kind S q = 0
kind X q = 0
kind W q = 0
kind T' q = kind_of (tconj_c q).axis

abbrev pub next : Letter → Clifford → Clifford
next I q = q
next H q = mul_c q clifford_h
next S q = mul_c q clifford_s
next X q = mul_c q clifford_x
next W q = mul_c q clifford_w
next T' q = (tconj_c q).rest

tee_after : (a : Axis) (q : Clifford) (b : Bool) (ss : List Syllable) → tee a q b ss ≡ after (kind_of a) q b ss
tee_after Axis.I q b ss = refl
tee_after Axis.H q b ss = refl
tee_after Axis.SH q b ss = refl

one : (l : Letter) (st : State) → read l st ≡ after (kind l st.q) (next l st.q) st.lead st.stack
one I st = refl
one H st = refl
one S st = refl
one X st = refl
one W st = refl
one T' st = tee_after (tconj_c st.q).axis (tconj_c st.q).rest st.lead st.stack

-- ---- two letters
abbrev tee_kind : Letter → Clifford → ℕ
tee_kind I q = kind T' q
tee_kind H q = kind T' q
tee_kind S q = kind T' q
tee_kind X q = kind T' q
tee_kind W q = kind T' q
tee_kind T' q = 0

abbrev tee_next : Letter → Clifford → Clifford
tee_next I q = next T' q
tee_next H q = next H (next T' q)
tee_next S q = next S (next T' q)
tee_next X q = next X (next T' q)
tee_next W q = next W (next T' q)
tee_next T' q = next S q

abbrev pub kind₂ : Letter → Letter → Clifford → ℕ
kind₂ I m q = kind m q
kind₂ H m q = kind m (next H q)
kind₂ S m q = kind m (next S q)
kind₂ X m q = kind m (next X q)
kind₂ W m q = kind m (next W q)
kind₂ T' m q = tee_kind m q

abbrev pub next₂ : Letter → Letter → Clifford → Clifford
next₂ I m q = next m q
next₂ H m q = next m (next H q)
next₂ S m q = next m (next S q)
next₂ X m q = next m (next X q)
next₂ W m q = next m (next W q)
next₂ T' m q = tee_next m q

pub kind_few : (l m : Letter) (q : Clifford) → kind₂ l m q ≤ 3
kind_few l m q = go l m
  where
    axis_few : (a : Axis) → kind_of a ≤ 3
    axis_few Axis.I = omega arith
    axis_few Axis.H = omega arith
    axis_few Axis.SH = omega arith

    one_few : (m : Letter) (q : Clifford) → kind m q ≤ 3
    one_few I q = omega arith
    one_few H q = omega arith
    one_few S q = omega arith
    one_few X q = omega arith
    one_few W q = omega arith
    one_few T' q = axis_few (tconj_c q).axis

    tee_few : (m : Letter) → tee_kind m q ≤ 3
    tee_few I = one_few T' q
    tee_few H = one_few T' q
    tee_few S = one_few T' q
    tee_few X = one_few T' q
    tee_few W = one_few T' q
    tee_few T' = omega arith

    go : (l m : Letter) → kind₂ l m q ≤ 3
    go I m = one_few m q
    go H m = one_few m (next H q)
    go S m = one_few m (next S q)
    go X m = one_few m (next X q)
    go W m = one_few m (next W q)
    go T' m = tee_few m

-- ---- a Clifford letter behind a T
pub mul_assoc : (x y z : Clifford) → Ranged x → Ranged y → Ranged z → mul_c (mul_c x y) z ≡ mul_c x (mul_c y z)
mul_assoc x y z hx hy hz =
    one_Clifford (mul_c (mul_c x y) z) (mul_c x (mul_c y z)) (mul_ranged (mul_c x y) z) (mul_ranged x (mul_c y z)) whole.same
  where
    whole : letters (mul_c (mul_c x y) z) ≈ letters (mul_c x (mul_c y z))
    whole =
        by_sym (times_Clifford (mul_c x y) z (mul_ranged x y) hz)
        ⨾ before (by_sym (times_Clifford x y hx hy)) (letters z)
        ⨾ by_eq (append_assoc (letters x) (letters y) (letters z))
        ⨾ under (letters x) (times_Clifford y z hy hz)
        ⨾ times_Clifford x (mul_c y z) hx (mul_ranged y z)

abbrev times_state : Clifford → State → State
times_state c st = state st.lead st.stack (mul_c st.q c)

module _ (c : Clifford) (hc : Ranged c) where
  behind : (a : Axis) (r : Clifford) → Ranged r → (b : Bool) (ss : List Syllable) → times_state c (tee a r b ss) ≡ tee a (mul_c r c) b ss
  behind Axis.H r hr b ss = refl
  behind Axis.SH r hr b ss = refl
  behind Axis.I r hr b (HT ∷ ss) = ap (state b ss) (mul_assoc clifford_HS r c HS_ranged hr hc)
  behind Axis.I r hr b (SHT ∷ ss) = ap (state b ss) (mul_assoc clifford_SHS r c SHS_ranged hr hc)
  behind Axis.I r hr true [] = ap (state false []) (mul_assoc clifford_s r c S_ranged hr hc)
  behind Axis.I r hr false [] = refl

  tee_then : (st : State) → times_state c (read T' st) ≡ after (kind T' st.q) (mul_c (next T' st.q) c) st.lead st.stack
  tee_then st =
      behind (tconj_c st.q).axis (tconj_c st.q).rest (tconj_ranged st.q) st.lead st.stack
      ∙ tee_after (tconj_c st.q).axis (mul_c (tconj_c st.q).rest c) st.lead st.stack

-- ---- T and T: whatever the syllables, they are there again
abbrev pub eq_clifford : Clifford → Clifford → Bool
eq_clifford x y = (eqb x.a y.a && eqb x.b y.b) && (eqb x.c y.c && eqb x.d y.d)

pub eq_clifford_is : (x y : Clifford) → T (eq_clifford x y) → x ≡ y
eq_clifford_is x y t =
    let s = and_yes (eqb x.a y.a && eqb x.b y.b) (eqb x.c y.c && eqb x.d y.d) t in
    let u = and_yes (eqb x.a y.a) (eqb x.b y.b) s.0 in
    let v = and_yes (eqb x.c y.c) (eqb x.d y.d) s.1 in
    let ea : x.a ≡ y.a = eqb→eq x.a y.a u.0 in
    let eb : x.b ≡ y.b = eqb→eq x.b y.b u.1 in
    let ec : x.c ≡ y.c = eqb→eq x.c y.c v.0 in
    let ed : x.d ≡ y.d = eqb→eq x.d y.d v.1 in
    λ i. record { a = ea i; b = eb i; c = ec i; d = ed i }

-- the T passes x with this axis, and then g stands behind it
abbrev passes : Axis → Clifford → Clifford → Clifford → Bool
passes a x y g = eqb (axis_number (tconj_c x).axis) (axis_number a) && eq_clifford y g

-- it passes r with no axis, and then meets a syllable that makes c; or it passes what such a syllable made
abbrev meets : Clifford → Clifford → Clifford → Bool
meets c r g = passes Axis.I r (mul_c c (tconj_c r).rest) g

abbrev parts : Axis → Clifford → Clifford → Clifford → Bool
parts a c r g = passes a (mul_c c r) (tconj_c (mul_c c r)).rest g

abbrev front_test : Clifford → Clifford → Bool
front_test r g = meets clifford_s r g && parts Axis.I clifford_s r g

abbrev back_test : Clifford → Clifford → Bool
back_test r g = parts Axis.H clifford_HS r g && parts Axis.SH clifford_SHS r g

abbrev twice_test : Axis → Clifford → Clifford → Bool
twice_test Axis.H r g = meets clifford_HS r g
twice_test Axis.SH r g = meets clifford_SHS r g
twice_test Axis.I r g = front_test r g && back_test r g

passed : (a : Axis) (x y g : Clifford) (b b' : Bool) (ss ss' : List Syllable)
    → tee a (tconj_c x).rest b ss ≡ state b' ss' y
    → T (passes a x y g)
    → read T' (state b ss x) ≡ state b' ss' g
passed a x y g b b' ss ss' e t =
    let s = and_yes (eqb (axis_number (tconj_c x).axis) (axis_number a)) (eq_clifford y g) t in
    let same : (tconj_c x).axis ≡ a = axis_at_lem (tconj_c x).axis a (eqb→eq (axis_number (tconj_c x).axis) (axis_number a) s.0) in
    ap (λ (k : Axis). tee k (tconj_c x).rest b ss) same ∙ e ∙ ap (state b' ss') (eq_clifford_is y g s.1)

met : (c r g : Clifford) (b b' : Bool) (ss ss' : List Syllable)
    → tee Axis.I (tconj_c r).rest b ss ≡ state b' ss' (mul_c c (tconj_c r).rest)
    → T (meets c r g)
    → read T' (state b ss r) ≡ state b' ss' g
met c r g = passed Axis.I r (mul_c c (tconj_c r).rest) g

parted : (a : Axis) (c r g : Clifford) (b b' : Bool) (ss ss' : List Syllable)
    → tee a (tconj_c (mul_c c r)).rest b ss ≡ state b' ss' (tconj_c (mul_c c r)).rest
    → T (parts a c r g)
    → read T' (state b ss (mul_c c r)) ≡ state b' ss' g
parted a c r g = passed a (mul_c c r) (tconj_c (mul_c c r)).rest g

twice_by : (a : Axis) (r g : Clifford) → T (twice_test a r g) → (b : Bool) (ss : List Syllable) → read T' (tee a r b ss) ≡ state b ss g
twice_by Axis.H r g t b ss = met clifford_HS r g b b (HT ∷ ss) ss refl t
twice_by Axis.SH r g t b ss = met clifford_SHS r g b b (SHT ∷ ss) ss refl t
twice_by Axis.I r g t b ss = go b ss
  where
    s : T (front_test r g) × T (back_test r g)
    s = and_yes (front_test r g) (back_test r g) t

    u : T (meets clifford_s r g) × T (parts Axis.I clifford_s r g)
    u = and_yes (meets clifford_s r g) (parts Axis.I clifford_s r g) s.0

    v : T (parts Axis.H clifford_HS r g) × T (parts Axis.SH clifford_SHS r g)
    v = and_yes (parts Axis.H clifford_HS r g) (parts Axis.SH clifford_SHS r g) s.1

    go : (b : Bool) (ss : List Syllable) → read T' (tee Axis.I r b ss) ≡ state b ss g
    go b (HT ∷ ss) = parted Axis.H clifford_HS r g b b ss (HT ∷ ss) refl v.0
    go b (SHT ∷ ss) = parted Axis.SH clifford_SHS r g b b ss (SHT ∷ ss) refl v.1
    go true [] = parted Axis.I clifford_s r g false true [] [] refl u.1
    go false [] = met clifford_s r g true false [] [] refl u.0

abbrev twice_at : Clifford → Bool
twice_at q = twice_test (tconj_c q).axis (tconj_c q).rest (mul_c q clifford_s)

abbrev twice_row : ℕ → ℕ → ℕ → Bool
twice_row a b c = all 8 (λ d. twice_at (quadruple a b c d))

twice_table : T (all3 twice_row)
unfolding mul_c tconj_c
twice_table = tt

twice : (st : State) → Ranged st.q → read T' (read T' st) ≡ state st.lead st.stack (mul_c st.q clifford_s)
twice st h =
    let q = st.q in
    twice_by (tconj_c q).axis (tconj_c q).rest (mul_c q clifford_s)
    (at 8 (λ d. twice_at (quadruple q.a q.b q.c d))
    (at3 twice_row twice_table q.a q.b q.c h.a_few h.b_few h.c_few) q.d h.d_few)
    st.lead st.stack

pub two : (l m : Letter) (st : State)
    → Ranged st.q
    → read m (read l st) ≡ after (kind₂ l m st.q) (next₂ l m st.q) st.lead st.stack
two T' T' st h = twice st h
two T' I st h = one T' st
two T' H st h = tee_then clifford_h H_ranged st
two T' S st h = tee_then clifford_s S_ranged st
two T' X st h = tee_then clifford_x X_ranged st
two T' W st h = tee_then clifford_w W_ranged st
two I m st h = one m st
two H m st h = one m (read H st)
two S m st h = one m (read S st)
two X m st h = one m (read X st)
two W m st h = one m (read W st)
