-- The whole record: its text is that of its lines, which determines the numbers; two outcomes of one input are one. Assumes nothing.
use Rattle.std.specs.Prelude.{◌≡◌, List, [], ◌∷◌, ◌++◌, ℕ, ◌-◌, ◌≤◌, ◌<◌, ℤ, length, drop, refl, Result, Ok, Err}
use Rattle.std.proofs.Common.{sym, ◌∙◌, ap, ap₂, append_assoc, append-nil, arith, length-drop, drop_of_length-le}
use Rattle.exact.specs.Meaning.Number.{Ω}
use Rattle.exact.specs.declared.Refusal.{Refusal}
use Rattle.exact.specs.Meaning.Handed.{number}
use Rattle.exact.specs.Meaning.Limits.{record_refusal}
use Rattle.exact.specs.Meaning.Outcome.{Rung, none, ◌then◌}
use Rattle.exact.specs.Meaning.Record.{Numbers, RingInRange, RightRecord, digits, text, line, four, record_text}
use Rattle.exact.specs.Meaning.Refusals.{malformed}
use Rattle.exact.proofs.Outcomes.Handed.{number_some}
use Rattle.exact.proofs.Outcomes.Ladder.{Only, one_outcome}
use Rattle.exact.proofs.Outcomes.Places.{one_plain}
use Rattle.decimal.specs.Format.{Format, Found, Missing, Once, natural, whole, once_natural, once_whole}
use Rattle.ring.specs.declared.Triple.{Triple}
use Rattle.record.specs.Meaning.{Record, numbers, refused_record, record_of, Reads, ReadOutcome}
use Rattle.record.specs.Format.{Four, before, named, four_numbers, k_line, n_line, ring_line, once_named, once_both}

-- ---- the lines together
abbrev pub zw_lines : Format (((Unit {0}) × Four) × ((Unit {0}) × Four))
zw_lines = before (ring_line 122) (ring_line 119)

abbrev pub nzw_lines : Format (((Unit {0}) × ℕ) × (((Unit {0}) × Four) × ((Unit {0}) × Four)))
nzw_lines = before n_line zw_lines

abbrev pub Lines : Type 0
Lines = ((Unit {0}) × ℤ) × (((Unit {0}) × ℕ) × (((Unit {0}) × Four) × ((Unit {0}) × Four)))

abbrev pub all_lines : Format Lines
all_lines = before k_line nzw_lines

abbrev pub ring : Ω → Four
ring x = (x.a, (x.b, (x.c, x.d)))

abbrev pub lines : Numbers → Lines
lines x = ((tt, x.k), ((tt, x.n), ((tt, ring x.z), (tt, ring x.w))))

-- four texts parted by commas, and LF, however they are joined
joined : (a b c d : List ℕ) → (a ++ (44 ∷ (b ++ (44 ∷ (c ++ (44 ∷ d)))))) ++ (10 ∷ [])
    ≡ (a ++ (44 ∷ [])) ++ ((b ++ (44 ∷ [])) ++ ((c ++ (44 ∷ [])) ++ (d ++ (10 ∷ []))))
joined a b c d = simp append_assoc

ring_shown : (name : ℕ) (x : Ω) → line (name ∷ []) (four x) ≡ (ring_line name).show (tt, ring x)
ring_shown name x = ap (λ l. name ∷ (61 ∷ l)) (joined (text x.a) (text x.b) (text x.c) (text x.d))

shown : (x : Numbers) → record_text x ≡ all_lines.show (lines x)
shown x =
    ap₂ (λ z w. line (107 ∷ []) (text x.k) ++ (line (110 ∷ []) (digits x.n) ++ (z ++ w)))
    (ring_shown 122 x.z) (ring_shown 119 x.w)

-- ---- it determines the numbers
pub once_k : Once k_line
once_k = once_both (named 107) (whole 10) (once_named 107) (once_whole 10 (omega arith))

pub once_n : Once n_line
once_n = once_both (named 110) (natural 255 10) (once_named 110) (once_natural 10 (omega arith) 255)

part : Once (whole 44)
part = once_whole 44 (omega arith)

once_four : Once four_numbers
once_four =
    once_both (whole 44) (before (whole 44) (before (whole 44) (whole 10))) part
    (once_both (whole 44) (before (whole 44) (whole 10)) part
    (once_both (whole 44) (whole 10) part (once_whole 10 (omega arith))))

pub once_ring : (name : ℕ) → Once (ring_line name)
once_ring name = once_both (named name) four_numbers (once_named name) once_four

once_all : Once all_lines
once_all =
    once_both k_line nzw_lines once_k
    (once_both n_line zw_lines once_n
    (once_both (ring_line 122) (ring_line 119) (once_ring 122) (once_ring 119)))

-- the record of a refusal number and the lines' numbers
abbrev build : ℕ → Lines → Record
build r v = record {
  refusal = r;
  k = v.0.1;
  n = v.1.0.1;
  za = v.1.1.0.1.0;
  zb = v.1.1.0.1.1.0;
  zc = v.1.1.0.1.1.1.0;
  zd = v.1.1.0.1.1.1.1;
  wa = v.1.1.1.1.0;
  wb = v.1.1.1.1.1.0;
  wc = v.1.1.1.1.1.1.0;
  wd = v.1.1.1.1.1.1.1;
}

same_lines : (s : List ℕ) (x y : Numbers) → RightRecord s x → RightRecord s y → lines x ≡ lines y
same_lines s x y p q = (once_all.once (lines x) (lines y) [] [] (ap (λ l. l ++ []) (sym (shown x) ∙ sym p.is ∙ q.is ∙ shown y))).0

-- two numbers with one text are one
pub record_once : (s : List ℕ) (x y : Numbers) → RightRecord s x → RightRecord s y → x ≡ y
record_once s x y p q = ap (λ v. numbers (build 0 v)) (same_lines s x y p q)

-- two outcomes of one input are one
one_read : (s : List ℕ) → Only (Reads s)
one_read s r t p q = ap₂ build (p.taken ∙ sym q.taken) (same_lines s (numbers r) (numbers t) p.right q.right)

pub read_once : (s : List ℕ) (r t : Record) → ReadOutcome s r → ReadOutcome s t → r ≡ t
read_once s = one_outcome refused_record (Reads s) (malformed s then none) (one_plain, tt) (λ h. one_read s)

-- ---- what is handed back tells the result: the numbers, or refusal 8
only_record : (e : Refusal) → number e ≡ record_refusal → e ≡ Refusal.Record
only_record Refusal.Long h = absurd (omega arith)
only_record (Refusal.Letter p) h = absurd (omega arith)
only_record Refusal.Exponent h = absurd (omega arith)
only_record Refusal.Coefficient h = absurd (omega arith)
only_record Refusal.Unitary h = absurd (omega arith)
only_record (Refusal.Deep p) h = absurd (omega arith)
only_record Refusal.Room h = absurd (omega arith)
only_record Refusal.Record h = refl
only_record (Refusal.Statement p) h = absurd (omega arith)
only_record (Refusal.Phase p) h = absurd (omega arith)
only_record Refusal.Slot h = absurd (omega arith)
only_record Refusal.Full h = absurd (omega arith)

pub refused_once : (s : List ℕ) (e : Refusal) → ReadOutcome s (record_of (Err e)) → e ≡ Refusal.Record
refused_once s e (Rung.given p h g) = only_record e (ap (λ (r : Record). r.refusal) g)
refused_once s e (Rung.passed n x) = absurd (number_some e x.taken)

triple : Record → Triple
triple r = record {
  k = r.k;
  n = r.n;
  z = record { a = r.za; b = r.zb; c = r.zc; d = r.zd };
  w = record { a = r.wa; b = r.wb; c = r.wc; d = r.wd };
}

pub result_once : (s : List ℕ) (r t : Result Triple Refusal) → ReadOutcome s (record_of r) → ReadOutcome s (record_of t) → r ≡ t
unfolding triple
result_once s (Ok a) (Ok b) p q = ap (λ (x : Record). Ok (triple x)) (read_once s (record_of (Ok a)) (record_of (Ok b)) p q)
result_once s (Ok a) (Err f) p q =
    absurd (number_some f (sym (ap (λ (x : Record). x.refusal) (read_once s (record_of (Ok a)) (record_of (Err f)) p q))))
result_once s (Err e) (Ok b) p q =
    absurd (number_some e (ap (λ (x : Record). x.refusal) (read_once s (record_of (Err e)) (record_of (Ok b)) p q)))
result_once s (Err e) (Err f) p q = ap Err (refused_once s e p ∙ sym (refused_once s f q))

-- ---- the lines that are found or missing, and the record
module _ (s : List ℕ) where
  pub no_record : Missing all_lines s → (x : Numbers) → RightRecord s x → ⊥
  no_record m x p =
      m.none (lines x) []
      ((tt, p.k_in), ((tt, p.n_in), ((tt, inside p.z_in), (tt, inside p.w_in))))
      (p.is ∙ shown x ∙ sym (append-nil (all_lines.show (lines x))))
    where
      inside : {y : Ω} → RingInRange y → four_numbers.allowed (ring y)
      inside h = (h.a_in, (h.b_in, (h.c_in, h.d_in)))

  pub more_behind : (v : Lines) (end : ℕ) → Found all_lines s s v end → end < length s → (x : Numbers) → RightRecord s x → ⊥
  more_behind v end f h x p =
      let same = sym f.is ∙ p.is ∙ shown x ∙ sym (append-nil (all_lines.show (lines x))) in
      let e = once_all.once v (lines x) (drop end s) [] same in
      let l : length s - end ≡ 0 = sym (length-drop end s) ∙ ap length e.1 in
      omega arith

  pub right_record : (x : Numbers) (end : ℕ) → Found all_lines s s (lines x) end → length s ≤ end → RightRecord s x
  right_record x end f h = record {
    is = f.is ∙ ap (λ l. all_lines.show (lines x) ++ l) (drop_of_length-le s h) ∙ append-nil (all_lines.show (lines x)) ∙ sym (shown x);
    k_in = f.fine.0.1;
    n_in = f.fine.1.0.1;
    z_in = inside f.fine.1.1.0.1;
    w_in = inside f.fine.1.1.1.1;
  }
    where
      inside : {y : Ω} → four_numbers.allowed (ring y) → RingInRange y
      inside h = record { a_in = h.0; b_in = h.1.0; c_in = h.1.1.0; d_in = h.1.1.1 }
