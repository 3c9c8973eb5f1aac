-- Slots: two allowed outcomes are equal. Assumes nothing.
use Rattle.std.specs.Prelude.{◌≡◌, List, [], ◌∷◌, ◌++◌, ℕ, Result, Ok, Err, IfErr}
use Rattle.std.proofs.Common.{sym, ◌∙◌, ap, ap₂, subst}
use Rattle.exact.specs.declared.Refusal as Handed
use Rattle.exact.specs.Meaning.Handed.{place}
use Rattle.exact.specs.Meaning.Matrix.{Same}
use Rattle.exact.specs.Meaning.Word.{Letter, word}
use Rattle.exact.specs.Meaning.Normal.{Shape, spell, NormalOf}
use Rattle.exact.specs.Meaning.Outcome.{none, ◌then◌}
use Rattle.exact.proofs.Cases.Letters.{byte_inj}
use Rattle.exact.proofs.Matrices.Same.{Same-sym, Same-trans}
use Rattle.exact.proofs.Unique.Normal.{shape_unique}
use Rattle.exact.proofs.Outcomes.Handed.{number_some, one_refusal}
use Rattle.exact.proofs.Outcomes.Ladder.{Only, one_outcome}
use Rattle.exact.proofs.Outcomes.Places.{one_plain, one_normal}
use Rattle.clifford.specs.Words.{◌≈◌}
use Rattle.clifford.proofs.Words.{before}
use Rattle.reading.specs.Readings.{start, run, run_ranged, start_ranged, shape, normal_of, fits}
use Rattle.slot.specs.Meaning.{Answer, answer_of, Left, Slot, Shows, GivenBy, slot, refused, long, Measured, LengthOutcome, left, Extended}
use Rattle.slot.specs.Meaning.{add_refusals, AddOutcome}
use Rattle.slot.proofs.Shown.{one_slot, one_shape}
use Rattle.slot.proofs.Letters.{given_shown}

-- letters that give one record have one matrix, and letters that have one matrix give one record
pub one_matrix : {u v : List Letter} {r : Slot} → GivenBy u r → GivenBy v r → Same (word u) (word v)
one_matrix {u} {v} g h =
    let same : shape u ≡ shape v = one_shape (given_shown g) (given_shown h) in
    Same-trans (normal_of u) (subst (λ (n : Shape). Same (word (spell n)) (word v)) (sym same) (Same-sym (normal_of v)))

pub one_form : (u v : List Letter) → Same (word u) (word v) → shape u ≡ shape v
one_form u v e =
    shape_unique (shape u) (shape v) (fits (run start u).q (run_ranged start u start_ranged)) (fits (run start v).q (run_ranged start v start_ranged))
    (Same-trans (Same-sym (normal_of u)) (Same-trans e (normal_of v)))

pub one_record : {u v : List Letter} {r s : Slot} → Same (word u) (word v) → GivenBy u r → GivenBy v s → r ≡ s
one_record {u} {v} {r} {s} e g h = one_slot (subst (λ (n : Shape). Shows n r) (one_form u v e) (given_shown g)) (given_shown h)

-- and so they do with a letter more
pub one_more : {u v : List Letter} {r : Slot} → GivenBy u r → GivenBy v r → (l : Letter) → Same (word (u ++ (l ∷ []))) (word (v ++ (l ∷ [])))
one_more {u} {v} g h l = let e : u ≈ v = record { same = one_matrix g h } in (before e (l ∷ [])).same

one_long : (u u' : List Letter) {v v' : List Letter} → Same (word u) (word u') → NormalOf (word u) v → NormalOf (word u') v'
    → long v ≡ long v'
one_long u u' {v} {v'} e a b =
    ap long (one_normal (word u') v v' (record { normal = a.normal; same = Same-trans (Same-sym e) a.same }) b)

one_measured : (r : Slot) → Only (Measured r)
one_measured r a b x y = x.is ∙ one_long x.u y.u (one_matrix x.given y.given) x.normal y.normal ∙ sym y.is

one_extended : (b : ℕ) (r : Slot) → Only (Extended b r)
one_extended b r p q x y = ap₂ left answers slots
  where
    letters : x.l ≡ y.l
    letters = byte_inj x.l y.l (x.byte_is ∙ sym y.byte_is)

    same : Same (word (x.u ++ (x.l ∷ []))) (word (y.u ++ (y.l ∷ [])))
    same =
        subst (λ (l : Letter). Same (word (x.u ++ (x.l ∷ []))) (word (y.u ++ (l ∷ [])))) letters
        (one_more x.given y.given x.l)

    answers : p.answer ≡ q.answer
    answers = x.is ∙ one_long (x.u ++ (x.l ∷ [])) (y.u ++ (y.l ∷ [])) same x.normal y.normal ∙ sym y.is

    slots : p.slot ≡ q.slot
    slots = one_record same x.more y.more

pub length_unique : (r : Slot) → Only (LengthOutcome r)
length_unique r = one_outcome (λ n p. refused n) (Measured r) (slot r then none) (one_plain, tt) (λ h. one_measured r)

pub add_unique : (b : ℕ) (r : Slot) → Only (AddOutcome b r)
add_unique b r =
    one_outcome (λ n p. left (refused n) r) (Extended b r) (add_refusals b r) (one_plain, (one_plain, (one_plain, tt))) (λ h. one_extended b r)

-- ---- and so are the results: what is handed back tells a result whose refusal names no place
result_once : (x y : Result ℕ Handed.Refusal) → IfErr x (λ e. place e ≡ 0) → IfErr y (λ e. place e ≡ 0) → answer_of x ≡ answer_of y → x ≡ y
result_once (Ok m) (Ok n) p q h = ap (λ (a : Answer). Ok a.length) h
result_once (Ok m) (Err f) p q h = absurd (number_some f (sym (ap (λ (a : Answer). a.refusal) h)))
result_once (Err e) (Ok n) p q h = absurd (number_some e (ap (λ (a : Answer). a.refusal) h))
result_once (Err e) (Err f) p q h = ap Err (one_refusal e f (ap (λ (a : Answer). a.refusal) h) (p ∙ sym q))

module _ (x y : Result ℕ Handed.Refusal) (p : IfErr x (λ e. place e ≡ 0)) (q : IfErr y (λ e. place e ≡ 0)) (r : Slot) where
  pub length_result : LengthOutcome r (answer_of x) → LengthOutcome r (answer_of y) → x ≡ y
  length_result o o' = result_once x y p q (length_unique r (answer_of x) (answer_of y) o o')

  pub add_result : (b : ℕ) (s s' : Slot) → AddOutcome b r (left (answer_of x) s) → AddOutcome b r (left (answer_of y) s') → x ≡ y
  add_result b s s' o o' =
      result_once x y p q (ap (λ (l : Left). l.answer) (add_unique b r (left (answer_of x) s) (left (answer_of y) s') o o'))
