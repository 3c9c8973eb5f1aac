-- Answers in lent memory: one that is the only one is written in one way, or has no room; the same text may be handed on with other counts; and
-- what is handed back as written is there. Assumes nothing.
use Rattle.std.specs.Prelude.{◌≡◌, refl, List, ℕ, ◌<◌, ◌≤◌, length, take, drop}
use Rattle.std.proofs.Common.{sym, ◌∙◌, ap, ap₂, arith, length-append, take_at}
use Rattle.exact.specs.Meaning.Outcome.{Refusals, none, ◌then◌, Rung, Outcome}
use Rattle.exact.specs.Meaning.Lent.{Lent, lent, over, untouched, Writes}
use Rattle.exact.specs.Meaning.Limits.{room_refusal}
use Rattle.exact.specs.Meaning.Refusals.{room}
use Rattle.exact.proofs.Outcomes.Ladder.{Only, always}

pub handed_same : {H : Type 0} {r s : H} {x y : List ℕ} → lent r x ≡ lent s y → r ≡ s
handed_same {H} e = ap (λ (l : Lent H). l.handed) e

pub bytes_same : {H : Type 0} {r s : H} {x y : List ℕ} → lent r x ≡ lent s y → x ≡ y
bytes_same {H} e = ap (λ (l : Lent H). l.buffer) e

-- of the lent bytes, as many as a text has
pub text_there : (text old : List ℕ) (n : ℕ) → n ≡ length text → take n (over text old) ≡ text
text_there text old n e = take_at text (drop (length text) old) n (sym e)

module _ {A H : Type 0} (text : A → List ℕ) (counts : A → H) (Answer : A → Type 0) (old : List ℕ) where
  pub one_written : Only Answer → Only (Writes text counts Answer old)
  one_written one r s x y = x.is ∙ ap (λ v. lent (counts v) (over (text v) old)) (one x.v y.v x.answer y.answer) ∙ sym y.is

  -- with room, or without
  module _ (refused : ℕ → ℕ → H) where
    abbrev pub Written : Lent H → Type 0
    Written r = Outcome (untouched refused old) (Writes text counts Answer old) (room text Answer old then none) r

    -- what is handed back as the size is there
    pub written_there : (size : H → ℕ) → ((n p : ℕ) → size (refused n p) ≡ 0) → ((v : A) → size (counts v) ≡ length (text v)) → (fs : Refusals)
        → (r : Lent H) → Outcome (untouched refused old) (Writes text counts Answer old) fs r → size r.handed ≤ length r.buffer
    written_there size nothing all fs =
        always (untouched refused old) (Writes text counts Answer old) (λ (r : Lent H). size r.handed ≤ length r.buffer)
        (λ n p. omega (arith, nothing n p)) fs
        (λ h r x. rw x.is (omega (arith, all x.v, length-append (text x.v) (drop (length (text x.v)) old))))

-- an answer that is v alone: there is no room for it, or it is written
module _ {A H : Type 0} (text : A → List ℕ) (counts : A → H) (v : A) (old : List ℕ) (refused : ℕ → ℕ → H) (r : H) where
  pub no_room : length old < length (text v) → r ≡ refused room_refusal 0 → Written text counts (λ x. x ≡ v) old refused (lent r old)
  no_room l e = Rung.given 0 (record { v = v; answer = refl; more = l }, refl) (ap (λ (x : H). lent x old) e)

  pub written_whole : (new : List ℕ) → length (text v) ≤ length old → r ≡ counts v → new ≡ over (text v) old
      → Written text counts (λ x. x ≡ v) old refused (lent r new)
  written_whole new l e f =
      Rung.passed (λ p h. omega (arith, h.0.more, ap (λ (x : A). length (text x)) h.0.answer))
      (record { v = v; answer = refl; is = ap₂ lent e f })

-- the same answers, handed on by f
module _ {A H K : Type 0} (text : A → List ℕ) (counts : A → H) (counts' : A → K) (Answer Answer' : A → Type 0) (old : List ℕ)
    (refused : ℕ → ℕ → H) (refused' : ℕ → ℕ → K) (f : H → K) where
  pub written_as : ((n p : ℕ) → f (refused n p) ≡ refused' n p) → ((v : A) → f (counts v) ≡ counts' v)
      → ((v : A) → Answer v → Answer' v) → ((v : A) → Answer' v → Answer v)
      → (r : Lent H) → Written text counts Answer old refused r → Written text counts' Answer' old refused' (lent (f r.handed) r.buffer)
  written_as same-refused same-counts to from r (Rung.given p h e) =
      Rung.given p (record { v = h.0.v; answer = to h.0.v h.0.answer; more = h.0.more }, h.1)
      (λ i. lent ((ap (λ (x : Lent H). f x.handed) e ∙ same-refused _ p) i) (e i).buffer)
  written_as same-refused same-counts to from r (Rung.passed n x) =
      Rung.passed (λ p h. n p (record { v = h.0.v; answer = from h.0.v h.0.answer; more = h.0.more }, h.1))
      (record {
        v = x.v;
        answer = to x.v x.answer;
        is = λ i. lent ((ap (λ (y : Lent H). f y.handed) x.is ∙ same-counts x.v) i) (x.is i).buffer;
      })
