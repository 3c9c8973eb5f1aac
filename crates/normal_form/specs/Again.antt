-- Answers of jobs 3 and 5 fed back: a normal word is given back by job 3 as it is, and a phase-free word, which is normal, by both; so doing either
-- job twice is doing it once. Assumes nothing.
use Rattle.std.specs.Prelude.{◌≡◌, List, ℕ, ◌≤◌, length, take}
use Rattle.std.proofs.Common.{sym, ◌∙◌, ap, ap₂, subst, arith}
use Rattle.exact.specs.Meaning.Word.{Letter, word, bytes, Spelled}
use Rattle.exact.specs.Meaning.Normal.{Normal, PhaseFree}
use Rattle.exact.specs.Meaning.Limits.{longest, no_refusal}
use Rattle.exact.specs.Meaning.Lent.{Lent, lent, over, untouched, Writes}
use Rattle.exact.proofs.Matrices.Same.{Same-refl}
use Rattle.exact.proofs.Unique.PhaseFree.{phase_free_normal, phase_free_own}
use Rattle.exact.proofs.Cases.Letters.{bytes_length}
use Rattle.exact.proofs.Outcomes.Ladder.{Only, accepted}
use Rattle.exact.proofs.Outcomes.Lent.{handed_same, bytes_same, text_there}
use Rattle.normal_form.specs.Meaning.{Written, Normalises, DropsPhase, refused, counts, word_refusals, WordOutcome, NormaliseOutcome, PhaseFreeOutcome}
use Rattle.normal_form.specs.Unique.{normalises_single, drops_single}
use Rattle.normal_form.specs.Theorems.{only_fits}

-- v is what comes out of a job for the bytes of u, given room for it
abbrev pub ComesOut : (List Letter → List Letter → Type 0) → List Letter → List Letter → Type 0
ComesOut Answer u v =
    (old : List ℕ) → length v ≤ length old → (r : Written) (new : List ℕ) → WordOutcome Answer (bytes u) old r new
    → lent r new ≡ lent (counts v) (over (bytes v) old)

comes_out : {Answer : List Letter → List Letter → Type 0} → ((u : List Letter) → Only (Answer u)) → (u v : List Letter) → length u ≤ longest
    → Answer u v → ComesOut Answer u v
comes_out {Answer} one u v l a old k r new = only_fits Answer one u v old l a r new (omega (arith, bytes_length v))

-- ---- a normal word: refusal 0, its length, its T letters, its bytes
pub normal_again : {u : List Letter} → Normal u → length u ≤ longest → ComesOut Normalises u u
normal_again {u} n l = comes_out normalises_single u u l (record { normal = n; same = Same-refl (word u) })

-- ---- a phase-free word, by job 3 and by job 5
module _ {p v : List Letter} (f : PhaseFree p v) (l : length p ≤ longest) where
  pub phase_free_again : ComesOut Normalises p p
  phase_free_again = normal_again (phase_free_normal f) l

  pub phase_free_again_5 : ComesOut DropsPhase p p
  phase_free_again_5 = comes_out drops_single p p l (record { whole = p; phase_free = phase_free_own f; same = Same-refl (word p) })

-- ---- through the outcomes: what an accepted call wrote
module _ (Answer : List Letter → List Letter → Type 0) {w old : List ℕ} {r : Written} {new : List ℕ} (o : WordOutcome Answer w old r new)
    (e : r.refusal ≡ no_refusal) where
  pub answer_of_lem : Writes bytes counts (Spelled Answer w) old (lent r new)
  answer_of_lem =
      accepted (untouched refused old) (Writes bytes counts (Spelled Answer w) old) (λ (x : Lent Written). x.handed.refusal ≡ no_refusal)
      (word_refusals Answer w old) ((λ p h. omega arith), ((λ p h. omega arith), ((λ p h. omega arith), tt))) (lent r new) e o

  pub counted : r ≡ counts answer_of_lem.v
  counted = handed_same answer_of_lem.is

  pub bytes_written : take r.bytes new ≡ bytes answer_of_lem.v
  bytes_written =
      ap₂ take (ap (λ (x : Written). x.bytes) counted) (bytes_same answer_of_lem.is)
      ∙ text_there (bytes answer_of_lem.v) old (length answer_of_lem.v) (sym (bytes_length answer_of_lem.v))

  few_written : r.bytes ≤ longest → length answer_of_lem.v ≤ longest
  few_written l = omega (arith, ap (λ (x : Written). x.bytes) counted)

-- what a call wrote, handed to a job that has room for it, is left again, and so are the counts
abbrev pub LeftAgain : (List Letter → List Letter → Type 0) → Written → List ℕ → Type 0
LeftAgain Next r new =
    (old' : List ℕ) → r.bytes ≤ length old' → (r' : Written) (new' : List ℕ) → WordOutcome Next (take r.bytes new) old' r' new'
    → lent r' new' ≡ lent r (over (take r.bytes new) old')

module _ (Answer Next : List Letter → List Letter → Type 0) (again : (u v : List Letter) → Answer u v → length v ≤ longest → ComesOut Next v v)
    {w old : List ℕ} {r : Written} {new : List ℕ} (o : WordOutcome Answer w old r new) (e : r.refusal ≡ no_refusal) (l : r.bytes ≤ longest) where
  left_again : LeftAgain Next r new
  left_again old' k r' new' o' =
      again (answer_of_lem Answer o e).answer.letters (answer_of_lem Answer o e).v (answer_of_lem Answer o e).answer.holds (few_written Answer o e l) old'
      (omega (arith, ap (λ (x : Written). x.bytes) (counted Answer o e))) r' new'
      (subst (λ (t : List ℕ). WordOutcome Next t old' r' new') (bytes_written Answer o e) o')
      ∙ ap₂ (λ (x : Written) (t : List ℕ). lent x (over t old')) (sym (counted Answer o e)) (sym (bytes_written Answer o e))

module _ {w old : List ℕ} {r : Written} {new : List ℕ} where
  pub normalise_twice : NormaliseOutcome w old r new → r.refusal ≡ no_refusal → r.bytes ≤ longest → LeftAgain Normalises r new
  normalise_twice = left_again Normalises Normalises (λ u v a. normal_again a.normal)

  pub phase_free_normalised : PhaseFreeOutcome w old r new → r.refusal ≡ no_refusal → r.bytes ≤ longest → LeftAgain Normalises r new
  phase_free_normalised = left_again DropsPhase Normalises (λ u v a. phase_free_again a.phase_free)

  pub phase_free_twice : PhaseFreeOutcome w old r new → r.refusal ≡ no_refusal → r.bytes ≤ longest → LeftAgain DropsPhase r new
  phase_free_twice = left_again DropsPhase DropsPhase (λ u v a. phase_free_again_5 a.phase_free)
