-- The steps of a matrix: there is a number of them, a word's matrix has one alone, and the same matrix has the same. Assumes nothing.
use Rattle.std.specs.Prelude.{refl, List, ℕ, ◌<◌}
use Rattle.std.proofs.Common.{subst}
use Rattle.exact.specs.Meaning.Matrix.{Matrix, Same}
use Rattle.exact.specs.Meaning.Word.{Letter, word}
use Rattle.exact.specs.Meaning.Triple.{Triple, entries}
use Rattle.exact.proofs.Matrices.Same.{Same-sym, Same-trans, Same-of}
use Rattle.exact.proofs.Matrices.Triples.{unitary_same, word_triple, word_unitary}
use Rattle.exact.proofs.Matrices.Least.{answer_unique}
use Rattle.exact.proofs.Outcomes.Ladder.{Only}
use Rattle.exact.proofs.Outcomes.Places.{one_normal}
use Rattle.unitary.specs.Meaning.{Answers}
use Rattle.steps.specs.Meaning.{Takes}
use Rattle.steps.specs.Step.{Ready}
use Rattle.steps.specs.Steps.{steps}
use Rattle.steps.proofs.Followed.{takes_steps, takes_once}
use Rattle.synthesis_of_clifford_t.specs.Meaning.{Spelling, StepsOf, SpellingOf}

pub steps_of : (t : Triple) → Ready t → t.n < 8 → StepsOf (entries t) (steps t)
steps_of t r n = record {
  start = t;
  reduced = record { same = Same-of refl; reduced = r.reduced; n_small = n };
  takes = takes_steps t r;
}

pub answers_moved : {x y : Matrix} → Same x y → (t : Triple) → Answers x t → Answers y t
answers_moved h t a = record { same = Same-trans a.same h; reduced = a.reduced; n_small = a.n_small }

pub steps_moved : {x y : Matrix} → Same x y → (i : ℕ) → StepsOf x i → StepsOf y i
steps_moved h i s = record { start = s.start; reduced = answers_moved h s.start s.reduced; takes = s.takes }

pub spelling_moved : {x y : Matrix} → Same x y → (a : Spelling) → SpellingOf x a → SpellingOf y a
spelling_moved h a s = record {
  normal = record { normal = s.normal.normal; same = Same-trans (Same-sym h) s.normal.same };
  counted = steps_moved h a.steps s.counted;
}

-- ---- one number
module _ (x : Matrix) (u : List Letter) (h : Same x (word u)) where
  pub answer_ready : (t : Triple) → Answers x t → Ready t
  answer_ready t a = record {
    unitary = unitary_same (Same-trans (Same-of (word_triple u)) (Same-sym (Same-trans a.same h))) (word_unitary u);
    reduced = a.reduced;
  }

  -- it is that of every reduced triple of the matrix
  pub steps_from : (i : ℕ) → StepsOf x i → (t : Triple) → Answers x t → Takes i t
  steps_from i s t a =
      subst (Takes i)
      (answer_unique (answer_ready s.start s.reduced).unitary s.reduced.reduced a.reduced s.reduced.n_small a.n_small
      (Same-trans s.reduced.same (Same-sym a.same))) s.takes

  pub one_number : Only (StepsOf x)
  one_number i j s t =
      takes_once i j t.start (answer_ready t.start t.reduced) (steps_from i s t.start t.reduced) t.takes

pub one_spelling : (x : Matrix) → Only (SpellingOf x)
one_spelling x a b s t =
    λ i. record {
      letters = one_normal x a.letters b.letters s.normal t.normal i;
      steps = one_number x a.letters s.normal.same a.steps b.steps s.counted t.counted i;
    }
