-- An I put in at any place of a word changes no outcome of jobs 3 and 5, as long as the word is not too long with it. Assumes nothing.
use Rattle.std.specs.Prelude.{◌≡◌, List, [], ◌∷◌, ◌++◌, ℕ, ◌≤◌, length}
use Rattle.std.proofs.Common.{arith, length-append}
use Rattle.exact.specs.Meaning.Matrix.{Same}
use Rattle.exact.specs.Meaning.Word.{Letter, I, word, bytes}
use Rattle.exact.specs.Meaning.Limits.{longest}
use Rattle.exact.specs.Meaning.Lent.{lent}
use Rattle.exact.proofs.Matrices.Same.{Same-sym, Same-trans}
use Rattle.exact.proofs.Outcomes.Ladder.{Only}
use Rattle.clifford.proofs.Words.{by_test, under, before}
use Rattle.normal_form.specs.Meaning.{Written, Normalises, DropsPhase, WordOutcome, NormaliseOutcome, PhaseFreeOutcome}
use Rattle.normal_form.specs.Unique.{normalises_single, drops_single}
use Rattle.normal_form.specs.Alike.{alike}

pub I_nothing : (u v : List Letter) → Same (word (u ++ (I ∷ v))) (word (u ++ v))
I_nothing u v = (under u (before (by_test (I ∷ []) [] tt) v)).same

-- an answer is one to every word with the matrix
normalises_of : (u u' : List Letter) → Same (word u) (word u') → (v : List Letter) → Normalises u v → Normalises u' v
normalises_of u u' s v a = record { normal = a.normal; same = Same-trans (Same-sym s) a.same }

drops_of : (u u' : List Letter) → Same (word u) (word u') → (v : List Letter) → DropsPhase u v → DropsPhase u' v
drops_of u u' s v a = record { whole = a.whole; phase_free = a.phase_free; same = Same-trans (Same-sym s) a.same }

-- ---- an I put in, before v: refusal 7 among the outcomes
module _ (u v : List Letter) (l : length (u ++ (I ∷ v)) ≤ longest) (old : List ℕ) (r : Written) (new : List ℕ) (r' : Written) (new' : List ℕ) where
  fewer : length (u ++ v) ≤ longest
  fewer = omega (arith, length-append u v, length-append u (I ∷ v))

  one_matrix : (Answer : List Letter → List Letter → Type 0) → ((x : List Letter) → Only (Answer x))
      → ((x y : List Letter) → Same (word x) (word y) → (z : List Letter) → Answer x z → Answer y z)
      → WordOutcome Answer (bytes (u ++ (I ∷ v))) old r new → WordOutcome Answer (bytes (u ++ v)) old r' new' → lent r new ≡ lent r' new'
  one_matrix Answer one of-matrix =
      let s = I_nothing u v in
      alike Answer one (u ++ (I ∷ v)) (u ++ v) (of-matrix (u ++ (I ∷ v)) (u ++ v) s) (of-matrix (u ++ v) (u ++ (I ∷ v)) (Same-sym s)) l fewer old
      r new r' new'

  pub I_put_in : NormaliseOutcome (bytes (u ++ (I ∷ v))) old r new → NormaliseOutcome (bytes (u ++ v)) old r' new' → lent r new ≡ lent r' new'
  I_put_in = one_matrix Normalises normalises_single normalises_of

  pub I_put_in_5 : PhaseFreeOutcome (bytes (u ++ (I ∷ v))) old r new → PhaseFreeOutcome (bytes (u ++ v)) old r' new' → lent r new ≡ lent r' new'
  I_put_in_5 = one_matrix DropsPhase drops_single drops_of
