-- What holds of every outcome: no word with the matrix has fewer T letters than the T count; it is at most 2k, and never over 120; the rotation's exponent
-- is the T count; its numbers are small; and the rotation of a product is the product of the rotations, a phase changes nothing. Assumes nothing.
use Rattle.std.specs.Prelude.{◌≡◌, refl, List, ℕ, zero, suc, ◌+◌, ◌^◌, ◌≤◌, ◌<◌, ℤ, nat_abs}
use Rattle.std.proofs.Common.{arith}
use Rattle.exact.specs.Meaning.Number.{omega^}
use Rattle.exact.specs.Meaning.Matrix.{Matrix, ◌·◌, Same, scaled}
use Rattle.exact.specs.Meaning.Word.{Letter, word, tees}
use Rattle.exact.specs.Meaning.Triple.{Triple, entries, Unitary}
use Rattle.exact.specs.Meaning.Rotation.{◌∘◌, SameRotation, Orthogonal}
use Rattle.exact.specs.Meaning.Limits.{deepest, no_refusal}
use Rattle.exact.specs.Meaning.Outcome.{none}
use Rattle.exact.specs.Meaning.Refusals.{checks}
use Rattle.exact.proofs.Matrices.Same.{Same-sym}
use Rattle.exact.proofs.Matrices.Triples.{unitary_isometry, unitary_same}
use Rattle.exact.proofs.Outcomes.Ladder.{Passed, accepted, through, always, carry}
use Rattle.exact.proofs.Outcomes.Checked.{checks_taken}
use Rattle.exact.proofs.Rotation.Laws.{rotation_same, rotation_mul, rotation_phase, rotation_moved, one_rotation}
use Rattle.exact.proofs.Rotation.Orthogonal.{orthogonal}
use Rattle.exact.proofs.Rotation.Sizes.{Shorts, shorts}
use Rattle.exact.proofs.Rotation.Least.{none_fewer, least_once, least_moved}
use Rattle.exact.proofs.Rotation.Few.{least_few, least_under}
use Rattle.ring.specs.Meaning.{quad}
use Rattle.ring.specs.declared.ZOmega.{ZOmega}
use Rattle.unitary.specs.Meaning.{given}
use Rattle.unitary.specs.Checks.{exponent_size}
use Rattle.rotation.specs.Meaning.{Answer, Count, axes_of, rotation_of, refused, AnswersRotation, RotationOutcome, refused_count, AnswersCount, CountOutcome}
use Rattle.rotation.specs.Unique.{count_unique}

module _ (k : ℤ) (n : ℕ) (z w : ZOmega) where
  abbrev asked : Matrix
  asked = entries (given k n z w)

  -- ---- accepted, it is an answer
  module _ (c : Count) (o : CountOutcome k n z w c) (e : c.refusal ≡ no_refusal) where
    pub counted : AnswersCount asked c
    counted =
        accepted refused_count (AnswersCount asked) (λ (j : Count). j.refusal ≡ no_refusal) (checks k (quad z) (quad w))
        ((λ p h. omega arith), ((λ p h. omega arith), ((λ p h. omega arith), tt))) c e o

    pub none_cheaper : (u : List Letter) → Same asked (word u) → c.tees ≤ tees u
    none_cheaper u h = none_fewer u h counted.is counted.least

  module _ (a : Answer) (o : RotationOutcome k n z w a) (e : a.refusal ≡ no_refusal) where
    pub turned : AnswersRotation asked a
    turned =
        accepted refused (AnswersRotation asked) (λ (j : Answer). j.refusal ≡ no_refusal) (checks k (quad z) (quad w))
        ((λ p h. omega arith), ((λ p h. omega arith), ((λ p h. omega arith), tt))) a e o

  -- ---- what the rotation hands back is what the T count must
  pub exponent_counts : (a : Answer) → RotationOutcome k n z w a → CountOutcome k n z w (record { refusal = a.refusal; tees = a.rotation.e })
  exponent_counts =
      carry refused (AnswersRotation asked) refused_count (AnswersCount asked)
      (λ (j : Answer). record { refusal = j.refusal; tees = j.rotation.e }) (λ m p. refl)
      (checks k (quad z) (quad w)) none none
      (λ r h t. record { taken = t.taken; rotation = rotation_of r.rotation; is = t.is; least = t.least })

  pub exponent_is : (a : Answer) (c : Count) → RotationOutcome k n z w a → CountOutcome k n z w c
      → record { refusal = a.refusal; tees = a.rotation.e } ≡ c
  exponent_is a c o p = count_unique k n z w (record { refusal = a.refusal; tees = a.rotation.e }) c (exponent_counts a o) p

  -- ---- how many at most
  module _ (c : Count) (o : CountOutcome k n z w c) where
    each : (P : Count → Type 0) → ((m p : ℕ) → P (refused_count m p))
        → (Passed (checks k (quad z) (quad w)) → (j : Count) → AnswersCount asked j → P j)
        → P c
    each P f g = always refused_count (AnswersCount asked) P f (checks k (quad z) (quad w)) g c o

    there : Passed (checks k (quad z) (quad w)) → Unitary (given k n z w)
    there h = (checks_taken k (quad z) (quad w) h).unitary_there n

    -- t is any triple with the matrix, the reduced one too
    module _ (t : Triple) (s : Same (entries t) asked) where
      moved : Passed (checks k (quad z) (quad w)) → Unitary t
      moved h = unitary_same (Same-sym s) (there h)

      pub count_few : c.tees ≤ suc (t.k + t.k)
      count_few =
          each (λ j. j.tees ≤ suc (t.k + t.k)) (λ m p. omega arith)
          (λ h j x. least_few t (moved h) (rotation_moved (Same-sym s) x.is) x.least)

      pub count_under : 0 < t.k → c.tees ≤ t.k + t.k
      count_under more =
          each (λ j. j.tees ≤ t.k + t.k) (λ m p. omega arith)
          (λ h j x. least_under t (moved h) (rotation_moved (Same-sym s) x.is) x.least more)

    pub count_most : c.tees ≤ deepest + deepest
    count_most =
        each (λ j. j.tees ≤ deepest + deepest) (λ m p. omega arith)
        (λ h j x. most (exponent_size k (checks_taken k (quad z) (quad w) h).exponent_in) (there h) j x)
      where
        most : nat_abs k ≤ deepest → Unitary (given k n z w) → (j : Count) → AnswersCount asked j → j.tees ≤ deepest + deepest
        most l u j x = go (nat_abs k) refl
          where
            go : (m : ℕ) → nat_abs k ≡ m → j.tees ≤ deepest + deepest
            go zero e = omega (arith, e, least_few (given k n z w) u x.is x.least)
            go (suc m) e = omega (arith, least_under (given k n z w) u x.is x.least (omega (arith, e)))

-- ---- what the rotation keeps
module _ (k : ℤ) (n : ℕ) (z w : ZOmega) (a : Answer) (o : RotationOutcome k n z w a) (e : a.refusal ≡ no_refusal) where
  taken : Passed (checks k (quad z) (quad w))
  taken =
      (through refused (AnswersRotation (entries (given k n z w))) (λ (j : Answer). j.refusal ≡ no_refusal) (checks k (quad z) (quad w)) none
      ((λ p h. omega arith), ((λ p h. omega arith), ((λ p h. omega arith), tt))) a e o).0

  pub answer_orthogonal : Orthogonal (rotation_of a.rotation)
  answer_orthogonal = orthogonal (unitary_isometry ((checks_taken k (quad z) (quad w) taken).unitary_there n)) (turned k n z w a o e).is

  -- p² + 2q² is at most 2^e in every entry
  pub answer_short : Shorts (2 ^ a.rotation.e) (axes_of a.rotation)
  answer_short = shorts answer_orthogonal

-- two triples, their matrices' product or phase, and what is answered for each
module _ (k k' : ℤ) (n n' : ℕ) (z w z' w' : ZOmega) (a b : Answer) (o : RotationOutcome k n z w a) (p : RotationOutcome k' n' z' w' b)
    (e : a.refusal ≡ no_refusal) (f : b.refusal ≡ no_refusal) where
  pub answer_mul : (i : ℤ) (m : ℕ) (x y : ZOmega) (c : Answer) → RotationOutcome i m x y c → c.refusal ≡ no_refusal
      → Same (entries (given i m x y)) (entries (given k n z w) · entries (given k' n' z' w'))
      → SameRotation (rotation_of c.rotation) (rotation_of a.rotation ∘ rotation_of b.rotation)
  answer_mul i m x y c q g s =
      rotation_same s (turned i m x y c q g).is (rotation_mul (turned k n z w a o e).is (turned k' n' z' w' b p f).is)

  pub answer_phase : (i : ℕ) → Same (entries (given k n z w)) (scaled (omega^ i) (entries (given k' n' z' w')))
      → rotation_of a.rotation ≡ rotation_of b.rotation
  answer_phase i s =
      let x = turned k n z w a o e in
      let y = turned k' n' z' w' b p f in
      let same = rotation_same s x.is (rotation_phase i y.is) in
      one_rotation same (least_once (least_moved same x.least) y.least)
