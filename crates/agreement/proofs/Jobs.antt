-- Why the two ways agree: each job accepts such a word, and a matrix has one normal word. Assumes nothing.
use Rattle.std.specs.Prelude.{◌≡◌, refl, List, [], ◌∷◌, ℕ, ◌≤◌, ◌<◌, pos, length, take, drop}
use Rattle.std.proofs.Common.{sym, ◌∙◌, ap, subst, arith, le→leb}
use Rattle.exact.specs.Meaning.Matrix.{Matrix, Same}
use Rattle.exact.specs.Meaning.Word.{Letter, word, tees, bytes, Spelled}
use Rattle.exact.specs.Meaning.Normal.{Normal, NormalOf}
use Rattle.exact.specs.Meaning.Triple.{entries, Unitary}
use Rattle.exact.specs.Meaning.Endings.{Shallow, DeepAt}
use Rattle.exact.specs.Meaning.Limits.{longest, deepest, enough, no_refusal}
use Rattle.exact.specs.Meaning.Outcome.{none, ◌then◌, ◌also◌}
use Rattle.exact.specs.Meaning.Lent.{Lent, lent, over, untouched, Writes}
use Rattle.exact.specs.Meaning.Refusals.{long, letter, deep, checks, TooMany, room}
use Rattle.exact.proofs.Cases.Letters.{bytes_length, none_outside}
use Rattle.exact.proofs.Matrices.Same.{Same-sym, Same-trans, Same-of}
use Rattle.exact.proofs.Matrices.Least.{least_unique, least_same}
use Rattle.exact.proofs.Matrices.Sizes.{z_sized, w_sized}
use Rattle.exact.proofs.Matrices.Triples.{word_triple, word_unitary, unitary_same}
use Rattle.exact.proofs.Unique.Normal.{unique}
use Rattle.exact.proofs.Outcomes.Ladder.{answered}
use Rattle.exact.proofs.Outcomes.Lent.{text_there}
use Rattle.exact.proofs.Outcomes.Places.{not_both, of_bytes}
use Rattle.exact.proofs.Outcomes.Checked.{Taken, taken_checks}
use Rattle.ring.specs.Meaning.{quad}
use Rattle.unitary.specs.Meaning.{FromGates, triple, Answers, stopped, Multiplies, MatrixOutcome}
use Rattle.normal_form.specs.Meaning as Job3
use Rattle.normal_form.specs.Meaning.{Written, Normalises, NormaliseOutcome, word_refusals}
use Rattle.synthesis_of_clifford_t.specs.Meaning as Job4
use Rattle.synthesis_of_clifford_t.specs.Meaning.{Synthesis, SpellingOf}
use Rattle.synthesis_of_clifford_t.proofs.Counted.{steps_moved, one_number}
use Rattle.steps.proofs.Synthesised.{word_enough}
use Rattle.agreement.specs.Meaning.Demand3.{Within, Synthesises, BothWays, Agreed, Seen, seen_first, seen_second, OneOutcome}

-- the whole word is its first ending
whole : (u : List Letter) → drop 0 u ≡ u
whole [] = refl
whole (l ∷ u) = refl

module _ (u : List Letter) (w : Within u) where
  depth : Shallow u
  depth = subst Shallow (whole u) (w.shallow.at 0 (omega arith))

  -- the word's normal word has room
  fits : (m : Matrix) → Same m (word u) → (old : List ℕ) → enough ≤ length old → (p : ℕ) → TooMany bytes (NormalOf m) old × (p ≡ 0) → ⊥
  fits m s old l p h =
      let a = h.0.answer in
      omega (
        arith,
        h.0.more,
        bytes_length h.0.v,
        word_enough u h.0.v depth.k depth.least depth.few a.normal (Same-trans (Same-sym a.same) s),
      )

  few_bytes : (p : ℕ) → (longest < length (bytes u)) × (p ≡ 0) → ⊥
  few_bytes p h = omega (arith, h.0, bytes_length u, w.few)

  -- ---- job 3
  job_3 : (old : List ℕ) (r : Written) (new : List ℕ) → enough ≤ length old → NormaliseOutcome (bytes u) old r new
      → Writes bytes Job3.counts (Spelled Normalises (bytes u)) old (lent r new)
  job_3 old r new l o =
      answered (untouched Job3.refused old) (Writes bytes Job3.counts (Spelled Normalises (bytes u)) old) (word_refusals Normalises (bytes u) old)
      (few_bytes, (none_outside u, (has_room, tt))) (lent r new) o
    where
      has_room : (p : ℕ) → TooMany bytes (Spelled Normalises (bytes u)) old × (p ≡ 0) → ⊥
      has_room p h =
          fits (word u) (Same-of refl) old l p
          (record { v = h.0.v; answer = of_bytes u h.0.answer; more = h.0.more }, h.1)

  -- ---- job 2
  job_2 : (r : FromGates) → MatrixOutcome (bytes u) r → Multiplies u r
  job_2 r o =
      of_bytes u
      (answered stopped (Spelled Multiplies (bytes u)) (long (bytes u) then letter (bytes u) then deep (bytes u) then none)
      (few_bytes, (none_outside u, (not_deep, tt))) r o)
    where
      not_deep : (p : ℕ) → Spelled DeepAt (bytes u) p → ⊥
      not_deep p s = let d = of_bytes u s in not_both (w.shallow.at p (omega (arith, d.there))) d.deep

  pub taken_2 : (r : FromGates) → MatrixOutcome (bytes u) r → r.refusal ≡ no_refusal
  taken_2 r h = (job_2 r h).taken

  -- ---- job 4
  module _ (m : FromGates) (a : Answers (word u) (triple m.matrix)) where
    k_few : m.matrix.k ≤ deepest
    k_few = omega (arith, depth.few, least_unique (least_same a.same a.reduced.least) depth.least)

    matrix_unitary : Unitary (triple m.matrix)
    matrix_unitary = unitary_same (Same-trans (Same-of (word_triple u)) (Same-sym a.same)) (word_unitary u)

    taken : Taken (pos m.matrix.k) (quad m.matrix.z) (quad m.matrix.w)
    taken =
        record {
          exponent_in =
              record {
                low = record { le = le→leb 0 m.matrix.k (omega arith) };
                high = record { le = le→leb m.matrix.k deepest k_few };
              };
          coefficients_in = record { z_in = z_sized matrix_unitary 30 k_few; w_in = w_sized matrix_unitary 30 k_few };
          unitary_there = λ n. record { squares_sum = matrix_unitary.squares_sum; crosses_sum = matrix_unitary.crosses_sum };
        }

    abbrev asked : Matrix
    asked = entries (triple m.matrix)

    job_4 : (old : List ℕ) (r : Synthesis) (new : List ℕ) → enough ≤ length old → Synthesises m old r new
        → Writes Job4.text Job4.counts (SpellingOf asked) old (lent r new)
    job_4 old r new l o =
        let t = taken_checks (pos m.matrix.k) (quad m.matrix.z) (quad m.matrix.w) taken in
        answered (untouched Job4.refused old) (Writes Job4.text Job4.counts (SpellingOf asked) old)
        (checks (pos m.matrix.k) (quad m.matrix.z) (quad m.matrix.w) also (room Job4.text (SpellingOf asked) old then none))
        (t.0, (t.1.0, (t.1.1.0, (has_room, tt)))) (lent r new) o
      where
        has_room : (p : ℕ) → TooMany Job4.text (SpellingOf asked) old × (p ≡ 0) → ⊥
        has_room p h =
            fits asked a.same old l p (record { v = h.0.v.letters; answer = h.0.answer.normal; more = h.0.more }, h.1)

-- ---- both ways
module _ {u : List Letter} (w : Within u) {old₁ old₂ : List ℕ} {first : Lent Written} {matrix : FromGates} {second : Lent Synthesis} where
  pub ways_agree : BothWays u old₁ old₂ first matrix second → (v : List Letter) × Agreed u v old₁ old₂ first matrix second
  ways_agree b =
      let x = job_3 u w old₁ first.handed first.buffer b.room₁ b.normalised in
      let n = of_bytes u x.answer in
      let m = job_2 u w matrix b.multiplied in
      let y = job_4 u w matrix m.answer old₂ second.handed second.buffer b.room₂ b.synthesised in
      let v = y.answer.normal in
      let s = Same-trans (Same-sym v.same) (Same-trans m.answer.same n.same) in
      let e : y.v.letters ≡ x.v = unique v.normal n.normal s in (
        x.v,
        record {
          normal = n.normal;
          same = Same-sym n.same;
          first_is = x.is;
          matrix_taken = m.taken;
          steps = y.v.steps;
          counted = steps_moved m.answer.same y.v.steps y.answer.counted;
          second_is =
              y.is
              ∙ ap (λ (l : List Letter). lent (Job4.counts (record { letters = l; steps = y.v.steps })) (over (bytes l) old₂)) e;
        },
      )

-- ---- two words with one matrix
pub one_word : (u u' : List Letter) {v v' : List Letter} → Same (word u) (word u') → Normal v → Same (word v) (word u) → Normal v'
    → Same (word v') (word u')
    → v ≡ v'
one_word u u' s n a n' b = unique n n' (Same-trans a (Same-trans s (Same-sym b)))

pub written : (v : List Letter) (old : List ℕ) → take (length v) (over (bytes v) old) ≡ bytes v
written v old = text_there (bytes v) old (length v) (sym (bytes_length v))

abbrev seen_of : List Letter → Seen
seen_of v = record { refusal = no_refusal; bytes = length v; tees = tees v; text = bytes v }

first_seen : (v : List Letter) (old : List ℕ) (j : Lent Written) → j ≡ lent (Job3.counts v) (over (bytes v) old) → seen_first j ≡ seen_of v
first_seen v old j e = ap seen_first e ∙ (λ i. record { refusal = no_refusal; bytes = length v; tees = tees v; text = written v old i })

second_seen : (v : List Letter) (taken : ℕ) (old : List ℕ) (j : Lent Synthesis)
    → j ≡ lent (Job4.counts (record { letters = v; steps = taken })) (over (bytes v) old)
    → seen_second j ≡ seen_of v
second_seen v taken old j e = ap seen_second e ∙ (λ i. record { refusal = no_refusal; bytes = length v; tees = tees v; text = written v old i })

module _ {u u' : List Letter} (w : Within u) (w' : Within u') (s : Same (word u) (word u')) {old₁ old₂ old₁' old₂' : List ℕ}
    {first first' : Lent Written} {matrix matrix' : FromGates} {second second' : Lent Synthesis} where
  pub ways_one : BothWays u old₁ old₂ first matrix second → BothWays u' old₁' old₂' first' matrix' second'
      → OneOutcome first first' second second'
  ways_one b b' =
      let x = ways_agree w b in
      let y = ways_agree w' b' in
      let a = x.1 in
      let c = y.1 in
      let e : x.0 ≡ y.0 = one_word u u' s a.normal a.same c.normal c.same in
      let first_of = first_seen x.0 old₁ first a.first_is in
      let second-of = second_seen x.0 a.steps old₂ second a.second_is in
      record {
        first_same = first_of ∙ ap seen_of e ∙ sym (first_seen y.0 old₁' first' c.first_is);
        ways_same = first_of ∙ sym second-of;
        second_same = second-of ∙ ap seen_of e ∙ sym (second_seen y.0 c.steps old₂' second' c.second_is);
        steps_same =
            ap (λ (j : Lent Synthesis). j.handed.steps) a.second_is
            ∙ one_number (word u') u' (Same-of refl) a.steps c.steps (steps_moved s a.steps a.counted) c.counted
            ∙ sym (ap (λ (j : Lent Synthesis). j.handed.steps) c.second_is);
      }
