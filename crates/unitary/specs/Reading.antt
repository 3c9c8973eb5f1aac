-- Reading a word from its right end: what is known of the ending that has been read. Assumes nothing.
use Rattle.std.specs.Prelude.{◌≡◌, refl, Bool, true, false, List, [], ◌∷◌, ℕ, zero, suc, ◌-◌, ◌≤◌, ◌<◌, T, eqb, length, drop, get_or}
use Rattle.std.proofs.Common.{sym, ◌∙◌, ap, subst, arith, eqb-true}
use Rattle.std.proofs.lemmas.Bool.{eqb-false}
use Rattle.exact.specs.Meaning.Matrix.{Same, Least}
use Rattle.exact.specs.Meaning.Word.{Letter, word, bytes, Spelled}
use Rattle.exact.specs.Meaning.Word as Word
use Rattle.exact.specs.Meaning.Triple.{Triple, entries}
use Rattle.exact.specs.Meaning.Endings.{Shallow, DeepAt}
use Rattle.exact.specs.Meaning.Limits as Limits
use Rattle.exact.specs.Meaning.Limits.{longest, deepest}
use Rattle.exact.specs.Meaning.Outcome.{Outcome, Rung, none, ◌then◌}
use Rattle.exact.specs.Meaning.Refusals.{long, letter, deep}
use Rattle.exact.proofs.Outcomes.Ladder.{Passed, pass}
use Rattle.exact.proofs.Outcomes.Places.{not_both}
use Rattle.exact.specs.Cases.Letters.{letter_of, letters_of}
use Rattle.exact.proofs.Cases.Letters.{bytes_inj, bytes_back, inside_passes}
use Rattle.exact.proofs.Matrices.Same.{Same-refl, Same-trans, Same-of, Same-mul}
use Rattle.exact.specs.Matrices.Least.{reduced_test}
use Rattle.exact.proofs.Matrices.Least.{least_same, test_reduced}
use Rattle.exact.specs.Matrices.Triples.{identity}
use Rattle.unitary.specs.declared.DOmegaUnitary.{DOmegaUnitary}
use Rattle.unitary.specs.Meaning.{FromGates, triple, Answers, stopped, Multiplies, MatrixOutcome}
use Rattle.unitary.specs.Letters.{Scanned, scanned_first, scanned_all}
use Rattle.unitary.specs.Acts.{Good, Acted}

-- the letters from place i on have been read
pub record Read (u : List Letter) (i : ℕ) (t : DOmegaUnitary) : Type 0 where
  pub good : Good t
  pub few : t.k ≤ deepest
  pub same : Same (entries (triple t)) (word (drop i u))
  pub after : (start : ℕ) → i ≤ start → start ≤ length u → Shallow (drop start u)

-- ---- one letter more
length_letters : (bs : List ℕ) → length (letters_of bs) ≡ length bs
length_letters [] = refl
length_letters (b ∷ bs) = ap suc (length_letters bs)

next_letter : (bs : List ℕ) (i : ℕ) → i < length bs → drop i (letters_of bs) ≡ letter_of (get_or bs i 0) ∷ drop (suc i) (letters_of bs)
next_letter [] i h = absurd (omega arith)
next_letter (b ∷ bs) zero h = refl
next_letter (b ∷ bs) (suc i) h = next_letter bs i (omega arith)

module _ (bs : List ℕ) (i : ℕ) (h : i < length bs) (t r : DOmegaUnitary) (read : Read (letters_of bs) (suc i) t)
    (acted : Acted (letter_of (get_or bs i 0)) t r) where
  joined : Same (entries (triple r)) (word (drop i (letters_of bs)))
  joined =
      subst (λ (u : List Letter). Same (entries (triple r)) (word u)) (sym (next_letter bs i h))
      (Same-trans acted.same (Same-mul (Same-refl (Word.letter (letter_of (get_or bs i 0)))) read.same))

  here : Least (word (drop i (letters_of bs))) r.k
  here = least_same joined acted.good.reduced.least

  pub read_more : r.k ≤ deepest → Read (letters_of bs) i r
  read_more l = record { good = acted.good; few = l; same = joined; after = λ start a b. go start a b (eqb start i) refl }
    where
      go : (start : ℕ) → i ≤ start → start ≤ length (letters_of bs) → (b : Bool) → eqb start i ≡ b → Shallow (drop start (letters_of bs))
      go start a b true e = subst (λ (j : ℕ). Shallow (drop j (letters_of bs))) (sym (eqb-true start i e)) (record { k = r.k; least = here; few = l })
      go start a b false e = read.after start (omega (arith, eqb-false start i e)) b

  pub read_deep : deepest < r.k → DeepAt (letters_of bs) i
  read_deep l = record {
    there = omega (arith, length_letters bs);
    deep = record { k = r.k; least = here; many = l };
    after = λ start a b. read.after start a b;
  }

-- the same, where i is the place after the letter
module _ (bs : List ℕ) (i : ℕ) (some : 0 < i) (h : i ≤ length bs) (t r : DOmegaUnitary) (read : Read (letters_of bs) i t)
    (acted : Acted (letter_of (get_or bs (i - 1) 0)) t r) where
  read' : Read (letters_of bs) (suc (i - 1)) t
  read' = subst (λ (j : ℕ). Read (letters_of bs) j t) after_it read
    where
      after_it : i ≡ suc (i - 1)
      after_it = omega arith

  pub step_more : r.k ≤ deepest → Read (letters_of bs) (i - 1) r
  step_more = read_more bs (i - 1) (omega arith) t r read' acted

  pub step_deep : deepest < r.k → DeepAt (letters_of bs) (i - 1)
  step_deep = read_deep bs (i - 1) (omega arith) t r read' acted

-- ---- the empty ending
drop_all : (u : List Letter) (i : ℕ) → length u ≤ i → drop i u ≡ []
drop_all [] zero h = refl
drop_all [] (suc i) h = refl
drop_all (l ∷ u) zero h = absurd (omega arith)
drop_all (l ∷ u) (suc i) h = drop_all u i (omega arith)

pub read_start : (bs : List ℕ) (t : DOmegaUnitary) → triple t ≡ identity → Read (letters_of bs) (length bs) t
read_start bs t e =
    record {
      good = good;
      few = omega (arith, ap (λ u. u.k) e);
      same = nothing_read (length bs) (omega (arith, length_letters bs));
      after = λ start a b.
          record {
            k = t.k;
            least = least_same (nothing_read start (omega (arith, length_letters bs))) good.reduced.least;
            few = omega (arith, ap (λ u. u.k) e);
          };
    }
  where
    good : Good t
    good = record {
      unitary = rw e (record { squares_sum = refl; crosses_sum = refl });
      reduced = test_reduced (triple t) (subst (λ (u : Triple). T (reduced_test u)) (sym e) tt);
      n_small = omega (arith, ap (λ u. u.n) e);
    }

    nothing_read : (i : ℕ) → length (letters_of bs) ≤ i → Same (entries (triple t)) (word (drop i (letters_of bs)))
    nothing_read i h = subst (λ (u : List Letter). Same (entries (triple t)) (word u)) (sym (drop_all (letters_of bs) i h)) (Same-of (ap entries e))

-- ---- the ways out of job 2
module _ (w : List ℕ) (r : FromGates) where
  pub refused_long : longest < length w → r ≡ stopped Limits.long_refusal 0 → MatrixOutcome w r
  refused_long l e = Rung.given 0 (l, refl) e

  pub refused_letter : (p : ℕ) → length w ≤ longest → Scanned w p → p < length w → r ≡ stopped Limits.letter_refusal p → MatrixOutcome w r
  refused_letter p l s h e = Rung.passed (λ q k. omega (arith, k.0)) (Rung.given p (scanned_first s h) e)

module _ (w : List ℕ) (few : length w ≤ longest) (b : ℕ) (s : Scanned w b) (all : length w ≤ b) where
  spelled : bytes (letters_of w) ≡ w
  spelled = bytes_back w (scanned_all s all)

  letters_passed : Passed (long w then letter w then none)
  letters_passed = ((λ p h. omega (arith, h.0)), (inside_passes w (scanned_all s all), tt))

  behind : (r : FromGates) → Outcome stopped (Spelled Multiplies w) (deep w then none) r → MatrixOutcome w r
  behind = pass stopped (Spelled Multiplies w) (long w then letter w then none) (deep w then none) letters_passed

  module _ (i : ℕ) (some : 0 < i) (inside : i ≤ length w) (t r : DOmegaUnitary) (read : Read (letters_of w) i t)
      (acted : Acted (letter_of (get_or w (i - 1) 0)) t r) where
    pub refused_deep : deepest < r.k → (o : FromGates) → o ≡ stopped Limits.deep_refusal (i - 1) → MatrixOutcome w o
    refused_deep l o e =
        behind o (Rung.given (i - 1) (record { letters = letters_of w; spelled = spelled; holds = step_deep w i some inside t r read acted l }) e)

  pub read_whole : (t : DOmegaUnitary) (i : ℕ) → i ≤ 0 → Read (letters_of w) i t
      → MatrixOutcome w (record { refusal = Limits.no_refusal; place = 0; matrix = t })
  read_whole t zero h read =
      behind (record { refusal = Limits.no_refusal; place = 0; matrix = t })
      (Rung.passed not_deep (record { letters = letters_of w; spelled = spelled; holds = record { taken = refl; nowhere = refl; answer = answer } }))
    where
      not_deep : (p : ℕ) → Spelled DeepAt w p → ⊥
      not_deep p d =
          let d' = subst (λ (u : List Letter). DeepAt u p) (bytes_inj d.letters (letters_of w) (d.spelled ∙ sym spelled)) d.holds in
          not_both (read.after p (omega arith) (omega (arith, d'.there))) d'.deep

      answer : Answers (word (letters_of w)) (triple t)
      answer = record { same = read.same; reduced = read.good.reduced; n_small = read.good.n_small }
  read_whole t (suc i) h read = absurd (omega arith)
