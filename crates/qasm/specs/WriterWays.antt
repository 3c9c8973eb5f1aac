-- The ways out of the writer: a lemma for each, over plain values. Assumes nothing.
use Rattle.std.specs.Prelude.{◌≡◌, refl, ◌⊎◌, Bool, true, false, List, ◌++◌, ℕ, zero, suc, ◌+◌, ◌<◌, ◌≤◌, eqb, length, Result, Ok, Err}
use Rattle.std.proofs.Common.{sym, ◌∙◌, ap, subst, inl, inr, arith, eqb-true, Fits, lit≤, length-append}
use Rattle.std.proofs.lemmas.Bool.{false≢true}
use Rattle.std.specs.Int.{w64}
use Rattle.exact.specs.Meaning.Word.{Letter as Gate, FirstOutside, Spelled}
use Rattle.exact.specs.Meaning.Limits.{longest, circuit_enough, phase_refusal, room_refusal}
use Rattle.exact.specs.Meaning.Outcome.{Refusal, Rung}
use Rattle.exact.specs.Meaning.Lent.{lent, untouched}
use Rattle.exact.specs.Cases.Letters.{letters_of}
use Rattle.exact.proofs.Cases.Letters.{letters_of_bytes, letters_of_length, none_outside}
use Rattle.exact.proofs.Outcomes.Lent as Lent
use Rattle.lent.specs.Written.{Written as Puts, written_both, written_over}
use Rattle.exact.specs.declared.Refusal.{Refusal as Refused}
use Rattle.exact.specs.Meaning.Handed.{number, place}
use Rattle.exact.specs.Meaning.Refusals.{letter}
use Rattle.exact.specs.Outcomes.Enums.{When, Says}
use Rattle.circuit_writer.specs.declared.Measured.{Measured}
use Rattle.circuit.specs.declared.Edition as Declared
use Rattle.circuit.specs.declared.Edition.TheVariants.{Two, Three}
use Rattle.circuit.specs.Meaning.{Edition, two, three, edition_of, row, header, lines, text, circuit}
use Rattle.qasm.specs.Meaning.{Written, refused, accepted, written, Circuits, WriteOutcome}
use Rattle.circuit_writer.specs.Writing.{Spells, Measures, PhaseIs, MeasureIs}
use Rattle.circuit_writer.specs.WritingLaws.{size_most}

-- ---- a header and the lines of a word, where there is room for them
pub record PutsCircuit (head w old : List ℕ) (r : Written) (new : List ℕ) : Type 0 where
  pub puts : Lent.Written (λ c. head ++ lines c) (λ c. accepted (head ++ lines c)) (λ c. c ≡ circuit (letters_of w)) old refused (lent r new)

-- by a refusal the lent bytes stay
pub stays : {r : Written} {n p : ℕ} (old : List ℕ) → r ≡ refused n p → lent r old ≡ untouched refused old n p
stays old e = ap (λ (x : Written). lent x old) e

-- what says a refusal, and no answer, says that it holds
pub says_given : (n p : ℕ) (f : Refusal) → Says (n, p) f ⊥ → (n ≡ f.number) × f.At p
says_given zero p f h = absurd h
says_given (suc n) p f h = go (eqb (suc n) f.number) refl h
  where
    go : (z : Bool) → eqb (suc n) f.number ≡ z → When z (f.At p) → (suc n ≡ f.number) × f.At p
    go true e k = (eqb-true (suc n) f.number e, k)
    go false e k = absurd k

module _ (e : Edition) (w old : List ℕ) where
  pub too_long : longest < length w → WriteOutcome e w old (written (Err Refused.Long)) old
  too_long l = Rung.given 0 (l, refl) refl

  -- what refused the word when it was measured
  pub outside : (x : Result Measured Refused) (f : Refused) → length w ≤ longest → MeasureIs w x → x ≡ Err f
      → WriteOutcome e w old (written (Err f)) old
  outside x f l o g =
      let h = says_given (number f) (place f) (letter w) (subst (MeasureIs w) g o) in
      Rung.passed (λ i k. omega (arith, k.0)) (Rung.given (place f) h.1 (stays old (ap (λ n. refused n (place f)) h.0)))

-- what was measured of a word
module _ (w : List ℕ) (x : Result Measured Refused) (m : Measured) (o : MeasureIs w x) (g : x ≡ Ok m) where
  pub word_measures : Measures w m.lines
  word_measures = (subst (MeasureIs w) g o).0

  pub word_phase : PhaseIs w m.phase
  word_phase = (subst (MeasureIs w) g o).1

-- ---- a header and a word's lines
module _ (head w old : List ℕ) (n : ℕ) (m : Measures w n) where
  sizes : length (head ++ lines (circuit (letters_of w))) ≡ length head + n
  sizes = length-append head (lines (circuit (letters_of w))) ∙ ap (λ k. length head + k) (sym m.is)

  pub circuit_fits : length w ≤ 4096 → length head ≤ 64 → Fits w64 (length head + n)
  circuit_fits l k = record { fits = omega (arith, m.is, size_most (letters_of w), letters_of_length w) }

  pub circuit_no_room : length old < length head + n → PutsCircuit head w old (written (Err Refused.Room)) old
  circuit_no_room l =
      record {
        puts =
            Lent.no_room (λ c. head ++ lines c) (λ c. accepted (head ++ lines c)) (circuit (letters_of w)) old refused (refused room_refusal 0)
            (omega (arith, sizes)) refl;
      }

  pub circuit_put : (mid : List ℕ) (at : ℕ) (new : List ℕ) (next : ℕ) → length head + n ≤ length old
      → Puts old 0 head mid at → Puts mid at (lines (circuit (letters_of w))) new next
      → PutsCircuit head w old (written (Ok (length head + n))) new
  circuit_put mid at new next l p p' =
      record {
        puts =
            Lent.written_whole (λ c. head ++ lines c) (λ c. accepted (head ++ lines c)) (circuit (letters_of w)) old refused
            (written (Ok (length head + n))) new (omega (arith, sizes)) (ap (λ k. written (Ok k)) (sym sizes))
            (written_over (head ++ lines (circuit (letters_of w))) (written_both p p') (omega (arith, sizes))).1;
      }

-- ---- a measured word
module _ (w old : List ℕ) (r : Written) (new : List ℕ) (s : Spells w) where
  inside : (p : ℕ) → FirstOutside w p → ⊥
  inside p h = none_outside (letters_of w) p (subst (λ x. FirstOutside x p) (sym s.is) h)

  -- the circuit of the letters that the bytes spell
  answer : (e : Edition) → PutsCircuit (header e) w old r new
      → Lent.Written (text e) (λ c. accepted (text e c)) (Spelled Circuits w) old refused (lent r new)
  answer e p =
      Lent.written_as (text e) (λ c. accepted (text e c)) (λ c. accepted (text e c)) (λ c. c ≡ circuit (letters_of w)) (Spelled Circuits w) old
      refused refused (λ x. x) (λ n p. refl) (λ c. refl)
      (λ c q. record { letters = letters_of w; spelled = s.is; holds = q })
      (λ c h. h.holds ∙ ap circuit (sym (letters_of_bytes h.letters) ∙ ap letters_of h.spelled)) (lent r new) p.puts

  put_three : length w ≤ 4096 → PutsCircuit (header three) w old r new → WriteOutcome three w old r new
  put_three l p = Rung.passed (λ i h. omega (arith, h.0)) (Rung.passed inside (answer three p))

  put_two : (n : ℕ) → length w ≤ n → length w ≤ 4096 → PhaseIs w n → PutsCircuit (header two) w old r new → WriteOutcome two w old r new
  put_two n m l f p =
      Rung.passed (λ i h. omega (arith, h.0))
      (Rung.passed inside (Rung.passed (λ i h. f.before i (omega (arith, h.there)) h.is) (answer two p)))

  pub written_three : (d : Declared.Edition) → d ≡ Three → length w ≤ 4096 → PutsCircuit (header three) w old r new
      → WriteOutcome (edition_of d) w old r new
  written_three d q l p = subst (λ x. WriteOutcome (edition_of x) w old r new) (sym q) (put_three l p)

  pub written_two : (d : Declared.Edition) (n : ℕ) → d ≡ Two → length w ≤ 4096 → PhaseIs w n → length w ≤ n
      → PutsCircuit (header two) w old r new → WriteOutcome (edition_of d) w old r new
  written_two d n q l f m p = subst (λ x. WriteOutcome (edition_of x) w old r new) (sym q) (put_two n m l f p)

  -- an edition that has a phase, or a word that has none
  pub put_in : (e : Edition) (n : ℕ) (z : Bool) → z ≡ (row e).has_phase → ((z ≡ false) × (length w ≤ n)) ⊎ (z ≡ true) → length w ≤ 4096
      → PhaseIs w n → (head : List ℕ) → head ≡ header e → PutsCircuit head w old r new → WriteOutcome e w old r new
  put_in e n z q c l f head i p = go e c q (subst (λ t. PutsCircuit t w old r new) i p)
    where
      go : (e : Edition) → ((z ≡ false) × (length w ≤ n)) ⊎ (z ≡ true) → z ≡ (row e).has_phase → PutsCircuit (header e) w old r new
          → WriteOutcome e w old r new
      go three c q p = put_three l p
      go two (inl m) q p = put_two n m.1 l f p
      go two (inr m) q p = absurd (false≢true (sym q ∙ m))

module _ (w old : List ℕ) (n : ℕ) (s : Spells w) (l : length w ≤ 4096) (f : PhaseIs w n) (m : n < length w) where
  pub phase_refused : (e : Edition) (z : Bool) → z ≡ (row e).has_phase → z ≡ false → WriteOutcome e w old (written (Err (Refused.Phase n))) old
  phase_refused two z q x =
      Rung.passed (λ i h. omega (arith, h.0))
      (Rung.passed (inside w old (refused phase_refusal n) old s) (Rung.given n (record { there = m; is = f.there m; before = f.before }) refl))
  phase_refused three z q x = absurd (false≢true (sym x ∙ q))

-- ---- a header's bytes are few
pub header_few : (e : Edition) → length (header e) ≤ 64
header_few two = lit≤ tt
header_few three = lit≤ tt

-- ---- room that is always enough: 50 bytes of header, and 14 for each letter
pub circuit_enough_lem : (e : Edition) (u : List Gate) → length u ≤ longest → length (text e (circuit u)) ≤ circuit_enough
circuit_enough_lem e u l = omega (arith, length-append (header e) (lines (circuit u)), size_most u, header_few e)
  where
    header_few : (e : Edition) → length (header e) ≤ 50
    header_few two = lit≤ tt
    header_few three = lit≤ tt
