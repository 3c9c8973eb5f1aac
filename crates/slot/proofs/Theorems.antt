-- What the outcomes say besides: a record can be told from itself alone; its text is what job 3 writes for the letters that give it, and the length
-- that is answered is the record's own number; no record is refused 18 before it has 4,096 syllables. Assumes nothing.
use Rattle.std.specs.Prelude.{◌≡◌, refl, Bool, true, false, List, [], ◌∷◌, ◌++◌, ℕ, ◌≤◌, eqb, length, take, get_or}
use Rattle.std.proofs.Common.{sym, ◌∙◌, ap, subst, arith, eqb-true}
use Rattle.std.proofs.lemmas.Bool.{eqb-false}
use Rattle.exact.specs.Meaning.Word.{Letter, word, byte, bytes}
use Rattle.exact.specs.Meaning.Normal.{Shape, spell, NormalOf}
use Rattle.exact.specs.Meaning.Limits as Limits
use Rattle.exact.specs.Meaning.Limits.{no_refusal, longest}
use Rattle.exact.specs.Meaning.Outcome.{Rung, none, ◌then◌}
use Rattle.exact.proofs.Cases.Letters.{byte_inj}
use Rattle.exact.proofs.Outcomes.Ladder.{accepted}
use Rattle.exact.proofs.Outcomes.Places.{of_bytes, one_normal}
use Rattle.clifford.specs.Meaning.{Ranged}
use Rattle.reading.specs.Readings.{State, start, run, run_append, run_ranged, start_ranged, shape, shape_of, normal, normal_of, read, read_size, size_of}
use Rattle.normal_form.specs.Meaning.{Written, Normalises, NormaliseOutcome}
use Rattle.normal_form.specs.Again.{answer_of_lem, counted, bytes_written}
use Rattle.slot.specs.Meaning.{Answer, Slot, Shows, codes, GivenBy, Given, slot, refused, Measured, LengthOutcome, Left, left, Extended, Overfull}
use Rattle.slot.specs.Meaning.{add_refusals, AddOutcome}
use Rattle.slot.proofs.Shown.{one_shape, state_size, shown_rest, few_shown}
use Rattle.slot.proofs.Letters.{given_shown, given_more, shown_adds, over_form}
use Rattle.slot.proofs.Standing.{Sound, given_sound, sound_given, clifford_in, clifford_ranged, sum_most, tail_most}
use Rattle.slot.proofs.Unique.{one_form, one_more}

-- ---- told from the record alone, either way
pub told_alone : {r : Slot} → (Given r → Sound r) × (Sound r → Given r)
told_alone = (given_sound, sound_given)

-- ---- job 3
module _ {u : List Letter} {r : Slot} (g : GivenBy u r) where
  shape_is : {n : Shape} → Shows n r → n ≡ shape u
  shape_is x = one_shape x (given_shown g)

  -- the text of a record is job 3's answer to the letters, however many they are
  pub text_answers : {n : Shape} → Shows n r → Normalises u (spell n)
  text_answers {n} x = subst (λ (m : Shape). Normalises u (spell m)) (sym (shape_is x)) (record { normal = normal u; same = normal_of u })

  own_number : length (spell (shape u)) ≡ get_or r.rest 1 0
  own_number = sym (ap (λ (ns : List ℕ). get_or ns 1 0) (shown_rest (run start u) (run_ranged start u start_ranged) (given_shown g)))

  -- any answer to the letters is as long as the record says
  pub answer_long : {v : List Letter} → NormalOf (word u) v → length v ≡ get_or r.rest 1 0
  answer_long {v} a =
      ap length (one_normal (word u) v (spell (shape u)) a (record { normal = normal u; same = normal_of u })) ∙ own_number

  -- an accepted call of job 3 on them
  module _ {old : List ℕ} {w : Written} {new : List ℕ} (o : NormaliseOutcome (bytes u) old w new) (e : w.refusal ≡ no_refusal) where
    pub job_text : {n : Shape} → Shows n r → take w.bytes new ≡ bytes (spell n)
    job_text {n} x =
        let a = answer_of_lem Normalises o e in
        bytes_written Normalises o e ∙ ap bytes (one_normal (word u) a.v (spell n) (of_bytes u a.answer) (text_answers x))

    pub job_long : w.bytes ≡ get_or r.rest 1 0
    job_long =
        let a = answer_of_lem Normalises o e in
        ap (λ (x : Written). x.bytes) (counted Normalises o e) ∙ answer_long (of_bytes u a.answer)

-- ---- the length that is answered is the record's own number, and so that of job 3
pub length_own : {r : Slot} {a : Answer} → LengthOutcome r a → a.refusal ≡ no_refusal → a.length ≡ get_or r.rest 1 0
length_own {r} {a} o e =
    ap (λ (x : Answer). x.length) m.is ∙ answer_long m.given m.normal
  where
    m : Measured r a
    m = accepted (λ n p. refused n) (Measured r) (λ (x : Answer). x.refusal ≡ no_refusal) (slot r then none) (λ p z. omega arith, tt) a e o

module _ {b : ℕ} {r : Slot} {x : Left} (o : AddOutcome b r x) (e : x.answer.refusal ≡ no_refusal) where
  extended : Extended b r x
  extended =
      accepted (λ n p. left (refused n) r) (Extended b r) (λ (y : Left). y.answer.refusal ≡ no_refusal) (add_refusals b r)
      (λ p z. omega arith, (λ p z. omega arith, (λ p z. omega arith, tt))) x e o

  pub add_own : x.answer.length ≡ get_or x.slot.rest 1 0
  add_own = ap (λ (y : Answer). y.length) extended.is ∙ answer_long extended.more extended.normal

  -- letters that give the record, and the new one, give the record at the end
  pub add_given : (u : List Letter) → GivenBy u r → (l : Letter) → byte l ≡ b → GivenBy (u ++ (l ∷ [])) x.slot
  add_given u g l k = given_more g (shown_adds l (run start u) ranged (given_shown g) shown)
    where
      ranged : Ranged (run start u).q
      ranged = run_ranged start u start_ranged

      letters : extended.l ≡ l
      letters = byte_inj extended.l l (extended.byte_is ∙ sym k)

      more : GivenBy (extended.u ++ (l ∷ [])) x.slot
      more = subst (λ (m : Letter). GivenBy (extended.u ++ (m ∷ [])) x.slot) letters extended.more

      form : shape (extended.u ++ (l ∷ [])) ≡ shape_of (read l (run start u))
      form =
          one_form (extended.u ++ (l ∷ [])) (u ++ (l ∷ [])) (one_more extended.given g l) ∙ ap shape_of (run_append start u (l ∷ []))

      shown : Shows (shape_of (read l (run start u))) x.slot
      shown = subst (λ (n : Shape). Shows n x.slot) form (given_shown more)

-- ---- 18 is given at 4,096 syllables alone
full_count : {b : ℕ} {r : Slot} → Given r → Overfull b r → get_or r.rest 0 0 ≡ longest
full_count {b} {r} g o =
    omega (arith, o.more, few_shown st ranged x, read_size o.l st, ap (λ (n : Shape). length (codes n)) next, state_size (read o.l st), count)
  where
    st : State
    st = run start g.letters

    ranged : Ranged st.q
    ranged = run_ranged start g.letters start_ranged

    x : Shows (shape_of st) r
    x = given_shown g.by

    next : o.n' ≡ shape_of (read o.l st)
    next = over_form o.l st ranged x o refl

    count : get_or r.rest 0 0 ≡ size_of st
    count = ap (λ (ns : List ℕ). get_or ns 0 0) (shown_rest st ranged x)

pub full_at : {b : ℕ} {r : Slot} {x : Left} → AddOutcome b r x → x.answer.refusal ≡ Limits.full_refusal → get_or r.rest 0 0 ≡ longest
full_at {b} {r} {x} o e = stable (get_or r.rest 0 0) longest (λ n. at o (λ g h. n (full_count g h)))
  where
    number : {n : ℕ} → x ≡ left (refused n) r → x.answer.refusal ≡ n
    number f = ap (λ (y : Left). y.answer.refusal) f

    stable : (m n : ℕ) → ((m ≡ n → ⊥) → ⊥) → m ≡ n
    stable m n f = go (eqb m n) refl
      where
        go : (t : Bool) → eqb m n ≡ t → m ≡ n
        go true k = eqb-true m n k
        go false k = absurd (f (eqb-false m n k))

    at : AddOutcome b r x → (Given r → Overfull b r → ⊥) → ⊥
    at (Rung.given p h f) n = omega (arith, number f, e)
    at (Rung.passed w (Rung.given p h f)) n = omega (arith, number f, e)
    at (Rung.passed w (Rung.passed v (Rung.given p h f))) n = w 0 ((λ g. n g h.0), refl)
    at (Rung.passed w (Rung.passed v (Rung.passed u a))) n = omega (arith, ap (λ (y : Answer). y.refusal) a.is, e)

-- ---- no text is longer than 4,096 syllables of three letters and a tail of thirteen
pub text_most : {r : Slot} → Given r → get_or r.rest 1 0 ≤ 12301
text_most {r} g =
    let h = given_sound g in
    let syllables = sum_most r.syllables (get_or r.rest 0 0) (omega (arith, h.places, h.ranges.count_few)) h.fronts in
    omega (arith, h.bytes_is, syllables, h.ranges.count_few, tail_most (clifford_in r.rest) (clifford_ranged h.ranges))
