-- What is written for a text is the answer to the letters read. Assumes nothing.
use Rattle.std.specs.Prelude.{◌≡◌, Bool, true, false, cond, List, ◌++◌, ℕ, ◌+◌, ◌<◌, ◌≤◌, length, take, drop, Result, Ok, Err}
use Rattle.std.proofs.Common.{sym, ◌∙◌, ap, ap₂, subst, zero-add, arith, length-append}
use Rattle.std.proofs.Math.Seq.{take-length}
use Rattle.exact.specs.Meaning.Word.{Letter, bytes, tees, Spelled}
use Rattle.exact.specs.Meaning.Normal.{spell}
use Rattle.exact.specs.declared.Refusal.{Refusal}
use Rattle.exact.specs.Meaning.Handed.{number, place}
use Rattle.exact.specs.Meaning.Limits.{no_refusal, room_refusal}
use Rattle.exact.specs.Meaning.Lent.{over}
use Rattle.exact.specs.Cases.Letters.{letters_of, Inside}
use Rattle.exact.proofs.Cases.Letters.{bytes_length, bytes_back, inside_passes}
use Rattle.exact.proofs.Unique.Tails.{tees_append}
use Rattle.exact.proofs.Outcomes.Ladder.{Only}
use Rattle.clifford.specs.Cliffords.{split_c}
use Rattle.reading.specs.declared.Reading.{Reading}
use Rattle.reading.specs.declared.Text.{Text}
use Rattle.reading.specs.Readings.{State, prefix, prefix_tees, start, run, shape, normal, phase_free, normal_of, text_size_lem}
use Rattle.reading.specs.Held.{Holds, count_is, count_few, letters_most}
use Rattle.reading.specs.Steps.{tail_of}
use Rattle.reading.specs.Texts.{HoldsText, ReadableText}
use Rattle.reading.specs.Letters.{Reads, letter_refused}
use Rattle.writing.specs.declared.Ending.{Ending}
use Rattle.writing.specs.Put.{Put, put_more}
use Rattle.writing.specs.Endings.{end_word, end_size, ending_of, Ended, end_length, end_whole, end_tees, text_of, text_is}
use Rattle.writing.specs.Codes.{codes_word, held_word, bytes_append}
use Rattle.normal_form.specs.Meaning.{Written, Normalises, DropsPhase, refused, counts, WordOutcome}
use Rattle.normal_form.specs.Unique.{normalises_single, drops_single}
use Rattle.normal_form.specs.Ways.{RoomOutcome, outside_at, no_room, written_whole, answered_with}

-- ---- the answers of job 3, with the W letters of the tail, and of job 5, without
abbrev pub Answers : Bool → List Letter → List Letter → Type 0
Answers true = Normalises
Answers false = DropsPhase

pub answers : (phase : Bool) (u : List Letter) → Answers phase u (text_of phase (run start u))
answers true u = subst (Normalises u) (text_is true (run start u)) (record { normal = normal u; same = normal_of u })
answers false u =
    record { whole = spell (shape u); phase_free = phase_free u (text_of false (run start u)) (text_is false (run start u)); same = normal_of u }

pub answers_single : (phase : Bool) (u : List Letter) → Only (Answers phase u)
answers_single true = normalises_single
answers_single false = drops_single

-- of a word's bytes that are all letters
spelled_answer : (phase : Bool) (w : List ℕ) → Inside w (length w) → Spelled (Answers phase) w (text_of phase (run start (letters_of w)))
spelled_answer phase w f = record { letters = letters_of w; spelled = bytes_back w f; holds = answers phase (letters_of w) }

-- ---- what is written for a text, if there is room for it
pub record WritesText (phase : Bool) (items : List ℕ) (r : Text) (old : List ℕ) (n : Written) (new : List ℕ) : Type 0 where
  pub writes : (st : State) → HoldsText items r st → RoomOutcome (λ v. v ≡ text_of phase st) old n new

-- the bytes of the syllables that are held
abbrev pub held_bytes : List ℕ → Reading → List ℕ
held_bytes items r = bytes (codes_word (take r.count items))

held_length : {items : List ℕ} {r : Reading} {st : State} → Holds items r st → length (held_bytes items r) ≡ r.letters
held_length {items} {r} h = bytes_length (codes_word (take r.count items)) ∙ ap length (held_word h) ∙ sym h.letters_is

-- what is handed back for n bytes
abbrev accepted : Text → ℕ → Written
accepted r n = record { refusal = no_refusal; place = 0; bytes = n; tees = r.reading.count }

-- the bytes that are counted are those of the syllables and of the ending
bytes_parted : (phase : Bool) {items : List ℕ} {r : Text} {st : State} {e : Ending} {n : ℕ}
    → HoldsText items r st
    → Ended phase (tail_of r.reading.tail) e
    → n ≡ cond phase r.bytes (r.reading.letters + end_size e)
    → n ≡ r.reading.letters + end_size e
bytes_parted false h k f = f
bytes_parted true {st = st} h k f =
    f
    ∙ h.bytes_is
    ∙ text_size_lem st
    ∙ ap₂ (λ x y. x + y) (sym h.holds.letters_is)
    (ap length (sym (end_whole true (split_c st.q)))
    ∙ end_length (ending_of true st.q)
    ∙ ap end_size (ap (ending_of true) (sym h.holds.tail_is) ∙ sym k.is))

-- e is the ending, and n the bytes that are counted
module _ (phase : Bool) (items : List ℕ) (r : Text) (e : Ending) (n : ℕ) (k : Ended phase (tail_of r.reading.tail) e)
    (f : n ≡ cond phase r.bytes (r.reading.letters + end_size e)) where
  module _ {st : State} (h : HoldsText items r st) where
    text_bytes : held_bytes items r.reading ++ bytes (end_word e) ≡ bytes (text_of phase st)
    text_bytes =
        ap₂ (λ x y. bytes x ++ bytes (end_word y)) (held_word h.holds) (k.is ∙ ap (ending_of phase) h.holds.tail_is)
        ∙ sym (bytes_append (prefix st.lead st.stack) (end_word (ending_of phase st.q)))

    size_is : length (bytes (text_of phase st)) ≡ n
    size_is =
        ap length (sym text_bytes)
        ∙ length-append (held_bytes items r.reading) (bytes (end_word e))
        ∙ ap₂ (λ x y. x + y) (held_length h.holds) (bytes_length (end_word e) ∙ end_length e)
        ∙ sym (bytes_parted phase h k f)

    tees_is : r.reading.count ≡ tees (text_of phase st)
    tees_is =
        let end = ending_of phase st.q in
        let parts = tees_append (prefix st.lead st.stack) (end_word end) in
        omega (arith, count_is h.holds, prefix_tees st.lead st.stack, end_tees end)

    counts_is : accepted r n ≡ counts (text_of phase st)
    counts_is =
        ap₂ (λ b t. record { refusal = no_refusal; place = 0; bytes = b; tees = t })
        (omega (arith, size_is, bytes_length (text_of phase st))) tees_is

  module _ (old : List ℕ) where
    pub no_room_for : (x : Written) → length old < n → x ≡ refused room_refusal 0 → WritesText phase items r old x old
    no_room_for x l g = record { writes = λ st h. no_room (text_of phase st) old x (omega (arith, size_is h)) g }

    pub written_for : (mid : List ℕ) (at : ℕ) (new : List ℕ) (last : ℕ) → n ≤ length old
        → Put old 0 (held_bytes items r.reading) mid at → Put mid at (bytes (end_word e)) new last
        → WritesText phase items r old (accepted r n) new
    written_for mid at new last l p q =
        record {
          writes = λ st h. written_whole (text_of phase st) old (accepted r n) new (omega (arith, size_is h)) (counts_is h) (content st h);
        }
      where
        content : (st : State) → HoldsText items r st → new ≡ over (bytes (text_of phase st)) old
        content st h =
            let within : 0 + length (held_bytes items r.reading) ≤ length old = omega (arith, held_length h.holds, bytes_parted phase h k f) in
            (put_more old 0 (held_bytes items r.reading) mid at p within (bytes (end_word e)) new last q).is
            ∙ ap (λ (x : List ℕ). x ++ drop (0 + length x) old) (text_bytes h)
            ∙ ap (λ m. bytes (text_of phase st) ++ drop m old) (zero-add (length (bytes (text_of phase st))))

  -- room for its syllables, and then for its ending
  module _ (old : List ℕ) (h : ReadableText items r) (l : n ≤ length old) where
    pub syllables_room : length (codes_word (take r.reading.count items)) ≤ length old
    syllables_room =
        let parted = bytes_parted phase h.holds k f in
        omega (arith, held_length h.holds.holds, bytes_length (codes_word (take r.reading.count items)), parted)

    pub ending_room : (mid : List ℕ) (at : ℕ) → length mid ≡ length old → Put old 0 (held_bytes items r.reading) mid at
        → at + end_size e ≤ length mid
    ending_room mid at m p = omega (arith, held_length h.holds.holds, p.next, bytes_parted phase h.holds k f)

pub parts_few : {phase : Bool} {items : List ℕ} {r : Text} {e : Ending} → ReadableText items r → r.reading.count ≤ 4096
    → Ended phase (tail_of r.reading.tail) e → (r.reading.letters ≤ 12288) × (end_size e ≤ 64)
parts_few h l k = (letters_most h.holds.holds l, k.few)

-- ---- the whole: x is what the word is read as
module _ (w items : List ℕ) (x : Result Text Refusal) (l : length w ≤ 4096) (s : Reads w items x) where
  pub refused_outside : (phase : Bool) (old : List ℕ) (e : Refusal) (n : Written) → x ≡ Err e → n ≡ refused (number e) (place e)
      → WordOutcome (Answers phase) w old n old
  refused_outside phase old e n f g =
      let o = letter_refused w items e (subst (Reads w items) f s) in
      outside_at (Answers phase) w old n (place e) l o.1 (g ∙ ap (λ (k : ℕ). refused k (place e)) o.0)

  module _ (r : Text) (e : x ≡ Ok r) where
    reads : Reads w items (Ok r)
    reads = subst (Reads w items) e s

    pub readable : ReadableText items r
    readable = record { st = run start (letters_of w); holds = reads.1 }

    pub count_most : r.reading.count ≤ 4096
    count_most = omega (arith, count_few items r.reading w (length w) whole (omega arith))
      where
        whole : Holds items r.reading (run start (letters_of (take (length w) w)))
        whole = subst (λ (u : List ℕ). Holds items r.reading (run start (letters_of u))) (sym (take-length w)) reads.1.holds

    pub answered_by : (phase : Bool) (old : List ℕ) (n : Written) (new : List ℕ) → WritesText phase items r old n new
        → WordOutcome (Answers phase) w old n new
    answered_by phase old n new p =
        let st = run start (letters_of w) in
        answered_with (answers_single phase) w old (text_of phase st) (spelled_answer phase w reads.0) n new l
        (inside_passes w reads.0) (p.writes st reads.1)
