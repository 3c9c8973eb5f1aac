-- From job 4, lent enough bytes, to what the bench program answers: its word is there, refusal 7 can't arise, and its text is printed.
-- Assumes nothing.
use Rattle.std.specs.Prelude.{◌≡◌, refl, List, [], ℕ, ◌<◌, ◌≤◌, ◌^◌, ℤ, length, take, drop}
use Rattle.std.proofs.Common.{sym, ◌∙◌, ap, subst, arith, length-append, length-take-le}
use Rattle.std.specs.Int.Signed.{mag}
use Rattle.std.specs.Int.{w64}
use Rattle.exact.specs.Meaning.Word.{tees, bytes}
use Rattle.exact.specs.Meaning.Limits.{enough, no_refusal}
use Rattle.exact.specs.Meaning.Outcome.{Rung, Outcome, none, ◌then◌}
use Rattle.exact.specs.Meaning.Lent.{Lent, lent, over, untouched, Writes}
use Rattle.exact.specs.Meaning.Refusals.{checks, TooMany, room, malformed}
use Rattle.exact.specs.Meaning.Record.{Numbers, answer_text}
use Rattle.exact.proofs.Cases.Letters.{bytes_length}
use Rattle.exact.proofs.Whole.Machine.{held}
use Rattle.exact.proofs.Outcomes.Ladder.{Passed, answered, always, carry}
use Rattle.exact.proofs.Outcomes.Checked.{Taken, checks_taken}
use Rattle.exact.proofs.Outcomes.Lent.{text_there}
use Rattle.ring.specs.declared.ZOmega.{ZOmega}
use Rattle.unitary.specs.Triples.{number}
use Rattle.synthesis_of_clifford_t.specs.Meaning as Job4
use Rattle.synthesis_of_clifford_t.specs.Meaning.{Synthesis, SpellingOf, SynthesiseOutcome}
use Rattle.synthesis_of_clifford_t.proofs.Enough.{answer_short, bytes_there, bytes_few}
use Rattle.record.specs.Meaning.{Record, numbers, ReadOutcome, WriteOutcome}
use Rattle.dunrossel.specs.Meaning.Bench.{printed, refused, word_text, word_size, asked, NumbersOutcome, OfRecord, BenchOutcome}
use Rattle.handed.specs.Numbers.{held_is}

-- job 4 on a record's numbers
abbrev pub Job4Of : Numbers → List ℕ → Synthesis → List ℕ → Type 0
Job4Of x old j new = SynthesiseOutcome x.k x.n (number x.z) (number x.w) old j new

-- as the machine reads them back
pub record Fits64 (r : Record) : Type 0 where
  pub k_fits : mag r.k < 2 ^ 63
  pub za_fits : mag r.za < 2 ^ 63
  pub zb_fits : mag r.zb < 2 ^ 63
  pub zc_fits : mag r.zc < 2 ^ 63
  pub zd_fits : mag r.zd < 2 ^ 63
  pub wa_fits : mag r.wa < 2 ^ 63
  pub wb_fits : mag r.wb < 2 ^ 63
  pub wc_fits : mag r.wc < 2 ^ 63
  pub wd_fits : mag r.wd < 2 ^ 63

abbrev held_of : ℤ → ℤ → ℤ → ℤ → ZOmega
held_of a b c d = record { a = held w64 a; b = held w64 b; c = held w64 c; d = held w64 d }

pub job4_of : (r : Record) (old : List ℕ) (j : Synthesis) (new : List ℕ) → Fits64 r
    → SynthesiseOutcome (held w64 r.k) r.n (held_of r.za r.zb r.zc r.zd) (held_of r.wa r.wb r.wc r.wd) old j new
    → Job4Of (numbers r) old j new
job4_of r old j new f o =
    subst (λ (k : ℤ). SynthesiseOutcome k r.n (number (numbers r).z) (number (numbers r).w) old j new) (held_is r.k f.k_fits)
    (subst (λ (z : ZOmega). SynthesiseOutcome (held w64 r.k) r.n z (number (numbers r).w) old j new) z_is
    (subst (λ (w : ZOmega). SynthesiseOutcome (held w64 r.k) r.n (held_of r.za r.zb r.zc r.zd) w old j new) w_is o))
  where
    z_is : held_of r.za r.zb r.zc r.zd ≡ number (numbers r).z
    z_is = λ i.
        record {
          a = held_is r.za f.za_fits i;
          b = held_is r.zb f.zb_fits i;
          c = held_is r.zc f.zc_fits i;
          d = held_is r.zd f.zd_fits i;
        }

    w_is : held_of r.wa r.wb r.wc r.wd ≡ number (numbers r).w
    w_is = λ i.
        record {
          a = held_is r.wa f.wa_fits i;
          b = held_is r.wb f.wb_fits i;
          c = held_is r.wc f.wc_fits i;
          d = held_is r.wd f.wd_fits i;
        }

-- ---- 376 bytes are enough
module _ (x : Numbers) (taken : Taken x.k x.z x.w) where
  pub has_room : (old : List ℕ) → enough ≤ length old → (p : ℕ) → TooMany Job4.text (SpellingOf (asked x)) old × (p ≡ 0) → ⊥
  has_room old l p h =
      omega (
        arith,
        h.0.more,
        bytes_length h.0.v.letters,
        answer_short x.k x.n x.z x.w taken h.0.v.letters h.0.answer.normal,
      )

-- ---- the text of job 4's answer
abbrev pub text_of : Synthesis → List ℕ → List ℕ
text_of j new = answer_text j.refusal (take j.bytes new) j.tees j.steps

module _ (x : Numbers) (old : List ℕ) (enough-there : enough ≤ length old) (out : List ℕ) where
  abbrev print : Lent Synthesis → Lent ℕ
  print j = printed out (text_of j.handed j.buffer)

  behind : (j : Lent Synthesis) → Passed (checks x.k x.z x.w)
      → Outcome (untouched Job4.refused old) (Writes Job4.text Job4.counts (SpellingOf (asked x)) old) (room Job4.text (SpellingOf (asked x)) old then none) j
      → Writes word_text word_size (SpellingOf (asked x)) out (print j)
  behind j h o = record {
    v = y.v;
    answer = y.answer;
    is = ap print y.is ∙ ap (λ w. printed out (answer_text no_refusal w (tees y.v.letters) y.v.steps)) word_there;
  }
    where
      y : Writes Job4.text Job4.counts (SpellingOf (asked x)) old j
      y =
          answered (untouched Job4.refused old) (Writes Job4.text Job4.counts (SpellingOf (asked x)) old) (room Job4.text (SpellingOf (asked x)) old then none)
          (has_room x (checks_taken x.k x.z x.w h) old enough-there, tt) j o

      word_there : take (length y.v.letters) (over (bytes y.v.letters) old) ≡ bytes y.v.letters
      word_there = text_there (bytes y.v.letters) old (length y.v.letters) (sym (bytes_length y.v.letters))

  module _ (j : Synthesis) (new : List ℕ) (o : Job4Of x old j new) where
    pub numbers_outcome : NumbersOutcome x out (print (lent j new))
    numbers_outcome =
        carry (untouched Job4.refused old) (Writes Job4.text Job4.counts (SpellingOf (asked x)) old) (refused out)
        (Writes word_text word_size (SpellingOf (asked x)) out) print
        (λ n p. refl) (checks x.k x.z x.w) (room Job4.text (SpellingOf (asked x)) old then none) none behind (lent j new) o

    -- what is handed back as written is there, and not too long
    pub there : j.bytes ≤ length new
    there = bytes_there x.k x.n (number x.z) (number x.w) old j new o

    pub few : j.bytes ≤ enough
    few = bytes_few x.k x.n (number x.z) (number x.w) old j new o

    pub taken_there : j.bytes ≡ length (take j.bytes new)
    taken_there = sym (length-take-le j.bytes new there)

    pub printed_is : (size : ℕ) (out' : List ℕ) → WriteOutcome j.refusal (take j.bytes new) j.tees j.steps out out' size
        → NumbersOutcome x out (lent size out')
    printed_is size out' w = subst (NumbersOutcome x out) (sym (λ i. lent (w.is_size i) (w.is i))) numbers_outcome

-- ---- after reading
module _ (s old : List ℕ) (r : Record) (size : ℕ) (new : List ℕ) where
  pub bench_malformed : ReadOutcome s r → (r.refusal ≡ 0 → ⊥) → WriteOutcome r.refusal [] 0 0 old new size → BenchOutcome s old size new
  bench_malformed (Rung.given p h e) f w =
      Rung.given p h ((λ i. lent (w.is_size i) (w.is i)) ∙ ap (λ (x : Record). printed old (answer_text x.refusal [] 0 0)) e)
  bench_malformed (Rung.passed n x) f w = absurd (f x.taken)

  pub bench_read : ReadOutcome s r → r.refusal ≡ 0 → NumbersOutcome (numbers r) old (lent size new) → BenchOutcome s old size new
  bench_read (Rung.given p h e) q o = absurd (omega (arith, q, ap (λ (x : Record). x.refusal) e))
  bench_read (Rung.passed n x) q o = Rung.passed n (record { numbers = numbers r; right = x.right; outcome = o })

-- ---- what is printed is there
printed_there : (old text : List ℕ) → length text ≤ length (over text old)
printed_there old text = omega (arith, length-append text (drop (length text) old))

abbrev There : Lent ℕ → Type 0
There l = l.handed ≤ length l.buffer

pub bench_fits : (s old : List ℕ) (size : ℕ) (new : List ℕ) → BenchOutcome s old size new → size ≤ length new
bench_fits s old size new =
    always (refused old) (OfRecord s old) There (λ n p. printed_there old (answer_text n [] 0 0)) (malformed s then none)
    (λ h r x. always (refused old) (Writes word_text word_size (SpellingOf (asked x.numbers)) old) There (λ n p. printed_there old (answer_text n [] 0 0))
    (checks x.numbers.k x.numbers.z x.numbers.w) (λ g l y. rw y.is (printed_there old (word_text y.v))) r
    x.outcome) (lent size new)

pub bench_counted : (s old : List ℕ) (size : ℕ) (new : List ℕ) → BenchOutcome s old size new → size ≡ length (take size new)
bench_counted s old size new o = sym (length-take-le size new (bench_fits s old size new o))
