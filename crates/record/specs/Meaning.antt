-- What reading a bench record hands back, and what writing its answer leaves (docs/SCOPE.md, The record).
-- The record and its answer in bytes are crate exact's (Meaning.Record).
use Rattle.std.specs.Prelude.{◌≡◌, List, ℕ, ℤ, pos, length, Result}
use Rattle.exact.specs.declared.Refusal.{Refusal}
use Rattle.exact.specs.Meaning.Handed.{handed}
use Rattle.exact.specs.Meaning.Limits.{no_refusal}
use Rattle.exact.specs.Meaning.Lent.{over}
use Rattle.exact.specs.Meaning.Outcome.{none, ◌then◌, Outcome}
use Rattle.exact.specs.Meaning.Record.{Numbers, RightRecord, answer_text}
use Rattle.exact.specs.Meaning.Refusals.{malformed}
use Rattle.ring.specs.declared.Triple.{Triple}

-- ---- reading: the refusal, and the numbers k, n, z and w
pub record Record : Type 0 where
  pub refusal : ℕ
  pub k : ℤ
  pub n : ℕ
  pub za : ℤ
  pub zb : ℤ
  pub zc : ℤ
  pub zd : ℤ
  pub wa : ℤ
  pub wb : ℤ
  pub wc : ℤ
  pub wd : ℤ

abbrev pub numbers : Record → Numbers
numbers r = record {
  k = r.k;
  n = r.n;
  z = record { a = r.za; b = r.zb; c = r.zc; d = r.zd };
  w = record { a = r.wa; b = r.wb; c = r.wc; d = r.wd };
}

-- what a refusal hands back: its number, and zeros; a record has no place
abbrev pub refused_record : ℕ → ℕ → Record
refused_record number place = record {
  refusal = number;
  k = pos 0;
  n = 0;
  za = pos 0;
  zb = pos 0;
  zc = pos 0;
  zd = pos 0;
  wa = pos 0;
  wb = pos 0;
  wc = pos 0;
  wd = pos 0;
}

abbrev pub taken_record : Triple → Record
taken_record t = record {
  refusal = no_refusal;
  k = t.k;
  n = t.n;
  za = t.z.a;
  zb = t.z.b;
  zc = t.z.c;
  zd = t.z.d;
  wa = t.w.a;
  wb = t.w.b;
  wc = t.w.c;
  wd = t.w.d;
}

-- what is handed back
abbrev pub record_of : Result Triple Refusal → Record
record_of = handed refused_record taken_record

-- the numbers of which the bytes are the text
pub record Reads (s : List ℕ) (r : Record) : Type 0 where
  pub taken : r.refusal ≡ no_refusal
  pub right : RightRecord s (numbers r)

abbrev pub ReadOutcome : List ℕ → Record → Type 0
ReadOutcome s r = Outcome refused_record (Reads s) (malformed s then none) r

-- ---- writing: the answer's text, its size, and the bytes beyond as before
pub record WriteOutcome (refusal : ℕ) (word : List ℕ) (t steps : ℕ) (old new : List ℕ) (size : ℕ) : Type 0 where
  pub is_size : size ≡ length (answer_text refusal word t steps)
  pub is : new ≡ over (answer_text refusal word t steps) old
