-- Slots (docs/SCOPE.md, Slots): the record of a normal word's syllables, tail and bytes; which records letters give, added one after another to
-- the empty one; and what the two calls promise.
use Rattle.std.specs.Prelude.{◌≡◌, Bool, true, false, List, [], ◌∷◌, ◌++◌, ℕ, ◌<◌, ◌≤◌, length, get_or, Result}
use Rattle.exact.specs.Meaning.Matrix.{Same}
use Rattle.exact.specs.Meaning.Word.{Letter, word, byte, IsLetter}
use Rattle.exact.specs.Meaning.Normal.{Syllable, HT, SHT, Shape, Fits, tail_word, spell, NormalOf}
use Rattle.exact.specs.Meaning.Clifford.{Clifford, Within, clifford}
use Rattle.exact.specs.declared.Refusal as Handed
use Rattle.exact.specs.Meaning.Handed.{handed}
use Rattle.exact.specs.Meaning.Limits as Limits
use Rattle.exact.specs.Meaning.Limits.{no_refusal, longest}
use Rattle.exact.specs.Meaning.Outcome.{Refusal, Refusals, none, ◌then◌, plain, Outcome}

-- ---- the record as it is lent: 4,096 codes; and how many syllables, the bytes of the text, the tail's Clifford a, b, c, d
pub record Slot : Type 0 where
  pub syllables : List ℕ
  pub rest : List ℕ

abbrev pub slot_of : List ℕ → List ℕ → Slot
slot_of syllables rest = record { syllables = syllables; rest = rest }

-- a syllable's code: T is 1
abbrev pub code : Syllable → ℕ
code HT = 2
code SHT = 3

abbrev pub codes_of : List Syllable → List ℕ
codes_of [] = []
codes_of (s ∷ ss) = code s ∷ codes_of ss

abbrev pub led : Bool → List ℕ → List ℕ
led true cs = 1 ∷ cs
led false cs = cs

abbrev pub codes : Shape → List ℕ
codes n = led n.lead (codes_of n.syllables)

-- the record of a normal word of shape n; `get_or` is 0 behind the codes, and so are the places there
pub record Shows (n : Shape) (r : Slot) : Type 0 where
  pub fits : Fits n.tail
  pub few : length (codes n) ≤ longest
  pub places : length r.syllables ≡ longest
  pub syllables_are : (i : ℕ) → get_or r.syllables i 0 ≡ get_or (codes n) i 0
  pub q : Clifford
  pub within : Within q
  pub tail_is : Same (word (clifford q)) (word (tail_word n.tail))
  pub rest_is : r.rest ≡ length (codes n) ∷ length (spell n) ∷ q.a ∷ q.b ∷ q.c ∷ q.d ∷ []

-- ---- records that letters give
pub record Empty (r : Slot) : Type 0 where
  pub places : length r.syllables ≡ longest
  pub none_there : (i : ℕ) → get_or r.syllables i 0 ≡ 0
  pub rest_is : r.rest ≡ 0 ∷ 1 ∷ 0 ∷ 0 ∷ 0 ∷ 0 ∷ []

-- n' is the shape of the normal word of n's letters and one more
pub record Next (l : Letter) (n n' : Shape) : Type 0 where
  pub fits : Fits n'.tail
  pub same : Same (word (spell n ++ (l ∷ []))) (word (spell n'))

pub record Adds (l : Letter) (r r' : Slot) : Type 0 where
  pub n : Shape
  pub n' : Shape
  pub before : Shows n r
  pub next : Next l n n'
  pub after : Shows n' r'

pub record Through (P Q : Slot → Type 0) : Type 0 where
  pub mid : Slot
  pub there : P mid
  pub onward : Q mid

abbrev pub Added : List Letter → Slot → Slot → Type 0
Added [] r r' = r ≡ r'
Added (l ∷ u) r r' = Through (Adds l r) (λ m. Added u m r')

pub record GivenBy (u : List Letter) (r : Slot) : Type 0 where
  pub start : Slot
  pub empty : Empty start
  pub added : Added u start r

pub record Given (r : Slot) : Type 0 where
  pub letters : List Letter
  pub by : GivenBy letters r

-- ---- refusals
-- 17: no letters give the record
abbrev pub slot : Slot → Refusal
slot r = plain Limits.slot_refusal (Given r → ⊥)

-- 2: the byte is no letter
abbrev pub letter : ℕ → Refusal
letter b = plain Limits.letter_refusal (IsLetter b → ⊥)

-- 18: a 4,097th syllable would be needed
pub record Overfull (b : ℕ) (r : Slot) : Type 0 where
  pub l : Letter
  pub is : byte l ≡ b
  pub n : Shape
  pub n' : Shape
  pub shows : Shows n r
  pub next : Next l n n'
  pub more : longest < length (codes n')

abbrev pub full : ℕ → Slot → Refusal
full b r = plain Limits.full_refusal (Overfull b r)

-- ---- what is handed back: a length, or a refusal, which names no place
pub record Answer : Type 0 where
  pub refusal : ℕ
  pub length : ℕ

abbrev pub answer_of : Result ℕ Handed.Refusal → Answer
answer_of = handed (λ n p. record { refusal = n; length = 0 }) (λ n. record { refusal = no_refusal; length = n })

-- ---- the length: that of the normal word of the letters that give the record
abbrev pub refused : ℕ → Answer
refused n = record { refusal = n; length = 0 }

abbrev pub long : List Letter → Answer
long v = record { refusal = no_refusal; length = length v }

pub record Measured (r : Slot) (a : Answer) : Type 0 where
  pub u : List Letter
  pub v : List Letter
  pub given : GivenBy u r
  pub normal : NormalOf (word u) v
  pub is : a ≡ long v

abbrev pub LengthOutcome : Slot → Answer → Type 0
LengthOutcome r = Outcome (λ n p. refused n) (Measured r) (slot r then none)

-- ---- adding a letter: the answer, and the record at the end
pub record Left : Type 0 where
  pub answer : Answer
  pub slot : Slot

abbrev pub left : Answer → Slot → Left
left a r = record { answer = a; slot = r }

-- the record of the letters so far and the new one, and its length
pub record Extended (b : ℕ) (r : Slot) (x : Left) : Type 0 where
  pub u : List Letter
  pub l : Letter
  pub v : List Letter
  pub given : GivenBy u r
  pub byte_is : byte l ≡ b
  pub more : GivenBy (u ++ (l ∷ [])) x.slot
  pub normal : NormalOf (word (u ++ (l ∷ []))) v
  pub is : x.answer ≡ long v

abbrev pub add_refusals : ℕ → Slot → Refusals
add_refusals b r = slot r then letter b then full b r then none

abbrev pub AddOutcome : ℕ → Slot → Left → Type 0
AddOutcome b r = Outcome (λ n p. left (refused n) r) (Extended b r) (add_refusals b r)
