-- The letters of the codes in a reading's array, and their bytes put into a buffer, code by code. Assumes nothing.
use Rattle.std.specs.Prelude.{◌≡◌, refl, Bool, true, false, List, [], ◌∷◌, ◌++◌, ℕ, ◌+◌, ◌-◌, ◌<◌, ◌≤◌, length, take, get_or}
use Rattle.std.proofs.Common.{sym, ◌∙◌, ap, ap₂, subst, append_assoc, append-nil, add-one, arith, length-append, take-suc, take-add}
use Rattle.exact.specs.Meaning.Word.{Letter, byte, bytes}
use Rattle.exact.specs.Meaning.Normal as normal
use Rattle.exact.proofs.Cases.Letters.{bytes_length}
use Rattle.reading.specs.declared.Reading.{Reading}
use Rattle.reading.specs.declared.Syllable.{Syllable}
use Rattle.reading.specs.Readings.{State, syllable, prefix}
use Rattle.reading.specs.Held.{codes, Holds}
use Rattle.reading.specs.Syllables.{syllable_number, syllable_word, syllable_of, named}
use Rattle.writing.specs.Put.{Put, put_more, put_length}

-- ---- the letters of codes
abbrev pub codes_word : List ℕ → List Letter
codes_word [] = []
codes_word (c ∷ cs) = syllable_word (syllable_of c) ++ codes_word cs

codes_word_append : (cs ds : List ℕ) → codes_word (cs ++ ds) ≡ codes_word cs ++ codes_word ds
codes_word_append [] ds = refl
codes_word_append (c ∷ cs) ds =
    ap (λ u. syllable_word (syllable_of c) ++ u) (codes_word_append cs ds)
    ∙ sym (append_assoc (syllable_word (syllable_of c)) (codes_word cs) (codes_word ds))

one_code : (s : normal.Syllable) → codes_word (syllable_number (named s) ∷ []) ≡ syllable s
one_code normal.HT = refl
one_code normal.SHT = refl

codes_word_lem : (b : Bool) (ss : List normal.Syllable) → codes_word (codes b ss) ≡ prefix b ss
codes_word_lem true [] = refl
codes_word_lem false [] = refl
codes_word_lem true (s ∷ ss) =
    codes_word_append (codes true ss) (syllable_number (named s) ∷ []) ∙ ap₂ (λ u v. u ++ v) (codes_word_lem true ss) (one_code s)
codes_word_lem false (s ∷ ss) =
    codes_word_append (codes false ss) (syllable_number (named s) ∷ []) ∙ ap₂ (λ u v. u ++ v) (codes_word_lem false ss) (one_code s)

pub held_word : {items : List ℕ} {r : Reading} {st : State} → Holds items r st
    → codes_word (take r.count items) ≡ prefix st.lead st.stack
held_word {items} {r} {st} h = ap codes_word h.array.front ∙ codes_word_lem st.lead st.stack

-- the letters of the code at a place, one code more, and still no more than all
abbrev pub code_word : List ℕ → ℕ → List Letter
code_word items k = syllable_word (syllable_of (get_or items k 0))

pub codes_more : (items : List ℕ) (k : ℕ) → k < length items → codes_word (take (k + 1) items) ≡ codes_word (take k items) ++ code_word items k
codes_more items k h =
    ap codes_word (ap (λ n. take n items) (add-one k) ∙ take-suc items k 0 h)
    ∙ codes_word_append (take k items) (get_or items k 0 ∷ [])
    ∙ ap (λ u. codes_word (take k items) ++ u) (append-nil (code_word items k))

codes_part : (items : List ℕ) (k n : ℕ) → k ≤ n → length (codes_word (take k items)) ≤ length (codes_word (take n items))
codes_part items k n l =
    let sum : k + (n - k) ≡ n = omega arith in
    rw (← sum) (simp (take-add, codes_word_append, length-append) (omega arith))

pub codes_room : (items : List ℕ) (k n : ℕ) → k < n → k < length items
    → length (codes_word (take k items)) + length (code_word items k) ≤ length (codes_word (take n items))
codes_room items k n l h =
    let one = ap length (codes_more items k h) ∙ length-append (codes_word (take k items)) (code_word items k) in
    omega (arith, codes_part items (k + 1) n (omega arith))

-- ---- bytes
pub bytes_append : (u v : List Letter) → bytes (u ++ v) ≡ bytes u ++ bytes v
bytes_append [] v = refl
bytes_append (l ∷ u) v = ap (λ x. byte l ∷ x) (bytes_append u v)

-- ---- the loop over the syllables
module _ (items old : List ℕ) (k n : ℕ) (buf : List ℕ) (at : ℕ) (l : k < n) (m : n ≤ length items)
    (e : length (codes_word (take n items)) ≤ length old) (p : Put old 0 (bytes (codes_word (take k items))) buf at) where
  front_room : length (bytes (codes_word (take k items))) + length (code_word items k) ≤ length old
  front_room = omega (arith, bytes_length (codes_word (take k items)), codes_room items k n l (omega arith))

  pub same_size : length buf ≡ length old
  same_size = put_length old 0 (bytes (codes_word (take k items))) buf at p (omega (arith, front_room))

  pub one_room : at + length (code_word items k) ≤ length buf
  one_room = omega (arith, same_size, front_room, p.next)

  pub one_more : (s : Syllable) (new : List ℕ) (r : ℕ) → s ≡ syllable_of (get_or items k 0) → Put buf at (bytes (syllable_word s)) new r
      → Put old 0 (bytes (codes_word (take (k + 1) items))) new r
  one_more s new r f q =
      subst (λ (w : List ℕ). Put old 0 w new r) whole
      (put_more old 0 (bytes (codes_word (take k items))) buf at p (omega (arith, front_room)) (bytes (syllable_word s)) new r q)
    where
      whole : bytes (codes_word (take k items)) ++ bytes (syllable_word s) ≡ bytes (codes_word (take (k + 1) items))
      whole =
          ap (λ (t : Syllable). bytes (codes_word (take k items)) ++ bytes (syllable_word t)) f
          ∙ sym (bytes_append (codes_word (take k items)) (code_word items k))
          ∙ ap bytes (sym (codes_more items k (omega arith)))
