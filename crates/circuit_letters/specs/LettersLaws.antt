-- The laws by which a right text's letters are put, from the right: a byte more before the others, a statement told by its first two bytes.
-- Assumes nothing.
use Rattle.std.specs.Prelude.{◌≡◌, refl, List, [], ◌∷◌, ◌++◌, ℕ, suc, ◌+◌, ◌-◌, ◌<◌, ◌≤◌, ◌^◌, length, drop, set, get_or}
use Rattle.std.proofs.Common.{sym, ◌∙◌, ap, ap₂, subst, append-nil, append_assoc, add-zero, arith, Fits, lit≤, length-append, length-drop, drop-drop, get_or-drop}
use Rattle.std.specs.Int.{w64}
use Rattle.std.proofs.Math.ListN.{get_or-append}
use Rattle.std.proofs.lemmas.List.Edits.{sets, sets-eq}
use Rattle.std.proofs.Math.Seq.{length-sets, drop-append_seam}
use Rattle.std.proofs.lemmas.List.{set_comm}
use Rattle.exact.specs.Meaning.Word.{Letter, bytes}
use Rattle.exact.specs.Meaning.Lent.{over}
use Rattle.exact.proofs.Cases.Letters.{bytes_length}
use Rattle.circuit_letters.specs.declared.Step.{Step}
use Rattle.circuit.specs.Meaning.{Statement, header, lines, read_as, letters, Reads}
use Rattle.circuit.specs.Lines.{line_of, OfCircuit}
use Rattle.circuit.proofs.Lines.{Each, each, line_long, read_some, one_reading, bytes_append}
use Rattle.circuit_letters.specs.Letters.{Before, PutsBefore, Stands, Stepped, PutsStatement, PutsLetters}

-- ---- a byte before the others
set_sets : (l : List ℕ) (j b i : ℕ) (t : List ℕ) → j < i → set (sets l i t) j b ≡ sets (set l j b) i t
set_sets l j b i [] m = refl
set_sets l j b i (c ∷ t) m =
    set_sets (set l i c) j b (suc i) t (omega arith) ∙ ap (λ x. sets x (suc i) t) (set_comm l i j c b (λ e. omega arith))

pub before_one : {old : List ℕ} {left b : ℕ} {new : List ℕ} {r : ℕ} → Before old left b new r → PutsBefore old left (b ∷ []) new r
before_one p = record { left_is = omega (arith, p.left_is); is = p.is }

pub before_more : {old : List ℕ} {left : ℕ} {t mid : List ℕ} {l b : ℕ} {new : List ℕ} {r : ℕ}
    → PutsBefore old left t mid l → Before mid l b new r → PutsBefore old left (b ∷ t) new r
before_more {old} {left} {t} {mid} {l} {b} {new} {r} p q =
    record {
      left_is = omega (arith, p.left_is, q.left_is);
      is =
          q.is
          ∙ ap (λ x. set x r b) p.is
          ∙ set_sets old r b l t (omega (arith, q.left_is))
          ∙ ap (λ x. sets (set old r b) x t) q.left_is;
    }

-- a text before another
pub before_both : {old : List ℕ} {left : ℕ} {t mid : List ℕ} {l : ℕ} {u new : List ℕ} {r : ℕ}
    → PutsBefore old left t mid l → PutsBefore mid l u new r → PutsBefore old left (u ++ t) new r
before_both {old} {left} {t} {mid} {l} {u} {new} {r} p q =
    record {
      left_is = omega (arith, p.left_is, q.left_is, length-append u t);
      is = q.is ∙ ap (λ x. sets x r u) p.is ∙ joined u r old l q.left_is;
    }
  where
    joined : (u : List ℕ) (r : ℕ) (old : List ℕ) (l : ℕ) → l ≡ r + length u → sets (sets old l t) r u ≡ sets old r (u ++ t)
    joined [] r old l e = ap (λ i. sets old i t) (e ∙ omega arith)
    joined (b ∷ u) r old l e =
        ap (λ x. sets x (suc r) u) (set_sets old r b l t (omega arith)) ∙ joined u (suc r) (set old r b) l (e ∙ omega arith)

pub before_length : {old : List ℕ} {left : ℕ} {t new : List ℕ} {r : ℕ} → PutsBefore old left t new r → length new ≡ length old
before_length {old} {left} {t} {new} {r} p = ap length p.is ∙ length-sets old r t

pub three_esses : {old : List ℕ} {left : ℕ} {one : List ℕ} {a : ℕ} {two : List ℕ} {b : ℕ} {new : List ℕ} {r : ℕ}
    → Before old left 83 one a → Before one a 83 two b → Before two b 83 new r → PutsBefore old left (83 ∷ 83 ∷ 83 ∷ []) new r
three_esses p q o = before_more (before_more (before_one p) q) o

-- ---- the bytes of the statement at a place
module _ (s : List ℕ) (at : ℕ) (a : Statement) (rest : List ℕ) (e : drop at s ≡ line_of a ++ rest) where
  within : at + length (line_of a) ≤ length s
  within = omega (arith, ap length e, length-append (line_of a) rest, length-drop at s, line_long a)

  byte_at : (i : ℕ) → i < length (line_of a) → get_or s (at + i) 0 ≡ get_or (line_of a) i 0
  byte_at i l = sym (get_or-drop at s i 0) ∙ ap (λ x. get_or x i 0) e ∙ get_or-append (line_of a) rest 0 i l

first_at : (s : List ℕ) (at : ℕ) (a : Statement) (rest : List ℕ) → drop at s ≡ line_of a ++ rest → get_or s at 0 ≡ get_or (line_of a) 0 0
first_at s at a rest e = ap (λ i. get_or s i 0) (sym (add-zero at)) ∙ byte_at s at a rest e 0 (omega (arith, line_long a))

second_at : (s : List ℕ) (at : ℕ) (a : Statement) (rest : List ℕ) → drop at s ≡ line_of a ++ rest → get_or s (at + 1) 0 ≡ get_or (line_of a) 1 0
second_at s at a rest e = byte_at s at a rest e 1 (omega (arith, line_long a))

-- ---- what a statement needs
module _ (s : List ℕ) (at left room : ℕ) (h : Stands s at left room) where
  pub stands_within : at + 8 ≤ length s
  stands_within = omega (arith, within s at h.statement h.rest h.there, line_long h.statement)

  pub stands_gate : length s < 2 ^ 64 → Fits w64 (at + 8)
  stands_gate m = record { fits = omega (arith, stands_within) }

  pub stands_room : left ≤ room
  stands_room = h.within

  pub stands_one : 0 < left
  stands_one = omega (arith, h.enough, read_some h.statement)

  pub stands_low : get_or s (at + 1) 0 ≡ 32 → 32 ≤ get_or s at 0
  stands_low f = omega (arith, first_at s at h.statement h.rest h.there, low h.statement)
    where
      low : (a : Statement) → 32 ≤ get_or (line_of a) 0 0
      low =
          each (λ a. 32 ≤ get_or (line_of a) 0 0)
          (omega arith, (omega arith, (omega arith, (omega arith, (omega arith, (omega arith, omega arith))))))

  -- by the first two bytes of each statement
  abbrev Told : (Statement → Type 0) → Statement → Type 0
  Told P a = get_or s at 0 ≡ get_or (line_of a) 0 0 → get_or s (at + 1) 0 ≡ get_or (line_of a) 1 0 → P a

  by_kind : (P : Statement → Type 0) → Each (Told P) → P h.statement
  by_kind P t =
      each (Told P) t h.statement (first_at s at h.statement h.rest h.there) (second_at s at h.statement h.rest h.there)

  module _ (g : get_or s (at + 1) 0 ≡ 100) where
    pub stands_three : 3 ≤ left
    stands_three = omega (arith, h.enough, by_kind (λ a. 3 ≤ length (read_as a)) three)
      where
        three : Each (Told (λ a. 3 ≤ length (read_as a)))
        three = (
          (λ e f. omega arith),
          (
            (λ e f. omega arith),
            (
              (λ e f. omega arith),
              (
                (λ e f. omega arith),
                (
                  (λ e f. lit≤ tt),
                  (
                    (λ e f. lit≤ tt),
                    (λ e f. omega arith),
                  ),
                ),
              ),
            ),
          ),
        )

    pub stands_four : (get_or s at 0 ≡ 115 → ⊥) → 4 ≤ left
    stands_four n = omega (arith, h.enough, by_kind (λ a. 4 ≤ length (read_as a)) four)
      where
        four : Each (Told (λ a. 4 ≤ length (read_as a)))
        four = (
          (λ e f. omega arith),
          (
            (λ e f. omega arith),
            (
              (λ e f. omega arith),
              (
                (λ e f. omega arith),
                (
                  (λ e f. absurd (n e)),
                  (
                    (λ e f. lit≤ tt),
                    (λ e f. omega arith),
                  ),
                ),
              ),
            ),
          ),
        )

    pub stands_dagger : length s < 2 ^ 64 → Fits w64 (at + 10)
    stands_dagger m =
        record { fits = omega (arith, within s at h.statement h.rest h.there, by_kind (λ a. 10 ≤ length (line_of a)) ten) }
      where
        ten : Each (Told (λ a. 10 ≤ length (line_of a)))
        ten = (
          (λ e f. omega arith),
          (
            (λ e f. omega arith),
            (
              (λ e f. omega arith),
              (
                (λ e f. omega arith),
                (
                  (λ e f. lit≤ tt),
                  (
                    (λ e f. lit≤ tt),
                    (λ e f. omega arith),
                  ),
                ),
              ),
            ),
          ),
        )

  pub stands_phase : (get_or s (at + 1) 0 ≡ 32 → ⊥) → (get_or s (at + 1) 0 ≡ 100 → ⊥) → length s < 2 ^ 64 → Fits w64 (at + 14)
  stands_phase m n k =
      record { fits = omega (arith, within s at h.statement h.rest h.there, by_kind (λ a. 14 ≤ length (line_of a)) fourteen) }
    where
      fourteen : Each (Told (λ a. 14 ≤ length (line_of a)))
      fourteen = (
        (λ e f. absurd (m f)),
        (
          (λ e f. absurd (m f)),
          (
            (λ e f. absurd (m f)),
            (
              (λ e f. absurd (m f)),
              (
                (λ e f. absurd (n f)),
                ((λ e f. absurd (n f)), (λ e f. lit≤ tt)),
              ),
            ),
          ),
        ),
      )

-- behind SSS there is a letter more
module _ (s : List ℕ) (at left : ℕ) (old new : List ℕ) (r : ℕ) (h : Stands s at left (length old))
    (p : PutsBefore old left (83 ∷ 83 ∷ 83 ∷ []) new r) where
  pub esses_one : get_or s (at + 1) 0 ≡ 100 → (get_or s at 0 ≡ 115 → ⊥) → 0 < r
  esses_one g n = omega (arith, p.left_is, stands_four s at left (length old) h g n)

  pub esses_room : r ≤ length new
  esses_room = omega (arith, p.left_is, h.within, before_length p)

-- ---- a statement's letters put, a law for each kind
module _ (s : List ℕ) (at left : ℕ) (old new : List ℕ) (l : ℕ) where
  abbrev Result : ℕ → Statement → Type 0
  Result n a = get_or s at 0 ≡ get_or (line_of a) 0 0 → get_or s (at + 1) 0 ≡ get_or (line_of a) 1 0
      → Stepped a at left old (record { at = at + n; left = l }) new

  puts_by : (n : ℕ) → Each (Result n) → PutsStatement s at left old (record { at = at + n; left = l }) new
  puts_by n t = record { puts = λ a rest e. each (Result n) t a (first_at s at a rest e) (second_at s at a rest e) }

  module _ (g : get_or s (at + 1) 0 ≡ 32) (p : Before old left (get_or s at 0 - 32) new l) where
    -- the letter is the name in upper case
    upper : {n b : ℕ} → get_or s at 0 ≡ n → b ≡ n - 32 → PutsBefore old left (b ∷ []) new l
    upper {n} {b} e q = before_one (subst (λ x. Before old left x new l) (ap (λ x. x - 32) e ∙ sym q) p)

    pub puts_gate : PutsStatement s at left old (record { at = at + 8; left = l }) new
    puts_gate =
        puts_by 8 (
          (λ e f. record { next = refl; put = upper e refl }),
          (
            (λ e f. record { next = refl; put = upper e refl }),
            (
              (λ e f. record { next = refl; put = upper e refl }),
              (
                (λ e f. record { next = refl; put = upper e refl }),
                ((λ e f. absurd (omega arith)), ((λ e f. absurd (omega arith)), (λ e f. absurd (omega arith)))),
              ),
            ),
          ),
        )

  pub puts_phase : (get_or s (at + 1) 0 ≡ 32 → ⊥) → (get_or s (at + 1) 0 ≡ 100 → ⊥) → Before old left 87 new l
      → PutsStatement s at left old (record { at = at + 14; left = l }) new
  puts_phase m n p =
      puts_by 14 (
        (λ e f. absurd (m f)),
        (
          (λ e f. absurd (m f)),
          (
            (λ e f. absurd (m f)),
            (
              (λ e f. absurd (m f)),
              (
                (λ e f. absurd (n f)),
                (
                  (λ e f. absurd (n f)),
                  (λ e f. record { next = refl; put = before_one p }),
                ),
              ),
            ),
          ),
        ),
      )

  module _ (g : get_or s (at + 1) 0 ≡ 100) where
    pub puts_sdg : get_or s at 0 ≡ 115 → PutsBefore old left (83 ∷ 83 ∷ 83 ∷ []) new l
        → PutsStatement s at left old (record { at = at + 10; left = l }) new
    puts_sdg q p =
        puts_by 10 (
          (λ e f. absurd (omega arith)),
          (
            (λ e f. absurd (omega arith)),
            (
              (λ e f. absurd (omega arith)),
              (
                (λ e f. absurd (omega arith)),
                ((λ e f. record { next = refl; put = p }), ((λ e f. absurd (omega arith)), (λ e f. absurd (omega arith)))),
              ),
            ),
          ),
        )

    pub puts_tdg : (mid : List ℕ) (m : ℕ) → (get_or s at 0 ≡ 115 → ⊥) → PutsBefore old left (83 ∷ 83 ∷ 83 ∷ []) mid m → Before mid m 84 new l
        → PutsStatement s at left old (record { at = at + 10; left = l }) new
    puts_tdg mid m n p q =
        puts_by 10 (
          (λ e f. absurd (omega arith)),
          (
            (λ e f. absurd (omega arith)),
            (
              (λ e f. absurd (omega arith)),
              (
                (λ e f. absurd (omega arith)),
                ((λ e f. absurd (n e)), ((λ e f. record { next = refl; put = before_more p q }), (λ e f. absurd (omega arith)))),
              ),
            ),
          ),
        )

-- ---- the letters of the statements before a place are put
pub record Putting (s : List ℕ) (n : ℕ) (old buf : List ℕ) (at left : ℕ) : Type 0 where
  pub whole : List Letter
  pub reads : Reads s whole
  pub rest : List Statement
  pub there : drop at s ≡ lines rest
  pub done : List Letter
  pub parted : whole ≡ letters rest ++ done
  pub put : PutsBefore old n (bytes done) buf left
  pub n_is : n ≡ length whole

pub putting_none : (s : List ℕ) (start n : ℕ) (old : List ℕ) → OfCircuit s start n → Putting s n old old start n
putting_none s start n old h =
    record {
      whole = letters h.right.circuit;
      reads = record { right = h.right; is = refl };
      rest = h.right.circuit;
      there =
          ap₂ drop h.start_is h.right.right.is ∙ drop-append_seam (header h.right.edition) (lines h.right.circuit);
      done = [];
      parted = sym (append-nil (letters h.right.circuit));
      put = record { left_is = omega arith; is = refl };
      n_is = h.count;
    }

module _ {s : List ℕ} {n : ℕ} {old buf : List ℕ} {at left : ℕ} (h : Putting s n old buf at left) where
  pub putting_length : length buf ≡ length old
  putting_length = before_length h.put

  left_is : left ≡ length (letters h.rest)
  left_is =
      omega (arith, h.put.left_is, h.n_is, ap length h.parted, length-append (letters h.rest) h.done, bytes_length h.done)

  -- a statement is left
  pub record More : Type 0 where
    pub statement : Statement
    pub others : List Statement
    pub is : h.rest ≡ statement ∷ others

  pub putting_left : at < length s → More
  putting_left l = go h.rest refl
    where
      go : (d : List Statement) → h.rest ≡ d → More
      go [] e = absurd (omega (arith, length-drop at s, ap length (h.there ∙ ap lines e)))
      go (a ∷ d) e = record { statement = a; others = d; is = e }

  module _ (l : at < length s) where
    m : More
    m = putting_left l

    stands_there : drop at s ≡ line_of m.statement ++ lines m.others
    stands_there = h.there ∙ ap lines m.is

    left_more : left ≡ length (letters m.others) + length (read_as m.statement)
    left_more = left_is ∙ ap (λ d. length (letters d)) m.is ∙ length-append (letters m.others) (read_as m.statement)

    pub putting_stands : n ≤ length old → Stands s at left (length buf)
    putting_stands k =
        record {
          statement = m.statement;
          rest = lines m.others;
          there = stands_there;
          enough = omega (arith, left_more);
          within = omega (arith, putting_length, h.put.left_is);
        }

    module _ (r : Step) (new : List ℕ) (p : PutsStatement s at left buf r new) where
      k : Stepped m.statement at left buf r new
      k = p.puts m.statement (lines m.others) stands_there

      pub putting_less : length s - r.at < length s - at
      putting_less = omega (arith, k.next, line_long m.statement)

      pub putting_more : Putting s n old new r.at r.left
      putting_more =
          record {
            whole = h.whole;
            reads = h.reads;
            rest = m.others;
            there =
                ap (λ i. drop i s) k.next
                ∙ sym (drop-drop (length (line_of m.statement)) at s)
                ∙ ap (drop (length (line_of m.statement))) stands_there
                ∙ drop-append_seam (line_of m.statement) (lines m.others);
            done = read_as m.statement ++ h.done;
            parted =
                h.parted
                ∙ ap (λ d. letters d ++ h.done) m.is
                ∙ append_assoc (letters m.others) (read_as m.statement) h.done;
            put = subst (λ t. PutsBefore old n t new r.left) (sym (bytes_append (read_as m.statement) h.done)) (before_both h.put k.put);
            n_is = h.n_is;
          }

  pub putting_all : n ≤ length old → length s ≤ at → PutsLetters s old buf
  putting_all room l = record { puts = λ v r. all v (one_reading s v h.whole r h.reads) }
    where
      none : (d : List Statement) → h.rest ≡ d → h.whole ≡ h.done
      none [] e = h.parted ∙ ap (λ d. letters d ++ h.done) e
      none (a ∷ d) e = absurd (omega (arith, length-drop at s, ap length (h.there ∙ ap lines e), length-append (line_of a) (lines d), line_long a))

      all : (v : List Letter) → v ≡ h.whole → buf ≡ over (bytes v) old
      all v e =
          let f : h.done ≡ v = sym (none h.rest refl) ∙ sym e in
          let zero_left : left ≡ 0 = omega (arith, h.put.left_is, bytes_length h.done, h.n_is, ap length (none h.rest refl)) in
          let from_start : 0 + length (bytes v) ≡ length (bytes v) = omega arith in
          h.put.is
          ∙ ap₂ (λ i t. sets old i t) zero_left (ap bytes f)
          ∙ sets-eq (bytes v) old 0 (omega (arith, bytes_length v, h.n_is, ap length e))
          ∙ ap (λ i. bytes v ++ drop i old) from_start
