-- Where bytes can't go on: behind a beginning, each word that may come next parts from them, and one goes along up to the place; then the text
-- stops there. Used for the header, whose two words are the editions', and for a line, whose words are the statements'. Assumes nothing.
use Rattle.std.specs.Prelude.{◌≡◌, refl, List, [], ◌∷◌, ◌++◌, ℕ, suc, ◌+◌, ◌<◌, ◌≤◌, length, take, drop, get_or}
use Rattle.std.proofs.Common.{sym, ◌∙◌, ap, subst, append-nil, append_assoc, arith, length-append, take-append-drop, length-take-le, get_or-take}
use Rattle.std.proofs.Math.ListN.{get_or-append}
use Rattle.std.proofs.Math.Seq.{take-append-add}
use Rattle.exact.specs.Meaning.Text.{Begins, Stops}
use Rattle.circuit.specs.Meaning.{Edition, Statement, row, AllAllowed, header, lines, text, Right}
use Rattle.circuit.specs.Lines.{line_of}
use Rattle.circuit.proofs.Lines.{lines_append, allowed_append, allowed_behind, same_header, cancel, Behind, behind}
use Rattle.circuit.specs.Stuck.{Parts, Stuck, IsLine}

-- y begins with one of the words
pub record Goes (Next : List ℕ → Type 0) (y : List ℕ) : Type 0 where
  pub word : List ℕ
  pub next : Next word
  pub rest : List ℕ
  pub is : y ≡ word ++ rest

module _ (Next : List ℕ → Type 0) (front r : List ℕ) (k : ℕ) (k-stuck : Stuck Next r k)
    (begins : (w : List ℕ) → Next w → Begins Right (front ++ w))
    (goes : (y : List ℕ) → (0 < length r → 0 < length y) → Right (front ++ y) → Goes Next y) where
  -- what has the bytes of r up to the place, or is r, can't begin with one of the words
  apart : (y : List ℕ) → ((i : ℕ) → i ≤ k → i < length y → (i < length r) × (get_or y i 0 ≡ get_or r i 0)) → Goes Next y → ⊥
  apart y same g =
      p.differ there.0
      (sym there.1 ∙ ap (λ x. get_or x p.at 0) g.is ∙ get_or-append g.word g.rest 0 p.at p.within)
    where
      p : Parts r g.word k
      p = k-stuck.parts g.word g.next

      there : (p.at < length r) × (get_or y p.at 0 ≡ get_or r p.at 0)
      there = same p.at p.upto (omega (arith, ap length g.is, length-append g.word g.rest, p.within))

  pub stops : Stops Right (front ++ r) (length front + k)
  stops =
      record {
        there = omega (arith, length-append front r, k-stuck.upto);
        begun = subst (Begins Right) (sym begun_is) (shorter (begins k-stuck.word k-stuck.next));
        ended = λ l b. ended_by l (subst (Begins Right) (ended_is (omega (arith, add_suc))) b);
        wrong = λ h. apart r (λ i l m. (m, refl)) (goes r (λ l. l) h);
      }
    where
      add_suc : suc (length front + k) ≡ length front + suc k
      add_suc = omega arith

      begun_is : take (length front + k) (front ++ r) ≡ front ++ take k k-stuck.word
      begun_is = take-append-add front r k ∙ ap (λ x. front ++ x) k-stuck.along

      shorter : Begins Right (front ++ k-stuck.word) → Begins Right (front ++ take k k-stuck.word)
      shorter b =
          let w = k-stuck.word in
          record {
            rest = drop k w ++ b.rest;
            right =
                subst Right
                (ap (λ x. (front ++ x) ++ b.rest) (sym (take-append-drop k w))
                ∙ ap (λ x. x ++ b.rest) (sym (append_assoc front (take k w) (drop k w)))
                ∙ append_assoc (front ++ take k w) (drop k w) b.rest)
                b.right;
          }

      ended_is : suc (length front + k) ≡ length front + suc k → take (suc (length front + k)) (front ++ r) ≡ front ++ take (suc k) r
      ended_is e = ap (λ n. take n (front ++ r)) e ∙ take-append-add front r (suc k)

      ended_by : length front + k < length (front ++ r) → Begins Right (front ++ take (suc k) r) → ⊥
      ended_by l b =
          apart y
          (λ i m n. (
            omega (arith, more),
            get_or-append (take (suc k) r) b.rest 0 i (omega (arith, long)) ∙ get_or-take (suc k) r i 0 (omega arith),
          ))
          (goes y (λ m. omega (arith, long, length-append (take (suc k) r) b.rest))
          (subst Right (append_assoc front (take (suc k) r) b.rest) b.right))
        where
          y : List ℕ
          y = take (suc k) r ++ b.rest

          more : suc k ≤ length r
          more = omega (arith, length-append front r)

          long : length (take (suc k) r) ≡ suc k
          long = length-take-le (suc k) r more

-- ---- the header
pub record IsHeader (w : List ℕ) : Type 0 where
  pub edition : Edition
  pub is : w ≡ header edition

pub header_stops : (s : List ℕ) (k : ℕ) → Stuck IsHeader s k → Stops Right s k
header_stops s k h = subst (Stops Right s) (omega arith) (stops IsHeader [] s k h begins goes)
  where
    begins : (w : List ℕ) → IsHeader w → Begins Right w
    begins w i =
        record {
          rest = [];
          right = record { edition = i.edition; circuit = []; right = record { is = ap (λ x. x ++ []) i.is; all_allowed = tt } };
        }

    goes : (y : List ℕ) → (0 < length s → 0 < length y) → Right y → Goes IsHeader y
    goes y m h =
        record {
          word = header h.edition;
          next = record { edition = h.edition; is = refl };
          rest = lines h.circuit;
          is = h.right.is;
        }

module _ (e : Edition) (c : List Statement) (c_allowed : AllAllowed (row e).has_phase c) (r : List ℕ) (more : 0 < length r) where
  line_begins : (w : List ℕ) → IsLine (row e).has_phase w → Begins Right (text e c ++ w)
  line_begins w i =
      record {
        rest = [];
        right =
            record {
              edition = e;
              circuit = c ++ (i.statement ∷ []);
              right = record { is = is; all_allowed = allowed_append (row e).has_phase c (i.statement ∷ []) c_allowed (i.may, tt) };
            };
      }
    where
      is : (text e c ++ w) ++ [] ≡ text e (c ++ (i.statement ∷ []))
      is =
          append-nil (text e c ++ w)
          ∙ append_assoc (header e) (lines c) w
          ∙ ap (λ x. header e ++ (lines c ++ x)) (i.is ∙ sym (append-nil (line_of i.statement)))
          ∙ ap (λ x. header e ++ x) (sym (lines_append c (i.statement ∷ [])))

  line_goes : (y : List ℕ) → (0 < length r → 0 < length y) → Right (text e c ++ y) → Goes (IsLine (row e).has_phase) y
  line_goes y m h = go b.rest b.is (allowed_behind (row e).has_phase c b.rest (subst (AllAllowed (row e).has_phase) b.whole all))
    where
      whole : header e ++ (lines c ++ y) ≡ header h.edition ++ lines h.circuit
      whole = sym (append_assoc (header e) (lines c) y) ∙ h.right.is

      q : e ≡ h.edition
      q = same_header e h.edition (lines c ++ y) (lines h.circuit) whole

      all : AllAllowed (row e).has_phase h.circuit
      all = subst (λ x. AllAllowed (row x).has_phase h.circuit) (sym q) h.right.all_allowed

      b : Behind c y h.circuit
      b = behind c h.circuit y (cancel (header e) (lines c ++ y) (lines h.circuit) (whole ∙ ap (λ x. header x ++ lines h.circuit) (sym q)))

      go : (d : List Statement) → y ≡ lines d → AllAllowed (row e).has_phase d → Goes (IsLine (row e).has_phase) y
      go [] z k = absurd (omega (arith, m more, ap length z))
      go (a ∷ d) z k = record { word = line_of a; next = record { statement = a; may = k.0; is = refl }; rest = lines d; is = z }

  pub line_stops : (k : ℕ) → Stuck (IsLine (row e).has_phase) r k → Stops Right (text e c ++ r) (length (text e c) + k)
  line_stops k h = stops (IsLine (row e).has_phase) (text e c) r k h line_begins line_goes
