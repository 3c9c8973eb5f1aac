-- Which statement a line can only be, by its first two bytes, and where it stops being it; and the same of the header, by its tenth.
-- Assumes nothing.
use Rattle.std.specs.Prelude.{◌≡◌, refl, ◌⊎◌, Bool, true, false, not, ◌||◌, List, ◌++◌, ℕ, ◌+◌, ◌<◌, ◌≤◌, T, eqb, ltb, length, take, drop, get_or, Result, Ok, Err}
use Rattle.std.proofs.Common.{sym, ◌∙◌, ap, subst, inl, inr, add-zero, arith, eqb-true, ltb-true, ltb-false, eqb→eq, lit<, length-drop, take-append-drop, get_or-drop, get_or-take, take_all}
use Rattle.std.proofs.lemmas.Bool.{eqb-false}
use Rattle.std.proofs.Math.Facts.{or_yes}
use Rattle.exact.specs.declared.Refusal.{Refusal}
use Rattle.circuit_reader.specs.declared.Line.{Line}
use Rattle.circuit.specs.Meaning.{Edition, two, three, Statement, h', s', t', x', sdg, tdg, gphase, allowed, header, read_as}
use Rattle.circuit.specs.Lines.{line_of}
use Rattle.circuit.proofs.Lines.{Each, each, line_long, number, same_number, computed}
use Rattle.circuit.specs.Stuck.{Parts, Stuck, IsLine}
use Rattle.circuit.proofs.Stuck.{header_stops}
use Rattle.circuit_reader.specs.Reading.{Along, MatchIs, LineIs, SameIs, Heading, Headed, WalkIs}

-- ---- a line that can only be the statement a: every other differs from it in the first byte or the second
pub record Chosen (s : List ℕ) (at : ℕ) (a : Statement) : Type 0 where
  pub first : get_or s at 0 ≡ get_or (line_of a) 0 0
  pub others : (b : Statement)
      → (b ≡ a) ⊎ ((get_or s at 0 ≡ get_or (line_of b) 0 0 → ⊥) ⊎ (get_or s (at + 1) 0 ≡ get_or (line_of b) 1 0 → ⊥))

module _ (s : List ℕ) (at : ℕ) (l : at < length s) where
  there : 0 < length (drop at s)
  there = omega (arith, length-drop at s)

  first_is : get_or (drop at s) 0 0 ≡ get_or s at 0
  first_is = get_or-drop at s 0 0 ∙ ap (λ i. get_or s i 0) (add-zero at)

  parts_first : (b : Statement) (k : ℕ) → (get_or s at 0 ≡ get_or (line_of b) 0 0 → ⊥) → Parts (drop at s) (line_of b) k
  parts_first b k n =
      record { at = 0; upto = omega arith; within = omega (arith, line_long b); differ = λ m e. n (sym first_is ∙ e) }

  parts_second : (b : Statement) (k : ℕ) → 1 ≤ k → (get_or s (at + 1) 0 ≡ get_or (line_of b) 1 0 → ⊥) → Parts (drop at s) (line_of b) k
  parts_second b k m n = record { at = 1; upto = m; within = omega (arith, line_long b); differ = λ m e. n (sym (get_or-drop at s 1 0) ∙ e) }

  module _ (phase : Bool) (a : Statement) (may : T (allowed phase a)) (h : Chosen s at a) (k : ℕ) (g : Along (drop at s) (line_of a) k)
      (less : k < length (line_of a)) where
    beyond : (x : Bool) → ltb k 1 ≡ x → 1 ≤ k
    beyond true e = absurd (g.differ less (omega (arith, there, none)) same)
      where
        none : k ≡ 0
        none = omega (arith, ltb-true k 1 e)

        same : get_or (drop at s) k 0 ≡ get_or (line_of a) k 0
        same = ap (λ i. get_or (drop at s) i 0) none ∙ first_is ∙ h.first ∙ ap (λ i. get_or (line_of a) i 0) (sym none)
    beyond false e = ltb-false k 1 e

    chosen_parts : (b : Statement) → Parts (drop at s) (line_of b) k
    chosen_parts b = go (h.others b)
      where
        go : (b ≡ a) ⊎ ((get_or s at 0 ≡ get_or (line_of b) 0 0 → ⊥) ⊎ (get_or s (at + 1) 0 ≡ get_or (line_of b) 1 0 → ⊥)) → Parts (drop at s) (line_of b) k
        go (inl e) =
            subst (λ x. Parts (drop at s) (line_of x) k) (sym e) (record { at = k; upto = omega arith; within = less; differ = g.differ less })
        go (inr (inl n)) = parts_first b k n
        go (inr (inr n)) = parts_second b k (beyond (ltb k 1) refl) n

    chosen_stuck : Stuck (IsLine phase) (drop at s) k
    chosen_stuck =
        record {
          word = line_of a;
          next = record { statement = a; may = may; is = refl };
          upto = g.upto;
          along = g.along;
          parts = λ w i. subst (λ x. Parts (drop at s) x k) (sym i.is) (chosen_parts i.statement);
        }

  -- what was looked for as the line of a is the line at the place, or the text stops
  pub took : (phase : Bool) (a : Statement) → T (allowed phase a) → Chosen s at a → (m : Result Line Refusal)
      → MatchIs s at (line_of a) (length (read_as a)) m → LineIs phase s at m
  took phase a may h (Err e) x =
      let l = x.there in
      record {
        at = x.at;
        is = x.is;
        there = record { k = l.k; is = l.is; stuck = chosen_stuck phase a may h l.k l.along l.less };
      }
  took phase a may h (Ok l) x = record { statement = a; may = may; whole = x.1; count = x.0 }

  -- no statement starts with the byte
  pub none_starts : (phase : Bool) → ((b : Statement) → T (allowed phase b) → get_or s at 0 ≡ get_or (line_of b) 0 0 → ⊥)
      → LineIs phase s at (Err (Refusal.Statement at))
  none_starts phase n =
      record {
        at = at;
        is = refl;
        there =
            record {
              k = 0;
              is = omega arith;
              stuck =
                  record {
                    word = line_of h';
                    next = record { statement = h'; may = tt; is = refl };
                    upto = omega arith;
                    along = refl;
                    parts = λ w i. subst (λ x. Parts (drop at s) x 0) (sym i.is) (parts_first i.statement 0 (n i.statement i.may));
                  };
            };
      }

-- ---- a statement chosen: `told n` says that the second byte is known not to be n
abbrev Test : Statement → (ℕ → Bool) → Statement → Bool
Test a told b = eqb (number b) (number a) || (not (eqb (get_or (line_of a) 0 0) (get_or (line_of b) 0 0)) || told (get_or (line_of b) 1 0))

module _ (s : List ℕ) (at : ℕ) (a : Statement) (f : get_or s at 0 ≡ get_or (line_of a) 0 0) (told : ℕ → Bool)
    (apart : (n : ℕ) → T (told n) → get_or s (at + 1) 0 ≡ n → ⊥) where
  chosen : Each (λ b. T (Test a told b)) → Chosen s at a
  chosen t = record { first = f; others = λ b. go b (each (λ b. T (Test a told b)) t b) }
    where
      no_first : (b : Statement) (z : Bool) → eqb (get_or (line_of a) 0 0) (get_or (line_of b) 0 0) ≡ z → T (not z)
          → get_or s at 0 ≡ get_or (line_of b) 0 0 → ⊥
      no_first b true q u e = u
      no_first b false q u e = eqb-false (get_or (line_of a) 0 0) (get_or (line_of b) 0 0) q (sym f ∙ e)

      go : (b : Statement) → T (Test a told b)
          → (b ≡ a) ⊎ ((get_or s at 0 ≡ get_or (line_of b) 0 0 → ⊥) ⊎ (get_or s (at + 1) 0 ≡ get_or (line_of b) 1 0 → ⊥))
      go b u = by (or_yes (eqb (number b) (number a)) (not (eqb (get_or (line_of a) 0 0) (get_or (line_of b) 0 0)) || told (get_or (line_of b) 1 0)) u)
        where
          by : T (eqb (number b) (number a)) ⊎ T (not (eqb (get_or (line_of a) 0 0) (get_or (line_of b) 0 0)) || told (get_or (line_of b) 1 0))
              → (b ≡ a) ⊎ ((get_or s at 0 ≡ get_or (line_of b) 0 0 → ⊥) ⊎ (get_or s (at + 1) 0 ≡ get_or (line_of b) 1 0 → ⊥))
          by (inl v) = inl (same_number b a v)
          by (inr v) =
              inr (last (or_yes (not (eqb (get_or (line_of a) 0 0) (get_or (line_of b) 0 0))) (told (get_or (line_of b) 1 0)) v))
            where
              last : T (not (eqb (get_or (line_of a) 0 0) (get_or (line_of b) 0 0))) ⊎ T (told (get_or (line_of b) 1 0))
                  → (get_or s at 0 ≡ get_or (line_of b) 0 0 → ⊥) ⊎ (get_or s (at + 1) 0 ≡ get_or (line_of b) 1 0 → ⊥)
              last (inl v) = inl (no_first b (eqb (get_or (line_of a) 0 0) (get_or (line_of b) 0 0)) refl v)
              last (inr v) = inr (apart (get_or (line_of b) 1 0) v)

-- ---- a lemma for each test of the first two bytes
module _ (s : List ℕ) (at : ℕ) (phase : Bool) (l : at < length s) (m : Result Line Refusal) where
  taken : (a : Statement) (told : ℕ → Bool) → T (allowed phase a) → get_or s at 0 ≡ get_or (line_of a) 0 0
      → ((n : ℕ) → T (told n) → get_or s (at + 1) 0 ≡ n → ⊥) → Each (λ b. T (Test a told b))
      → MatchIs s at (line_of a) (length (read_as a)) m → LineIs phase s at m
  taken a told may f apart t = took s at l phase a may (chosen s at a f told apart t) m

  nothing_told : (n : ℕ) → T false → get_or s (at + 1) 0 ≡ n → ⊥
  nothing_told n t e = t

  pub line_h : get_or s at 0 ≡ 104 → MatchIs s at (line_of h') 1 m → LineIs phase s at m
  line_h f = taken h' (λ n. false) tt f nothing_told computed

  pub line_x : get_or s at 0 ≡ 120 → MatchIs s at (line_of x') 1 m → LineIs phase s at m
  line_x f = taken x' (λ n. false) tt f nothing_told computed

  pub line_phase : get_or s at 0 ≡ 103 → (z : Bool) → z ≡ phase → z ≡ true → MatchIs s at (line_of gphase) 1 m → LineIs phase s at m
  line_phase f z e g = taken gphase (λ n. false) (subst T (sym (sym e ∙ g)) tt) f nothing_told computed

  -- whether the second byte is d was looked at
  module _ (d : Bool) (looked : d ≡ eqb (get_or s (at + 1) 0) 100) where
    module _ (isnt : d ≡ false) where
      not_d : (n : ℕ) → T (eqb n 100) → get_or s (at + 1) 0 ≡ n → ⊥
      not_d n t e = eqb-false (get_or s (at + 1) 0) 100 (sym looked ∙ isnt) (e ∙ eqb→eq n 100 t)

      pub line_s : get_or s at 0 ≡ 115 → MatchIs s at (line_of s') 1 m → LineIs phase s at m
      line_s f = taken s' (λ n. eqb n 100) tt f not_d computed

      pub line_t : get_or s at 0 ≡ 116 → MatchIs s at (line_of t') 1 m → LineIs phase s at m
      line_t f = taken t' (λ n. eqb n 100) tt f not_d computed

    module _ (is-d : d ≡ true) where
      only_d : (n : ℕ) → T (not (eqb n 100)) → get_or s (at + 1) 0 ≡ n → ⊥
      only_d n t e = go (eqb n 100) refl t
        where
          go : (z : Bool) → eqb n 100 ≡ z → T (not z) → ⊥
          go true q u = u
          go false q u = eqb-false n 100 q (sym e ∙ eqb-true (get_or s (at + 1) 0) 100 (sym looked ∙ is-d))

      pub line_sdg : get_or s at 0 ≡ 115 → MatchIs s at (line_of sdg) 3 m → LineIs phase s at m
      line_sdg f = taken sdg (λ n. not (eqb n 100)) tt f only_d computed

      pub line_tdg : get_or s at 0 ≡ 116 → MatchIs s at (line_of tdg) 4 m → LineIs phase s at m
      line_tdg f = taken tdg (λ n. not (eqb n 100)) tt f only_d computed

-- no statement starts so
module _ (s : List ℕ) (at : ℕ) (phase : Bool) (l : at < length s) where
  pub line_none : (get_or s at 0 ≡ 104 → ⊥) → (get_or s at 0 ≡ 120 → ⊥) → (get_or s at 0 ≡ 115 → ⊥) → (get_or s at 0 ≡ 116 → ⊥)
      → (get_or s at 0 ≡ 103 → ⊥) → LineIs phase s at (Err (Refusal.Statement at))
  line_none h x es t g =
      none_starts s at l phase
      (each (λ b. T (allowed phase b) → get_or s at 0 ≡ get_or (line_of b) 0 0 → ⊥)
      ((λ u. h), ((λ u. es), ((λ u. t), ((λ u. x), ((λ u. es), ((λ u. t), (λ u. g))))))))

  pub line_no_phase : get_or s at 0 ≡ 103 → (z : Bool) → z ≡ phase → z ≡ false → LineIs phase s at (Err (Refusal.Statement at))
  line_no_phase f z e g =
      none_starts s at l phase
      (each (λ b. T (allowed phase b) → get_or s at 0 ≡ get_or (line_of b) 0 0 → ⊥) (
        (λ u q. omega arith),
        (
          (λ u q. omega arith),
          (
            (λ u q. omega arith),
            (
              (λ u q. omega arith),
              (
                (λ u q. omega arith),
                (
                  (λ u q. omega arith),
                  (λ u q. subst T (sym e ∙ g) u),
                ),
              ),
            ),
          ),
        ),
      ))

  -- any first byte but those of the gates, where there is no phase
  pub line_no_phase_of : (get_or s at 0 ≡ 104 → ⊥) → (get_or s at 0 ≡ 120 → ⊥) → (get_or s at 0 ≡ 115 → ⊥) → (get_or s at 0 ≡ 116 → ⊥)
      → not phase ≡ true → LineIs phase s at (Err (Refusal.Statement at))
  line_no_phase_of h x es t e =
      none_starts s at l phase
      (each (λ b. T (allowed phase b) → get_or s at 0 ≡ get_or (line_of b) 0 0 → ⊥)
      ((λ u. h), ((λ u. es), ((λ u. t), ((λ u. x), ((λ u. es), ((λ u. t), (λ u. no_phase phase e u))))))))
    where
      no_phase : (p : Bool) → not p ≡ true → T p → get_or s at 0 ≡ 103 → ⊥
      no_phase true e u f = subst T (sym e) tt
      no_phase false e u f = u

-- ---- the header
-- both headers have the same bytes before the tenth
alike : (d e : Edition) (k : ℕ) → k < 9 → get_or (header d) k 0 ≡ get_or (header e) k 0
alike two two k l = refl
alike two three k l = sym (get_or-take 9 (header two) k 0 l) ∙ get_or-take 9 (header three) k 0 l
alike three two k l = sym (get_or-take 9 (header three) k 0 l) ∙ get_or-take 9 (header two) k 0 l
alike three three k l = refl

header_long : (d : Edition) → 9 < length (header d)
header_long two = lit< tt
header_long three = lit< tt

module _ {s : List ℕ} {edition : Edition} (h : Heading s edition) (head : List ℕ) (head-is : head ≡ header edition) where
  module _ {k : ℕ} (g : Along s head k) where
    g' : Along s (header edition) k
    g' = subst (λ w. Along s w k) head-is g

    module _ (less : k < length (header edition)) where
      heading_parts : (d : Edition) → Parts s (header d) k
      heading_parts d = go (h.others d)
        where
          before : (z : Bool) → ltb k 9 ≡ z → (get_or s 9 0 ≡ get_or (header d) 9 0 → ⊥) → Parts s (header d) k
          before true q n =
              let m : k < 9 = ltb-true k 9 q in
              record {
                at = k;
                upto = omega arith;
                within = omega (arith, header_long d);
                differ = λ u v. g'.differ less u (v ∙ alike d edition k m);
              }
          before false q n = record { at = 9; upto = ltb-false k 9 q; within = header_long d; differ = λ u. n }

          go : (d ≡ edition) ⊎ (get_or s 9 0 ≡ get_or (header d) 9 0 → ⊥) → Parts s (header d) k
          go (inl e) =
              subst (λ x. Parts s (header x) k) (sym e) (record { at = k; upto = omega arith; within = less; differ = g'.differ less })
          go (inr n) = before (ltb k 9) refl n

    pub heading_stops : k < length head → WalkIs s (Err (Refusal.Statement k))
    heading_stops l =
        header_stops s k
        (record {
          word = header edition;
          next = record { edition = edition; is = refl };
          upto = g'.upto;
          along = g'.along;
          parts = λ w i. subst (λ x. Parts s x k) (sym i.is) (heading_parts (omega (arith, ap length head-is)) i.edition);
        })

    pub heading_along : length head ≤ k → Headed s (length head) edition
    heading_along l =
        record {
          start_is = ap length head-is;
          there =
              sym (take-append-drop (length head) s)
              ∙ ap (λ x. x ++ drop (length head) s) (ap (λ n. take n s) all ∙ g.along ∙ take_all k head l ∙ head-is);
        }
      where
        all : length head ≡ k
        all = omega (arith, g.upto_word)

  pub heading_same : (r : Bool) → SameIs s head r → r ≡ true → Headed s (length head) edition
  heading_same r x e =
      record { start_is = ap length head-is; there = x.there e ∙ ap (λ w. w ++ drop (length head) s) head-is }

module _ (s : List ℕ) (z : Bool) (looked : z ≡ eqb (get_or s 9 0) 51) where
  pub heading_three : z ≡ true → Heading s three
  heading_three e = record { others = others }
    where
      others : (d : Edition) → (d ≡ three) ⊎ (get_or s 9 0 ≡ get_or (header d) 9 0 → ⊥)
      others two = inr (λ f. let q : get_or s 9 0 ≡ 51 = eqb-true (get_or s 9 0) 51 (sym looked ∙ e) in omega arith)
      others three = inl refl

  pub heading_two : z ≡ false → Heading s two
  heading_two e = record { others = others }
    where
      others : (d : Edition) → (d ≡ two) ⊎ (get_or s 9 0 ≡ get_or (header d) 9 0 → ⊥)
      others two = inl refl
      others three = inr (eqb-false (get_or s 9 0) 51 (sym looked ∙ e))
