-- A record that letters give, told from the record alone: its codes, the places behind them, its ranges and its bytes. Assumes nothing.
use Rattle.std.specs.Prelude.{◌≡◌, refl, Bool, true, false, cond, ◌&&◌, List, [], ◌∷◌, ◌++◌, ℕ, zero, suc, ◌+◌, ◌*◌, ◌/◌, ◌%◌, ◌≤◌, ◌<◌, eqb, ltb}
use Rattle.std.specs.Prelude.{length, take, get_or, Some, None}
use Rattle.std.proofs.Common.{sym, ◌∙◌, ap, ap₂, subst, arith, eqb-true, ltb-true, ltb-false, length-take-le, take-suc, ext_get_or}
use Rattle.std.proofs.lemmas.Bool.{eqb-false}
use Rattle.std.proofs.Math.ListN.{get_or-eq_default}
use Rattle.exact.specs.Meaning.Normal.{Syllable, HT, SHT, spell}
use Rattle.exact.specs.Meaning.Outcome.{Decides}
use Rattle.exact.specs.Meaning.Limits.{longest}
use Rattle.clifford.specs.declared.Clifford.{Clifford}
use Rattle.clifford.specs.declared.Axis.{Axis}
use Rattle.clifford.specs.Meaning.{Ranged, axis_number}
use Rattle.clifford.specs.Cliffords.{split_c}
use Rattle.clifford.proofs.Cliffords.{split_right}
use Rattle.clifford.specs.Tables.{quadruple}
use Rattle.reading.specs.declared.Text.{Text}
use Rattle.reading.specs.Readings.{State, state, start, run, run_ranged, start_ranged, shape_of, prefix, tail_size, letters_in, tail_size_lem, text_size_lem}
use Rattle.reading.specs.Syllables.{syllable_number, named}
use Rattle.reading.specs.Steps.{tail_of, Fits}
use Rattle.reading.specs.Held as Held
use Rattle.reading.specs.Held.{Holds, longer, count_is, letters_few}
use Rattle.reading.specs.Texts.{whole_of, Few, HoldsText, whole_holds}
use Rattle.slot.specs.Meaning.{Slot, slot_of, code, codes_of, led, codes, Shows, Given}
use Rattle.slot.proofs.Shown.{Coded, rest_of, state_size, state_shown, few_shown, shown_coded, shown_rest}
use Rattle.slot.proofs.Letters.{given_shown, text_gives}
use Rattle.slot.specs.Tests.{Ranges, Fronts, sum, Behind}
use Rattle.slot.proofs.Tests.{shown, both_decide, sum_append, sum_next, code_most}
use Rattle.slot.specs.Standing.{Named, Standing, Tells, tail_in, stack_in}

-- ---- what can be told
abbrev pub clifford_in : List ℕ → Clifford
clifford_in rest = quadruple (get_or rest 2 0) (get_or rest 3 0) (get_or rest 4 0) (get_or rest 5 0)

pub record Sound (r : Slot) : Type 0 where
  pub places : length r.syllables ≡ longest
  pub six : length r.rest ≡ 6
  pub ranges : Ranges r.rest
  pub fronts : Fronts r.syllables (get_or r.rest 0 0)
  pub behind : Behind r.syllables (get_or r.rest 0 0) longest
  pub bytes_is : get_or r.rest 1 0 ≡ sum (take (get_or r.rest 0 0) r.syllables) + tail_size (clifford_in r.rest)

-- ---- the codes of syllables, from the first to the last
code_inner : (s : Syllable) → code s / 2 ≡ 1
code_inner HT = refl
code_inner SHT = refl

code_few : (s : Syllable) → (0 < code s) × (code s < 4)
code_few HT = (omega arith, omega arith)
code_few SHT = (omega arith, omega arith)

codes_of_inner : (ss : List Syllable) (i : ℕ) → i < length (codes_of ss) → get_or (codes_of ss) i 0 / 2 ≡ 1
codes_of_inner [] i l = absurd (omega arith)
codes_of_inner (s ∷ ss) zero l = code_inner s
codes_of_inner (s ∷ ss) (suc i) l = codes_of_inner ss i (omega arith)

led_first : (b : Bool) (ss : List Syllable) → 0 < length (led b (codes_of ss)) → (0 < get_or (led b (codes_of ss)) 0 0) × (get_or (led b (codes_of ss)) 0 0 < 4)
led_first true ss l = (omega arith, omega arith)
led_first false [] l = absurd (omega arith)
led_first false (s ∷ ss) l = code_few s

led_inner : (b : Bool) (ss : List Syllable) (i : ℕ) → 0 < i → i < length (led b (codes_of ss)) → get_or (led b (codes_of ss)) i 0 / 2 ≡ 1
led_inner true ss zero k l = absurd (omega arith)
led_inner true ss (suc i) k l = codes_of_inner ss i (omega arith)
led_inner false ss i k l = codes_of_inner ss i l

-- ---- as many letters as their codes add up to
codes_sum : (b : Bool) (ss : List Syllable) → sum (Held.codes b ss) ≡ length (prefix b ss)
codes_sum true [] = refl
codes_sum false [] = refl
codes_sum b (s ∷ ss) =
    sum_append (Held.codes b ss) (syllable_number (named s) ∷ [])
    ∙ omega (arith, codes_sum b ss, longer b s ss)

-- ---- from a state to the record
module _ (st : State) (ranged : Ranged st.q) {r : Slot} (x : Shows (shape_of st) r) where
  number_is : (k : ℕ) → get_or r.rest k 0 ≡ get_or (rest_of st) k 0
  number_is k = ap (λ (ns : List ℕ). get_or ns k 0) (shown_rest st ranged x)

  count_here : get_or r.rest 0 0 ≡ length (codes (shape_of st))
  count_here = number_is 0 ∙ sym (state_size st)

  fronts_here : Fronts r.syllables (get_or r.rest 0 0)
  fronts_here =
      let n = shape_of st in
      rw count_here
      (record {
        first = λ l. rw (x.syllables_are 0) (led_first n.lead n.syllables l);
        inner = λ i k l. rw (x.syllables_are i) (led_inner n.lead n.syllables i k l);
      })

  clifford_here : clifford_in r.rest ≡ st.q
  clifford_here = λ i. quadruple (number_is 2 i) (number_is 3 i) (number_is 4 i) (number_is 5 i)

  bytes_here : get_or r.rest 1 0 ≡ sum (take (get_or r.rest 0 0) r.syllables) + tail_size (clifford_in r.rest)
  bytes_here =
      number_is 1
      ∙ text_size_lem st
      ∙ ap₂ (λ (n : ℕ) (q : Clifford). n + tail_size q)
      (sym
      (ap (λ (n : ℕ). sum (take n r.syllables)) (number_is 0)
      ∙ ap sum (shown_coded st ranged x).front
      ∙ codes_sum st.lead st.stack))
      (sym clifford_here)

  pub sound_of : Sound r
  sound_of =
      record {
        places = x.places;
        six = ap length (shown_rest st ranged x);
        ranges =
            record {
              count_few = omega (arith, number_is 0, few_shown st ranged x);
              a_few = omega (arith, number_is 2, ranged.a_few);
              b_few = omega (arith, number_is 3, ranged.b_few);
              c_few = omega (arith, number_is 4, ranged.c_few);
              d_few = omega (arith, number_is 5, ranged.d_few);
            };
        fronts = fronts_here;
        behind = record { empty = λ i k l. (shown_coded st ranged x).empty i (omega (arith, number_is 0)) };
        bytes_is = bytes_here;
      }

pub given_sound : {r : Slot} → Given r → Sound r
given_sound g = sound_of (run start g.letters) (run_ranged start g.letters start_ranged) (given_shown g.by)

-- ---- how much there can be
pub clifford_ranged : {rest : List ℕ} → Ranges rest → Ranged (clifford_in rest)
clifford_ranged h = record { a_few = h.a_few; b_few = h.b_few; c_few = h.c_few; d_few = h.d_few }

pub sum_most : (items : List ℕ) (n : ℕ) → n ≤ length items → Fronts items n → sum (take n items) ≤ 3 * n
sum_most items zero l h = omega arith
sum_most items (suc n) l h =
    let less : Fronts items n = record { first = λ k. h.first (omega arith); inner = λ i j k. h.inner i j (omega arith) } in
    omega (arith, sum_next items n (omega arith), code_most h n (omega arith), sum_most items n (omega arith) less)

pub tail_most : (q : Clifford) → Ranged q → tail_size q ≤ 13
tail_most q h = omega (arith, tail_size_lem q, cond_most (eqb (letters_in (split_c q)) 0) (omega (arith, axis_most (split_c q).axis, p.b_few, p.c_few, p.d_few)))
  where
    p : Ranged (split_c q).rest
    p = (split_right q h).ranged

    axis_most : (a : Axis) → axis_number a ≤ 2
    axis_most Axis.I = omega arith
    axis_most Axis.H = omega arith
    axis_most Axis.SH = omega arith

    cond_most : (b : Bool) → letters_in (split_c q) ≤ 13 → cond b 1 (letters_in (split_c q)) ≤ 13
    cond_most true l = omega arith
    cond_most false l = l

named_by : (c : ℕ) → c / 2 ≡ 1 → Named c
named_by c h = go (eqb c 2) refl
  where
    go : (b : Bool) → eqb c 2 ≡ b → Named c
    go true e = record { s = HT; is = eqb-true c 2 e }
    go false e = record { s = SHT; is = omega (arith, eqb-false c 2 e) }

pub record Fronted (items : List ℕ) (n : ℕ) : Type 0 where
  pub lead : Bool
  pub stack : List Syllable
  pub is : take n items ≡ Held.codes lead stack

first_fronted : (items : List ℕ) → 0 < length items → (0 < get_or items 0 0) × (get_or items 0 0 < 4) → Fronted items 1
first_fronted items l h = go (eqb (get_or items 0 0) 1) refl
  where
    one : take 1 items ≡ get_or items 0 0 ∷ []
    one = take-suc items 0 0 l

    go : (b : Bool) → eqb (get_or items 0 0) 1 ≡ b → Fronted items 1
    go true e = record { lead = true; stack = []; is = one ∙ ap (λ (c : ℕ). c ∷ []) (eqb-true (get_or items 0 0) 1 e) }
    go false e =
        let c = named_by (get_or items 0 0) (omega (arith, eqb-false (get_or items 0 0) 1 e, h.0, h.1)) in
        record { lead = false; stack = c.s ∷ []; is = one ∙ ap (λ (x : ℕ). x ∷ []) c.is }

fronted : (items : List ℕ) (n : ℕ) → n ≤ length items → Fronts items n → Fronted items n
fronted items zero l h = record { lead = false; stack = []; is = refl }
fronted items (suc zero) l h = first_fronted items (omega arith) (h.first (omega arith))
fronted items (suc (suc n)) l h =
    let less : Fronts items (suc n) = record { first = λ k. h.first (omega arith); inner = λ i j k. h.inner i j (omega arith) } in
    let rest = fronted items (suc n) (omega arith) less in
    let c = named_by (get_or items (suc n) 0) (h.inner (suc n) (omega arith) (omega arith)) in
    record {
      lead = rest.lead;
      stack = c.s ∷ rest.stack;
      is = take-suc items (suc n) 0 (omega arith) ∙ ap₂ (λ (u : List ℕ) (x : ℕ). u ++ (x ∷ [])) rest.is c.is;
    }

pub standing_given : {r : Slot} {x : Text} → Standing r x → Given r
standing_given h = record { letters = spell (shape_of h.st); by = text_gives h.st h.ranged h.shows }

-- six numbers are these six
six_listed : (rest : List ℕ) → length rest ≡ 6
    → rest ≡ get_or rest 0 0 ∷ get_or rest 1 0 ∷ get_or rest 2 0 ∷ get_or rest 3 0 ∷ get_or rest 4 0 ∷ get_or rest 5 0 ∷ []
six_listed rest e =
    ext_get_or 0 rest (get_or rest 0 0 ∷ get_or rest 1 0 ∷ get_or rest 2 0 ∷ get_or rest 3 0 ∷ get_or rest 4 0 ∷ get_or rest 5 0 ∷ []) e at
  where
    at : (i : ℕ) → i < length rest
        → get_or rest i 0 ≡ get_or (get_or rest 0 0 ∷ get_or rest 1 0 ∷ get_or rest 2 0 ∷ get_or rest 3 0 ∷ get_or rest 4 0 ∷ get_or rest 5 0 ∷ []) i 0
    at zero l = refl
    at (suc zero) l = refl
    at (suc (suc zero)) l = refl
    at (suc (suc (suc zero))) l = refl
    at (suc (suc (suc (suc zero)))) l = refl
    at (suc (suc (suc (suc (suc zero))))) l = refl
    at (suc (suc (suc (suc (suc (suc i)))))) l = absurd (omega (arith, e))

pub tail_fits : {rest : List ℕ} → Ranges rest → Fits (tail_in rest)
tail_fits h = record { code_few = omega (arith, h.a_few, h.b_few, h.c_few); phase_few = h.d_few }

tail_in_lem : (rest : List ℕ) → Ranges rest → tail_of (tail_in rest) ≡ clifford_in rest
tail_in_lem rest h = λ i. quadruple (a_is i) (b_is i) (c_is i) (get_or rest 5 0)
  where
    a_is : (get_or rest 2 0 * 8 + get_or rest 3 0 * 4 + get_or rest 4 0) / 8 ≡ get_or rest 2 0
    a_is = omega (arith, h.b_few, h.c_few)

    b_is : (get_or rest 2 0 * 8 + get_or rest 3 0 * 4 + get_or rest 4 0) / 4 % 2 ≡ get_or rest 3 0
    b_is = omega (arith, h.b_few, h.c_few)

    c_is : (get_or rest 2 0 * 8 + get_or rest 3 0 * 4 + get_or rest 4 0) % 4 ≡ get_or rest 4 0
    c_is = omega (arith, h.c_few)

-- ---- the ways out of the check
module _ {items : List ℕ} {n m : ℕ} {f b c : Bool} (front : Decides (Fronts items n) f) (behind : Decides (Behind items n m) b) (e : c ≡ f && b)
    (y : c ≡ true) where
  codes_right : Fronts items n × Behind items n m
  codes_right = (both_decide front behind e (λ p q. (p, q)) (λ h. h)).yes y

  pub right_fronts : Fronts items n
  right_fronts = codes_right.0

  right_behind : Behind items n m
  right_behind = codes_right.1

pub ranges_by : {rest : List ℕ} {b : Bool} → Decides (Ranges rest) b → b ≡ true → Ranges rest
ranges_by d e = d.yes e

module _ {items rest : List ℕ} where
  pub wrong_ranges : {b : Bool} → Decides (Ranges rest) b → b ≡ false → Tells (slot_of items rest) None
  wrong_ranges d e g = d.no e (given_sound g).ranges

  module _ (places : length items ≡ longest) {f b : Bool} (front : Decides (Fronts items (get_or rest 0 0)) f)
      (behind : Decides (Behind items (get_or rest 0 0) (length items)) b) where
    pub wrong_codes : {c : Bool} → c ≡ f && b → c ≡ false → Tells (slot_of items rest) None
    wrong_codes e z g =
        (both_decide front (subst (λ (n : ℕ). Decides (Behind items (get_or rest 0 0) n) b) places behind) e (λ p q. (p, q)) (λ h. h)).no z
        ((given_sound g).fronts, (given_sound g).behind)

    module _ (ranges : Ranges rest) {c : Bool} (e : c ≡ f && b) (y : c ≡ true) {letters : ℕ} (sum_is_lem : letters ≡ sum (take (get_or rest 0 0) items)) where
      syllables : Fronted items (get_or rest 0 0)
      syllables = fronted items (get_or rest 0 0) (omega (arith, ranges.count_few)) (right_fronts front behind e y)

      abbrev standing_state : State
      standing_state = state syllables.lead syllables.stack (clifford_in rest)

      letters_are : letters ≡ length (prefix syllables.lead syllables.stack)
      letters_are = sum_is_lem ∙ ap sum syllables.is ∙ codes_sum syllables.lead syllables.stack

      stacks_there : Holds items (stack_in rest letters) standing_state
      stacks_there =
          record {
            array =
                record {
                  count =
                      sym (length-take-le (get_or rest 0 0) items (omega (arith, ranges.count_few))) ∙ ap length syllables.is;
                  front = syllables.is;
                  empty = λ i l. none_at i l (ltb i (length items)) refl;
                };
            letters_is = letters_are;
            tail_is = tail_in_lem rest ranges;
            fits = tail_fits ranges;
          }
        where
          none_at : (i : ℕ) → get_or rest 0 0 ≤ i → (t : Bool) → ltb i (length items) ≡ t → get_or items i 0 ≡ 0
          none_at i l true g = (right_behind front behind e y).empty i l (ltb-true i (length items) g)
          none_at i l false g = get_or-eq_default items 0 (ltb-false i (length items) g)

      pub stack_few : Few (stack_in rest letters)
      stack_few = record { fits = tail_fits ranges; few = omega (arith, letters_few stacks_there, ranges.count_few) }

      module _ {x : Text} (whole : x ≡ whole_of (stack_in rest letters)) where
        holds_there : HoldsText items x standing_state
        holds_there = whole_holds stacks_there whole

        pub stands : length rest ≡ 6 → x.bytes ≡ get_or rest 1 0 → Tells (slot_of items rest) (Some x)
        stands six same =
            record { st = standing_state; ranged = ranged; shows = state_shown standing_state ranged items rest coded places numbered; holds = holds_there }
          where
            ranged : Ranged (clifford_in rest)
            ranged = clifford_ranged ranges

            coded : Coded items standing_state
            coded = subst (λ (n : ℕ). Held.Codes items n (Held.codes syllables.lead syllables.stack)) (count_is stacks_there) stacks_there.array

            numbered : rest ≡ rest_of standing_state
            numbered =
                six_listed rest six
                ∙ ap₂ (λ (n m : ℕ). n ∷ m ∷ get_or rest 2 0 ∷ get_or rest 3 0 ∷ get_or rest 4 0 ∷ get_or rest 5 0 ∷ []) (count_is stacks_there)
                (sym same ∙ holds_there.bytes_is)

        pub wrong_bytes : (x.bytes ≡ get_or rest 1 0 → ⊥) → Tells (slot_of items rest) None
        wrong_bytes n g =
            n
            (ap (λ (y : Text). y.bytes) whole
            ∙ ap₂ (λ (m : ℕ) (q : Clifford). m + tail_size q) sum_is_lem (tail_in_lem rest ranges)
            ∙ sym (given_sound g).bytes_is)

-- ---- so what is told decides
pub sound_given : {r : Slot} → Sound r → Given r
sound_given {r} h =
    let n = get_or r.rest 0 0 in
    let letters = sum (take n r.syllables) in
    let behind = subst (λ (m : ℕ). Decides (Behind r.syllables n m) true) (sym h.places) (shown h.behind) in
    let same = ap (λ (q : Clifford). letters + tail_size q) (tail_in_lem r.rest h.ranges) ∙ sym h.bytes_is in
    standing_given (stands h.places (shown h.fronts) behind h.ranges refl refl refl {x = whole_of (stack_in r.rest letters)} refl h.six same)
