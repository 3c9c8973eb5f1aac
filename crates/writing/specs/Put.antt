-- Bytes put into a buffer at a place, and the rest as it was. Assumes nothing.
use Rattle.std.specs.Prelude.{◌≡◌, refl, List, [], ◌∷◌, ◌++◌, ℕ, ◌+◌, ◌<◌, ◌≤◌, length, take, drop, set, get_or}
use Rattle.std.proofs.Common.{sym, ◌∙◌, ap, ap₂, append_assoc, add-zero, add_assoc, le_antisymm, add-one, arith, length-append, length-drop, take-append-drop, length-take-le, take-suc, take_all, take_at, drop_at, drop-drop}
use Rattle.std.proofs.lemmas.List.{set_split}

pub record Put (old : List ℕ) (at : ℕ) (w : List ℕ) (new : List ℕ) (r : ℕ) : Type 0 where
  pub is : new ≡ take at old ++ (w ++ drop (at + length w) old)
  pub next : r ≡ at + length w

pub put_none : (old : List ℕ) (at : ℕ) → Put old at [] old at
put_none old at =
    record {
      is = sym (ap (λ n. take at old ++ drop n old) (add-zero at) ∙ take-append-drop at old);
      next = sym (add-zero at);
    }

pub put_one : (old : List ℕ) (at x : ℕ) → at < length old → Put old at (x ∷ []) (set old at x) (at + 1)
put_one old at x h =
    record {
      is = set_split old at x h ∙ ap (λ n. take at old ++ (x ∷ drop n old)) (sym (add-one at));
      next = refl;
    }

module _ (old : List ℕ) (at : ℕ) (w mid : List ℕ) (a : ℕ) (p : Put old at w mid a) (h : at + length w ≤ length old) where
  front_length : length (take at old ++ w) ≡ at + length w
  front_length = length-append (take at old) w ∙ ap (λ n. n + length w) (length-take-le at old (omega arith))

  parted : mid ≡ (take at old ++ w) ++ drop (at + length w) old
  parted = p.is ∙ sym (append_assoc (take at old) w (drop (at + length w) old))

  pub put_length : length mid ≡ length old
  put_length =
      ap length parted
      ∙ length-append (take at old ++ w) (drop (at + length w) old)
      ∙ ap₂ (λ m n. m + n) front_length (length-drop (at + length w) old)
      ∙ omega arith

  put_front : take a mid ≡ take at old ++ w
  put_front = ap₂ take p.next parted ∙ take_at (take at old ++ w) (drop (at + length w) old) (at + length w) front_length

  put_rest : (n : ℕ) → drop (a + n) mid ≡ drop (at + length w + n) old
  put_rest n =
      sym (drop-drop n a mid)
      ∙ ap (drop n) (ap₂ drop p.next parted ∙ drop_at (take at old ++ w) (drop (at + length w) old) (at + length w) front_length)
      ∙ drop-drop n (at + length w) old

  pub put_more : (v new : List ℕ) (r : ℕ) → Put mid a v new r → Put old at (w ++ v) new r
  put_more v new r q =
      record {
        is =
            q.is
            ∙ ap₂ (λ x y. x ++ (v ++ y)) put_front (put_rest (length v))
            ∙ append_assoc (take at old) w (v ++ drop (at + length w + length v) old)
            ∙ ap (λ x. take at old ++ x) (sym (append_assoc w v (drop (at + length w + length v) old)))
            ∙ ap (λ n. take at old ++ ((w ++ v) ++ drop n old)) sum;
        next = q.next ∙ ap (λ n. n + length v) p.next ∙ sum;
      }
    where
      sum : at + length w + length v ≡ at + length (w ++ v)
      sum = add_assoc at (length w) (length v) ∙ ap (λ n. at + n) (sym (length-append w v))

-- ---- byte by byte: the first j of the n bytes w are put
pub record Putting (old : List ℕ) (at : ℕ) (w : List ℕ) (n : ℕ) (buf : List ℕ) (j : ℕ) : Type 0 where
  pub whole : length w ≡ n
  pub room : at + n ≤ length old
  pub upto : j ≤ n
  pub put : Put old at (take j w) buf (at + j)

pub putting_none : (old : List ℕ) (at : ℕ) (w : List ℕ) (n : ℕ)
    → length w ≡ n
    → at + n ≤ length old
    → Putting old at w n old 0
putting_none old at w n e h =
    record { whole = e; room = h; upto = omega arith; put = rw (add-zero at) (put_none old at) }

module _ {old : List ℕ} {at : ℕ} {w : List ℕ} {n : ℕ} {buf : List ℕ} {j : ℕ} (p : Putting old at w n buf j) where
  front_room : at + length (take j w) ≤ length old
  front_room = omega (arith, length-take-le j w (omega arith))

  pub putting_long : length buf ≡ length old
  putting_long = put_length old at (take j w) buf (at + j) p.put front_room

  pub putting_more : {x : ℕ} → j < n → x ≡ get_or w j 0 → Putting old at w n (set buf (at + j) x) (j + 1)
  putting_more {x} l e =
      record {
        whole = p.whole;
        room = p.room;
        upto = omega arith;
        put = rw (add-one j, take-suc w j 0 (omega arith), ← e, ← add-one j, ← add_assoc at j 1) more;
      }
    where
      more : Put old at (take j w ++ (x ∷ [])) (set buf (at + j) x) (at + j + 1)
      more =
          put_more old at (take j w) buf (at + j) p.put front_room (x ∷ []) (set buf (at + j) x) (at + j + 1)
          (put_one buf (at + j) x (omega (arith, putting_long)))

  pub putting_all : n ≤ j → Put old at w buf (at + n)
  putting_all l = rw (le_antisymm p.upto l, take_all n w (omega arith)) at p.put
