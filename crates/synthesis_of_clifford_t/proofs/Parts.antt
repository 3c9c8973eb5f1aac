-- Letters written one block after the other, each into the free rest of a working buffer: what stands in it, and what the loop keeps.
-- Assumes nothing.
use Rattle.std.specs.Prelude.{◌≡◌, refl, List, [], ◌∷◌, ◌++◌, ℕ, zero, suc, ◌+◌, ◌-◌, ◌/◌, ◌%◌, ◌≤◌, ◌<◌, length, take, drop, replicate}
use Rattle.std.proofs.Common.{sym, ◌∙◌, ap, ap₂, subst, append-nil, zero-add, arith, Fits, length-append, length-drop, drop-drop}
use Rattle.std.specs.Int.{w64}
use Rattle.std.proofs.lemmas.List.{length-replicate}
use Rattle.std.proofs.Math.Seq.{drop-length}
use borrow.Author.Rules.{part_to_end}
use borrow.Rule.Slice.PartMut.{put_mid, same_len_mid, Post-is}
use Rattle.exact.specs.Meaning.Word.{Letter, bytes}
use Rattle.exact.specs.Meaning.Triple.{Triple}
use Rattle.exact.specs.Meaning.Limits.{deepest}
use Rattle.unitary.specs.declared.DOmegaUnitary.{DOmegaUnitary}
use Rattle.unitary.specs.Meaning.{triple}
use Rattle.unitary.specs.Acts.{Good}
use Rattle.writing.specs.Put.{Put, put_none, put_length, put_more}
use Rattle.exact.proofs.Cases.Letters.{bytes_length}
use Rattle.writing.specs.Codes.{bytes_append}
use Rattle.steps.specs.Meaning.{power}
use Rattle.steps.specs.Step.{Ended, Stepped, reduction, block, next}
use Rattle.steps.proofs.Step.{power_few}
use Rattle.steps.specs.Closing.{closing}
use Rattle.steps.specs.Steps.{left, letters, steps}
use Rattle.steps.proofs.Steps.{left_next}
use Rattle.steps.proofs.Counts.{block_length}
use Rattle.steps.proofs.Synthesised.{reduction_stepped}
use Rattle.synthesis_of_clifford_t.proofs.Loop.{Progress, progress_start, progress_step, progress_room}
use Rattle.synthesis_of_clifford_t.proofs.Loop.{progress_letters, progress_steps, progress_length}
use Rattle.synthesis_of_clifford_t.proofs.CodeLaws.{good_ready, reduction_ended}

-- ---- a block, T^m·H with S for TT
block_bytes : (m : ℕ) → m < 4 → (replicate {A = ℕ} (m % 2) 84 ++ replicate (m / 2) 83) ++ (72 ∷ []) ≡ bytes (block m)
block_bytes zero h = refl
block_bytes (suc zero) h = refl
block_bytes (suc (suc zero)) h = refl
block_bytes (suc (suc (suc zero))) h = refl
block_bytes (suc (suc (suc (suc m)))) h = absurd (omega arith)

block_size : (m : ℕ) → m < 4 → length (block m) ≡ m % 2 + m / 2 + 1
block_size zero h = refl
block_size (suc zero) h = refl
block_size (suc (suc zero)) h = refl
block_size (suc (suc (suc zero))) h = refl
block_size (suc (suc (suc (suc m)))) h = absurd (omega arith)

-- T, then S, then H, each with its room
module _ (m : ℕ) (few : m < 4) (old : List ℕ) (room : length (block m) ≤ length old) where
  abbrev ts : List ℕ
  ts = replicate (m % 2) 84

  abbrev ss : List ℕ
  ss = replicate (m / 2) 83

  ts_inside : 0 + length ts ≤ length old
  ts_inside = omega (arith, block_size m few, length-replicate {A = ℕ} (m % 2) 84)

  pub t_room : 0 + m % 2 ≤ length old
  t_room = omega (arith, block_size m few)

  module _ (one : List ℕ) (a : ℕ) (p : Put old 0 (replicate (m % 2) 84) one a) where
    one_length : length one ≡ length old
    one_length = put_length old 0 ts one a p ts_inside

    pub s_room : a + m / 2 ≤ length one
    s_room = omega (arith, block_size m few, one_length, p.next, length-replicate {A = ℕ} (m % 2) 84)

    module _ (two : List ℕ) (b : ℕ) (q : Put one a (replicate (m / 2) 83) two b) where
      front : Put old 0 (ts ++ ss) two b
      front = put_more old 0 ts one a p ts_inside ss two b q

      front_length : length (ts ++ ss) ≡ m % 2 + m / 2
      front_length = simp (length-append, length-replicate)

      front_inside : 0 + length (ts ++ ss) ≤ length old
      front_inside = omega (arith, front_length, block_size m few)

      pub h_room : b < length two
      h_room = omega (arith, front.next, front_length, put_length old 0 (ts ++ ss) two b front front_inside, block_size m few)

      pub block_put : (new : List ℕ) (r : ℕ) → Put two b (72 ∷ []) new r → Put old 0 (bytes (block m)) new r
      block_put new r s =
          subst (λ (w : List ℕ). Put old 0 w new r) (block_bytes m few)
          (put_more old 0 (ts ++ ss) two b front front_inside (72 ∷ []) new r s)

-- ---- the free rest, from a on, and the buffer with something else in its place
abbrev free : List ℕ → ℕ → List ℕ
free buf a = take (length buf - a) (drop a buf)

abbrev filled : List ℕ → ℕ → List ℕ → List ℕ
filled buf a rest = put_mid a (length buf - a) buf rest

module _ (buf : List ℕ) (a : ℕ) (h : a ≤ length buf) where
  free_length : length (free buf a) ≡ length buf - a
  free_length = ap length (part_to_end buf a) ∙ length-drop a buf

  free_put : (v rest : List ℕ) (r : ℕ) → Put (free buf a) 0 v rest r → Put buf a v (filled buf a rest) (a + r)
  free_put v rest r p =
      record {
        is = ap (λ x. take a buf ++ x) (ap₂ ◌++◌ front none ∙ append-nil (v ++ drop (a + length v) buf));
        next = ap (λ n. a + n) (p.next ∙ zero-add (length v));
      }
    where
      front : rest ≡ v ++ drop (a + length v) buf
      front =
          p.is
          ∙ ap₂ (λ n (l : List ℕ). v ++ drop n l) (zero-add (length v)) (part_to_end buf a)
          ∙ ap (λ (l : List ℕ). v ++ l) (drop-drop (length v) a buf)

      none : drop (length buf - a) (drop a buf) ≡ []
      none = Post-is a (length buf) buf h ∙ drop-length buf

-- ---- no step, where k is 0
pub ended : (t : Triple) → Ended ≡ reduction t → t.k ≤ 0
ended t e = go t.k refl
  where
    go : (k : ℕ) → t.k ≡ k → k ≤ 0
    go zero f = omega arith
    go (suc k) f = cc (e, reduction_stepped t k f)

-- ---- what the loop keeps: from t with the buffer old to u in so many steps, with the letters so far in buf
pub record Writing (old : List ℕ) (t : DOmegaUnitary) (buf : List ℕ) (u : DOmegaUnitary) (len count : ℕ) : Type 0 where
  pub written : List Letter
  pub progress : Progress (triple t) (triple u) written count
  pub few : t.k ≤ deepest
  pub room : 372 ≤ length old
  pub put : Put old 0 (bytes written) buf len

pub writing_start : (old : List ℕ) (t : DOmegaUnitary) → Good t → t.k ≤ deepest → 372 ≤ length old → Writing old t old t 0 0
writing_start old t g k l = record {
  written = [];
  progress = progress_start (triple t) (good_ready g) g.n_small;
  few = k;
  room = l;
  put = put_none old 0;
}

module _ {old : List ℕ} {t : DOmegaUnitary} {buf : List ℕ} {u : DOmegaUnitary} {len count : ℕ} (w : Writing old t buf u len count) where
  pub count_fits : Fits w64 (count + 1)
  count_fits = record { fits = omega (arith, w.progress.few, w.few) }

  fits_most : length w.written ≤ 360
  fits_most = omega (arith, w.progress.room, w.few)

  bytes_fit : 0 + length (bytes w.written) ≤ length old
  bytes_fit = omega (arith, bytes_length w.written, fits_most, w.room)

  len_is : len ≡ length w.written
  len_is = w.put.next ∙ zero-add (length (bytes w.written)) ∙ bytes_length w.written

  buf_length : length buf ≡ length old
  buf_length = put_length old 0 (bytes w.written) buf len w.put bytes_fit

  pub len_inside : len ≤ length buf
  len_inside = omega (arith, len_is, fits_most, buf_length, w.room)

  -- the buffer keeps its length
  pub length_kept : (rest : List ℕ) → length rest ≡ length (free buf len) → length (filled buf len rest) ≡ length old
  length_kept rest e = same_len_mid len (length buf - len) buf rest e ∙ buf_length

  -- one more part, in the free rest
  module _ (v : List Letter) (rest : List ℕ) (r : ℕ) (p : Put (free buf len) 0 (bytes v) rest r) where
    more : Put old 0 (bytes (w.written ++ v)) (filled buf len rest) (len + r)
    more =
        subst (λ (x : List ℕ). Put old 0 x (filled buf len rest) (len + r)) (sym (bytes_append w.written v))
        (put_more old 0 (bytes w.written) buf len w.put bytes_fit (bytes v) (filled buf len rest) (len + r) at_len)
      where
        at_len : Put buf len (bytes v) (filled buf len rest) (len + r)
        at_len = free_put buf len len_inside (bytes v) rest r p

    more_fits : length v ≤ 12 → Fits w64 (len + r)
    more_fits few = record { fits = omega (arith, len_is, fits_most, p.next, bytes_length v) }

  pub block_fits : (m : ℕ) (rest : List ℕ) (r : ℕ) → Put (free buf len) 0 (bytes (block m)) rest r → Fits w64 (len + r)
  block_fits m rest r p = more_fits (block m) rest r p (omega (arith, (block_length m).1))

  -- ---- a step, where k is over 0
  module _ (m : ℕ) (s : DOmegaUnitary) (is : Stepped m (triple s) ≡ reduction (triple u)) where
    some : 0 < u.k
    some = go u.k refl
      where
        go : (k : ℕ) → u.k ≡ k → 0 < k
        go zero e = cc (is, reduction_ended (triple u) e)
        go (suc k) e = omega arith

    k_is : u.k ≡ suc (u.k - 1)
    k_is = omega (arith, some)

    both : Stepped m (triple s) ≡ Stepped (power (triple u)) (next (triple u))
    both = is ∙ reduction_stepped (triple u) (u.k - 1) k_is

    m_is : m ≡ power (triple u)
    m_is = cc both

    s_is : triple s ≡ next (triple u)
    s_is = cc both

    pub step_few : m < 4
    step_few = omega (arith, m_is, power_few (triple u))

    pub step_nearer : left (triple s) < left (triple u)
    step_nearer = subst (λ (y : Triple). left y < left (triple u)) (sym s_is) (left_next (triple u) (u.k - 1) w.progress.ready k_is)

    pub step_room : length (block m) ≤ length (free buf len)
    step_room =
        omega (
          arith,
          (block_length m).1,
          free_length buf len len_inside,
          buf_length,
          w.room,
          len_is,
          progress_room w.progress some,
          w.few,
        )

    pub step_writing : (rest : List ℕ) (r : ℕ)
        → Put (free buf len) 0 (bytes (block m)) rest r
        → Writing old t (filled buf len rest) s (len + r) (count + 1)
    step_writing rest r p = record {
      written = w.written ++ block m;
      progress = rw (s_is, m_is) (progress_step w.progress (u.k - 1) k_is);
      few = w.few;
      room = w.room;
      put = more (block m) rest r p;
    }

  -- ---- the end
  module _ (end : u.k ≤ 0) where
    none : u.k ≡ 0
    none = omega arith

    few_letters : length (closing (triple u)) ≤ 12
    few_letters = (progress_length w.progress none).1

    pub end_steps : count ≡ steps (triple t)
    end_steps = progress_steps w.progress none

    pub end_room : length (closing (triple u)) ≤ length (free buf len)
    end_room = omega (arith, free_length buf len len_inside, buf_length, w.room, len_is, fits_most, few_letters)

    module _ (rest : List ℕ) (r : ℕ) (p : Put (free buf len) 0 (bytes (closing (triple u))) rest r) where
      pub end_fits : Fits w64 (len + r)
      end_fits = more_fits (closing (triple u)) rest r p few_letters

      pub end_put : Put old 0 (bytes (letters (triple t))) (filled buf len rest) (len + r)
      end_put = rw (progress_letters w.progress none) at (more (closing (triple u)) rest r p)
