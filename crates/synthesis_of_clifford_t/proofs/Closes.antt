-- The closing in code: which power of omega is left, that z is 0 where its residue is, and the letters as they are counted.
-- Assumes nothing.
use Rattle.std.specs.Prelude.{◌≡◌, refl, Bool, true, false, cond, ℕ, zero, suc, ◌+◌, ◌-◌, ◌%◌, ◌^◌, ◌≤◌, ◌<◌, ℤ, pos, negsuc, length, replicate}
use Rattle.std.proofs.Math.Path.{sym, ap}
use Rattle.std.proofs.Common.{◌∙◌, ap₂, subst, arith, ltb-true, SFits, to_z-of_z, length-append}
use mathlib.Core.List.{List, ◌∷◌, ◌++◌}
use Rattle.std.specs.Int.{w64}
use Rattle.std.specs.Int.Signed.{lt_z}
use Rattle.std.proofs.lemmas.List.{length-replicate}
use Rattle.exact.specs.Meaning.Number.{Ω, ints, mul_q, odd, residue, omega^}
use Rattle.exact.specs.Meaning.Word.{Letter, byte, bytes, T'}
use Rattle.exact.specs.Meaning.Normal.{times}
use Rattle.exact.specs.Meaning.Triple.{Triple}
use Rattle.exact.proofs.Whole.Parity.{false_true}
use Rattle.exact.proofs.Whole.Machine.{held, arg}
use Rattle.exact.specs.Algebra.OmegaPower.{which}
use Rattle.ring.specs.declared.ZOmega.{ZOmega}
use Rattle.ring.specs.Meaning.{quad}
use Rattle.ring.specs.Number.{Small}
use Rattle.ring.specs.Code.{is₁}
use Rattle.unitary.specs.declared.DOmegaUnitary.{DOmegaUnitary}
use Rattle.unitary.specs.Meaning.{triple}
use Rattle.unitary.specs.Acts.{Good, good_z, good_w}
use Rattle.writing.specs.Put.{Put, put_more, put_length}
use Rattle.writing.specs.Endings.{end_word, end_size}
use Rattle.writing.specs.Codes.{bytes_append}
use Rattle.synthesis_of_clifford_t.specs.declared.Closing as declared
use Rattle.steps.specs.Residues.{back}
use Rattle.steps.specs.Closing.{is_zero, swaps, phase, closing}
use Rattle.steps.proofs.Closing.{phase_few, Last, diagonal, swapped, last, length_times}
use Rattle.synthesis_of_clifford_t.proofs.CodeLaws.{small_turned}
use Rattle.synthesis_of_clifford_t.specs.Closes.{sign_of, closing_by, Closes}

-- of a number x as the machine reads it back
module _ (x : ℤ) (fits : SFits w64 x) (i j : ℕ) where
  pub sign_below : lt_z (held w64 x) (pos 0) ≡ true → j ≡ sign_of x i j
  sign_below t = go x (ap (λ (y : ℤ). lt_z y (pos 0)) (sym (to_z-of_z fits)) ∙ t)
    where
      go : (x : ℤ) → lt_z x (pos 0) ≡ true → j ≡ sign_of x i j
      go (pos n) e = absurd (omega (arith, ltb-true n 0 e))
      go (negsuc n) e = refl

  pub sign_above : lt_z (held w64 x) (pos 0) ≡ false → i ≡ sign_of x i j
  sign_above t = go x (ap (λ (y : ℤ). lt_z y (pos 0)) (sym (to_z-of_z fits)) ∙ t)
    where
      go : (x : ℤ) → lt_z x (pos 0) ≡ false → i ≡ sign_of x i j
      go (pos n) e = refl
      go (negsuc n) e = absurd (false_true (sym e))

module _ (x : Ω) where
  which_d : odd x.d ≡ true → sign_of x.d 0 4 ≡ which x
  which_d = go x.d
    where
      go : (d : ℤ) → odd d ≡ true → sign_of d 0 4 ≡ which (record { a = x.a; b = x.b; c = x.c; d = d })
      go (pos n) e = rw e refl
      go (negsuc n) e = rw e refl

  which_c : odd x.d ≡ false → odd x.c ≡ true → sign_of x.c 1 5 ≡ which x
  which_c f = go x.c
    where
      go : (c : ℤ) → odd c ≡ true → sign_of c 1 5 ≡ which (record { a = x.a; b = x.b; c = c; d = x.d })
      go (pos n) e = rw (f, e) refl
      go (negsuc n) e = rw (f, e) refl

  which_b : odd x.d ≡ false → odd x.c ≡ false → odd x.b ≡ true → sign_of x.b 2 6 ≡ which x
  which_b f g = go x.b
    where
      go : (b : ℤ) → odd b ≡ true → sign_of b 2 6 ≡ which (record { a = x.a; b = b; c = x.c; d = x.d })
      go (pos n) e = rw (f, g, e) refl
      go (negsuc n) e = rw (f, g, e) refl

  which_a : odd x.d ≡ false → odd x.c ≡ false → odd x.b ≡ false → sign_of x.a 3 7 ≡ which x
  which_a f g h = go x.a
    where
      go : (a : ℤ) → sign_of a 3 7 ≡ which (record { a = a; b = x.b; c = x.c; d = x.d })
      go (pos n) = rw (f, g, h) refl
      go (negsuc n) = rw (f, g, h) refl

-- as the code finds it: by the first coefficient that is odd, each as the machine reads it back
module _ (x : ZOmega) (small : Small x) (r : ℕ) where
  a_read : held w64 x.a ≡ x.a
  a_read = is₁ (2 ^ 31) (arg 0) tt x small.sized

  b_read : held w64 x.b ≡ x.b
  b_read = is₁ (2 ^ 31) (arg 1) tt x small.sized

  c_read : held w64 x.c ≡ x.c
  c_read = is₁ (2 ^ 31) (arg 2) tt x small.sized

  d_read : held w64 x.d ≡ x.d
  d_read = is₁ (2 ^ 31) (arg 3) tt x small.sized

  parity : {y z : ℤ} {p b : Bool} → y ≡ z → p ≡ odd y → p ≡ b → odd z ≡ b
  parity e f g = cc

  module _ (p : Bool) (p-is : p ≡ odd (held w64 x.d)) where
    pub power_by_d : p ≡ true → r ≡ sign_of (held w64 x.d) 0 4 → r ≡ which (quad x)
    power_by_d d-odd h = h ∙ ap (λ (y : ℤ). sign_of y 0 4) d_read ∙ which_d (quad x) (parity d_read p-is d-odd)

    module _ (d-even : p ≡ false) (q : Bool) (q-is : q ≡ odd (held w64 x.c)) where
      pub power_by_c : q ≡ true → r ≡ sign_of (held w64 x.c) 1 5 → r ≡ which (quad x)
      power_by_c c-odd h =
          h
          ∙ ap (λ (y : ℤ). sign_of y 1 5) c_read
          ∙ which_c (quad x) (parity d_read p-is d-even) (parity c_read q-is c-odd)

      module _ (c-even : q ≡ false) (s : Bool) (s_is : s ≡ odd (held w64 x.b)) where
        pub power_by_b : s ≡ true → r ≡ sign_of (held w64 x.b) 2 6 → r ≡ which (quad x)
        power_by_b b-odd h =
            h
            ∙ ap (λ (y : ℤ). sign_of y 2 6) b_read
            ∙ which_b (quad x) (parity d_read p-is d-even) (parity c_read q-is c-even) (parity b_read s_is b-odd)

        pub power_by_a : s ≡ false → r ≡ sign_of (held w64 x.a) 3 7 → r ≡ which (quad x)
        power_by_a b-even h =
            h
            ∙ ap (λ (y : ℤ). sign_of y 3 7) a_read
            ∙ which_a (quad x) (parity d_read p-is d-even) (parity c_read q-is c-even) (parity b_read s_is b-even)

-- ---- z is 0 where its residue is
power_residue : (n : ℕ) → n < 8 → residue (omega^ n) ≡ 0 → ⊥
power_residue zero h e = omega arith
power_residue (suc zero) h e = omega arith
power_residue (suc (suc zero)) h e = omega arith
power_residue (suc (suc (suc zero))) h e = omega arith
power_residue (suc (suc (suc (suc zero)))) h e = omega arith
power_residue (suc (suc (suc (suc (suc zero))))) h e = omega arith
power_residue (suc (suc (suc (suc (suc (suc zero)))))) h e = omega arith
power_residue (suc (suc (suc (suc (suc (suc (suc zero))))))) h e = omega arith
power_residue (suc (suc (suc (suc (suc (suc (suc (suc n)))))))) h e = omega arith

zero_residue : (t : Triple) → Last t → residue t.z ≡ 0 → is_zero t.z ≡ true
zero_residue t (diagonal f p w) e = absurd (power_residue p.exponent p.few (sym (ap residue p.is) ∙ e))
zero_residue t (swapped f z p) e = f

some_residue : (t : Triple) → Last t → (residue t.z ≡ 0 → ⊥) → is_zero t.z ≡ false
some_residue t (diagonal f p w) e = f
some_residue t (swapped f z p) e = absurd (e (ap residue z))

-- of a triple in code: p is z's residue, m the power of omega that is left
module _ (t : DOmegaUnitary) (good : Good t) (e : t.k ≡ 0) where
  pub z_small : Small t.z
  z_small = good_z t good (omega arith)

  pub w_small : Small t.w
  w_small = good_w t good (omega arith)

  abbrev phase_by : Bool → ℕ
  phase_by b = which (cond b (back (t.n % 2) (quad t.w)) (quad t.z))

  few : {m : ℕ} → m ≡ phase (triple t) → m < 8
  few h = omega (arith, h, phase_few (triple t) good.unitary e)

  at_end : Last (triple t)
  at_end = last (triple t) good.unitary e

  -- z is 0: u is w after the inverse of the T
  module _ (u : ZOmega) (u-is : quad u ≡ mul_q ints (omega^ (8 - t.n % 2)) (quad t.w)) where
    pub unit_small : Small u
    unit_small = record { sized = small_turned (2 ^ 31) (8 - t.n % 2) w_small.sized u-is }

    module _ (p : ℕ) (p-is : p ≡ residue (quad t.z)) (none : p ≡ 0) (m : ℕ) (m_is : m ≡ which (quad u)) where
      z_zero : is_zero (quad t.z) ≡ true
      z_zero = zero_residue (triple t) at_end (sym p-is ∙ none)

      swapped_phase : m ≡ phase (triple t)
      unfolding back
      swapped_phase = m_is ∙ ap which u-is ∙ sym (ap phase_by z_zero)

      pub swapped_few : m < 8
      swapped_few = few swapped_phase

      pub swapped_closes : (c : declared.Closing) → c ≡ closing_by t.n 1 m → Closes (triple t) c
      swapped_closes c f = record { is = f ∙ ap₂ (closing_by t.n) (sym (ap (λ b. cond b 1 0) z_zero)) swapped_phase }

  -- z is not 0
  module _ (p : ℕ) (p-is : p ≡ residue (quad t.z)) (some : p ≡ 0 → ⊥) (m : ℕ) (m_is : m ≡ which (quad t.z)) where
    z_some : is_zero (quad t.z) ≡ false
    z_some = some_residue (triple t) at_end (λ f. some (p-is ∙ f))

    diagonal_phase : m ≡ phase (triple t)
    diagonal_phase = m_is ∙ sym (ap phase_by z_some)

    pub diagonal_few : m < 8
    diagonal_few = few diagonal_phase

    pub diagonal_closes : (c : declared.Closing) → c ≡ closing_by t.n 0 m → Closes (triple t) c
    diagonal_closes c f = record { is = f ∙ ap₂ (closing_by t.n) (sym (ap (λ b. cond b 1 0) z_some)) diagonal_phase }

-- ---- its letters
times_bytes : (n : ℕ) (l : Letter) → bytes (times n l) ≡ replicate n (byte l)
times_bytes zero l = refl
times_bytes (suc n) l = ap (λ u. byte l ∷ u) (times_bytes n l)

module _ (t : Triple) (c : declared.Closing) (h : Closes t c) where
  closing_bytes : bytes (closing t) ≡ replicate c.tees 84 ++ bytes (end_word c.tail)
  unfolding closing
  closing_bytes = rw h.is (bytes_append (times (t.n % 2) T') end ∙ ap (λ u. u ++ bytes end) (times_bytes (t.n % 2) T'))
    where
      end : List Letter
      end = end_word (closing_by t.n (swaps t) (phase t)).tail

  closing_size : length (closing t) ≡ c.tees + end_size c.tail
  unfolding closing
  closing_size = rw h.is (simp (length-append, length_times) (omega arith))

  -- T, and then the tail
  module _ (old : List ℕ) (room : length (closing t) ≤ length old) where
    pub tees_room : 0 + c.tees ≤ length old
    tees_room = omega (arith, closing_size)

    module _ (mid : List ℕ) (a : ℕ) (p : Put old 0 (replicate c.tees 84) mid a) where
      inside : 0 + length (replicate {A = ℕ} c.tees 84) ≤ length old
      inside = omega (arith, tees_room, length-replicate {A = ℕ} c.tees 84)

      pub tail_room : a + end_size c.tail ≤ length mid
      tail_room =
          omega (
            arith,
            closing_size,
            p.next,
            length-replicate {A = ℕ} c.tees 84,
            put_length old 0 (replicate c.tees 84) mid a p inside,
          )

      pub closing_put : (new : List ℕ) (r : ℕ) → Put mid a (bytes (end_word c.tail)) new r → Put old 0 (bytes (closing t)) new r
      closing_put new r q =
          subst (λ (w : List ℕ). Put old 0 w new r) (sym closing_bytes)
          (put_more old 0 (replicate c.tees 84) mid a p inside (bytes (end_word c.tail)) new r q)
