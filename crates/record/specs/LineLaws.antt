-- Why the readers of lines answer right. Assumes nothing.
use Rattle.std.specs.Prelude.{◌≡◌, List, ◌∷◌, ℕ, suc, ◌+◌, ◌≤◌, ◌<◌, ℤ, pos, negsuc, length, get_or, drop, Option, Some, None}
use Rattle.std.proofs.Common.{sym, ◌∙◌, ap, ap₂, subst, arith, drop_of_length-le}
use Rattle.std.specs.Int.{w64}
use Rattle.std.proofs.lemmas.Int.{to_z-of_z}
use Rattle.exact.specs.Meaning.Record.{InRange}
use Rattle.exact.proofs.Whole.Machine.{held}
use Rattle.decimal.specs.Decimal.{cons_head, cons_tail}
use Rattle.decimal.specs.Format.{Format, Found, Missing, Once, natural, whole, once_whole}
use Rattle.decimal.specs.Read.{WholeIs, NaturalIs}
use Rattle.decimal.specs.ReadLaws.{byte_and}
use Rattle.record.specs.Format.{before, named, four_numbers, k_line, n_line, ring_line}
use Rattle.record.specs.Format.{found_both, missing_first, missing_second, once_named}
use Rattle.record.specs.Read.{NameIs, FourIs, RingIs, KIs, NIs}
use Rattle.ring.specs.declared.ZOmega.{ZOmega}

-- ---- a name and `=`
module _ (s : List ℕ) (at name : ℕ) where
  pub name_past : length s ≤ at → Missing (named name) (drop at s)
  name_past h = record {
    none = λ u rest ok p.
        let q : 0 ≡ suc (suc (length rest)) = ap length (sym (drop_of_length-le s h) ∙ p) in omega arith;
  }

  pub name_other : at < length s → (get_or s at 0 ≡ name → ⊥) → Missing (named name) (drop at s)
  name_other h n = record { none = λ u rest ok p. n (cons_head (sym (byte_and s at h) ∙ p)) }

  pub name_short : at < length s → length s ≤ at + 1 → Missing (named name) (drop at s)
  name_short h l = record {
    none = λ u rest ok p.
        let q : 0 ≡ suc (length rest) = ap length (sym (drop_of_length-le s l) ∙ cons_tail (sym (byte_and s at h) ∙ p)) in omega arith;
  }

  module _ (h : at < length s) (l : at + 1 < length s) where
    two : drop at s ≡ get_or s at 0 ∷ (get_or s (at + 1) 0 ∷ drop (at + 1 + 1) s)
    two = byte_and s at h ∙ ap (λ x. get_or s at 0 ∷ x) (byte_and s (at + 1) l)

    pub name_unequal : (get_or s (at + 1) 0 ≡ 61 → ⊥) → Missing (named name) (drop at s)
    name_unequal n = record { none = λ u rest ok p. n (cons_head (cons_tail (sym two ∙ p))) }

    pub name_found : get_or s at 0 ≡ name → get_or s (at + 1) 0 ≡ 61 → Found (named name) (drop at s) s tt (at + 1 + 1)
    name_found p q = record { is = two ∙ ap₂ (λ a b. a ∷ (b ∷ drop (at + 1 + 1) s)) p q; fine = tt; within = omega arith }

-- ---- what a number held as bits reads back as
pub held_in : (z : ℤ) → InRange z → held w64 z ≡ z
held_in (pos n) h = to_z-of_z w64 (pos n) (record { sfits = h })
held_in (negsuc n) h = to_z-of_z w64 (negsuc n) (record { sfits = h })

-- ---- a line: its name, and then its value
module _ (l s : List ℕ) (x : Option ℕ) (i : ℕ) where
  pub k_is : (r : Option (ℤ × ℕ)) → NameIs s l 107 x → x ≡ Some i → WholeIs s (drop i s) 10 r → KIs s l r
  k_is (Some (z, next)) n e g = found_both (named 107) (whole 10) (subst (NameIs s l 107) e n) g
  k_is None n e m = missing_second (named 107) (whole 10) (once_named 107) (subst (NameIs s l 107) e n) m

  pub n_is : (r : Option (ℕ × ℕ)) → NameIs s l 110 x → x ≡ Some i → NaturalIs s (drop i s) 10 255 r → NIs s l r
  n_is (Some (n, next)) h e g = found_both (named 110) (natural 255 10) (subst (NameIs s l 110) e h) g
  n_is None h e m = missing_second (named 110) (natural 255 10) (once_named 110) (subst (NameIs s l 110) e h) m

  pub ring_is : (name : ℕ) (r : Option (ZOmega × ℕ)) → NameIs s l name x → x ≡ Some i → FourIs s (drop i s) r → RingIs s l name r
  ring_is name (Some (z, next)) n e g = found_both (named name) four_numbers (subst (NameIs s l name) e n) g
  ring_is name None n e m = missing_second (named name) four_numbers (once_named name) (subst (NameIs s l name) e n) m

-- there is no line where there is no name
module _ (l s : List ℕ) (x : Option ℕ) where
  pub no_k_name : NameIs s l 107 x → x ≡ None → Missing k_line l
  no_k_name n e = missing_first (named 107) (whole 10) (subst (NameIs s l 107) e n)

  pub no_n_name : NameIs s l 110 x → x ≡ None → Missing n_line l
  no_n_name n e = missing_first (named 110) (natural 255 10) (subst (NameIs s l 110) e n)

  pub no_ring_name : (name : ℕ) → NameIs s l name x → x ≡ None → Missing (ring_line name) l
  no_ring_name name n e = missing_first (named name) four_numbers (subst (NameIs s l name) e n)

-- ---- four numbers: each is missing, or it is found and the next is looked for
abbrev part : Format ℤ
part = whole 44

abbrev last_two : Format (ℤ × ℤ)
last_two = before part (whole 10)

abbrev last_three : Format (ℤ × (ℤ × ℤ))
last_three = before part last_two

parted : Once part
parted = once_whole 44 (omega arith)

module _ (l s : List ℕ) (x : Option (ℤ × ℕ)) (is-a : WholeIs s l 44 x) where
  pub no_a : x ≡ None → Missing four_numbers l
  no_a e = missing_first part last_three (subst (WholeIs s l 44) e is-a)

  module _ (a : ℤ) (second : ℕ) (has-a : x ≡ Some (a, second)) (y : Option (ℤ × ℕ)) (is_b : WholeIs s (drop second s) 44 y) where
    found_a : Found part l s a second
    found_a = subst (WholeIs s l 44) has-a is-a

    after_a : Missing last_three (drop second s) → Missing four_numbers l
    after_a = missing_second part last_three parted found_a

    pub no_b : y ≡ None → Missing four_numbers l
    no_b e = after_a (missing_first part last_two (subst (WholeIs s (drop second s) 44) e is_b))

    module _ (b : ℤ) (third : ℕ) (has-b : y ≡ Some (b, third)) (u : Option (ℤ × ℕ)) (is_c : WholeIs s (drop third s) 44 u) where
      found_b : Found part (drop second s) s b third
      found_b = subst (WholeIs s (drop second s) 44) has-b is_b

      after_b : Missing last_two (drop third s) → Missing four_numbers l
      after_b m = after_a (missing_second part last_two parted found_b m)

      pub no_c : u ≡ None → Missing four_numbers l
      no_c e = after_b (missing_first part (whole 10) (subst (WholeIs s (drop third s) 44) e is_c))

      module _ (c : ℤ) (fourth : ℕ) (has-c : u ≡ Some (c, fourth)) (v : Option (ℤ × ℕ)) (is-d : WholeIs s (drop fourth s) 10 v) where
        found_c : Found part (drop third s) s c fourth
        found_c = subst (WholeIs s (drop third s) 44) has-c is_c

        pub no_d : v ≡ None → Missing four_numbers l
        no_d e = after_b (missing_second part (whole 10) parted found_c (subst (WholeIs s (drop fourth s) 10) e is-d))

        pub four_found : (d : ℤ) (next : ℕ) → v ≡ Some (d, next)
            → Found four_numbers l s (held w64 a, (held w64 b, (held w64 c, held w64 d))) next
        four_found d next e =
            let found-d = subst (WholeIs s (drop fourth s) 10) e is-d in
            rw (held_in a found_a.fine, held_in b found_b.fine, held_in c found_c.fine, held_in d found-d.fine)
            (found_both part last_three found_a (found_both part last_two found_b (found_both part (whole 10) found_c found-d)))
