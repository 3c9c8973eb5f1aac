-- Why `read` answers right: a lemma for each of its returns, by the lines found before it. Assumes nothing.
use Rattle.std.specs.Prelude.{◌≡◌, refl, List, ℕ, ◌≤◌, ◌<◌, ℤ, length, drop, Option, Some, None}
use Rattle.std.proofs.Common.{subst, arith, Fits}
use Rattle.std.specs.Int.{w8, w64}
use Rattle.exact.specs.Meaning.Limits.{no_refusal, record_refusal}
use Rattle.exact.specs.Meaning.Outcome.{Rung}
use Rattle.exact.specs.Meaning.Record.{Numbers, RightRecord}
use Rattle.exact.proofs.Whole.Machine.{held}
use Rattle.decimal.specs.Format.{Found, Missing}
use Rattle.record.specs.Meaning.{Record, numbers, refused_record, ReadOutcome}
use Rattle.record.specs.Format.{k_line, n_line, ring_line, found_both, missing_first, missing_second}
use Rattle.record.specs.Read.{KIs, NIs, RingIs}
use Rattle.record.specs.LineLaws.{held_in}
use Rattle.record.specs.RecordLaws.{lines, all_lines, nzw_lines, zw_lines, once_k, once_n, once_ring}
use Rattle.record.specs.RecordLaws.{no_record, more_behind, right_record}
use Rattle.ring.specs.declared.ZOmega.{ZOmega}

-- ---- the two outcomes
module _ {s : List ℕ} {r : Record} where
  pub refuses : ((x : Numbers) → RightRecord s x → ⊥) → r ≡ refused_record record_refusal 0 → ReadOutcome s r
  refuses n e = Rung.given 0 (n, refl) e

  takes : r.refusal ≡ no_refusal → RightRecord s (numbers r) → ReadOutcome s r
  takes e p = Rung.passed (λ i h. h.0 (numbers r) p) (record { taken = e; right = p })

  lacks : Missing all_lines s → r ≡ refused_record record_refusal 0 → ReadOutcome s r
  lacks m = refuses (no_record s m)

-- what the line of n has fits a byte
pub n_fits : (s l : List ℕ) (y : Option (ℕ × ℕ)) (n next : ℕ) → NIs s l y → y ≡ Some (n, next) → Fits w8 n
n_fits s l y n next h e = let f = subst (NIs s l) e h in record { fits = omega (arith, f.fine.1) }

-- ---- each line is missing, or it is found and the next is looked for
module _ (s : List ℕ) (x : Option (ℤ × ℕ)) (is-k : KIs s s x) where
  pub no_k : {r : Record} → x ≡ None → r ≡ refused_record record_refusal 0 → ReadOutcome s r
  no_k e = lacks (missing_first k_line nzw_lines (subst (KIs s s) e is-k))

  module _ (k : ℤ) (second : ℕ) (has-k : x ≡ Some (k, second)) (y : Option (ℕ × ℕ)) (is-n : NIs s (drop second s) y) where
    found_k : Found k_line s s (tt, k) second
    found_k = subst (KIs s s) has-k is-k

    after_k : Missing nzw_lines (drop second s) → Missing all_lines s
    after_k = missing_second k_line nzw_lines once_k found_k

    pub no_n : {r : Record} → y ≡ None → r ≡ refused_record record_refusal 0 → ReadOutcome s r
    no_n e = lacks (after_k (missing_first n_line zw_lines (subst (NIs s (drop second s)) e is-n)))

    module _ (n third : ℕ) (has-n : y ≡ Some (n, third)) where
      found_n : Found n_line (drop second s) s (tt, n) third
      found_n = subst (NIs s (drop second s)) has-n is-n

      module _ (u : Option (ZOmega × ℕ)) (is-z : RingIs s (drop third s) 122 u) where
        after_n : Missing zw_lines (drop third s) → Missing all_lines s
        after_n m = after_k (missing_second n_line zw_lines once_n found_n m)

        pub no_z : {r : Record} → u ≡ None → r ≡ refused_record record_refusal 0 → ReadOutcome s r
        no_z e = lacks (after_n (missing_first (ring_line 122) (ring_line 119) (subst (RingIs s (drop third s) 122) e is-z)))

        module _ (z : ZOmega) (fourth : ℕ) (has-z : u ≡ Some (z, fourth)) where
          found_z : Found (ring_line 122) (drop third s) s (tt, (z.a, (z.b, (z.c, z.d)))) fourth
          found_z = subst (RingIs s (drop third s) 122) has-z is-z

          module _ (v : Option (ZOmega × ℕ)) (is-w : RingIs s (drop fourth s) 119 v) where
            pub no_w_lem : {r : Record} → v ≡ None → r ≡ refused_record record_refusal 0 → ReadOutcome s r
            no_w_lem e =
                let none = subst (RingIs s (drop fourth s) 119) e is-w in
                lacks (after_n (missing_second (ring_line 122) (ring_line 119) (once_ring 122) found_z none))

            module _ (w : ZOmega) (end : ℕ) (has-w : v ≡ Some (w, end)) where
              abbrev got : Numbers
              got = record { k = k; n = n; z = record { a = z.a; b = z.b; c = z.c; d = z.d }; w = record { a = w.a; b = w.b; c = w.c; d = w.d } }

              found_all : Found all_lines s s (lines got) end
              found_all =
                  found_both k_line nzw_lines found_k
                  (found_both n_line zw_lines found_n
                  (found_both (ring_line 122) (ring_line 119) found_z found_w))
                where
                  found_w : Found (ring_line 119) (drop fourth s) s (tt, (w.a, (w.b, (w.c, w.d)))) end
                  found_w = subst (RingIs s (drop fourth s) 119) has-w is-w

              pub byte_behind : {r : Record} → end < length s → r ≡ refused_record record_refusal 0 → ReadOutcome s r
              byte_behind h = refuses (more_behind s (lines got) end found_all h)

              pub all_read : length s ≤ end → ReadOutcome s (record {
                refusal = no_refusal;
                k = held w64 k;
                n = n;
                za = z.a;
                zb = z.b;
                zc = z.c;
                zd = z.d;
                wa = w.a;
                wb = w.b;
                wc = w.c;
                wd = w.d;
              })
              all_read h =
                  let p = right_record s got end found_all h in
                  rw (held_in k p.k_in) (takes refl p)
