-- No T of the letters before normalising meets a syllable of the reader: synthesis never takes the arms of the Rust's `append_gate` that
-- remove one, and so not its faulty arm of SHT. Assumes nothing.
use Rattle.std.specs.Prelude.{◌≡◌, refl, Bool, true, false, List, [], ◌∷◌, ◌++◌, ◌+◌, ◌<◌}
use Rattle.std.proofs.Common.{sym, ◌∙◌, ap, subst, append_assoc, arith}
use Rattle.exact.specs.Meaning.Word.{Letter, I, H, S, X, W, T', tees}
use Rattle.exact.specs.Meaning.Normal.{Syllable, HT, SHT, tail_word, or_i, spell}
use Rattle.exact.specs.Meaning.Triple.{Triple}
use Rattle.exact.proofs.Matrices.Same.{Same-sym}
use Rattle.exact.proofs.Unique.Tails.{tees_append, or_i_tail_tees}
use Rattle.clifford.specs.declared.Axis.{Axis}
use Rattle.clifford.specs.declared.Clifford.{Clifford}
use Rattle.clifford.specs.Cliffords.{mul_c, tconj_c, split_c}
use Rattle.reading.specs.Readings.{State, start, tee, read, run, run_append, prefix, prefix_tees, size_of, tail_at, shape, spelled, normal, normal_of}
use Rattle.steps.specs.Step.{Ready}
use Rattle.steps.specs.Steps.{letters}
use Rattle.steps.proofs.Tees.{beginning_kept}
use Rattle.steps.specs.Meets.{Meets}

-- ---- then that syllable goes, and else none does
tee_pops : (a : Axis) (r : Clifford) (b : Bool) (ss : List Syllable) → a ≡ Axis.I → 0 < size_of (record { lead = b; stack = ss; q = r })
    → size_of (tee a r b ss) + 1 ≡ size_of (record { lead = b; stack = ss; q = r })
tee_pops a r b (HT ∷ ss) e h = rw e (omega arith)
tee_pops a r b (SHT ∷ ss) e h = rw e (omega arith)
tee_pops a r true [] e h = rw e (omega arith)
tee_pops a r false [] e h = absurd (omega arith)

pub meets_pops : (l : Letter) (st : State) → Meets l st → size_of (read l st) + 1 ≡ size_of st
meets_pops l st m =
    subst (λ x. size_of (read x st) + 1 ≡ size_of st) (sym m.is_T)
    (tee_pops (tconj_c st.q).axis (tconj_c st.q).rest st.lead st.stack m.nothing_between
    (omega (arith, m.some)))

tee_axis : (a : Axis) (r : Clifford) (b : Bool) (ss : List Syllable) → size_of (tee a r b ss) < size_of (record { lead = b; stack = ss; q = r })
    → a ≡ Axis.I
tee_axis Axis.I r b ss h = refl
tee_axis Axis.H r b ss h = absurd (omega arith)
tee_axis Axis.SH r b ss h = absurd (omega arith)

pub pops_meets : (l : Letter) (st : State) → size_of (read l st) < size_of st → Meets l st
pops_meets I st h = absurd (omega arith)
pops_meets H st h = absurd (omega arith)
pops_meets S st h = absurd (omega arith)
pops_meets X st h = absurd (omega arith)
pops_meets W st h = absurd (omega arith)
pops_meets T' st h =
    record {
      is_T = refl;
      nothing_between = tee_axis (tconj_c st.q).axis (tconj_c st.q).rest st.lead st.stack h;
      some = omega (arith, h);
    }

-- ---- as many syllables as the normal word has T letters
size_tees : (u : List Letter) → tees (spell (shape u)) ≡ size_of (run start u)
size_tees u =
    let st = run start u in
    let end = tail_at (split_c st.q) in
    omega (
      arith,
      ap tees (spelled st end),
      tees_append (prefix st.lead st.stack) (or_i (tail_word end)),
      prefix_tees st.lead st.stack,
      or_i_tail_tees end,
    )

-- ---- job 4
module _ (t : Triple) (r : Ready t) where
  -- every T of a beginning is a syllable
  pub all_kept : (u v : List Letter) → letters t ≡ u ++ v → size_of (run start u) ≡ tees u
  all_kept u v e = sym (size_tees u) ∙ beginning_kept t u v (spell (shape u)) r e (normal u) (Same-sym (normal_of u))

  pub meets_none : (u v : List Letter) (l : Letter) → letters t ≡ u ++ (l ∷ v) → Meets l (run start u) → ⊥
  meets_none u v l e m =
      let one = all_kept (u ++ (l ∷ [])) v (e ∙ sym (append_assoc u (l ∷ []) v)) in
      omega (
        arith,
        one,
        ap size_of (run_append start u (l ∷ [])),
        all_kept u (l ∷ v) e,
        tees_append u (l ∷ []),
        meets_pops l (run start u) m,
      )

-- ---- and there are words with a T that does: TT, HTT, SHTT, and with more between, which T passes
pub T_meets : Meets T' (run start (T' ∷ []))
unfolding mul_c tconj_c
T_meets = record { is_T = refl; nothing_between = refl; some = omega arith }

pub HT_meets : Meets T' (run start (H ∷ T' ∷ []))
unfolding mul_c tconj_c
HT_meets = record { is_T = refl; nothing_between = refl; some = omega arith }

pub SHT_meets : Meets T' (run start (S ∷ H ∷ T' ∷ []))
unfolding mul_c tconj_c
SHT_meets = record { is_T = refl; nothing_between = refl; some = omega arith }

pub passes_meets : Meets T' (run start (S ∷ H ∷ T' ∷ X ∷ S ∷ W ∷ []))
unfolding mul_c tconj_c
passes_meets = record { is_T = refl; nothing_between = refl; some = omega arith }
