-- Words, their normal words and their phase-free words, as one computed table. Assumes nothing.
use Rattle.std.specs.Prelude.{Bool, ◌&&◌, List, [], ◌∷◌, T}
use Rattle.std.proofs.Math.Facts.{and_yes}
use Rattle.exact.specs.Meaning.Word.{Letter, I, H, S, X, W, T', word}
use Rattle.exact.specs.Meaning.Normal.{times, spell, without_w, PhaseFreeOf}
use Rattle.exact.proofs.Matrices.Test.{same_test, same_by}
use Rattle.exact.proofs.Cases.Letters.{eq_word, eq_word_is}
use Rattle.exact.proofs.Cases.NormalTest.{shape_of, normal_test, phase_free_by}
use Rattle.exact.proofs.Cases.Table.{Each, each}

pub record Freed : Type 0 where
  pub letters : List Letter
  pub normal : List Letter
  pub freed : List Letter

pub record IsFreed (r : Freed) : Type 0 where
  pub is : PhaseFreeOf (word r.letters) r.freed

abbrev pub word_test : Freed → Bool
word_test r = normal_test r.normal && same_test (word r.letters) (word r.normal)

abbrev pub freed_test : Freed → Bool
freed_test r = word_test r && eq_word (spell (without_w (shape_of r.normal))) r.freed

pub freed_by : (r : Freed) → T (freed_test r) → IsFreed r
freed_by r t =
    let tail = eq_word (spell (without_w (shape_of r.normal))) r.freed in
    let s = and_yes (word_test r) tail t in
    let n = and_yes (normal_test r.normal) (same_test (word r.letters) (word r.normal)) s.0 in
    record {
      is = record {
        whole = r.normal;
        phase_free = phase_free_by r.normal r.freed n.0 (eq_word_is (spell (without_w (shape_of r.normal))) r.freed s.1);
        same = same_by (word r.letters) (word r.normal) n.1;
      };
    }

unfoldable pub freed_words : List Freed
freed_words =
    record { letters = T' ∷ []; normal = T' ∷ I ∷ []; freed = T' ∷ I ∷ [] } ∷
    record { letters = T' ∷ W ∷ []; normal = T' ∷ W ∷ []; freed = T' ∷ I ∷ [] } ∷
    record { letters = W ∷ T' ∷ []; normal = T' ∷ W ∷ []; freed = T' ∷ I ∷ [] } ∷
    record { letters = W ∷ []; normal = W ∷ []; freed = I ∷ [] } ∷
    record { letters = []; normal = I ∷ []; freed = I ∷ [] } ∷
    record { letters = times 8 W; normal = I ∷ []; freed = I ∷ [] } ∷
    record { letters = H ∷ W ∷ []; normal = H ∷ W ∷ []; freed = H ∷ [] } ∷
    record { letters = X ∷ S ∷ W ∷ []; normal = X ∷ S ∷ W ∷ []; freed = X ∷ S ∷ [] } ∷
    record { letters = H ∷ S ∷ H ∷ []; normal = S ∷ H ∷ X ∷ S ∷ S ∷ S ∷ W ∷ []; freed = S ∷ H ∷ X ∷ S ∷ S ∷ S ∷ [] } ∷
    []

pub all_freed : Each IsFreed freed_words
unfolding freed_words
all_freed = each freed_test IsFreed freed_by freed_words tt
