-- Where refusal 6 is passed, every ending of the word has least exponent at most 60. Assumes nothing.
use Rattle.std.specs.Prelude.{◌≡◌, refl, Bool, true, false, List, [], ℕ, zero, suc, ◌+◌, ◌≤◌, ◌<◌, leb, ltb, length, drop}
use Rattle.std.proofs.Common.{sym, subst, arith, leb-true, leb-false, ltb-true, ltb-false, drop_of_length-le}
use Rattle.exact.specs.Meaning.Matrix.{unit}
use Rattle.exact.specs.Meaning.Word.{Letter, bytes}
use Rattle.exact.specs.Meaning.Endings.{Shallow, AllShallow, DeepAt}
use Rattle.exact.specs.Meaning.Limits.{deepest}
use Rattle.exact.specs.Meaning.Outcome.{none, ◌then◌}
use Rattle.exact.specs.Meaning.Refusals.{deep}
use Rattle.exact.proofs.Matrices.Same.{Same-refl}
use Rattle.exact.proofs.Matrices.Least.{exponent, exponent_least}
use Rattle.exact.proofs.Outcomes.Ladder.{Passed}

nothing_shallow : Shallow []
nothing_shallow = record { k = exponent []; least = exponent_least []; few = omega (arith, (exponent_least []).least unit (Same-refl unit)) }

module _ (u : List Letter) (never : (p : ℕ) → DeepAt u p → ⊥) where
  -- the ending from start on, where those after it are shallow
  one : (start : ℕ) → start < length u → ((later : ℕ) → start < later → later ≤ length u → Shallow (drop later u)) → Shallow (drop start u)
  one start l after = go (leb k deepest) refl
    where
      k : ℕ
      k = exponent (drop start u)

      go : (b : Bool) → leb k deepest ≡ b → Shallow (drop start u)
      go true e = record { k = k; least = exponent_least (drop start u); few = leb-true k deepest e }
      go false e =
          absurd
          (never start (record { there = l; deep = record { k = k; least = exponent_least (drop start u); many = leb-false k deepest e }; after = after }))

  -- from the end down
  down : (n start : ℕ) → length u ≤ start + n → start ≤ length u → Shallow (drop start u)
  down zero start h l = let e : length u ≤ start = omega arith in subst Shallow (sym (drop_of_length-le u e)) nothing_shallow
  down (suc n) start h l = go (ltb start (length u)) refl (λ later a m. down n later (omega arith) m)
    where
      go : (b : Bool) → ltb start (length u) ≡ b → ((later : ℕ) → start < later → later ≤ length u → Shallow (drop later u)) → Shallow (drop start u)
      go true e after = one start (ltb-true start (length u) e) after
      go false e after = subst Shallow (sym (drop_of_length-le u (ltb-false start (length u) e))) nothing_shallow

  all : AllShallow u
  all = record { at = λ start l. down (length u) start (omega arith) l }

pub deep_passed : (u : List Letter) → Passed (deep (bytes u) then none) → AllShallow u
deep_passed u h = all u (λ p d. h.0 p (record { letters = u; spelled = refl; holds = d }))
