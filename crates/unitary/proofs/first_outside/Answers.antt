-- `unitary::first_outside` meets its contract: every byte before the first that is none is a letter.
use Rattle.std.proofs.lemmas.Iterator.{IsFirst-from_position, YieldsList-from_slice}
use borrow.Author.Rules.{rules}
use borrow.Author.Tests.{tests}
use Rattle.exact.specs.Meaning.Word.{IsLetter}
use Rattle.unitary.specs.Letters.{outside_of}
use Rattle.unitary.proofs.first_outside.Goals as goal

pub returns : goal.returns
returns c =
    outside_of _ _
    (IsFirst-from_position _ _ _ (λ x. IsLetter x → ⊥) IsLetter c.position.ensures.ran (YieldsList-from_slice c.args.word.now cc)
    (λ x q k. search (rules, tests))
    (λ x q k. search (rules, tests)))
