-- What is handed back for a word tells the result. Assumes nothing.
use Rattle.std.specs.Prelude.{◌≡◌, refl, Result, Ok}
use Rattle.exact.specs.declared.Refusal.{Refusal}
use Rattle.exact.proofs.Outcomes.Handed.{one_result}
use Rattle.normal_form.specs.declared.Counts.{Counts}
use Rattle.normal_form.specs.Meaning.{refused, written}

pub written_tells : (r s : Result Counts Refusal) → written r ≡ written s → r ≡ s
written_tells =
    one_result refused (λ c. written (Ok c)) (λ w. w.refusal) (λ w. w.place) (λ n p. refl) (λ n p. refl) (λ c. refl)
    (λ c d h i. record { bytes = (h i).bytes; tees = (h i).tees })
