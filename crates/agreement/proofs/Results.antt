-- What is read of both ways' results tells them. Assumes nothing.
use Rattle.std.specs.Prelude.{◌≡◌}
use Rattle.std.proofs.Common.{ap}
use Rattle.normal_form.proofs.Results.{written_tells}
use Rattle.agreement.specs.declared.Agreement as declared
use Rattle.agreement.specs.Meaning.Agree.{Agreement, agreed}

pub agreed_tells : (a b : declared.Agreement) → agreed a ≡ agreed b → a ≡ b
agreed_tells a b h = λ i.
    record {
      yes = (h i).yes;
      first = written_tells a.first b.first (ap (λ (x : Agreement). x.first) h) i;
      second = written_tells a.second b.second (ap (λ (x : Agreement). x.second) h) i;
    }
