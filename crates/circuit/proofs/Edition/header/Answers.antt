-- `Edition::header` meets its contract: the bytes are the edition's three lines. Assumes nothing.
use Rattle.std.proofs.Common.{sym, ap}
use Rattle.circuit.specs.declared.Edition.{Edition}
use Rattle.circuit.specs.Meaning.{header, edition_of}
use Rattle.circuit.proofs.Edition.header.Goals as goal

pub returns-in-Two : goal.returns-in-Two
returns-in-Two c = ap (λ (e : Edition). header (edition_of e)) (sym c.in-Two.is)

pub returns-in-Three : goal.returns-in-Three
returns-in-Three c = ap (λ (e : Edition). header (edition_of e)) (sym c.in-Three.is)
