-- `write_word` meets its contract. Assumes nothing.
use Rattle.std.proofs.Common.{◌≤◌, length, subst, sym}
use Rattle.circuit.specs.Meaning.{edition_of}
use Rattle.qasm.specs.WriterWays.{phase_refused, put_in, header_few}
use Rattle.qasm.proofs.write_word.Goals as goal

pub returns-then-measured-word : goal.returns-then-measured-word
returns-then-measured-word c =
    phase_refused _ _ _ c.requires.fact_2.spells c.requires.fact_1 c.requires.fact_3 c.if-measured-word.true (edition_of c.args.edition) _
    c.has_phase.ensures c.if-not-has_phase.true

pub put_circuit-requires-clause-fact_2 : goal.put_circuit-requires-clause-fact_2
put_circuit-requires-clause-fact_2 c =
    (c.requires.fact_1, subst (λ t. length t ≤ 64) (sym c.header.ensures) (header_few (edition_of c.args.edition)))

pub returns : goal.returns
returns c =
    put_in _ _ _ _ c.requires.fact_2.spells (edition_of c.args.edition) _ _ c.has_phase.ensures c.else-not-has_phase.either c.requires.fact_1
    c.requires.fact_3 _ c.header.ensures c.put_circuit.ensures
