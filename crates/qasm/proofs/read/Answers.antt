-- `read` meets its contract. Assumes nothing.
use Rattle.std.proofs.lemmas.Result.{err_from_is_err_and}
use Rattle.qasm.specs.ReaderWays.{no_text, of_circuit}
use Rattle.qasm.proofs.read.Goals as goal

pub returns-in_err-circuit : goal.returns-in_err-circuit
returns-in_err-circuit c =
    let p = err_from_is_err_and c.from_residual.result c.from_residual.ensures.1 in
    rw (p.1, p.2) (no_text _ _ _ _ c.walk.ensures c.in_err-circuit.was)

pub read_circuit-requires : goal.read_circuit-requires
read_circuit-requires c = of_circuit _ _ _ c.walk.ensures c.in_ok-circuit.was
