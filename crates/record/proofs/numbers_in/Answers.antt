-- `numbers_in` meets its contract: where a line is missing no numbers have the input as their text, and where all are found these have.
-- Assumes nothing.
use Rattle.record.specs.Returns.{no_k, no_n, no_z, no_w_lem, n_fits, byte_behind, all_read}
use Rattle.record.proofs.numbers_in.Goals as goal

pub returns-in_err-k : goal.returns-in_err-k
returns-in_err-k c = rw c.from_residual.ensures (search (no_k, c.in_err-k.was))

pub returns-in_err-n : goal.returns-in_err-n
returns-in_err-n c = rw c.from_residual-in_err-n.ensures (search (no_n, c.in_ok-k.was, c.in_err-n.was))

pub returns-in_err-z : goal.returns-in_err-z
returns-in_err-z c = rw c.from_residual-in_err-z.ensures (search (no_z, c.in_ok-k.was, c.in_ok-n.was, c.in_err-z.was))

pub returns-in_err-w : goal.returns-in_err-w
returns-in_err-w c = rw c.from_residual-in_err-w.ensures (search (no_w_lem, c.in_ok-k.was, c.in_ok-n.was, c.in_ok-z.was, c.in_err-w.was))

pub returns-then-end-s : goal.returns-then-end-s
returns-then-end-s c = search (byte_behind, c.in_ok-k.was, c.in_ok-n.was, c.in_ok-z.was, c.in_ok-w.was)

pub overflow_cast-n : goal.overflow_cast-n
overflow_cast-n c = search (n_fits, c.in_ok-n.was)

pub returns : goal.returns
returns c = search (all_read, c.in_ok-k.was, c.in_ok-n.was, c.in_ok-z.was, c.in_ok-w.was)
