-- What the loops of `writing::put_ending` keep.
use mathlib.Core.Path.{◌≡◌}
use Rattle.exact.specs.Meaning.Word.{bytes}
use Rattle.writing.specs.Endings.{end_word, end_size}
use Rattle.writing.specs.Put.{Putting}
use Rattle.writing.proofs.put_ending.Given as goal

abbrev pub invariant-loop-j : goal.invariant-loop-j
invariant-loop-j l = (l.n ≡ end_size l.e) × Putting l.initial.buf l.at (bytes (end_word l.e)) l.n l.buf l.j
