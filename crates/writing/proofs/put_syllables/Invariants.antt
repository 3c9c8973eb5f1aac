-- What the loops of `writing::put_syllables` keep.
use mathlib.Core.Path.{◌≡◌}
use lib.ListN.{length, take}
use Rattle.exact.specs.Meaning.Word.{bytes}
use Rattle.writing.specs.Codes.{codes_word}
use Rattle.writing.specs.Put.{Put}
use Rattle.writing.proofs.put_syllables.Given as goal

abbrev pub invariant-loop-code : goal.invariant-loop-code
invariant-loop-code l = (length l.buf ≡ length l.initial.buf) × Put l.initial.buf 0 (bytes (codes_word (take l.code-index l.codes))) l.buf l.at
