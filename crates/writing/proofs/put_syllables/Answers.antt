-- `writing::put_syllables` meets its contract. Assumes nothing.
use Prim.Native.Nat.{◌≤◌}
use native.Mathlib.Omega.{arith}
use borrow.Author.Rules.{rules}
use lib.ListN.{length, take}
use Rattle.std.proofs.Math.Seq.{take-length}
use Rattle.writing.specs.Codes.{codes_word, one_room, one_more}
use Rattle.writing.specs.Spelt.{spelt_room}
use Rattle.writing.proofs.put_syllables.Goals as goal

pub put_syllable-at-requires : goal.put_syllable-at-requires
put_syllable-at-requires c =
    let codes = c.args.codes.now in
    let room : length (codes_word (take (length codes) codes)) ≤ length c.args.buf.now = rw take-length c.requires in
    let all : length codes ≤ length codes = omega arith in
    search (rules, spelt_room, one_room)

pub loop-code-preserved : goal.loop-code-preserved
loop-code-preserved c =
    let codes = c.args.codes.now in
    let room : length (codes_word (take (length codes) codes)) ≤ length c.args.buf.now = rw take-length c.requires in
    let all : length codes ≤ length codes = omega arith in
    (search rules, search (rules, one_more))
