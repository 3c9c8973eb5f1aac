-- No T of the letters before normalising meets a syllable of the reader: synthesis never takes the arms of the Rust's `append_gate` that
-- remove one, and so not its faulty arm of SHT. Assumes nothing.
use Rattle.std.specs.Prelude.{◌≡◌, ◌<◌}
use Rattle.exact.specs.Meaning.Word.{Letter, T'}
use Rattle.clifford.specs.declared.Axis.{Axis}
use Rattle.clifford.specs.Cliffords.{tconj_c}
use Rattle.reading.specs.Readings.{State, size_of}

-- a letter meets a syllable of what was read: it is T, taken through the Clifford it leaves no H or SH in front of itself, and there is a
-- last syllable, the T at the very front among them
pub record Meets (l : Letter) (st : State) : Type 0 where
  pub is_T : l ≡ T'
  pub nothing_between : (tconj_c st.q).axis ≡ Axis.I
  pub some : 0 < size_of st
