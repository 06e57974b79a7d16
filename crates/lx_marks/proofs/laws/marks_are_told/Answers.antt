use Rattle.std.proofs.Common.{refl}
use Rattle.lx_marks.specs.Marks.{with_leaf, with_marked, absorbed}
use Rattle.lx_marks.proofs.Named.{is_among-with_name, is_among-with_names}
use Rattle.lx_marks.proofs.Flagged.{flag_in-flagged, flag_in-all_flagged}
use Rattle.lx_marks.proofs.Told.{touched-leaf, touched-element, touched-absorbed, noted-leaf, noted-element, noted-absorbed, flag_stays, flag_stays_all, IsMarked-unmarked, IsMarked-with_leaf, IsMarked-with_element, IsMarked-absorbed, is_among-read, flag_in-read}
use Rattle.lx_marks.proofs.laws.marks_are_told.Goals as goal

pub returns : goal.returns
unfolding with_leaf with_marked absorbed
returns c = record {
  none_touched = λ q. refl;
  touched_leaf = touched-leaf;
  touched_element = touched-element;
  touched_absorbed = touched-absorbed;
  none_noted = λ q. refl;
  noted_leaf = noted-leaf;
  noted_element = noted-element;
  noted_absorbed = noted-absorbed;
  leaves_leaf = λ k m q. is_among-with_name k m.leaves q;
  leaves_element = λ k flag m. refl;
  leaves_absorbed = λ other m q. is_among-with_names other.leaves m.leaves q;
  flags_leaf = λ k m. refl;
  flags_element = λ k flag m q. flag_in-flagged k flag m.elements q;
  flags_absorbed = λ other m q once. flag_in-all_flagged other.elements m.elements q once.elements;
  read_leaf = λ m. is_among-read m.leaves;
  read_element = λ m i k flag once. flag_in-read m.elements i k flag once.elements;
  flag_stays_element = λ k flag m q. flag_stays k flag m.elements q;
  flag_stays_absorbed = λ other m q. flag_stays_all other.elements m.elements q;
  once_unmarked = IsMarked-unmarked;
  once_leaf = IsMarked-with_leaf;
  once_element = IsMarked-with_element;
  once_absorbed = IsMarked-absorbed;
}
