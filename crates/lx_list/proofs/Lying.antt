-- The list commands that leave a selection in the tree.
use Rattle.lx_list.specs.Laws.{ListSelectionsLie}
use Rattle.lx_list.proofs.Itemized.{lies-make_list}
use Rattle.lx_list.proofs.Outs.{lies-outdent}
use Rattle.lx_list.proofs.Checks.{lies-set_checked, lies-toggle_checked}
use Rattle.lx_list.proofs.Ended.{lies-paragraph_in_item}
use Rattle.lx_list.proofs.Renumbers.{lies-number}

pub selections : ListSelectionsLie
selections = record {
  make_list = lies-make_list;
  outdent = lies-outdent;
  toggle_checked = lies-toggle_checked;
  paragraph_in_item = lies-paragraph_in_item;
  set_checked = lies-set_checked;
  number = lies-number;
}
