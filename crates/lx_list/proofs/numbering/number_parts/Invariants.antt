use Rattle.std.proofs.Common.{◌≡◌, drop}
use Rattle.lx_edit.specs.InTurn.{in_turn}
use Rattle.lx_list.specs.Parts.{AreSmall, part_numbered}
use Rattle.lx_list.proofs.numbering.number_parts.Given as goal

-- those that are left, after what was done, come to what all come to, and their numbers are small
abbrev pub invariant-loop-part : goal.invariant-loop-part
invariant-loop-part l = record {
  same : in_turn part_numbered (drop l.part-index l.parts) l.draft ≡ in_turn part_numbered l.parts l.fn.draft;
  small : AreSmall (drop l.part-index l.parts);
}
