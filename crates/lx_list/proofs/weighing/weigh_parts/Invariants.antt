use Rattle.std.proofs.Common.{◌≡◌, ◌+◌, drop}
use Rattle.std.specs.Prelude.{sum_by}
use Rattle.lx_list.specs.Parts.{items_of, part_characters}
use Rattle.lx_list.proofs.weighing.weigh_parts.Given as goal

-- what was weighed, with what is left, is all
abbrev pub invariant-loop-part : goal.invariant-loop-part
invariant-loop-part l = record {
  items : l.weighed.items + sum_by (items_of l.links) (drop l.part-index l.parts) ≡ sum_by (items_of l.links) l.parts;
  characters : l.weighed.characters + sum_by (part_characters l.links) (drop l.part-index l.parts) ≡ sum_by (part_characters l.links) l.parts;
}
