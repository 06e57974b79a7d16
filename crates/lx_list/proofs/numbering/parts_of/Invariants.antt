use Rattle.std.proofs.Common.{take}
use Rattle.lx_list.specs.Parts.{AreParts}
use Rattle.lx_list.proofs.numbering.parts_of.Given as goal

-- each of the lists that were passed has its part
abbrev pub invariant-loop-list : goal.invariant-loop-list
invariant-loop-list l = AreParts l.draft.forest (take l.list-index l.lists) l.parts.items
