use Rattle.std.proofs.Common.{◌≡◌, drop}
use Rattle.lx_edit.specs.InTurn.{in_turn}
use Rattle.lx_edit.specs.Edits.{moved_to_end}
use Rattle.lx_edit.proofs.children.move_each.Given as goal

-- those that are left, after what was moved, come to what all come to
abbrev pub invariant-loop-key : goal.invariant-loop-key
invariant-loop-key l = in_turn (moved_to_end l.to) (drop l.key-index l.keys) l.draft ≡ in_turn (moved_to_end l.to) l.keys l.fn.draft
