use Rattle.std.proofs.Common.{◌≡◌, drop}
use Rattle.lx_edit.specs.InTurn.{in_turn}
use Rattle.lx_edit.specs.Edits.{moved_before}
use Rattle.lx_edit.proofs.unwrapping.move_each_before.Given as goal

-- those that are left, after what was moved, come to what all come to
abbrev pub invariant-loop-key : goal.invariant-loop-key
invariant-loop-key l = in_turn (moved_before l.other) (drop l.key-index l.keys) l.draft ≡ in_turn (moved_before l.other) l.keys l.fn.draft
