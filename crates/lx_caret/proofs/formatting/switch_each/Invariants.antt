use Rattle.std.proofs.Common.{◌≡◌, drop}
use Rattle.lx_edit.specs.InTurn.{in_turn}
use Rattle.lx_caret.specs.Formatting.{switch_step}
use Rattle.lx_caret.proofs.formatting.switch_each.Given as goal

-- those that are left, after what was switched, come to what all come to
abbrev pub invariant-loop-key : goal.invariant-loop-key
invariant-loop-key l = in_turn (switch_step l.on l.bit) (drop l.key-index l.keys) l.draft ≡ in_turn (switch_step l.on l.bit) l.keys l.fn.draft
