use Rattle.std.proofs.Common.{◌≡◌, ◌-◌}
use Rattle.lx_edit.specs.Edits.{remove_step}
use Rattle.lx_edit.proofs.Climbed.{removed_from}
use Rattle.lx_edit.proofs.removing.remove.Given as goal

-- what is still to be removed comes to what all comes to
abbrev pub invariant-loop-next : goal.invariant-loop-next
invariant-loop-next l = removed_from l.next l.draft ≡ remove_step l.fn.key l.fn.draft

-- each removal takes a count
abbrev pub decreases-loop-next : goal.decreases-loop-next
decreases-loop-next l = 100000 - l.draft.counted
