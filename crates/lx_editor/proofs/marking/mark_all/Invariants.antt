use Rattle.std.proofs.Common.{◌≡◌, drop}
use Rattle.lx_draft.specs.Steps.{mark_uncounted_step}
use Rattle.lx_edit.specs.InTurn.{in_turn}
use Rattle.lx_editor.proofs.marking.mark_all.Given as goal

-- those that are left, after those that are marked, come to what all come to
abbrev pub invariant-loop-key : goal.invariant-loop-key
invariant-loop-key l = in_turn mark_uncounted_step (drop l.key-index l.keys) l.draft ≡ in_turn mark_uncounted_step l.keys l.fn.draft
