use Rattle.std.proofs.Common.{◌≡◌, ◌≤◌, length}
use Rattle.lx_edit.specs.InTurn.{in_turn}
use Rattle.lx_settle.specs.Acting.{rule_step, all_asked}
use Rattle.lx_settle.proofs.passes.from_due.Given as goal

-- those that are left come to what all come to
abbrev pub invariant-loop-rule : goal.invariant-loop-rule
invariant-loop-rule g l =
    let asked = all_asked g.T.Transform.rows g.T.Transform.answers in
    (in_turn (rule_step l.fn.key) (asked l.rest) l.fn.draft ≡ in_turn (rule_step l.fn.key) (asked l.fn.rules) l.fn.draft) × (length l.rest ≤ length l.fn.rules)

abbrev pub decreases-loop-rule : goal.decreases-loop-rule
decreases-loop-rule g l = length l.rest
