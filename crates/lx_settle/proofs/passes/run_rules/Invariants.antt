use Rattle.std.proofs.Common.{◌≡◌, length}
use Rattle.lx_edit.specs.InTurn.{in_turn}
use Rattle.lx_settle.specs.Acting.{rule_step, all_asked}
use Rattle.lx_settle.proofs.passes.run_rules.Given as goal

-- those that are left, after those that were asked, come to what all come to
abbrev pub invariant-loop-rule : goal.invariant-loop-rule
invariant-loop-rule g l =
    in_turn (rule_step l.key) (all_asked g.T.Transform.rows g.T.Transform.answers l.rest) l.draft
    ≡ in_turn (rule_step l.key) (all_asked g.T.Transform.rows g.T.Transform.answers l.fn.rules) l.fn.draft

abbrev pub decreases-loop-rule : goal.decreases-loop-rule
decreases-loop-rule g l = length l.rest
