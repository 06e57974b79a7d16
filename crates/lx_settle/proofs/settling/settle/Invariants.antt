use Rattle.std.proofs.Common.{◌≡◌, ◌-◌}
use Rattle.lx_settle.specs.Acting.{all_asked}
use Rattle.lx_settle.specs.Settling.{rounds, most_rounds}
use Rattle.lx_settle.proofs.settling.settle.Given as goal

-- the rounds that are left come to what all come to
abbrev pub invariant-loop-passed : goal.invariant-loop-passed
invariant-loop-passed g l =
    let rules = all_asked g.T.Transform.rows g.T.Transform.answers l.fn.rules in
    rounds rules (most_rounds - l.passed) l.draft ≡ rounds rules most_rounds l.fn.draft
