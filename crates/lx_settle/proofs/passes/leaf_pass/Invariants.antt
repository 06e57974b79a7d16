use Rattle.std.proofs.Common.{◌≡◌, drop}
use Rattle.lx_edit.specs.InTurn.{in_turn}
use Rattle.lx_settle.specs.Acting.{all_asked}
use Rattle.lx_settle.specs.Passes.{leaf_step}
use Rattle.lx_settle.proofs.passes.leaf_pass.Given as goal

-- those that are left, after those that had their turn, come to what all come to
abbrev pub invariant-loop-key : goal.invariant-loop-key
invariant-loop-key g l =
    let rules = all_asked g.T.Transform.rows g.T.Transform.answers l.fn.rules in
    in_turn (leaf_step rules) (drop l.key-index l.keys) l.draft ≡ in_turn (leaf_step rules) l.keys l.fn.draft
