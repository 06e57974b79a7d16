use Rattle.std.proofs.Common.{◌≡◌, drop}
use Rattle.lx_edit.specs.InTurn.{in_turn}
use Rattle.lx_settle.specs.Acting.{all_asked}
use Rattle.lx_settle.specs.Passes.{element_step}
use Rattle.lx_settle.proofs.passes.take_elements.Given as goal

-- those that are left, after those that had their turn, come to what all come to
abbrev pub invariant-loop-element : goal.invariant-loop-element
invariant-loop-element g l =
    let rules = all_asked g.T.Transform.rows g.T.Transform.answers l.fn.rules in
    in_turn (element_step rules) (drop l.element-index l.elements) l.draft ≡ in_turn (element_step rules) l.elements l.fn.draft
