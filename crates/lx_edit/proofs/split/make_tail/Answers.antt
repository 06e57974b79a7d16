use Rattle.std.proofs.Common.{◌∙◌, ap}
use Rattle.lx_edit.proofs.Keyed.{new-next_key}
use Rattle.lx_edit.proofs.split.make_tail.Goals as goal

pub returns-clause-next_key : goal.returns-clause-next_key
returns-clause-next_key c = ap (λ w. w.next_key) c.point_rule.ensures ∙ new-next_key _ _ _ _ c.in_ok-new.ensures.ok
