use Rattle.std.proofs.Common.{◌∙◌}
use Rattle.lx_edit.proofs.Keyed.{splice-next_key, behind-next_key}
use Rattle.lx_edit.proofs.split.cut_in_two.Goals as goal

pub returns-clause-next_key : goal.returns-clause-next_key
returns-clause-next_key c =
    behind-next_key _ _ _ _ c.in_ok-put_behind.ensures.ok ∙ splice-next_key _ _ _ _ _ _ c.in_ok-splice.ensures.ok ∙ c.in_ok-new.ensures.next_key
