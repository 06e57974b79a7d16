use Rattle.std.proofs.Common.{◌∙◌, sym}
use Rattle.lx_list.specs.Dissolving.{is_outermost}
use Rattle.lx_list.proofs.Within.{find_above, find_none_above, found_attached}
use Rattle.lx_list.proofs.dissolving.outermost_above.Goals as goal

pub returns-in-Some-clause-outermost : goal.returns-in-Some-clause-outermost
returns-in-Some-clause-outermost c =
    c.outermost_from.ensures
    ∙ sym (find_above (is_outermost c.args.links.now) c.args.links.now c.args.key c.in-Some.parent c.parent.ensures.sound
    (sym c.parent.ensures.parent ∙ c.in-Some.is))

pub returns-in-Some-clause-attached : goal.returns-in-Some-clause-attached
returns-in-Some-clause-attached c attached =
    found_attached (is_outermost c.args.links.now) c.outermost_from.result c.args.links.now c.args.key c.parent.ensures.sound attached
    (c.outermost_from.ensures
    ∙ sym (find_above (is_outermost c.args.links.now) c.args.links.now c.args.key c.in-Some.parent c.parent.ensures.sound
    (sym c.parent.ensures.parent ∙ c.in-Some.is)))

pub returns-in-None-clause-outermost : goal.returns-in-None-clause-outermost
returns-in-None-clause-outermost c =
    sym (find_none_above (is_outermost c.args.links.now) c.args.links.now c.args.key (sym c.parent.ensures.parent ∙ c.in-None.is))
