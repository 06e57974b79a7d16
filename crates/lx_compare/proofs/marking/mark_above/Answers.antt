use Rattle.std.proofs.Common.{◌∙◌, sym, arith}
use Rattle.lx_links.proofs.Up.{one_up}
use Rattle.lx_compare.proofs.Raised.{rising_more}
use Rattle.lx_compare.proofs.marking.mark_above.Goals as goal

pub loop-parent-smaller : goal.loop-parent-smaller
loop-parent-smaller c =
    omega (arith, one_up c.args.links.now c.loop-parent.at c.in-Some.parent c.parent.ensures.sound (sym c.parent.ensures.parent ∙ c.in-Some.is))

pub loop-parent-preserved : goal.loop-parent-preserved
loop-parent-preserved c =
    rising_more c.args.links.now c.args.marks.now c.loop-parent.marks c.mark_element.new.self c.loop-parent.at c.in-Some.parent c.loop-parent.invariant
    (sym c.parent.ensures.parent ∙ c.in-Some.is) c.in_ok-mark_element.ensures.marked
