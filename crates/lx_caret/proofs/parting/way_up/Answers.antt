use Rattle.std.proofs.Common.{◌∙◌, sym, arith}
use Rattle.lx_links.proofs.Up.{one_up}
use Rattle.lx_caret.proofs.Holders.{way_on, way_top}
use Rattle.lx_caret.proofs.parting.way_up.Goals as goal

pub up-smaller : goal.up-smaller
up-smaller c = omega (arith, one_up c.args.links.now c.up.at c.in-Some.parent c.parent.ensures.sound (sym c.parent.ensures.parent ∙ c.in-Some.is))

pub up-preserved : goal.up-preserved
up-preserved c =
    way_on c.args.links.now c.args.block c.up.at c.in-Some.parent c.up.keys.items _ _ c.parent.ensures.sound (sym c.parent.ensures.parent ∙ c.in-Some.is)
    (sym c.eq.ensures ∙ c.if-eq.false) c.in_ok-push.ensures.items c.up.invariant

pub returns-in-None : goal.returns-in-None
returns-in-None c =
    way_top c.args.links.now c.args.block c.up.at c.up.keys.items _ _ (sym c.parent.ensures.parent ∙ c.in-None.is)
    (sym c.eq.ensures ∙ c.if-eq.false) c.in_ok-push.ensures.items c.up.invariant
