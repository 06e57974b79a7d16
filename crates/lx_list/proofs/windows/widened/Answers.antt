use Rattle.std.proofs.Common.{◌≡◌, ◌∙◌, Some, arith, sym}
use Rattle.std.proofs.lemmas.Bool.Decides.{eqb_tells}
use Rattle.lx_list.proofs.WindowEnds.{no_child, begun}
use Rattle.lx_list.proofs.windows.widened.Goals as goal

pub returns-then-ne : goal.returns-then-ne
returns-then-ne c = λ m. no_child c.args.links.now m c.args.list c.args.key c.args.window c.requires (λ up.
    let is : c.parent.result ≡ Some c.args.list = c.parent.ensures.parent ∙ up in
    grind (arith, is, c.if-ne.true, c.ne.ensures, eqb_tells c.args.list c.args.list))

pub returns-in-None : goal.returns-in-None
returns-in-None c = λ m none.
    let is : c.parent.result ≡ Some c.args.list = grind (arith, c.if-ne.false, c.ne.ensures) in
    begun c.args.links.now m c.args.list c.args.key c.requires (sym c.parent.ensures.parent ∙ is) (rw c.in-None.is at none)
