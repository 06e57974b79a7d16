use Rattle.std.proofs.Common.{ℕ, ◌+◌, List, None, sym, ◌∙◌, subst}
use Rattle.lx_host.specs.Words.{AreAttributes}
use Rattle.lx_host.specs.Places.{IsWrittenAt}
use Rattle.lx_host.specs.declared.tag.Name.{Name}
use Rattle.lx_host.proofs.Attributes.{attributes_with, written_remove}
use Rattle.lx_host.proofs.op.Attrs.take_away.Goals as goal

pub invariant_of-self : goal.invariant_of-self
invariant_of-self c =
    let is = subst (λ (l : List (Name × List ℕ)). IsWrittenAt c.args.name l c.in-Ok.at (c.in-Ok.at + 1)) c.deref.ensures.value c.in-Ok.ensures in
    subst AreAttributes (sym (c.remove.ensures.items ∙ written_remove c.args.name _ _ is)) (attributes_with c.args.name None _ c.self.invariant)
