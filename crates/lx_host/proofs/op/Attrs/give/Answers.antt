use Rattle.std.proofs.Common.{ℕ, ◌+◌, List, Some, ap, sym, ◌∙◌, subst}
use Rattle.lx_host.specs.Words.{AreAttributes, with_attribute}
use Rattle.lx_host.specs.Places.{IsWrittenAt}
use Rattle.lx_host.specs.declared.tag.Name.{Name}
use Rattle.lx_host.proofs.Attributes.{attributes_with, written_set, written_insert}
use Rattle.lx_host.proofs.op.Attrs.give.Goals as goal

pub invariant_of-self : goal.invariant_of-self
invariant_of-self c =
    let is = subst (λ (l : List (Name × List ℕ)). IsWrittenAt c.args.name l c.in-Ok.at (c.in-Ok.at + 1)) c.deref.ensures.value c.in-Ok.ensures in
    subst AreAttributes (sym (written_set c.args.name _ _ c.args.value is)) (attributes_with c.args.name (Some c.args.value) _ c.self.invariant)

pub invariant_of-self-in-Err : goal.invariant_of-self-in-Err
invariant_of-self-in-Err c =
    let is = subst (λ (l : List (Name × List ℕ)). IsWrittenAt c.args.name l c.in-Err.at c.in-Err.at) c.deref.ensures.value c.in-Err.ensures in
    subst AreAttributes (sym (c.in_ok-insert-in-Err.ensures.items ∙ written_insert c.args.name _ _ c.args.value is))
    (attributes_with c.args.name (Some c.args.value) _ c.self.invariant)

pub returns-in-Ok-clause-ok : goal.returns-in-Ok-clause-ok
returns-in-Ok-clause-ok c =
    let is = subst (λ (l : List (Name × List ℕ)). IsWrittenAt c.args.name l c.in-Ok.at (c.in-Ok.at + 1)) c.deref.ensures.value c.in-Ok.ensures in
    written_set c.args.name _ _ c.args.value is ∙ ap (with_attribute c.args.name (Some c.args.value)) c.self.view_is
