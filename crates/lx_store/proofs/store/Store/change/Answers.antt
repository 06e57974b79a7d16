use Rattle.lx_store.proofs.Counted.{edited_as_many}
use Rattle.lx_store.proofs.store.Store.change.Goals as goal

pub invariant_of-self : goal.invariant_of-self
invariant_of-self g c =
    edited_as_many c.change.result c.self.inside.held c.change.new.self c.args.key (g.E.Edit.edited c.args.edit) c.self.inside.count c.change.ensures.changed
    c.change.ensures.unchanged c.self.invariant
