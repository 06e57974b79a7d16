use Rattle.std.proofs.Common.{◌∙◌, ap}
use Rattle.std.specs.FinMap.{from_entries}
use Rattle.lx_store.proofs.Chapters.{copied_items, copied_keys, table_alike}
use Rattle.lx_store.proofs.table.Table.fork.Goals as goal

pub invariant_of-result : goal.invariant_of-result
invariant_of-result g c =
    table_alike c.self.inside.chapters.items c.in_ok-clone.field-0.items c.self.invariant
    (copied_keys c.self.inside.chapters.items c.in_ok-clone.field-0.items c.in_ok-clone.ensures.cases.0)

pub returns : goal.returns
returns g c = ap (λ es. from_entries es) (copied_items c.self.inside.chapters.items c.in_ok-clone.field-0.items c.in_ok-clone.ensures.cases.0) ∙ c.self.view_is
