use Rattle.std.proofs.Common.{refl}
use Rattle.lx_links.specs.Changes.{with_content}
use Rattle.lx_links.proofs.Maps.{if_there, node_differs}
use Rattle.lx_links.proofs.changes.set_fields.Goals as goal

pub change-requires : goal.change-requires
change-requires c = if_there (λ n. Unit {0}) _ (λ n there. tt)

pub returns : goal.returns
returns c = node_differs c.args.store.now _ c.args.key (with_content c.args.fields) (λ n. refl) c.in_ok-change.ensures.changed
