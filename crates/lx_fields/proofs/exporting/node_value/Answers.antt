use Rattle.serde_json.specs.View.{view, items_view}
use Rattle.lx_fields.proofs.ReadBack.{reads_back_from}
use Rattle.lx_fields.proofs.exporting.node_value.Goals as goal

pub returns-clause-fields : goal.returns-clause-fields
returns-clause-fields c =
    reads_back_from c.args.kind c.args.fields.now (items_view c.args.children.items) (view c.in_ok-value.value) c.in_ok-value.ensures.written c.requires.of_kind
    c.in_ok-value.ensures.storable
