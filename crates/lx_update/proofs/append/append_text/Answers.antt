use Rattle.lx_update.proofs.Composed.{text_suits}
use Rattle.lx_update.proofs.append.append_text.Goals as goal

pub new_node-requires-clause-of_kind : goal.new_node-requires-clause-of_kind
new_node-requires-clause-of_kind c = text_suits c.in_ok-plain_text.field-0 _ c.in_ok-plain_text.ensures
