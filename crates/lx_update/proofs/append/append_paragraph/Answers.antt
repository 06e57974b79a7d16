use Rattle.lx_update.proofs.Composed.{element_suits}
use Rattle.lx_update.proofs.append.append_paragraph.Goals as goal

pub new_node-requires-clause-of_kind : goal.new_node-requires-clause-of_kind
new_node-requires-clause-of_kind c = element_suits c.plain_element.result c.plain_element.ensures
