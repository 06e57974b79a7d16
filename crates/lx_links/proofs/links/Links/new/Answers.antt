use Rattle.std.proofs.Common.{ap, arith}
use Rattle.std.specs.FinMap.{len, len-empty}
use Rattle.std.specs.Ordering.{nat_cmp}
use Rattle.lx_node.specs.declared.node.Node.{Node}
use Rattle.lx_forest.specs.Forest.{root_alone}
use Rattle.lx_links.proofs.Edited.{new_stands}
use Rattle.lx_links.proofs.Stood.{is_now}
use Rattle.lx_links.proofs.Summed.{counts_now, root_counts}
use Rattle.lx_links.proofs.links.Links.new.Goals as goal

pub put_node-requires : goal.put_node-requires
put_node-requires c = omega (arith, ap len c.in_ok-store.ensures, len-empty nat_cmp Node)

pub invariant_of-result : goal.invariant_of-result
invariant_of-result c =
    (record { value = root_alone; stands = new_stands _ _ _ _ _ c.in_ok-store.ensures c.root.ensures c.lone_node.ensures c.plain_element-fields.ensures c.in_ok-put_node.ensures }, tt)

pub returns : goal.returns
returns c =
    is_now _ _ root_alone
    (new_stands _ _ _ _ _ c.in_ok-store.ensures c.root.ensures c.lone_node.ensures c.plain_element-fields.ensures c.in_ok-put_node.ensures)

pub invariant_of-result-2 : goal.invariant_of-result-2
invariant_of-result-2 c =
    counts_now _ _ _ root_alone
    (new_stands _ _ _ _ _ c.in_ok-store.ensures c.root.ensures c.lone_node.ensures c.plain_element-fields.ensures c.in_ok-put_node.ensures) root_counts
