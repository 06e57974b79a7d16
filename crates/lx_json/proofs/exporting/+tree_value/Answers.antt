use Rattle.std.proofs.Common.{◌≡◌, ◌∙◌, [], ◌∷◌, sym, ap, rules}
use Rattle.std.specs.Option.{option_copied}
use Rattle.lx_links.proofs.Read.{is_read}
use Rattle.lx_json.proofs.BackWritten.{is_found, child_left, written_more, node_written, node_told}
use Rattle.lx_json.proofs.exporting.+tree_value.Goals as goal

pub unreachable-requires : goal.unreachable-requires
unreachable-requires t c =
    is_found c.args.links.now c.args.key c.requires.there (sym (ap option_copied c.in_default.is) ∙ c.node.ensures.node)

pub tree_value-requires : goal.tree_value-requires
tree_value-requires t c =
    let first : c.loop-child.child-iterator ≡ c.in-Some-child.child ∷ c.next.new.self = search rules in
    let h =
    child_left c.args.links.now c.args.key c.in-Some-child.child c.into_iter-child-iterator.result c.loop-child.child-iterator c.next.new.self
    c.loop-child.children.items c.node.ensures.sound
    (c.into_iter-child-iterator.ensures.into_iter_gives ∙ c.children-child-items.ensures.children) c.loop-child.invariant first in
    search rules

pub loop-child-preserved : goal.loop-child-preserved
loop-child-preserved t c =
    let first : c.loop-child.child-iterator ≡ c.in-Some-child.child ∷ c.next.new.self = search rules in
    written_more c.args.links.now c.into_iter-child-iterator.result c.loop-child.child-iterator c.next.new.self c.in-Some-child.child
    c.loop-child.children.items _ c.in_ok-value.value c.loop-child.invariant first (search rules)
    c.in_ok-value.ensures.written c.in_ok-value.ensures.told

pub returns-clause-written : goal.returns-clause-written
returns-clause-written t c =
    let none : c.loop-child.child-iterator ≡ [] = search rules in
    node_written c.node_value.result c.args.links.now c.args.key c.in-Some.node.now c.into_iter-child-iterator.result c.loop-child.child-iterator
    c.loop-child.children.items
    (is_read c.args.links.now c.args.key c.in-Some.node.now c.node.ensures.sound (sym (ap option_copied c.in-Some.is) ∙ c.node.ensures.node))
    (c.into_iter-child-iterator.ensures.into_iter_gives ∙ c.children-child-items.ensures.children) none c.loop-child.invariant
    c.node_value.ensures.written

pub returns-clause-told : goal.returns-clause-told
returns-clause-told t c =
    let none : c.loop-child.child-iterator ≡ [] = search rules in
    node_told c.node_value.result c.args.links.now c.args.key c.in-Some.node.now c.into_iter-child-iterator.result c.loop-child.child-iterator
    c.loop-child.children.items c.node.ensures.sound
    (is_read c.args.links.now c.args.key c.in-Some.node.now c.node.ensures.sound (sym (ap option_copied c.in-Some.is) ∙ c.node.ensures.node))
    (c.into_iter-child-iterator.ensures.into_iter_gives ∙ c.children-child-items.ensures.children) none c.loop-child.invariant
    c.node_value.ensures.written c.node_value.ensures.fields
