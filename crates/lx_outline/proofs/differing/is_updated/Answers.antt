use Rattle.std.proofs.Common.{◌≡◌, ◌∙◌, sym, true, false, rules}
use Rattle.lx_links.proofs.Seen.{seen_in, absent_in}
use Rattle.lx_outline.proofs.SameNode.{updated_by_node, updated_by_children}
use Rattle.lx_outline.proofs.differing.is_updated.Goals as goal

pub returns-in_default : goal.returns-in_default
returns-in_default c = (
  λ e. absurd (search rules),
  λ u. absurd (let h : false ≡ true = sym (absent_in c.node.result c.args.before.now c.args.key c.node.ensures.node c.in_default.is) ∙ u.0 in cc),
)

pub returns-in_default-node : goal.returns-in_default-node
returns-in_default-node c = (
  λ e. absurd (search rules),
  λ u. absurd (let h : false ≡ true = sym (absent_in c.node-2.result c.args.after.now c.args.key c.node-2.ensures.node c.in_default-node.is) ∙ u.1 in cc),
)

pub returns-then-not-is_same_node : goal.returns-then-not-is_same_node
returns-then-not-is_same_node c =
    let s = seen_in c.node.result c.in-Some.old c.args.before.now c.args.key c.node.ensures.node c.in-Some.is in
    let t = seen_in c.node-2.result c.in-Some-node.new c.args.after.now c.args.key c.node-2.ensures.node c.in-Some-node.is in
    updated_by_node c.args.before.now c.args.after.now c.args.key _ _ c.is_same_node.result s t c.is_same_node.ensures c.if-not-is_same_node.true

pub returns-else-not-is_same_node : goal.returns-else-not-is_same_node
returns-else-not-is_same_node c =
    let s = seen_in c.node.result c.in-Some.old c.args.before.now c.args.key c.node.ensures.node c.in-Some.is in
    let t = seen_in c.node-2.result c.in-Some-node.new c.args.after.now c.args.key c.node-2.ensures.node c.in-Some-node.is in
    updated_by_children c.args.before.now c.args.after.now c.args.key _ _ c.is_same_node.result c.has_same_children.result s t c.is_same_node.ensures
    c.if-not-is_same_node.false c.has_same_children.ensures
