use Rattle.std.proofs.Common.{◌∙◌, sym, ap, rules}
use Rattle.std.specs.Prelude.{find}
use Rattle.lx_caret.specs.Deleting.{is_leaf_in}
use Rattle.lx_caret.proofs.Forwards.{leaf_passed, forth_on, forth_found, forth_ends, forth_shorter}
use Rattle.lx_caret.proofs.deleting.leaf_behind.Goals as goal

pub loop-at-init : goal.loop-at-init
loop-at-init c = (c.first_behind-at.ensures.at, ap (find (is_leaf_in c.args.links.now c.args.block)) c.first_behind-at.ensures.left)

pub returns-then-is_end : goal.returns-then-is_end
returns-then-is_end c =
    leaf_passed c.end_of-end.result c.loop-at.at c.args.links.now c.args.block _ c.in-Some.depth _ c.next_in_tree-next.ensures.sound c.requires.block
    c.end_of-end.ensures
    c.loop-at.invariant (sym c.is_end.ensures ∙ c.if-is_end.true) (search rules)

pub returns-then-is_leaf_in : goal.returns-then-is_leaf_in
returns-then-is_leaf_in c =
    forth_found (is_leaf_in c.args.links.now c.args.block) c.loop-at.at c.next_in_tree-next.result c.args.links.now _ c.in-Some.depth _ c.loop-at.invariant
    c.next_in_tree-next.ensures.next c.next_in_tree-next.ensures.last (sym c.is_leaf_in.ensures.leaf ∙ c.if-is_leaf_in.true) (search rules)

pub loop-at-smaller : goal.loop-at-smaller
loop-at-smaller c =
    forth_shorter c.loop-at.at c.next_in_tree-next.result c.args.links.now _ c.in-Some.depth c.next_in_tree-next.ensures.next c.next_in_tree-next.ensures.last
    (search rules)

pub loop-at-preserved : goal.loop-at-preserved
loop-at-preserved c =
    forth_on (is_leaf_in c.args.links.now c.args.block) c.loop-at.at c.next_in_tree-next.result c.args.links.now _ c.in-Some.depth _ c.loop-at.invariant
    c.next_in_tree-next.ensures.next c.next_in_tree-next.ensures.last c.next_in_tree-next.ensures.depth (sym c.is_leaf_in.ensures.leaf ∙ c.if-is_leaf_in.false)
    (search rules)

pub returns : goal.returns
returns c = forth_ends (is_leaf_in c.args.links.now c.args.block) c.loop-at.at c.args.links.now _ c.loop-at.invariant c.in_default.is
