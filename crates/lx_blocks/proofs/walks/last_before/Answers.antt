use Rattle.std.proofs.Common.{◌≡◌, ◌++◌, ◌∷◌, [], IfSome, IfNone, sym, subst}
use Rattle.lx_blocks.specs.Walks.{nodes_before}
use Rattle.lx_blocks.proofs.Steps.{attached_there}
use Rattle.lx_blocks.proofs.Previous.{tree_last, up_to_child, behind_text, behind_children, from_there, child_attached}
use Rattle.lx_blocks.proofs.walks.last_before.Goals as goal

pub last_within-requires : goal.last_within-requires
last_within-requires c = attached_there c.args.links.now c.args.point.now.key c.requires

pub last_within-requires-in-None : goal.last_within-requires-in-None
last_within-requires-in-None c = attached_there c.args.links.now c.args.point.now.key c.requires

pub previous_in_tree-requires : goal.previous_in_tree-requires
previous_in_tree-requires c =
    child_attached c.args.links.now c.args.point.now.key c.in-Some.child c.args.point.now.offset c.child_at.ensures.sound c.requires c.in-Some.ensures.child

pub returns-in-Text-clause-before : goal.returns-in-Text-clause-before
returns-in-Text-clause-before c =
    (tree_last c.args.links.now c.args.point.now c.last_within.result c.last_within.ensures.sound c.requires
    (behind_text c.args.links.now c.args.point.now c.in-Text.is) c.last_within.ensures.last).others

pub returns-in-Text-clause-attached : goal.returns-in-Text-clause-attached
returns-in-Text-clause-attached c =
    (tree_last c.args.links.now c.args.point.now c.last_within.result c.last_within.ensures.sound c.requires
    (behind_text c.args.links.now c.args.point.now c.in-Text.is) c.last_within.ensures.last).attached

pub returns-in-None-clause-before : goal.returns-in-None-clause-before
returns-in-None-clause-before c =
    (tree_last c.args.links.now c.args.point.now c.last_within-in-None.result c.last_within-in-None.ensures.sound c.requires
    (behind_children c.args.links.now c.args.point.now c.in-Element.is c.in-None.ensures.child) c.last_within-in-None.ensures.last).others

pub returns-in-None-clause-attached : goal.returns-in-None-clause-attached
returns-in-None-clause-attached c =
    (tree_last c.args.links.now c.args.point.now c.last_within-in-None.result c.last_within-in-None.ensures.sound c.requires
    (behind_children c.args.links.now c.args.point.now c.in-Element.is c.in-None.ensures.child) c.last_within-in-None.ensures.last).attached

pub returns-in-Some-clause-before : goal.returns-in-Some-clause-before
returns-in-Some-clause-before c =
    let f = c.args.links.now in
    let there = child_attached f c.args.point.now.key c.in-Some.child c.args.point.now.offset c.child_at.ensures.sound c.requires c.in-Some.ensures.child in
    subst (λ ks. IfSome c.previous_in_tree.result (λ b. ks ≡ nodes_before f b ++ b ∷ []))
    (sym (up_to_child f c.args.point.now c.in-Some.child there (from_there f c.args.point.now c.in-Some.child c.in-Element.is c.in-Some.ensures.child)))
    c.previous_in_tree.ensures.others

pub returns-in-Some-clause-none : goal.returns-in-Some-clause-none
returns-in-Some-clause-none c =
    let f = c.args.links.now in
    let there = child_attached f c.args.point.now.key c.in-Some.child c.args.point.now.offset c.child_at.ensures.sound c.requires c.in-Some.ensures.child in
    subst (λ ks. IfNone c.previous_in_tree.result (ks ≡ []))
    (sym (up_to_child f c.args.point.now c.in-Some.child there (from_there f c.args.point.now c.in-Some.child c.in-Element.is c.in-Some.ensures.child)))
    c.previous_in_tree.ensures.first
