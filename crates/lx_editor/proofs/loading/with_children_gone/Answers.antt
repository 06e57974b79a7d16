use Rattle.std.proofs.Common.{◌≡◌, ◌∙◌, [], ◌∷◌, sym, ap, rules}
use Rattle.lx_forest.specs.Lookups.{children_of}
use Rattle.lx_marks.specs.Marks.{with_leaf}
use Rattle.lx_editor.specs.Judged.{with_leaves}
use Rattle.lx_editor.proofs.loading.with_children_gone.Goals as goal

pub loop-child-preserved : goal.loop-child-preserved
loop-child-preserved c =
    let first : c.loop-child.child-iterator ≡ c.in-Some.child ∷ c.next.new.self = search rules in
    let now : c.mark_leaf.new.self ≡ with_leaf c.in-Some.child c.loop-child.shown = search rules in
    ap (with_leaves c.next.new.self) now ∙ sym (ap (λ ks. with_leaves ks c.loop-child.shown) first) ∙ c.loop-child.invariant

pub returns : goal.returns
returns c =
    let none : c.loop-child.child-iterator ≡ [] = search rules in
    sym (ap (λ ks. with_leaves ks c.loop-child.shown) none) ∙ c.loop-child.invariant
    ∙ ap (λ ks. with_leaves ks c.args.marks.now)
    (c.into_iter-child-iterator.ensures.into_iter_gives ∙ c.children-child-items.ensures.children ∙ ap (children_of c.args.old.now) c.root.ensures)
