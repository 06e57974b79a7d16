use Rattle.std.proofs.Common.{◌≡◌, ◌∙◌, ◌∷◌, [], true, Some, rules, arith}
use Rattle.lx_forest.specs.Lookups.{has, parent_of, children_of}
use Rattle.lx_forest.proofs.Lookups.{has-child}
use Rattle.lx_forest.proofs.Walks.{total-alone-lt}
use Rattle.lx_links.proofs.Up.{in_order_at}
use Rattle.lx_outline.proofs.Parts.{taken_child, taken_lost}
use Rattle.lx_outline.proofs.telling.+add_gone.Goals as goal

pub add_lost-add_gone-requires : goal.add_lost-add_gone-requires
add_lost-add_gone-requires t c =
    let old = c.args.before.now in
    let sound = c.children-child-items.ensures.sound in
    let next : c.loop-child.child-iterator ≡ c.in-Some.child ∷ c.next.new.self = search rules in
    let all : c.into_iter-child-iterator.result ≡ children_of old c.args.key =
    c.into_iter-child-iterator.ensures.into_iter_gives ∙ c.children-child-items.ensures.children in
    let up : parent_of old c.in-Some.child ≡ Some c.args.key =
    taken_child old c.args.after.now _ _ _ _ _ c.args.key c.in-Some.child sound all c.loop-child.invariant next in
    let there : has c.in-Some.child old ≡ true = has-child old c.in-Some.child c.args.key up in (
      omega (arith, total-alone-lt old c.in-Some.child c.args.key (in_order_at old c.in-Some.child sound there) up),
      (there, c.loop-child.invariant.gone),
    )

pub add_lost-returns-clause-told : goal.add_lost-returns-clause-told
add_lost-returns-clause-told t c =
    let all : c.into_iter-child-iterator.result ≡ children_of c.args.before.now c.args.key =
    c.into_iter-child-iterator.ensures.into_iter_gives ∙ c.children-child-items.ensures.children in
    let none : c.loop-child.child-iterator ≡ [] = search rules in
    taken_lost c.args.before.now c.args.after.now _ _ _ _ c.args.key c.children-child-items.ensures.sound all none c.loop-child.invariant
