use Rattle.std.proofs.Common.{◌≡◌, ◌∙◌, ◌∷◌, [], Some, rules, arith}
use Rattle.lx_forest.specs.Lookups.{parent_of, children_of}
use Rattle.lx_forest.proofs.Walks.{total-alone-lt}
use Rattle.lx_forest.proofs.Lookups.{has-parent_of}
use Rattle.lx_links.proofs.Up.{in_order_at}
use Rattle.lx_compare.proofs.Listed.{left_child, below_all}
use Rattle.lx_compare.proofs.places.+add_below.Goals as goal

pub add_below-requires : goal.add_below-requires
add_below-requires t c =
    let f = c.args.links.now in
    let sound = c.children-child-items.ensures.sound in
    let next : c.loop-child.child-iterator ≡ c.in-Some.child ∷ c.next.new.self = search rules in
    let all : c.into_iter-child-iterator.result ≡ children_of f c.args.key =
    c.into_iter-child-iterator.ensures.into_iter_gives ∙ c.children-child-items.ensures.children in
    let up : parent_of f c.in-Some.child ≡ Some c.args.key = left_child f _ _ _ _ _ c.args.key c.in-Some.child sound all c.loop-child.invariant next in
    (omega (arith, total-alone-lt f c.in-Some.child c.args.key (in_order_at f c.args.key sound (has-parent_of f c.in-Some.child c.args.key up)) up), tt)

pub returns-clause-below : goal.returns-clause-below
returns-clause-below t c =
    let f = c.args.links.now in
    let all : c.into_iter-child-iterator.result ≡ children_of f c.args.key =
    c.into_iter-child-iterator.ensures.into_iter_gives ∙ c.children-child-items.ensures.children in
    let none : c.loop-child.child-iterator ≡ [] = search rules in
    below_all f c.args.key c.args.keys.now.items c.loop-child.keys.items c.into_iter-child-iterator.result c.loop-child.child-iterator
    c.children-child-items.ensures.sound all none c.loop-child.invariant
