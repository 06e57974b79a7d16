use Rattle.std.proofs.Common.{◌∙◌, sym, arith}
use Rattle.lx_links.proofs.InTree.{first_behind, next_of_leaf, last_leaf}
use Rattle.lx_links.proofs.links.Links.next_in_tree.Goals as goal

pub overflow_add-result : goal.overflow_add-result
overflow_add-result c =
    omega (arith, (first_behind c.args.self.now c.args.key c.in-Some.child c.args.depth c.first.ensures.sound c.requires (sym c.first.ensures.first ∙ c.in-Some.is)).few)

pub returns-in-Some-clause-next : goal.returns-in-Some-clause-next
returns-in-Some-clause-next c =
    (first_behind c.args.self.now c.args.key c.in-Some.child c.args.depth c.first.ensures.sound c.requires (sym c.first.ensures.first ∙ c.in-Some.is)).next

pub returns-in-Some-clause-attached : goal.returns-in-Some-clause-attached
returns-in-Some-clause-attached c =
    (first_behind c.args.self.now c.args.key c.in-Some.child c.args.depth c.first.ensures.sound c.requires (sym c.first.ensures.first ∙ c.in-Some.is)).attached

pub returns-in-Some-clause-depth : goal.returns-in-Some-clause-depth
returns-in-Some-clause-depth c =
    (first_behind c.args.self.now c.args.key c.in-Some.child c.args.depth c.first.ensures.sound c.requires (sym c.first.ensures.first ∙ c.in-Some.is)).depth

pub returns-in-None-clause-next : goal.returns-in-None-clause-next
returns-in-None-clause-next c =
    next_of_leaf c.next_behind.result c.args.self.now c.args.key c.args.depth c.first.ensures.sound c.requires (sym c.first.ensures.first ∙ c.in-None.is)
    c.next_behind.ensures.next

pub returns-in-None-clause-last : goal.returns-in-None-clause-last
returns-in-None-clause-last c =
    last_leaf c.next_behind.result c.args.self.now c.args.key c.args.depth c.first.ensures.sound c.requires (sym c.first.ensures.first ∙ c.in-None.is)
    c.next_behind.ensures.last
