use Rattle.std.proofs.Common.{◌∙◌, ap, sym}
use Rattle.lx_forest.specs.Lookups.{label_of}
use Rattle.lx_blocks.proofs.Labelled.{labelled, has_label, other_kind}
use Rattle.lx_blocks.proofs.making.make_like.Goals as goal

pub new_node-requires-clause-other : goal.new_node-requires-clause-other
new_node-requires-clause-other c =
    other_kind c.args.draft.now.forest c.args.key (labelled c.args.key c.in-Some.node.now)
    (sym (ap (λ f. label_of f c.args.key) c.links.ensures.forest) ∙ c.in-Some.ensures.label) c.requires.other

pub unreachable-requires : goal.unreachable-requires
unreachable-requires c =
    has_label c.args.draft.now.forest c.args.key c.requires.there (sym (ap (λ f. label_of f c.args.key) c.links.ensures.forest) ∙ c.in-None.ensures.none)
