use Rattle.std.proofs.Common.{◌∙◌, ap}
use Rattle.lx_node.specs.declared.cause.Limit.TheVariants.{Characters}
use Rattle.lx_node.specs.Limits.{most_characters}
use Rattle.lx_draft.specs.Faults.{over_at}
use Rattle.lx_draft.proofs.Depths.{tree_counts}
use Rattle.lx_draft.proofs.freezing.too_long.Goals as goal

pub returns : goal.returns
returns c =
    c.over.ensures ∙ ap (over_at Characters most_characters) (c.characters.ensures ∙ tree_counts c.args.links.now c.requires.order c.requires.whole)
