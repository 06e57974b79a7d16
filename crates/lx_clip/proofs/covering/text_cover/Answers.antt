use Rattle.std.proofs.Common.{◌∙◌, ap}
use Rattle.lx_clip.specs.Covers.{label_for, to_in}
use Rattle.lx_clip.specs.Extents.{seen}
use Rattle.lx_clip.proofs.Cut.{uncovered}
use Rattle.lx_clip.proofs.covering.text_cover.Goals as goal

pub returns-else-is_met-clause-written : goal.returns-else-is_met-clause-written
returns-else-is_met-clause-written c =
    uncovered (seen c.args.extent.now) c.args.text.now (label_for c.args.key c.args.node.now) c.is_met.result c.from_in-from.result c.to_in-to.result
    c.is_met.ensures c.from_in-from.ensures
    (c.to_in-to.ensures ∙ ap (to_in (seen c.args.extent.now) c.args.key) c.length_of.ensures) c.else-is_met.either
