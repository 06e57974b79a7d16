use Rattle.std.proofs.Common.{◌∙◌, ap}
use Rattle.serde_json.specs.View.{items_view}
use Rattle.lx_json.specs.Exporting.{trees_data}
use Rattle.lx_clip.specs.Extents.{seen}
use Rattle.lx_clip.specs.Slices as slices
use Rattle.lx_clip.proofs.Alike.{in-alike, as_items}
use Rattle.lx_clip.proofs.GivenBack.{given_as}
use Rattle.lx_clip.proofs.slicing.covers_between.Goals as goal

pub returns-clause-written : goal.returns-clause-written
returns-clause-written c =
    let e = slices.extent c.args.links.now c.args.start.now c.args.end.now in
    as_items c.covers_in.result (λ values. items_view values.items) _ _
    (ap trees_data
    (in-alike c.common_block-block.result (seen c.in_ok-extent.extent) e c.args.links.now c.in_ok-extent.ensures
    ∙ ap (λ block. slices.covers_in block e c.args.links.now) c.common_block-block.ensures))
    c.covers_in.ensures.written

pub returns-clause-told : goal.returns-clause-told
returns-clause-told c =
    let e = slices.extent c.args.links.now c.args.start.now c.args.end.now in
    given_as c.covers_in.result _ _
    (in-alike c.common_block-block.result (seen c.in_ok-extent.extent) e c.args.links.now c.in_ok-extent.ensures
    ∙ ap (λ block. slices.covers_in block e c.args.links.now) c.common_block-block.ensures)
    c.covers_in.ensures.told
