use Rattle.std.proofs.Common.{◌≡◌, ◌∙◌, length, ap, sym, rules}
use Rattle.std.specs.Vec.{vec_len}
use Rattle.lx_fields.specs.Exporting.{node_data}
use Rattle.lx_clip.specs.Covers.{label_for}
use Rattle.lx_clip.specs.Extents.{seen}
use Rattle.lx_clip.proofs.Covered.{is_kept, lies_between, has_some}
use Rattle.lx_clip.proofs.covering.element_cover.Goals as goal
use Rattle.lx_clip.proofs.covering.element_cover.Goals.{else-is_empty-via-then-is_empty+else-not-is_between, else-is_empty-via-else-is_empty}

pub returns-clause-written : goal.returns-clause-written
returns-clause-written c f below =
    let count : vec_len c.args.below ≡ length c.args.below.items = search rules in
    is_kept (seen c.args.extent.now) (label_for c.args.key c.args.node.now) f _
    (elim c.else-is_empty.branch [
      | else-is_empty-via-then-is_empty+else-not-is_between w ↦
          lies_between (seen c.args.extent.now) (label_for c.args.key c.args.node.now) f (sym w.is_between.ensures ∙ w.if-not-is_between.false)
      | else-is_empty-via-else-is_empty w ↦
          has_some (seen c.args.extent.now) (label_for c.args.key c.args.node.now) f c.args.below.items (vec_len c.args.below) count below
          (sym c.is_empty.ensures ∙ w.if-is_empty.false)
    ])
    (c.in_ok-value.ensures.written ∙ ap (node_data c.args.node.now.kind c.args.node.now.fields) below)
