-- What holds of each step of a draft, and of one after another, holds of adding a node at a point. It may put any key.
use Rattle.std.proofs.Common.{ℕ, ◌&&◌, ◌==◌, is_some, [], ◌∷◌, Result}
use Rattle.lx_node.specs.declared.kind.Kind.{Kind}
use Rattle.lx_node.specs.declared.fields.Fields.{Fields}
use Rattle.lx_node.specs.declared.cause.Cause.{Cause}
use Rattle.lx_node.specs.declared.cause.Point.{Point}
use Rattle.lx_node.specs.declared.cause.PointKind.{PointKind}
use Rattle.lx_node.specs.declared.cause.PointKind.TheVariants as point
use Rattle.lx_draft.specs.Working.{Working}
use Rattle.lx_draft.specs.Faults.{after}
use Rattle.lx_draft.specs.Steps.{new_step}
use Rattle.lx_draft.specs.Beside.{put_before_step, put_behind_step}
use Rattle.lx_edit.specs.Texts.{split_step}
use Rattle.lx_edit.proofs.Paths.{Leads, allowed, if_, put_before_path, put_behind_path}
use Rattle.lx_blocks.specs.Ranges.{normal_at}
use Rattle.lx_blocks.proofs.Paths.{IsWay, either, chained, splits}
use Rattle.lx_caret.specs.Adding.{kind_around, no_room, is_inside, opened, put_by, add_step}

module _ {D : Working → Type 0} {R : Working → Working → Type 0} (way : IsWay D R) where
  pub opened_path : (p : Point) → Leads D R (opened p)
  opened_path p w v r e =
      if_ way (is_inside w.forest p p.kind && is_some (normal_at w.forest p.key)) (split_step p.key (p.offset ∷ [])) w v r (splits way p.key (p.offset ∷ [])) e

  pub put_by_path : (k : ℕ) (p : Point) (kind : PointKind) → Leads D R (put_by k p kind)
  put_by_path k p point.Text w v r e =
      either way (p.offset == 0) (put_before_step k p.key) (put_behind_step k p.key) (put_before_path way k p.key tt) (put_behind_path way k p.key tt) w v r e
  put_by_path k p point.Element w v r e = way.put k p.key p.offset w v tt r e

  pub add_path : (p : Point) (kind : Kind) (fields : Fields) → Leads D R (add_step p kind fields)
  unfolding add_step
  add_path p kind fields w v r e =
      let put : Working → Working → Result Working Cause = λ split. put_by split.next_key p p.kind in
      let made : Working → Result Working Cause = λ split. after (new_step kind fields split) (put split) in
      allowed R w v (no_room kind (kind_around w.forest p.key p.kind)) (λ u. after (opened p u) made)
      (λ f. chained way (opened p) (λ u. made) (opened_path p)
      (λ u. chained way (new_step kind fields) put (way.new kind fields) (λ x. put_by_path x.next_key p p.kind)) w v r f) e
