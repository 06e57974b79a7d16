-- The same of what removes text, and of what inserts it.
use Rattle.std.proofs.Common.{ℕ, Bool, cond, ◌==◌, is_some, List, [], Option, Some, Result, Ok}
use Rattle.lx_node.specs.declared.kind.Kind.TheVariants.{Text, Tab, Break}
use Rattle.lx_node.specs.declared.fields.Fields.TheVariants as fields
use Rattle.lx_node.specs.declared.cause.Cause.{Cause}
use Rattle.lx_node.specs.declared.cause.Point.{Point}
use Rattle.lx_node.specs.declared.cause.PointKind.{PointKind}
use Rattle.lx_node.specs.declared.cause.PointKind.TheVariants as point
use Rattle.lx_select.specs.Rules.{offset_sum}
use Rattle.lx_forest.specs.Lookups.{parent_of, size_of}
use Rattle.lx_draft.specs.Working.{Working}
use Rattle.lx_draft.specs.Selecting.{length_told}
use Rattle.lx_draft.specs.Faults.{after}
use Rattle.lx_draft.specs.Steps.{splice_step}
use Rattle.lx_edit.specs.InTurn.{in_turn}
use Rattle.lx_edit.specs.Edits.{text_point, remove_step, moved_to_end}
use Rattle.lx_edit.specs.Texts.{has_no_text}
use Rattle.lx_edit.proofs.Paths.{Leads, from_, if_, every, points, moved_to_end_path, remove_path}
use Rattle.lx_blocks.specs.declared.ranges.Ranged.{Ranged}
use Rattle.lx_blocks.specs.Blocks.{block_of, leading}
use Rattle.lx_blocks.specs.Places.{covered, outermost}
use Rattle.lx_blocks.specs.Ranges.{range_of, is_collapsed, start_of, end_of, caret_at, at_anchor, normal_at}
use Rattle.lx_caret.specs.Adding.{add_step, newest}
use Rattle.lx_caret.specs.Removing.{cut_step, start_part, start_cut, end_cut, removed_below, removed_empty, are_apart, merge_step, remove_between, removed_in, remove_text_step}
use Rattle.lx_caret.specs.Inserting.{is_of_format, style_in, typed_fields, typed_into, typed_new, typed, insert_text_step, place_behind, broken, insert_line_break_step, tab_fields, tabbed, insert_tab_step}
use Rattle.lx_blocks.proofs.Paths.{IsWay, stays, either, chained, by_read, placed, anchored}
use Rattle.lx_caret.proofs.Paths.{add_path}

module _ {D : Working → Type 0} {R : Working → Working → Type 0} (way : IsWay D R) where
  -- ---- removing

  pub cut_path : (k from to : ℕ) → Leads D R (cut_step k from to)
  unfolding cut_step
  cut_path k from to w v r e =
      let goes : Bool = is_some (normal_at w.forest k) in
      either way (from == to) (λ u. Ok u) (λ u. cond goes (splice_step k from to [] u) (remove_step k u)) (stays way)
      (either way goes (splice_step k from to []) (remove_step k) (way.splice k from to []) (remove_path way k)) w v r e

  pub start_cut_path : (start end : Point) (kind : PointKind) → Leads D R (start_cut start end kind)
  start_cut_path start end point.Text w v r e = cut_path start.key start.offset (start_part w.forest start end) w v r e
  start_cut_path start end point.Element w v r e = stays way w v r e

  pub end_cut_path : (start end : Point) (kind : PointKind) → Leads D R (end_cut start end kind)
  end_cut_path start end point.Text w v r e =
      either way (start.key == end.key) (λ u. Ok u) (cut_step end.key 0 end.offset) (stays way) (cut_path end.key 0 end.offset) w v r e
  end_cut_path start end point.Element w v r e = stays way w v r e

  pub removed_below_path : (k : ℕ) → Leads D R (removed_below k)
  unfolding removed_below
  removed_below_path k w v r e = if_ way (is_some (parent_of w.forest k)) (remove_step k) w v r (remove_path way k) e

  pub removed_empty_path : (k : ℕ) → Leads D R (removed_empty k)
  unfolding removed_empty
  removed_empty_path k w v r e = if_ way (size_of w.forest k == 0) (remove_step k) w v r (remove_path way k) e

  -- each of these goes to the end of a node's children
  pub all_moved_path : (p : ℕ) (ks : List ℕ) → Leads D R (in_turn (moved_to_end p) ks)
  all_moved_path p ks = every way (moved_to_end p) ks (λ k. moved_to_end_path way p k tt)

  pub merge_path : (a b : Option ℕ) → Leads D R (merge_step a b)
  unfolding merge_step
  merge_path (Some a) (Some b) w v r e =
      if_ way (are_apart w.forest a b) (λ u. after (in_turn (moved_to_end a) (leading w.forest b) u) (removed_empty b)) w v r
      (chained way (in_turn (moved_to_end a) (leading w.forest b)) (λ u. removed_empty b) (all_moved_path a (leading w.forest b)) (λ u. removed_empty_path b)) e
  merge_path _ _ w v r e = stays way w v r e

  pub between_path : (start end : Point) → Leads D R (remove_between start end)
  unfolding remove_between
  between_path start end w v r e =
      let gone : List ℕ = outermost w.forest (covered w.forest start end) in
      let merge : Working → Result Working Cause = merge_step (block_of w.forest start.key) (block_of w.forest end.key) in
      let ended : Working → Result Working Cause = λ removed. after (end_cut start end end.kind removed) merge in
      from_ way w (caret_at start w) v (λ u. after (start_cut start end start.kind u) (λ cut. after (in_turn removed_below gone cut) ended))
      (points way (λ p. start) w r)
      (chained way (start_cut start end start.kind) (λ u cut. after (in_turn removed_below gone cut) ended) (start_cut_path start end start.kind)
      (λ u. chained way (in_turn removed_below gone) (λ x. ended) (every way removed_below gone removed_below_path)
      (λ x. chained way (end_cut start end end.kind) (λ y. merge) (end_cut_path start end end.kind)
      (λ y. merge_path (block_of w.forest start.key) (block_of w.forest end.key))))) e

  pub removed_in_path : (r : Ranged) → Leads D R (removed_in r)
  removed_in_path r w v d e =
      either way (is_collapsed r) (λ u. Ok u) (remove_between (start_of w.forest r) (end_of w.forest r)) (stays way)
      (between_path (start_of w.forest r) (end_of w.forest r)) w v d e

  pub remove_text_path : Leads D R remove_text_step
  unfolding remove_text_step
  remove_text_path w v r e = by_read way w v (range_of w) removed_in (λ found f. removed_in_path found w v r f) e

  -- ---- inserting

  pub typed_into_path : (text : List ℕ) (p : Point) → Leads D R (typed_into text p)
  unfolding typed_into
  typed_into_path text p w v r e =
      placed way (splice_step p.key p.offset p.offset text) (λ u. text_point p.key (offset_sum p.offset (length_told text)))
      (way.splice p.key p.offset p.offset text) w v r e

  pub typed_new_path : (text : List ℕ) (format : ℕ) (p : Point) → Leads D R (typed_new text format p)
  unfolding typed_new
  typed_new_path text format p w v r e =
      let new = typed_fields text format (style_in (normal_at w.forest p.key)) in
      placed way (add_step p Text new) (λ u. text_point (newest u) (length_told text)) (add_path way p Text new) w v r e

  pub typed_path : (text : List ℕ) (p : Point) (format : ℕ) → Leads D R (typed text p format)
  unfolding typed
  typed_path text p format w v r e =
      either way (is_of_format format (normal_at w.forest p.key)) (typed_into text p) (typed_new text format p) (typed_into_path text p)
      (typed_new_path text format p) w v r e

  pub insert_text_path : (text : List ℕ) → Leads D R (insert_text_step text)
  unfolding insert_text_step
  insert_text_path text w v r e =
      chained way remove_text_step (λ u x. cond (has_no_text text) (Ok x) (at_anchor (typed text) x)) remove_text_path
      (λ u. either way (has_no_text text) (λ x. Ok x) (at_anchor (typed text)) (stays way) (anchored way (typed text) (typed_path text))) w v r e

  pub broken_path : (p : Point) (format : ℕ) → Leads D R (broken p format)
  unfolding broken
  broken_path p format w v r e = placed way (add_step p Break fields.Bare) (λ u. place_behind u.forest (newest u)) (add_path way p Break fields.Bare) w v r e

  pub insert_line_break_path : Leads D R insert_line_break_step
  unfolding insert_line_break_step
  insert_line_break_path w v r e = chained way remove_text_step (λ u. at_anchor broken) remove_text_path (λ u. anchored way broken broken_path) w v r e

  pub tabbed_path : (p : Point) (format : ℕ) → Leads D R (tabbed p format)
  unfolding tabbed
  tabbed_path p format w v r e = placed way (add_step p Tab (tab_fields format)) (λ u. text_point (newest u) 1) (add_path way p Tab (tab_fields format)) w v r e

  pub insert_tab_path : Leads D R insert_tab_step
  unfolding insert_tab_step
  insert_tab_path w v r e = chained way remove_text_step (λ u. at_anchor tabbed) remove_text_path (λ u. anchored way tabbed tabbed_path) w v r e
