-- What holds of each step of a draft, and of one after another, holds of a slice that is put into it.
use Rattle.std.proofs.Common.{ℕ, ◌==◌, Bool, true, false, List, [], ◌∷◌, drop, codes, Option, None, Some, Result, Ok}
use Rattle.serde_json.specs.Data.{Data, null, boolean, number, string, array, object}
use Rattle.serde_json.specs.Find.{get}
use Rattle.lx_trees.specs.Siblings.{last_of}
use Rattle.lx_node.specs.declared.cause.Cause.{Cause}
use Rattle.lx_node.specs.declared.cause.Point.{Point}
use Rattle.lx_forest.specs.Lookups.{label_of, children_of}
use Rattle.lx_draft.specs.Working.{Working}
use Rattle.lx_draft.specs.Faults.{after}
use Rattle.lx_draft.specs.Beside.{put_behind_step}
use Rattle.lx_edit.specs.InTurn.{in_turn}
use Rattle.lx_edit.specs.Edits.{moved_to_end}
use Rattle.lx_edit.proofs.Paths.{Leads, self, then, ok, allowed, points, put_behind_path}
use Rattle.lx_blocks.specs.Blocks.{block_of}
use Rattle.lx_blocks.specs.Making.{new_like}
use Rattle.lx_json.specs.Nodes.{Made, nodes_read}
use Rattle.lx_caret.specs.Adding.{kind_around, opened, put_by}
use Rattle.lx_caret.specs.Paragraphs.{cut_open, holders_in, before_point, Parted, parted_up}
use Rattle.lx_caret.specs.Removing.{removed_empty, remove_text_step}
use Rattle.lx_blocks.proofs.Paths.{IsWay, stays, either, chained, by_read, LeadsTo, then_to, ok_to, anchored}
use Rattle.lx_caret.proofs.Paths.{opened_path, put_by_path}
use Rattle.lx_caret.proofs.PathsOfTexts.{all_moved_path, removed_empty_path, remove_text_path}
use Rattle.lx_caret.proofs.PathsOfParagraphs.{cut_open_path, new_like_path, parted_up_path}
use Rattle.lx_clip.specs.Pasting.{put_behind_each, end_below, caret_by, caret_after, no_room_for, put_all_by, nodes_added, Tailed, tail_made, tail_put, put_around, block_opened, outer_block, put_beyond, blocks_added, begins_inline, holder, placed_at, placed, list_inserted, inserted, insert_step, json_of, paste_step}
use Rattle.lx_clip.proofs.PathsOfNodes.{making_of, nodes_read_path}

module _ {D : Working → Type 0} {R : Working → Working → Type 0} (way : IsWay D R) where
  -- ---- places

  behind_each_path : (other : ℕ) (ks : List ℕ) → Leads D R (put_behind_each other ks)
  unfolding put_behind_each
  behind_each_path other [] w v r e = stays way w v r e
  behind_each_path other (k ∷ ks) w v r e =
      chained way (put_behind_step k other) (λ u. put_behind_each k ks) (put_behind_path way k other tt) (λ u. behind_each_path k ks) w v r e

  caret_by_path : (last : Option ℕ) (w : Working) → D w → R w (caret_by last w)
  caret_by_path None w r = self way w r
  caret_by_path (Some last) w r = points way (λ p. end_below w.forest last) w r

  ended : (ks : List ℕ) → Leads D R (λ w. Ok (caret_after ks w))
  ended ks w v r e = ok R w (caret_after ks w) v (caret_by_path (last_of ks) w r) e

  -- ---- nodes at a point

  put_all_by_path : (p : Point) (ks : List ℕ) → Leads D R (put_all_by p ks)
  put_all_by_path p [] w v r e = stays way w v r e
  put_all_by_path p (k ∷ ks) w v r e =
      chained way (put_by k p p.kind) (λ u. put_behind_each k ks) (put_by_path way k p p.kind) (λ u. behind_each_path k ks) w v r e

  nodes_added_path : (p : Point) (ks : List ℕ) → Leads D R (nodes_added p ks)
  unfolding nodes_added
  nodes_added_path p ks w v r e =
      let at_end : Working → Result Working Cause = λ put. Ok (caret_after ks put) in
      let put : Working → Result Working Cause = λ split. after (put_all_by p ks split) at_end in
      allowed R w v (no_room_for w.forest ks (kind_around w.forest p.key p.kind)) (λ u. after (opened p u) put)
      (λ f. chained way (opened p) (λ u. put) (opened_path way p)
      (λ u. chained way (put_all_by p ks) (λ x. at_end) (put_all_by_path p ks) (λ x. ended ks)) w v r f) e

  -- ---- blocks

  tail_made_path : (block : ℕ) (moved : List ℕ) → LeadsTo Tailed D R (λ t. t.draft) (tail_made block moved)
  tail_made_path block [] w a r e = ok_to way {A = Tailed} (λ x. x.draft) w (record { draft = w; key = None }) a (self way w r) e
  tail_made_path block (k ∷ ks) w a r e =
      let all : Working → Result Working Cause = in_turn (moved_to_end w.next_key) (k ∷ ks) in
      let left : Working → Result Tailed Cause = λ v. Ok (record { draft = v; key = Some w.next_key }) in
      then_to way {A = Working} {B = Tailed} (λ u. u) (λ x. x.draft) w a (new_like (label_of w.forest block) w) (λ made. after (all made) left)
      (λ u f. new_like_path way (label_of w.forest block) w u r f)
      (λ u s f. then_to way {A = Working} {B = Tailed} (λ x. x) (λ x. x.draft) u a (all u) left
      (λ x g. all_moved_path way w.next_key (k ∷ ks) u x s g)
      (λ x t g. ok_to way {A = Tailed} (λ b. b.draft) x (record { draft = x; key = Some w.next_key }) a (self way x t) g) f) e

  tail_put_path : (new last : Option ℕ) → Leads D R (tail_put new last)
  tail_put_path (Some new) (Some last) w v r e = put_behind_path way new last tt w v r e
  tail_put_path _ _ w v r e = stays way w v r e

  closed : (block : ℕ) (ks : List ℕ) → Leads D R (λ w. removed_empty block (caret_after ks w))
  closed block ks w v r e =
      let at : R w (caret_after ks w) = caret_by_path (last_of ks) w r in
      way.composed w (caret_after ks w) v at (removed_empty_path way block (caret_after ks w) v (way.ready w (caret_after ks w) at) e)

  put_around_path : (block : ℕ) (ks moved : List ℕ) → Leads D R (put_around block ks moved)
  unfolding put_around
  put_around_path block ks moved w v r e =
      let close : Working → Result Working Cause = λ x. removed_empty block (caret_after ks x) in
      then_to way {A = Tailed} {B = Working} (λ t. t.draft) (λ x. x) w v (tail_made block moved w)
      (λ t. after (put_behind_each block ks t.draft) (λ put. after (tail_put t.key (last_of ks) put) close))
      (λ t f. tail_made_path block moved w t r f)
      (λ t s f. chained way (put_behind_each block ks) (λ u put. after (tail_put t.key (last_of ks) put) close) (behind_each_path block ks)
      (λ u. chained way (tail_put t.key (last_of ks)) (λ x. close) (tail_put_path t.key (last_of ks)) (λ x. closed block ks)) t.draft v s f) e

  block_opened_path : (block : ℕ) (p : Point) (ks : List ℕ) → Leads D R (block_opened block p ks)
  unfolding block_opened
  block_opened_path block p ks w v r e =
      let on : Parted → Result Working Cause = λ parted. put_around block ks (drop parted.index (children_of parted.draft.forest block)) parted.draft in
      then way w v (cut_open p w) (λ u. after (parted_up (holders_in u.forest block p) (before_point u.forest p p.kind) u) on)
      (λ u f. cut_open_path way p w u r f)
      (λ u c f. then_to way {A = Parted} {B = Working} (λ a. a.draft) (λ x. x) u v (parted_up (holders_in u.forest block p) (before_point u.forest p p.kind) u)
      on
      (λ a g. parted_up_path way (holders_in u.forest block p) (before_point u.forest p p.kind) u a (way.ready w u c) g)
      (λ a s g. put_around_path block ks (drop a.index (children_of a.draft.forest block)) a.draft v s g) f) e

  put_beyond_path : (outer : ℕ) (ks : List ℕ) → Leads D R (put_beyond outer ks)
  unfolding put_beyond
  put_beyond_path outer ks w v r e =
      chained way (put_behind_each outer ks) (λ u x. Ok (caret_after ks x)) (behind_each_path outer ks) (λ u. ended ks) w v r e

  blocks_added_path : (block : Option ℕ) (p : Point) (ks : List ℕ) → Leads D R (blocks_added block p ks)
  blocks_added_path None p ks w v r e = nodes_added_path p ks w v r e
  blocks_added_path (Some block) p ks w v r e =
      let outer : ℕ = outer_block w.forest block in
      either way (outer == block) (block_opened block p ks) (put_beyond outer ks) (block_opened_path block p ks) (put_beyond_path outer ks) w v r e

  -- ---- slices

  placed_at_path : (inline : Bool) (ks : List ℕ) (p : Point) (format : ℕ) → Leads D R (placed_at inline ks p format)
  placed_at_path true ks p format w v r e = nodes_added_path p ks w v r e
  placed_at_path false ks p format w v r e = blocks_added_path (block_of w.forest p.key) p ks w v r e

  placed_path : (inline : Bool) (ks : List ℕ) → Leads D R (placed inline ks)
  placed_path inline [] w v r e = stays way w v r e
  placed_path inline (k ∷ ks) w v r e = anchored way (placed_at inline (k ∷ ks)) (placed_at_path inline (k ∷ ks)) w v r e

  list_inserted_path : (inline : Bool) (list : Data) → Leads D R (list_inserted inline list)
  list_inserted_path inline list w v r e =
      then_to way {A = Made} {B = Working} (λ m. m.draft) (λ x. x) w v (nodes_read (codes "/nodes") list (holder inline) w) (λ m. placed inline m.keys m.draft)
      (λ m f. nodes_read_path (making_of way) (codes "/nodes") list (holder inline) w m r f)
      (λ m s f. placed_path inline m.keys m.draft v s f) e

  inserted_path : (o : Option Data) → Leads D R (inserted o)
  inserted_path (Some (array ds)) w v r e = list_inserted_path (begins_inline ds) (array ds) w v r e
  inserted_path None w v r e = absurd (cc)
  inserted_path (Some null) w v r e = absurd (cc)
  inserted_path (Some (boolean b)) w v r e = absurd (cc)
  inserted_path (Some (number n)) w v r e = absurd (cc)
  inserted_path (Some (string text)) w v r e = absurd (cc)
  inserted_path (Some (object ms)) w v r e = absurd (cc)

  pub insert_path : (d : Data) → Leads D R (insert_step d)
  unfolding insert_step
  insert_path d w v r e = inserted_path (get (codes "nodes") d) w v r e

  pub paste_path : (text : List ℕ) → Leads D R (paste_step text)
  unfolding paste_step
  paste_path text w v r e =
      let on : Working → Result Working Cause = λ u. after (json_of text) (λ d. insert_step d u) in
      chained way remove_text_step (λ u. on) (remove_text_path way)
      (λ u x y s f. by_read way {A = Data} x y (json_of text) insert_step (λ d g. insert_path d x y s g) f) w v r e
