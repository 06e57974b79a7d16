-- The same of what inserts a paragraph.
use Rattle.std.proofs.Common.{◌≡◌, ℕ, ◌&&◌, nat_lt, List, [], ◌∷◌, drop, Option, None, Some, Result, Ok, Err, refl}
use Rattle.lx_node.specs.Kinds.{is_link}
use Rattle.lx_node.specs.Plain.{plain_element}
use Rattle.lx_node.specs.declared.kind.Kind.TheVariants.{Paragraph}
use Rattle.lx_node.specs.declared.cause.Cause.{Cause}
use Rattle.lx_node.specs.declared.cause.Point.{Point}
use Rattle.lx_forest.specs.Forest.{Forest, Label}
use Rattle.lx_forest.specs.Lookups.{label_of, index_of, children_of, size_of}
use Rattle.lx_draft.specs.Working.{Working}
use Rattle.lx_draft.specs.Faults.{after}
use Rattle.lx_draft.specs.Beside.{put_behind_step}
use Rattle.lx_edit.specs.InTurn.{in_turn}
use Rattle.lx_edit.specs.Edits.{element_point, moved_to_end}
use Rattle.lx_edit.specs.Texts.{split_step}
use Rattle.lx_edit.proofs.Paths.{Leads, self, then, if_, put_behind_path}
use Rattle.lx_blocks.specs.Blocks.{is_at, block_of}
use Rattle.lx_blocks.specs.Ranges.{caret_at, at_anchor}
use Rattle.lx_caret.specs.Adding.{add_step, is_inside, newest}
use Rattle.lx_caret.specs.Removing.{remove_text_step}
use Rattle.lx_blocks.specs.Making.{new_like}
use Rattle.lx_caret.specs.Paragraphs.{place_of, before_point, holders_in, cut_open, parted_at, link_parted, Parted, parted_up, Block, next_of_kind, new_next, start_of_first, moved_on, block_cut, paragraph_added, empty_item, paragraph_at, Broken, insert_paragraph_step, draft_left}
use Rattle.lx_blocks.proofs.Paths.{IsWay, stays, chained, LeadsTo, then_to, ok_to, placed, anchored, splits}
use Rattle.lx_caret.proofs.Paths.{add_path}
use Rattle.lx_caret.proofs.PathsOfTexts.{all_moved_path, remove_text_path}

module _ {D : Working → Type 0} {R : Working → Working → Type 0} (way : IsWay D R) where
  -- ---- a block cut

  pub cut_open_path : (p : Point) → Leads D R (cut_open p)
  cut_open_path p w v r e = if_ way (is_inside w.forest p p.kind) (split_step p.key (p.offset ∷ [])) w v r (splits way p.key (p.offset ∷ [])) e

  pub new_like_path : (l : Option Label) → Leads D R (new_like l)
  new_like_path None w v r e = stays way w v r e
  new_like_path (Some l) w v r e = way.new l.kind l.fields w v r e

  -- the last of some children go into a node that is put after another
  gone_behind : (k new : ℕ) (ks : List ℕ) → Leads D R (λ w. after (put_behind_step new k w) (in_turn (moved_to_end new) ks))
  gone_behind k new ks =
      chained way (put_behind_step new k) (λ u. in_turn (moved_to_end new) ks) (put_behind_path way new k tt) (λ u. all_moved_path way new ks)

  pub parted_at_path : (k index : ℕ) → Leads D R (parted_at k index)
  unfolding parted_at
  parted_at_path k index w v r e =
      let ks : List ℕ = drop index (children_of w.forest k) in
      chained way (new_like (label_of w.forest k)) (λ u made. after (put_behind_step w.next_key k made) (in_turn (moved_to_end w.next_key) ks))
      (new_like_path (label_of w.forest k)) (λ u. gone_behind k w.next_key ks) w v r e

  pub link_parted_path : (k index : ℕ) → Leads D R (link_parted k index)
  unfolding link_parted
  link_parted_path k index w v r e =
      if_ way (is_at is_link w.forest k && (nat_lt 0 index && nat_lt index (size_of w.forest k))) (parted_at k index) w v r (parted_at_path k index) e

  pub parted_up_path : (ks : List ℕ) (index : ℕ) → LeadsTo Parted D R (λ a. a.draft) (parted_up ks index)
  unfolding parted_up
  parted_up_path [] index w a r e = ok_to way {A = Parted} (λ x. x.draft) w (record { draft = w; index = index }) a (self way w r) e
  parted_up_path (k ∷ above) index w a r e =
      then_to way {A = Working} {B = Parted} (λ u. u) (λ x. x.draft) w a (link_parted k index w) (λ u. parted_up above (place_of (index_of u.forest k) index) u)
      (λ u f. link_parted_path k index w u r f) (λ u s f. parted_up_path above (place_of (index_of u.forest k) index) u a s f) e

  -- ---- the new block

  pub new_next_path : (f : Forest) (l : Option Label) (moved : List ℕ) → Leads D R (new_next f l moved)
  new_next_path f None moved w v r e = stays way w v r e
  new_next_path f (Some l) moved w v r e = let b : Block = next_of_kind f l moved l.kind in way.new b.kind b.fields w v r e

  pub moved_on_path : (block : ℕ) (moved : List ℕ) → Leads D R (moved_on block moved)
  unfolding moved_on
  moved_on_path block moved w v r e =
      let all : Working → Result Working Cause = in_turn (moved_to_end w.next_key) moved in
      let at_start : Working → Result Working Cause = λ u. Ok (caret_at (start_of_first u.forest w.next_key moved) u) in
      chained way (new_next w.forest (label_of w.forest block) moved)
      (λ u made. after (put_behind_step w.next_key block made) (λ put. after (all put) at_start)) (new_next_path w.forest (label_of w.forest block) moved)
      (λ u. chained way (put_behind_step w.next_key block) (λ x put. after (all put) at_start) (put_behind_path way w.next_key block tt)
      (λ x. placed way all (λ y. start_of_first y.forest w.next_key moved) (all_moved_path way w.next_key moved))) w v r e

  pub block_cut_path : (block : ℕ) (p : Point) → Leads D R (block_cut block p)
  unfolding block_cut
  block_cut_path block p w v r e =
      let on : Parted → Result Working Cause = λ parted. moved_on block (drop parted.index (children_of parted.draft.forest block)) parted.draft in
      then way w v (cut_open p w) (λ u. after (parted_up (holders_in u.forest block p) (before_point u.forest p p.kind) u) on) (λ u f. cut_open_path p w u r f)
      (λ u c f. then_to way {A = Parted} {B = Working} (λ a. a.draft) (λ x. x) u v (parted_up (holders_in u.forest block p) (before_point u.forest p p.kind) u)
      on
      (λ a g. parted_up_path (holders_in u.forest block p) (before_point u.forest p p.kind) u a (way.ready w u c) g)
      (λ a s g. moved_on_path block (drop a.index (children_of a.draft.forest block)) a.draft v s g) f) e

  pub paragraph_added_path : (p : Point) → Leads D R (paragraph_added p)
  unfolding paragraph_added
  paragraph_added_path p w v r e =
      placed way (add_step p Paragraph plain_element) (λ u. element_point (newest u) 0) (add_path way p Paragraph plain_element) w v r e

  -- ---- the command

  pub paragraph_at_path : (item block : Option ℕ) (p : Point) → Leads D R (paragraph_at item block p)
  paragraph_at_path (Some item) block p w v r e = stays way w v r e
  paragraph_at_path None None p w v r e = paragraph_added_path p w v r e
  paragraph_at_path None (Some block) p w v r e = block_cut_path block p w v r e

  pub paragraph_inserted : LeadsTo Broken D R (λ a. a.draft) insert_paragraph_step
  unfolding insert_paragraph_step
  paragraph_inserted w a r e =
      let at : Working → Point → ℕ → Working → Result Working Cause = λ u p format. paragraph_at (empty_item u) (block_of u.forest p.key) p in
      let left : Working → Working → Result Broken Cause = λ u x. Ok (record { draft = x; item = empty_item u }) in
      then_to way {A = Working} {B = Broken} (λ u. u) (λ x. x.draft) w a (remove_text_step w) (λ u. after (at_anchor (at u) u) (left u))
      (λ u f. remove_text_path way w u r f)
      (λ u s f. then_to way {A = Working} {B = Broken} (λ x. x) (λ x. x.draft) u a (at_anchor (at u) u) (left u)
      (λ x g. anchored way (at u) (λ p format. paragraph_at_path (empty_item u) (block_of u.forest p.key) p) u x s g)
      (λ x t g. ok_to way {A = Broken} (λ b. b.draft) x (record { draft = x; item = empty_item u }) a (self way x t) g) f) e

  left_by : (w v : Working) (answer : Result Broken Cause) → ((a : Broken) → answer ≡ Ok a → R w a.draft) → draft_left answer ≡ Ok v → R w v
  left_by w v (Ok a) each e = ok_to way {A = Working} (λ x. x) w a.draft v (each a refl) e
  left_by w v (Err cause) each e = absurd (cc)

  pub insert_paragraph_path : Leads D R (λ w. draft_left (insert_paragraph_step w))
  insert_paragraph_path w v r e = left_by w v (insert_paragraph_step w) (λ a f. paragraph_inserted w a r f) e
