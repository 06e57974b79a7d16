-- A slice that is put into a draft leaves a selection in the tree.
use Rattle.std.proofs.Common.{◌≡◌, ℕ, Bool, true, false, cond, eqb, List, [], ◌∷◌, drop, codes, Option, None, Some, Result, Ok, refl, subst}
use Rattle.std.specs.Prelude.{find, unwrap_or}
use Rattle.serde_json.specs.Data.{Data, null, boolean, number, string, array, object}
use Rattle.serde_json.specs.Find.{get}
use Rattle.lx_trees.specs.Siblings.{is_among, last_of}
use Rattle.lx_node.specs.declared.cause.Cause.{Cause}
use Rattle.lx_node.specs.declared.cause.Point.{Point}
use Rattle.lx_forest.specs.Forest.{Forest}
use Rattle.lx_forest.specs.Lookups.{parent_of, children_of, ancestors, is_attached, IsForest}
use Rattle.lx_draft.specs.Working.{Working}
use Rattle.lx_draft.specs.Faults.{answer, after}
use Rattle.lx_blocks.specs.Blocks.{stands_among_blocks, block_of}
use Rattle.lx_json.specs.Nodes.{Made, nodes_read}
use Rattle.lx_caret.specs.Adding.{kind_around, opened, put_by}
use Rattle.lx_caret.specs.Lying.{LeavesLying}
use Rattle.lx_caret.specs.Paragraphs.{cut_open, holders, holders_in, before_point, Parted, parted_up}
use Rattle.lx_caret.specs.Removing.{removed_empty, remove_text_step}
use Rattle.lx_caret.proofs.Fit.{after_tells, Fit, Stays, stays_self, stays_then, stays_new, stays_put}
use Rattle.lx_caret.proofs.Cleared.{among_until, empty_fits, remove_text_fits}
use Rattle.lx_caret.proofs.Selected.{found_among}
use Rattle.lx_caret.proofs.Adds.{put_by_tells, stays_opened, at_anchor_fits}
use Rattle.lx_caret.proofs.Breaks.{above_there, attached_known, block_place, holder_place, stays_open, stays_parted_up}
use Rattle.lx_clip.specs.Laws.{KeepsLying}
use Rattle.lx_clip.specs.Pasting.{put_behind_each, caret_after, no_room_for, put_all_by, nodes_added, Tailed, tail_made, tail_put, put_around, block_opened, outer_block, put_beyond, blocks_added, begins_inline, holder, placed_at, placed, list_inserted, inserted, insert_step, json_of, paste_step}
use Rattle.lx_clip.proofs.PathsOfNodes.{IsMaking, nodes_read_path}
use Rattle.lx_clip.proofs.Sound.{IsSound, sound_of, StaysSound, sound_ok, sound_behind, with_one, row_in, after_fits}
use Rattle.lx_clip.proofs.Parted.{named_up, among_drop, tailed}

fits_ok : (u v : Working) → Fit u → ◌≡◌ {A = Result Working Cause} (Ok u) (Ok v) → Fit v
fits_ok u v fit e = let is : u ≡ v = cc in subst Fit is fit

-- ---- nodes at a point

nodes_put : (p : Point) (k : ℕ) (ks : List ℕ) (w v : Working) → Fit w → is_attached w.forest p.key ≡ true
    → after (opened p w) (λ split. after (put_all_by p (k ∷ ks) split) (λ put. Ok (caret_after (k ∷ ks) put))) ≡ Ok v → Fit v
nodes_put p k ks w v fit place e =
    let at_end : Working → Result Working Cause = λ put. Ok (caret_after (k ∷ ks) put) in
    let one = after_tells (opened p w) (λ split. after (put_all_by p (k ∷ ks) split) at_end) v e in
    let two = after_tells (put_all_by p (k ∷ ks) one.0) at_end v one.1.1 in
    let first = after_tells (put_by k p p.kind one.0) (put_behind_each k ks) two.0 two.1.0 in
    let split = stays_opened p w one.0 fit one.1.0 in
    let put = put_by_tells k p p.kind one.0 first.0 split.fit (split.attached p.key place) first.1.0 in
    let row = row_in k ks first.0 two.0 (sound_of first.0 put.stays.fit) put.beside.attached first.1.1 in
    fits_ok (caret_after (k ∷ ks) two.0) v (after_fits k ks two.0 row.stays.sound (with_one k ks two.0 (row.stays.attached k put.beside.attached) row.place))
    two.1.1

nodes_added_fits : (p : Point) (k : ℕ) (ks : List ℕ) (w v : Working) → Fit w → is_attached w.forest p.key ≡ true → nodes_added p (k ∷ ks) w ≡ Ok v → Fit v
unfolding nodes_added
nodes_added_fits p k ks w v fit place e = by_fault (no_room_for w.forest (k ∷ ks) (kind_around w.forest p.key p.kind)) e where
  by_fault : (o : Option Cause)
      → after (answer o w) (λ u. after (opened p u) (λ split. after (put_all_by p (k ∷ ks) split) (λ put. Ok (caret_after (k ∷ ks) put)))) ≡ Ok v → Fit v
  by_fault None e = nodes_put p k ks w v fit place e
  by_fault (Some cause) e = absurd (cc)

-- ---- blocks

tail_stays : (new last : Option ℕ) (w v : Working) → IsSound w → tail_put new last w ≡ Ok v → StaysSound w v
tail_stays (Some new) (Some last) w v s e = sound_behind new last w v s e
tail_stays (Some new) None w v s e = sound_ok w v s e
tail_stays None last w v s e = sound_ok w v s e

around_fits : (block k : ℕ) (ks moved : List ℕ) (w v : Working) → Fit w → is_attached w.forest block ≡ true
    → ((q : ℕ) → is_among q moved ≡ true → parent_of w.forest q ≡ Some block) → put_around block (k ∷ ks) moved w ≡ Ok v → Fit v
unfolding put_around
around_fits block k ks moved w v fit place up e =
    let keys : List ℕ = k ∷ ks in
    let close : Working → Result Working Cause = λ x. removed_empty block (caret_after keys x) in
    let one =
    after_tells {A = Tailed} {B = Working} (tail_made block moved w)
    (λ t. after (put_behind_each block keys t.draft) (λ put. after (tail_put t.key (last_of keys) put) close)) v e in
    let two = after_tells (put_behind_each block keys one.0.draft) (λ put. after (tail_put one.0.key (last_of keys) put) close) v one.1.1 in
    let three = after_tells (tail_put one.0.key (last_of keys) two.0) close v two.1.1 in
    let tail = tailed block moved w one.0 fit place up one.1.0 in
    let row = row_in block keys one.0.draft two.0 tail.sound tail.place two.1.0 in
    let put = tail_stays one.0.key (last_of keys) two.0 three.0 row.stays.sound three.1.0 in
    empty_fits block (caret_after keys three.0) v (after_fits k ks three.0 put.sound (λ q among. put.attached q (row.place q among))) three.1.1

opened_fits : (block k : ℕ) (p : Point) (ks : List ℕ) (w v : Working) → Fit w → is_attached w.forest p.key ≡ true → is_attached w.forest block ≡ true
    → block_opened block p (k ∷ ks) w ≡ Ok v → Fit v
unfolding block_opened
opened_fits block k p ks w v fit place block_in e =
    let on : Parted → Result Working Cause = λ parted. put_around block (k ∷ ks) (drop parted.index (children_of parted.draft.forest block)) parted.draft in
    let one = after_tells (cut_open p w) (λ u. after (parted_up (holders_in u.forest block p) (before_point u.forest p p.kind) u) on) v e in
    let u : Working = one.0 in
    let two = after_tells {A = Parted} {B = Working} (parted_up (holders_in u.forest block p) (before_point u.forest p p.kind) u) on v one.1.1 in
    let cut = stays_open p w u fit one.1.0 in
    let parted = stays_parted_up (holders_in u.forest block p) (before_point u.forest p p.kind) u two.0 cut.fit
    (λ q among. holder_place u.forest p p.kind q cut.fit.ready.in_order (cut.attached p.key place)
    (among_until (Some block) (holders u.forest p p.kind) q among)) two.1.0 in
    let x : Working = two.0.draft in
    around_fits block k ks (drop two.0.index (children_of x.forest block)) x v parted.fit (parted.attached block (cut.attached block block_in))
    (λ q among. named_up x.forest q block parted.fit.ready.in_order (among_drop two.0.index (children_of x.forest block) q among)) two.1.1

beyond_fits : (outer k : ℕ) (ks : List ℕ) (w v : Working) → Fit w → is_attached w.forest outer ≡ true → put_beyond outer (k ∷ ks) w ≡ Ok v → Fit v
unfolding put_beyond
beyond_fits outer k ks w v fit place e =
    let first = after_tells (put_behind_each outer (k ∷ ks) w) (λ u. Ok (caret_after (k ∷ ks) u)) v e in
    let row = row_in outer (k ∷ ks) w first.0 (sound_of w fit) place first.1.0 in
    fits_ok (caret_after (k ∷ ks) first.0) v (after_fits k ks first.0 row.stays.sound row.place) first.1.1

outer_place : (f : Forest) (k : ℕ) → IsForest f → is_attached f k ≡ true → is_attached f (outer_block f k) ≡ true
outer_place f k h place = by_found (find (stands_among_blocks f) (k ∷ ancestors f k)) refl where
  by_found : (o : Option ℕ) → find (stands_among_blocks f) (k ∷ ancestors f k) ≡ o → is_attached f (unwrap_or o k) ≡ true
  by_found None is = place
  by_found (Some a) is = above_there f k a h (attached_known f k h place) place (found_among (stands_among_blocks f) (k ∷ ancestors f k) a is)

blocks_added_fits : (block : Option ℕ) (p : Point) (k : ℕ) (ks : List ℕ) (w v : Working) → block_of w.forest p.key ≡ block → Fit w
    → is_attached w.forest p.key ≡ true → blocks_added block p (k ∷ ks) w ≡ Ok v → Fit v
blocks_added_fits None p k ks w v is fit place e = nodes_added_fits p k ks w v fit place e
blocks_added_fits (Some block) p k ks w v is fit place e = by_test (eqb outer block) e where
  outer : ℕ
  outer = outer_block w.forest block

  block_in : is_attached w.forest block ≡ true
  block_in = block_place w.forest p.key block fit.ready.in_order place is

  by_test : (b : Bool) → cond b (block_opened block p (k ∷ ks) w) (put_beyond outer (k ∷ ks) w) ≡ Ok v → Fit v
  by_test true e = opened_fits block k p ks w v fit place block_in e
  by_test false e = beyond_fits outer k ks w v fit (outer_place w.forest block fit.ready.in_order block_in) e

-- ---- slices

-- nodes that are read are below nothing, so all in the tree stays there
making_stays : IsMaking Fit Stays
making_stays = record {
  ready = λ w v s. s.fit;
  same = stays_self;
  composed = stays_then;
  new = λ kind fields w v fit e. stays_new kind fields w v fit e;
  put = λ k p index w v fit e. stays_put k p index w v fit e;
}

placed_at_fits : (inline : Bool) (k : ℕ) (ks : List ℕ) (p : Point) (format : ℕ) (w v : Working) → Fit w → is_attached w.forest p.key ≡ true
    → placed_at inline (k ∷ ks) p format w ≡ Ok v → Fit v
placed_at_fits true k ks p format w v fit place e = nodes_added_fits p k ks w v fit place e
placed_at_fits false k ks p format w v fit place e = blocks_added_fits (block_of w.forest p.key) p k ks w v refl fit place e

placed_fits : (inline : Bool) (keys : List ℕ) (w v : Working) → Fit w → placed inline keys w ≡ Ok v → Fit v
placed_fits inline [] w v fit e = fits_ok w v fit e
placed_fits inline (k ∷ ks) w v fit e =
    at_anchor_fits (placed_at inline (k ∷ ks)) w v fit (λ p format place so. placed_at_fits inline k ks p format w v fit place so) e

list_fits : (inline : Bool) (list : Data) (w v : Working) → Fit w → list_inserted inline list w ≡ Ok v → Fit v
list_fits inline list w v fit e =
    let first = after_tells {A = Made} {B = Working} (nodes_read (codes "/nodes") list (holder inline) w) (λ made. placed inline made.keys made.draft) v e in
    let read = nodes_read_path making_stays (codes "/nodes") list (holder inline) w first.0 fit first.1.0 in
    placed_fits inline first.0.keys first.0.draft v read.fit first.1.1

inserted_fits : (o : Option Data) (w v : Working) → Fit w → inserted o w ≡ Ok v → Fit v
inserted_fits (Some (array ds)) w v fit e = list_fits (begins_inline ds) (array ds) w v fit e
inserted_fits None w v fit e = absurd (cc)
inserted_fits (Some null) w v fit e = absurd (cc)
inserted_fits (Some (boolean b)) w v fit e = absurd (cc)
inserted_fits (Some (number n)) w v fit e = absurd (cc)
inserted_fits (Some (string text)) w v fit e = absurd (cc)
inserted_fits (Some (object ms)) w v fit e = absurd (cc)

insert_fits : (d : Data) (w v : Working) → Fit w → insert_step d w ≡ Ok v → Fit v
unfolding insert_step
insert_fits d w v fit e = inserted_fits (get (codes "nodes") d) w v fit e

pub lies-insert : (d : Data) → KeepsLying (insert_step d)
lies-insert d w v ready held short lying e = (insert_fits d w v (record { ready = ready; held = held; short = short; lying = lying }) e).lying

pub lies-paste : (text : List ℕ) → LeavesLying (paste_step text)
unfolding paste_step
lies-paste text w v ready held short e =
    let first = after_tells (remove_text_step w) (λ u. after (json_of text) (λ d. insert_step d u)) v e in
    let second = after_tells {A = Data} {B = Working} (json_of text) (λ d. insert_step d first.0) v first.1.1 in
    (insert_fits second.0 first.0 v (remove_text_fits w first.0 ready held short first.1.0) second.1.1).lying
