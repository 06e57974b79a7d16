-- Trees below nothing stay as they are, and below nothing, while what is around a point outside them is parted for them.
use Rattle.std.proofs.Common.{◌≡◌, ◌≢◌, ◌∙◌, ℕ, true, false, cond, eqb, List, length, Option, None, Some, Ok, refl, ap, sym, arith, ltb, ◌&&◌, [], ◌∷◌, drop, Result, subst}
use Rattle.std.specs.Prelude.{slice_get}
use Rattle.std.specs.Option.{option_or}
use Rattle.std.proofs.lemmas.Bool.Decides.{eqb_tells}
use Rattle.lx_node.specs.Strings.{characters_of}
use Rattle.lx_node.specs.declared.kind.Kind.{Kind}
use Rattle.lx_node.specs.declared.fields.Fields.{Fields}
use Rattle.lx_forest.specs.Forest.{Label, Forest}
use Rattle.lx_forest.specs.Lookups.{label_of, parent_of, children_of, has, alone, index_of, size_of, is_within, ancestors, IsForest}
use Rattle.lx_forest.proofs.Lookups.{parent_of-with_new, parent_of-with_fields, parent_of-take_out, parent_of-put_in}
use Rattle.lx_links.specs.Faults.{set_fault}
use Rattle.lx_draft.specs.Working.{Working}
use Rattle.lx_draft.specs.Faults.{over_counts, over_limits, put_fault, splice_fault, after}
use Rattle.lx_draft.specs.Steps.{made, new_step, fields_written, set_points, set_step, splice_points, label_with_piece, splice_step, take_step, node_placed, put_step}
use Rattle.lx_draft.specs.Covering.{IsReady}
use Rattle.lx_draft.proofs.Covered.{answered}
use Rattle.lx_draft.proofs.CoveredSteps.{covered-pointed, covered-new, covered-set, covered-splice, covered-take, covered-put}
use Rattle.lx_draft.proofs.Put.{both_none, can_put}
use Rattle.lx_edit.proofs.Climbed.{taken-forest, first_part}
use Rattle.lx_edit.proofs.Paths.{IsPath, self, ok, turns, put_behind_path, moved_to_end_path, split_path}
use Rattle.lx_trees.specs.Siblings.{is_among}
use Rattle.lx_node.specs.Kinds.{is_link}
use Rattle.lx_node.specs.declared.cause.Cause.{Cause}
use Rattle.lx_node.specs.declared.cause.Point.{Point}
use Rattle.lx_forest.proofs.Within.{is_within-up}
use Rattle.lx_draft.specs.Beside.{put_behind_step}
use Rattle.lx_edit.specs.Edits.{moved_to_end}
use Rattle.lx_edit.specs.InTurn.{in_turn}
use Rattle.lx_edit.specs.Texts.{keys_from, split_step}
use Rattle.lx_blocks.specs.Blocks.{is_at}
use Rattle.lx_blocks.specs.Making.{new_like}
use Rattle.lx_caret.specs.Adding.{is_inside}
use Rattle.lx_caret.specs.Paragraphs.{place_of, cut_open, parted_at, link_parted, Parted, parted_up, before_point, holders, holders_in}
use Rattle.lx_caret.proofs.Fit.{after_tells}
use Rattle.lx_clip.proofs.Parted.{named_up, among_drop}
use Rattle.lx_clip_laws.proofs.Staying.{keeps_like, keeps_all, nowhere, above_out, around_trees, IsApart, Keeps, keeps_behind, keeps_split, if_taken}
use Rattle.lx_node.specs.declared.cause.PointKind.{PointKind}
use Rattle.lx_node.specs.declared.cause.PointKind.TheVariants as point
use Rattle.lx_edit.proofs.Covered.{covered_path}
use Rattle.lx_caret.proofs.Cleared.{among_until}
use Rattle.lx_caret.proofs.Parents.{kind_known}
use Rattle.lx_caret.proofs.PathsOfParagraphs.{cut_open_path}
use Rattle.lx_clip.specs.Pasting.{put_around, block_opened}
use Rattle.lx_clip_laws.specs.Between.{IsOutside}
use Rattle.lx_clip_laws.proofs.Growing.{has-kind}

-- ---- below nothing

-- a node that was below nothing is so
pub record StaysTop (a : ℕ) (w v : Working) : Type 0 where
  pub ready : IsReady v
  pub top : parent_of w.forest a ≡ None → parent_of v.forest a ≡ None

top_same : (a : ℕ) (w v : Working) → IsReady v → parent_of v.forest a ≡ parent_of w.forest a → StaysTop a w v
top_same a w v ready same = record { ready = ready; top = λ is. same ∙ is }

top_new : (a : ℕ) (kind : Kind) (x : Fields) (w v : Working) → IsReady w → new_step kind x w ≡ Ok v → StaysTop a w v
unfolding new_step
top_new a kind x w v ready e =
    let told = answered (over_limits (characters_of x) w) (made kind x w) v e in
    let l : Label = record { key = w.next_key; kind = kind; fields = x } in
    top_same a w v (covered-new kind x w v ready e).ready (rw (← told.1) (parent_of-with_new l w.forest a ready.in_order (ready.free w.next_key (omega arith))))

top_set : (a k : ℕ) (x : Fields) (w v : Working) → IsReady w → set_step k x w ≡ Ok v → StaysTop a w v
unfolding set_step
top_set a k x w v ready e =
    let told = answered (option_or (set_fault k x w.forest) (over_limits (characters_of x) w)) (fields_written k x (characters_of x) (set_points k x) w) v e in
    top_same a w v (covered-set k x w v ready e).ready (rw (← told.1) (parent_of-with_fields k x w.forest a))

top_splice : (a k from to : ℕ) (new : List ℕ) (w v : Working) → IsReady w → splice_step k from to new w ≡ Ok v → StaysTop a w v
unfolding splice_step
top_splice a k from to new w v ready e =
    let x : Fields = label_with_piece (label_of w.forest k) from to new in
    let told =
    answered (option_or (splice_fault k from to w.forest) (over_limits (length new) w)) (fields_written k x (length new) (splice_points k from to new) w) v
    e in
    top_same a w v (covered-splice k from to new w v ready e).ready (rw (← told.1) (parent_of-with_fields k x w.forest a))

top_take : (a k : ℕ) (w v : Working) → IsReady w → take_step k w ≡ Ok v → StaysTop a w v
top_take a k w v ready e = record {
  ready = (covered-take k w v ready e).ready;
  top = λ is. ap (λ f. parent_of f a) (taken-forest k w v e) ∙ parent_of-take_out k w.forest a ready.in_order ∙ grind (arith, is);
}

top_put : (a k p index : ℕ) (w v : Working) → k ≢ a → IsReady w → put_step k p index w ≡ Ok v → StaysTop a w v
unfolding put_step
top_put a k p index w v other ready e =
    let told = answered (option_or (put_fault k p index w.forest) (over_counts w)) (node_placed k p index w) v e in
    let can = can_put w.forest k p index (both_none (put_fault k p index w.forest) (over_counts w) told.0).0 in
    let apart : eqb a k ≡ false = grind (arith, other, eqb_tells a k) in
    top_same a w v (covered-put k p index w v ready e).ready
    (rw (← told.1)
    (parent_of-put_in p (slice_get (children_of w.forest p) index) k w.forest a ready.in_order can
    ∙ ap (λ b. cond b (Some p) (parent_of w.forest a)) apart))

pub top_path : (a : ℕ) → IsPath IsReady (StaysTop a) (λ k. k ≢ a)
top_path a = record {
  ready = λ w v x. x.ready;
  selected = λ w s ready. record { ready = (covered-pointed w s ready).ready; top = λ is. is };
  composed = λ u v w x y. record { ready = y.ready; top = λ is. y.top (x.top is) };
  new = top_new a;
  set = top_set a;
  splice = top_splice a;
  take = top_take a;
  put = top_put a;
}

-- ---- a tree that stands below nothing

-- a draft with such a tree
pub record IsLoose (a : ℕ) (w : Working) : Type 0 where
  pub ready : IsReady w
  pub there : has a w.forest ≡ true
  pub top : parent_of w.forest a ≡ None

-- the tree is as it was, and still below nothing
pub record Leaves (a : ℕ) (w v : Working) : Type 0 where
  pub same : alone a v.forest ≡ alone a w.forest
  pub loose : IsLoose a v

leaves : (a k : ℕ) (w v : Working) → IsLoose a w → Keeps a k w v → StaysTop a w v → Leaves a w v
leaves a k w v loose x t = record { same = x.same; loose = record { ready = x.apart.ready; there = x.apart.there; top = t.top loose.top } }

leaves_none : (a : ℕ) (w : Working) → IsLoose a w → Leaves a w w
leaves_none a w loose = record { same = refl; loose = loose }

pub leaves_then : (a : ℕ) (w u v : Working) → Leaves a w u → Leaves a u v → Leaves a w v
leaves_then a w u v x y = record { same = y.same ∙ x.same; loose = y.loose }

apart : (a k : ℕ) (w : Working) → IsLoose a w → is_within w.forest a k ≡ false → IsApart a k w
apart a k w loose out = record { ready = loose.ready; there = loose.there; out = out }

-- the next key is another
new_other : (a : ℕ) (w : Working) → IsLoose a w → w.next_key ≢ a
new_other a w loose same =
    absurd (let free : has w.next_key w.forest ≡ false = loose.ready.free w.next_key (omega arith) in let two : true ≡ false = sym loose.there
    ∙ ap (λ q. has q w.forest) (sym same) ∙ free in cc)

-- ---- the text is split

pub cut_leaves : (a : ℕ) (p : Point) (w v : Working) → IsLoose a w → is_within w.forest a p.key ≡ false → cut_open p w ≡ Ok v → Leaves a w v
cut_leaves a p w v loose out e =
    if_taken (Leaves a) (is_inside w.forest p p.kind) (split_step p.key (p.offset ∷ []) w) w v (leaves_none a w loose) (λ e.
    leaves a p.key w v loose (keeps_split a p.key p.offset w v (apart a p.key w loose out) e)
    (split_path (top_path a) p.key (p.offset ∷ []) w v loose.ready (λ q among same. new_other a w loose (new_key q among ∙ same)) e)) e
  where
    new_key : (q : ℕ) → is_among q (keys_from w.next_key (length (p.offset ∷ []))) ≡ true → w.next_key ≡ q
    new_key q among = grind (arith, among, eqb_tells w.next_key q)

-- ---- a node is parted

-- a child of a node outside the tree is another one, and outside too
pub record IsChildOutside (a m : ℕ) (w : Working) : Type 0 where
  pub other : m ≢ a
  pub out : is_within w.forest a m ≡ false

pub child_outside : (a k index m : ℕ) (w : Working) → IsLoose a w → is_within w.forest a k ≡ false → is_among m (drop index (children_of w.forest k)) ≡ true
    → IsChildOutside a m w
child_outside a k index m w loose out among =
    let up : parent_of w.forest m ≡ Some k = named_up w.forest m k loose.ready.in_order (among_drop index (children_of w.forest k) m among) in
    let other : m ≢ a = λ same. absurd (let two : Some k ≡ None = sym up ∙ ap (parent_of w.forest) same ∙ loose.top in cc) in
    record { other = other; out = is_within-up w.forest a m k loose.ready.in_order up other ∙ out }

like_top : (a : ℕ) (l : Option Label) (w v : Working) → IsReady w → new_like l w ≡ Ok v → StaysTop a w v
like_top a None w v ready e = ok (StaysTop a) w w v (self (top_path a) w ready) e
like_top a (Some l) w v ready e = (top_path a).new l.kind l.fields w v ready e

parted_leaves : (a k index : ℕ) (w v : Working) → IsLoose a w → is_within w.forest a k ≡ false → parted_at k index w ≡ Ok v → Leaves a w v
unfolding parted_at
parted_leaves a k index w v loose out e =
    let n : ℕ = w.next_key in
    let l : Option Label = label_of w.forest k in
    let moved : List ℕ = drop index (children_of w.forest k) in
    let one = first_part (new_like l w) (λ made. after (put_behind_step n k made) (in_turn (moved_to_end n) moved)) v e in
    let two = first_part (put_behind_step n k one.0) (in_turn (moved_to_end n) moved) v one.2 in
    let x = keeps_like a l w one.0 (apart a n w loose (nowhere w.forest a n (loose.ready.free n (omega arith)))) one.1 in
    let y = keeps_behind a k n one.0 two.0 (record { ready = x.apart.ready; there = x.apart.there; out = ap (has k) x.same ∙ out }) two.1 in
    let same : alone a (two.0).forest ≡ alone a w.forest = y.same ∙ x.same in
    let z = keeps_all moved a n two.0 v (record { ready = y.apart.ready; there = y.apart.there; out = ap (has n) y.same ∙ x.apart.out })
    (λ m among. ap (has m) same ∙ (child_outside a k index m w loose out among).out) two.2 in
    let s = like_top a l w one.0 loose.ready one.1 in
    let t = put_behind_path (top_path a) n k (new_other a w loose) one.0 two.0 s.ready two.1 in
    let u = turns (top_path a) (moved_to_end n) moved (λ m among. moved_to_end_path (top_path a) n m (child_outside a k index m w loose out among).other) two.0
    v t.ready two.2 in
    record {
      same = z.same ∙ same;
      loose = record { ready = z.apart.ready; there = z.apart.there; top = u.top (t.top (s.top loose.top)) };
    }

link_leaves : (a k index : ℕ) (w v : Working) → IsLoose a w → is_within w.forest a k ≡ false → link_parted k index w ≡ Ok v → Leaves a w v
unfolding link_parted
link_leaves a k index w v loose out e =
    if_taken (Leaves a) (is_at is_link w.forest k && (ltb 0 index && ltb index (size_of w.forest k))) (parted_at k index w) w v (leaves_none a w loose)
    (λ e. parted_leaves a k index w v loose out e) e

pub up_leaves : (ks : List ℕ) (a index : ℕ) (w : Working) (made : Parted) → IsLoose a w → ((q : ℕ) → is_among q ks ≡ true → is_within w.forest a q ≡ false)
    → parted_up ks index w ≡ Ok made → Leaves a w made.draft
unfolding parted_up
up_leaves [] a index w made loose out e = let is : w ≡ made.draft = cc in subst (Leaves a w) is (leaves_none a w loose)
up_leaves (k ∷ ks) a index w made loose out e =
    let first = after_tells (link_parted k index w) (λ v. parted_up ks (place_of (index_of v.forest k) index) v) made e in
    let x = link_leaves a k index w first.0 loose (out k (grind (arith, eqb_tells k k))) first.1.0 in
    leaves_then a w first.0 made.draft x
    (up_leaves ks a (place_of (index_of first.0.forest k) index) first.0 made x.loose (λ q among. ap (has q) x.same ∙ out q (grind (arith, among))) first.1.1)

-- ---- a block is parted at a point

-- what holds a point outside a tree is outside it
holder_out : (a q : ℕ) (p : Point) (kind : PointKind) (f : Forest) → IsForest f → has p.key f ≡ true → is_within f a p.key ≡ false
    → is_among q (holders f p kind) ≡ true → is_within f a q ≡ false
holder_out a q p point.Text f h there out among = above_out a q p.key f h there out (later q p.key (ancestors f p.key) among) where
  later : (a x : ℕ) (xs : List ℕ) → is_among a xs ≡ true → is_among a (x ∷ xs) ≡ true
  later a x xs among = grind (arith, among)
holder_out a q p point.Element f h there out among = above_out a q p.key f h there out among

-- the point is at a node that is there, also once a text was split
point_there : (p : Point) (w v : Working) → IsReady w → has p.key w.forest ≡ true → cut_open p w ≡ Ok v → has p.key v.forest ≡ true
point_there p w v ready there e =
    let known = kind_known w.forest p.key there in
    has-kind v.forest p.key known.0 ((cut_open_path covered_path p w v ready e).kinds.each p.key known.0 known.1)

-- a tree below nothing that holds neither the block nor the node of the point
pub record IsUnplaced (a block : ℕ) (p : Point) (w : Working) : Type 0 where
  pub loose : IsLoose a w
  pub not_block : is_within w.forest a block ≡ false
  pub not_point : is_within w.forest a p.key ≡ false

parts_leave : (a block : ℕ) (p : Point) (w u : Working) (parted : Parted) → has p.key w.forest ≡ true → IsUnplaced a block p w → cut_open p w ≡ Ok u
    → parted_up (holders_in u.forest block p) (before_point u.forest p p.kind) u ≡ Ok parted → Leaves a w parted.draft
parts_leave a block p w u parted there is cut e =
    let x = cut_leaves a p w u is.loose is.not_point cut in
    let known : has p.key u.forest ≡ true = point_there p w u is.loose.ready there cut in
    let out : is_within u.forest a p.key ≡ false = ap (has p.key) x.same ∙ is.not_point in
    leaves_then a w u parted.draft x
    (up_leaves (holders_in u.forest block p) a (before_point u.forest p p.kind) u parted x.loose
    (λ q among. holder_out a q p p.kind u.forest x.loose.ready.in_order known out (among_until (Some block) (holders u.forest p p.kind) q among)) e)

outside_of : (a block index : ℕ) (p : Point) (w v : Working) → IsUnplaced a block p w → Leaves a w v
    → IsOutside a block (drop index (children_of v.forest block)) v.forest
outside_of a block index p w v is x =
    let out : is_within v.forest a block ≡ false = ap (has block) x.same ∙ is.not_block in
    record { there = x.loose.there; not_block = out; not_moved = λ m among. (child_outside a block index m v x.loose out among).out }

pub opened_trees : (block : ℕ) (p : Point) (keys : List ℕ) (w v : Working) → has p.key w.forest ≡ true
    → ((k : ℕ) → is_among k keys ≡ true → IsUnplaced k block p w) → block_opened block p keys w ≡ Ok v
    → (k : ℕ) → is_among k keys ≡ true → alone k v.forest ≡ alone k w.forest
unfolding block_opened
opened_trees block p keys w v there unplaced e k among =
    let on : Parted → Result Working Cause = λ parted. put_around block keys (drop parted.index (children_of parted.draft.forest block)) parted.draft in
    let one = after_tells (cut_open p w) (λ u. after (parted_up (holders_in u.forest block p) (before_point u.forest p p.kind) u) on) v e in
    let u : Working = one.0 in
    let two = after_tells {A = Parted} {B = Working} (parted_up (holders_in u.forest block p) (before_point u.forest p p.kind) u) on v one.1.1 in
    let x : Working = two.0.draft in
    let each : (q : ℕ) → is_among q keys ≡ true → Leaves q w x = λ q own. parts_leave q block p w u two.0 there (unplaced q own) one.1.0 two.1.0 in
    let last = each k among in
    around_trees block keys (drop two.0.index (children_of x.forest block)) x v last.loose.ready
    (λ q own. outside_of q block two.0.index p w x (unplaced q own) (each q own)) two.1.1 k among ∙ last.same
