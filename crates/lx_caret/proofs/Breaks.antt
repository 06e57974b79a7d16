-- A paragraph that is broken leaves a selection in the tree.
use Rattle.std.proofs.Common.{◌≡◌, ◌∙◌, ℕ, Bool, true, false, cond, ltb, ◌&&◌, List, [], ◌∷◌, drop, Option, None, Some, Result, Ok, Err, refl, sym, ap, ap₂, subst, arith}
use Rattle.std.specs.Prelude.{option_map}
use Rattle.std.specs.List.{list_all}
use Rattle.std.proofs.lemmas.Bool.Decides.{eqb_tells, nat_tests}
use Rattle.lx_trees.specs.Siblings.{is_among}
use Rattle.lx_node.specs.Plain.{plain_element}
use Rattle.lx_node.specs.Kinds.{is_element, is_text_block, is_inline, is_link, has_characters, may_hold}
use Rattle.lx_node.specs.declared.kind.Kind.{Kind}
use Rattle.lx_node.specs.declared.kind.Kind.TheVariants as kinds
use Rattle.lx_node.specs.declared.cause.Cause.{Cause}
use Rattle.lx_node.specs.declared.cause.Point.{Point}
use Rattle.lx_node.specs.declared.cause.PointKind.{PointKind}
use Rattle.lx_node.specs.declared.cause.PointKind.TheVariants as point
use Rattle.lx_trees.proofs.Subtrees.{count-alone-le}
use Rattle.lx_forest.specs.Forest.{Forest, Label}
use Rattle.lx_forest.specs.Lookups.{key_of, has, label_of, kind_of, fields_of, index_of, children_of, size_of, ancestors, is_attached, IsForest, IsHeld}
use Rattle.lx_forest.proofs.Up.{attached_above}
use Rattle.lx_forest.proofs.Within.{is_within-ancestors}
use Rattle.lx_draft.specs.Working.{Working, TextsAreShort}
use Rattle.lx_draft.specs.Covering.{IsReady, KindsStay}
use Rattle.lx_draft.specs.Selecting.{is_counted_in}
use Rattle.lx_draft.specs.Faults.{after}
use Rattle.lx_draft.specs.Steps.{new_step}
use Rattle.lx_draft.specs.Beside.{put_behind_step}
use Rattle.lx_edit.specs.InTurn.{in_turn}
use Rattle.lx_edit.specs.Edits.{text_point, element_point, moved_to_end}
use Rattle.lx_edit.specs.Texts.{split_step}
use Rattle.lx_blocks.specs.Blocks.{passes, is_at, block_of}
use Rattle.lx_blocks.specs.Ranges.{lies, at_anchor, caret_at}
use Rattle.lx_caret.specs.Lying.{LeavesLying}
use Rattle.lx_caret.specs.Adding.{add_step, is_inside, newest}
use Rattle.lx_caret.specs.Removing.{remove_text_step}
use Rattle.lx_blocks.specs.Making.{new_like}
use Rattle.lx_caret.specs.Paragraphs.{place_of, before_point, holders, holders_in, cut_open, parted_at, link_parted, Parted, parted_up, Block, next_of_kind, new_next, start_of_first, moved_on, block_cut, paragraph_added, empty_item, paragraph_at, Broken, insert_paragraph_step, draft_left}
use Rattle.lx_caret.proofs.Lies.{least, start_in}
use Rattle.lx_caret.proofs.Fit.{after_tells, Fit, Stays, Staying, stays_self, stays_then, stays_ok, stays_if, caret_fits, stays_new}
use Rattle.lx_caret.proofs.Moves.{stays_behind, put_behind_in, stays_moved, moved_attached, stays_each_moved}
use Rattle.lx_caret.proofs.Splits.{stays_split}
use Rattle.lx_caret.proofs.Selected.{found_among}
use Rattle.lx_caret.proofs.Cleared.{among_until, remove_text_fits}
use Rattle.lx_caret.proofs.Adds.{new_kind, added, added_element, at_anchor_fits}
use Rattle.lx_caret.proofs.Deletes.{found_passes}

-- ---- what is above a node in the tree

pub above_there : (f : Forest) (q a : ℕ) → IsForest f → has q f ≡ true → is_attached f q ≡ true → is_among a (q ∷ ancestors f q) ≡ true → is_attached f a ≡ true
above_there f q a h known place among = attached_above f a q h place (is_within-ancestors f a q h known ∙ among)

-- what is attached is known
pub attached_known : (f : Forest) (q : ℕ) → IsForest f → is_attached f q ≡ true → has q f ≡ true
attached_known f q h place = grind (arith, nat_tests, place, count-alone-le key_of q 0 f)

pub block_place : (f : Forest) (q block : ℕ) → IsForest f → is_attached f q ≡ true → block_of f q ≡ Some block → is_attached f block ≡ true
block_place f q block h place e = above_there f q block h (attached_known f q h place) place (found_among (is_at is_text_block f) (q ∷ ancestors f q) block e)

pub holder_place : (f : Forest) (p : Point) (kind : PointKind) (a : ℕ) → IsForest f → is_attached f p.key ≡ true → is_among a (holders f p kind) ≡ true
    → is_attached f a ≡ true
holder_place f p point.Text a h place among = above_there f p.key a h (attached_known f p.key h place) place (later a p.key (ancestors f p.key) among) where
  later : (a x : ℕ) (xs : List ℕ) → is_among a xs ≡ true → is_among a (x ∷ xs) ≡ true
  later a x xs among = grind (arith, among)
holder_place f p point.Element a h place among = above_there f p.key a h (attached_known f p.key h place) place among

-- ---- parted

pub stays_open : (p : Point) → Staying (cut_open p)
stays_open p w v fit e =
    stays_if (is_inside w.forest p p.kind) (split_step p.key (p.offset ∷ [])) w v fit (λ a b f g. stays_split p.key (p.offset ∷ []) a b f g) e

pub stays_like : (l : Option Label) → Staying (new_like l)
stays_like None w v fit e = stays_ok w w v (stays_self w fit) e
stays_like (Some l) w v fit e = stays_new l.kind l.fields w v fit e

stays_parted_at : (k index : ℕ) (w v : Working) → Fit w → is_attached w.forest k ≡ true → parted_at k index w ≡ Ok v → Stays w v
unfolding parted_at
stays_parted_at k index w v fit place e =
    let moved : List ℕ = drop index (children_of w.forest k) in
    let one =
    after_tells (new_like (label_of w.forest k) w) (λ made. after (put_behind_step w.next_key k made) (in_turn (moved_to_end w.next_key) moved)) v e in
    let two = after_tells (put_behind_step w.next_key k one.0) (in_turn (moved_to_end w.next_key) moved) v one.1.1 in
    let made = stays_like (label_of w.forest k) w one.0 fit one.1.0 in
    let put = stays_behind w.next_key k one.0 two.0 made.fit two.1.0 in
    let beside = put_behind_in w.next_key k one.0 two.0 made.fit (made.attached k place) two.1.0 in
    stays_then w one.0 v made (stays_then one.0 two.0 v put (stays_each_moved w.next_key moved two.0 v put.fit beside.attached two.1.1))

stays_link : (k index : ℕ) (w v : Working) → Fit w → is_attached w.forest k ≡ true → link_parted k index w ≡ Ok v → Stays w v
unfolding link_parted
stays_link k index w v fit place e = by_test (is_at is_link w.forest k && (ltb 0 index && ltb index (size_of w.forest k))) e where
  by_test : (b : Bool) → cond b (parted_at k index w) (Ok w) ≡ Ok v → Stays w v
  by_test true e = stays_parted_at k index w v fit place e
  by_test false e = stays_ok w w v (stays_self w fit) e

pub stays_parted_up : (ks : List ℕ) (index : ℕ) (w : Working) (made : Parted) → Fit w → ((k : ℕ) → is_among k ks ≡ true → is_attached w.forest k ≡ true)
    → parted_up ks index w ≡ Ok made → Stays w made.draft
unfolding parted_up
stays_parted_up [] index w made fit place e = let is : w ≡ made.draft = cc in subst (Stays w) is (stays_self w fit)
stays_parted_up (k ∷ ks) index w made fit place e =
    let first = after_tells (link_parted k index w) (λ v. parted_up ks (place_of (index_of v.forest k) index) v) made e in
    let link = stays_link k index w first.0 fit (place k (grind (arith, eqb_tells k k))) first.1.0 in
    stays_then w first.0 made.draft link
    (stays_parted_up ks (place_of (index_of first.0.forest k) index) first.0 made link.fit (λ q among. link.attached q (place q (grind (arith, among))))
    first.1.1)

-- ---- the new block

next_element : (f : Forest) (l : Label) (moved : List ℕ) (kind : Kind) → l.kind ≡ kind → is_text_block kind ≡ true
    → is_element (next_of_kind f l moved kind).kind ≡ true
unfolding is_text_block is_element
next_element f l [] kinds.Paragraph is e = ap is_element is
next_element f l (k ∷ ks) kinds.Paragraph is e = ap is_element is
next_element f l [] (kinds.Heading level) is e = refl
next_element f l (k ∷ ks) (kinds.Heading level) is e = ap is_element is
next_element f l [] kinds.Quote is e = refl
next_element f l (k ∷ ks) kinds.Quote is e = by_test (list_all (is_at is_inline f) (k ∷ ks)) where
  by_test : (b : Bool) → is_element (cond b kinds.Paragraph kinds.Quote) ≡ true
  by_test true = refl
  by_test false = refl
next_element f l [] kinds.Item is e = refl
next_element f l (k ∷ ks) kinds.Item is e = refl
next_element f l moved kind is e = absurd (cc)

-- the first of what was moved into the tree
first_in : (parent k : ℕ) (ks : List ℕ) (w v : Working) → Fit w → is_attached w.forest parent ≡ true → in_turn (moved_to_end parent) (k ∷ ks) w ≡ Ok v
    → is_attached v.forest k ≡ true
unfolding in_turn
first_in parent k ks w v fit place e =
    let first = after_tells (moved_to_end parent k w) (in_turn (moved_to_end parent) ks) v e in
    let stays = stays_moved parent k w first.0 fit place first.1.0 in
    (stays_each_moved parent ks first.0 v stays.fit (stays.attached parent place) first.1.1).attached k (moved_attached parent k w first.0 fit place first.1.0)

start_lies : (f : Forest) (block : ℕ) (moved : List ℕ) → lies f (element_point block 0) ≡ true
    → ((k : ℕ) (ks : List ℕ) → moved ≡ k ∷ ks → is_attached f k ≡ true) → lies f (start_of_first f block moved) ≡ true
start_lies f block [] so first = so
start_lies f block (k ∷ ks) so first = by_test (is_at has_characters f k) refl where
  text : (o : Option Kind) → passes has_characters o ≡ true → is_counted_in point.Text o ≡ true
  text None e = cc
  text (Some kind) e = e

  by_test : (b : Bool) → is_at has_characters f k ≡ b → lies f (cond b (text_point k 0) (element_point block 0)) ≡ true
  by_test true is = ap₂ ◌&&◌ (first k ks refl) (ap₂ ◌&&◌ (text (kind_of f k) is) (start_in (fields_of f k)))
  by_test false is = so

moved_first : (parent : ℕ) (moved : List ℕ) (w v : Working) → Fit w → is_attached w.forest parent ≡ true → in_turn (moved_to_end parent) moved w ≡ Ok v
    → (k : ℕ) (ks : List ℕ) → moved ≡ k ∷ ks → is_attached v.forest k ≡ true
moved_first parent moved w v fit place e k ks is = first_in parent k ks w v fit place (ap (λ xs. in_turn (moved_to_end parent) xs w) (sym is) ∙ e)

element_start : (f : Forest) (k : ℕ) (kind : Kind) → is_attached f k ≡ true → kind_of f k ≡ Some kind → is_element kind ≡ true
    → lies f (element_point k 0) ≡ true
element_start f k kind place is element = ap₂ ◌&&◌ place (ap₂ ◌&&◌ (ap (is_counted_in point.Element) is ∙ element) (least (size_of f k)))

label_known : (f : Forest) (k : ℕ) (l : Option Label) → label_of f k ≡ l → passes is_text_block (kind_of f k) ≡ true
    → (x : Label) × ((l ≡ Some x) × (is_text_block x.kind ≡ true))
label_known f k None is e = let bad : false ≡ true = sym (ap (λ o. passes is_text_block (option_map (λ x. x.kind) o)) is) ∙ e in absurd (cc)
label_known f k (Some x) is e = (x, (refl, sym (ap (λ o. passes is_text_block (option_map (λ y. y.kind) o)) is) ∙ e))

moved_on_fits : (block : ℕ) (moved : List ℕ) (w v : Working) → Fit w → is_attached w.forest block ≡ true → passes is_text_block (kind_of w.forest block) ≡ true
    → moved_on block moved w ≡ Ok v → Fit v
unfolding moved_on
moved_on_fits block moved w v fit place text e =
    let f : Forest = w.forest in
    let n : ℕ = w.next_key in
    let known = label_known f block (label_of f block) refl text in
    let l : Label = known.0 in
    let b : Block = next_of_kind f l moved l.kind in
    let next : (u : Working) → Result Working Cause =
    λ u. after (put_behind_step n block u) (λ put. after (in_turn (moved_to_end n) moved put) (λ x. Ok (caret_at (start_of_first x.forest n moved) x))) in
    let step : after (new_step b.kind b.fields w) next ≡ Ok v = ap (λ o. after (new_next f o moved w) next) (sym known.1.0) ∙ e in
    let one = after_tells (new_step b.kind b.fields w) next v step in
    let two =
    after_tells (put_behind_step n block one.0) (λ put. after (in_turn (moved_to_end n) moved put) (λ x. Ok (caret_at (start_of_first x.forest n moved) x)))
    v one.1.1 in
    let three = after_tells (in_turn (moved_to_end n) moved two.0) (λ x. Ok (caret_at (start_of_first x.forest n moved) x)) v two.1.1 in
    let made = stays_new b.kind b.fields w one.0 fit one.1.0 in
    let put = stays_behind n block one.0 two.0 made.fit two.1.0 in
    let beside = put_behind_in n block one.0 two.0 made.fit (made.attached block place) two.1.0 in
    let last = stays_each_moved n moved two.0 three.0 put.fit beside.attached three.1.0 in
    let kind_made : kind_of one.0.forest n ≡ Some b.kind = new_kind b.kind b.fields w one.0 fit one.1.0 in
    let kind_now : kind_of three.0.forest n ≡ Some b.kind = last.kept.each n b.kind (put.kept.each n b.kind kind_made) in
    let element : is_element b.kind ≡ true = next_element f l moved l.kind refl known.1.1 in
    let start : lies three.0.forest (element_point n 0) ≡ true = element_start three.0.forest n b.kind (last.attached n beside.attached) kind_now element in
    caret_fits three.0 v (start_of_first three.0.forest n moved) last.fit
    (start_lies three.0.forest n moved start (moved_first n moved two.0 three.0 put.fit beside.attached three.1.0)) three.1.1

kind_stays : (w v : Working) (k : ℕ) → KindsStay w.forest v.forest → passes is_text_block (kind_of w.forest k) ≡ true
    → passes is_text_block (kind_of v.forest k) ≡ true
kind_stays w v k kept text = by_kind (kind_of w.forest k) refl text where
  by_kind : (o : Option Kind) → kind_of w.forest k ≡ o → passes is_text_block o ≡ true → passes is_text_block (kind_of v.forest k) ≡ true
  by_kind None is text = absurd (cc)
  by_kind (Some kind) is text = ap (passes is_text_block) (kept.each k kind is) ∙ text

-- ---- the command

block_cut_fits : (block : ℕ) (p : Point) (w v : Working) → Fit w → is_attached w.forest p.key ≡ true → block_of w.forest p.key ≡ Some block
    → block_cut block p w ≡ Ok v → Fit v
unfolding block_cut
block_cut_fits block p w v fit place is e =
    let next : (parted : Parted) → Result Working Cause = λ parted. moved_on block (drop parted.index (children_of parted.draft.forest block)) parted.draft in
    let one = after_tells (cut_open p w) (λ u. after (parted_up (holders_in u.forest block p) (before_point u.forest p p.kind) u) next) v e in
    let u : Working = one.0 in
    let two = after_tells (parted_up (holders_in u.forest block p) (before_point u.forest p p.kind) u) next v one.1.1 in
    let open_ = stays_open p w u fit one.1.0 in
    let parted = stays_parted_up (holders_in u.forest block p) (before_point u.forest p p.kind) u two.0 open_.fit
    (λ k among. holder_place u.forest p p.kind k open_.fit.ready.in_order (open_.attached p.key place)
    (among_until (Some block) (holders u.forest p p.kind) k among)) two.1.0 in
    let all = stays_then w u two.0.draft open_ parted in
    let block_in : is_attached w.forest block ≡ true = block_place w.forest p.key block fit.ready.in_order place is in
    let text : passes is_text_block (kind_of w.forest block) ≡ true = found_passes (is_at is_text_block w.forest) (p.key ∷ ancestors w.forest p.key) block is in
    moved_on_fits block (drop two.0.index (children_of two.0.draft.forest block)) two.0.draft v parted.fit (all.attached block block_in)
    (kind_stays w two.0.draft block all.kept text) two.1.1

paragraph_added_fits : (p : Point) (w v : Working) → Fit w → is_attached w.forest p.key ≡ true → paragraph_added p w ≡ Ok v → Fit v
unfolding paragraph_added is_element
paragraph_added_fits p w v fit place e =
    let first = after_tells (add_step p kinds.Paragraph plain_element w) (λ u. Ok (caret_at (element_point (newest u) 0) u)) v e in
    let a = added p kinds.Paragraph plain_element w first.0 fit place first.1.0 in
    caret_fits first.0 v (element_point (newest first.0) 0) a.stays.fit (added_element w first.0 kinds.Paragraph plain_element a refl) first.1.1

paragraph_fits : (item block : Option ℕ) (p : Point) (w v : Working) → Fit w → is_attached w.forest p.key ≡ true → block_of w.forest p.key ≡ block
    → paragraph_at item block p w ≡ Ok v → Fit v
paragraph_fits (Some item) block p w v fit place is e = let same : w ≡ v = cc in subst Fit same fit
paragraph_fits None None p w v fit place is e = paragraph_added_fits p w v fit place e
paragraph_fits None (Some block) p w v fit place is e = block_cut_fits block p w v fit place is e

left_tells : (r : Result Broken Cause) (v : Working) → draft_left r ≡ Ok v → (b : Broken) × ((r ≡ Ok b) × (b.draft ≡ v))
left_tells (Ok b) v e = (b, (refl, cc))
left_tells (Err cause) v e = absurd (cc)

broken_fits : (w : Working) (b : Broken) → Fit w
    → after (at_anchor (λ p format. paragraph_at (empty_item w) (block_of w.forest p.key) p) w) (λ u. Ok (record { draft = u; item = empty_item w })) ≡ Ok b
    → Fit b.draft
broken_fits w b fit e =
    let first =
    after_tells (at_anchor (λ p format. paragraph_at (empty_item w) (block_of w.forest p.key) p) w) (λ u. Ok (record { draft = u; item = empty_item w })) b
    e in
    let last : ◌≡◌ {A = Result Broken Cause} (Ok (record { draft = first.0; item = empty_item w })) (Ok b) = first.1.1 in
    let is : first.0 ≡ b.draft = cc in
    subst Fit is (at_anchor_fits (λ p format. paragraph_at (empty_item w) (block_of w.forest p.key) p) w first.0 fit
    (λ p format place so. paragraph_fits (empty_item w) (block_of w.forest p.key) p w first.0 fit place refl so) first.1.0)

-- what an inserted paragraph leaves is a draft on which a command goes on, as the one that ends a list at an empty item
pub insert_paragraph_fits : (w : Working) (b : Broken) → IsReady w → IsHeld may_hold w.forest → TextsAreShort w → insert_paragraph_step w ≡ Ok b
    → Fit b.draft
unfolding insert_paragraph_step
insert_paragraph_fits w b ready held short e =
    let first =
    after_tells (remove_text_step w)
    (λ u. after (at_anchor (λ p format. paragraph_at (empty_item u) (block_of u.forest p.key) p) u) (λ x. Ok (record { draft = x; item = empty_item u })))
    b e in
    broken_fits first.0 b (remove_text_fits w first.0 ready held short first.1.0) first.1.1

pub lies-insert_paragraph : LeavesLying (λ w. draft_left (insert_paragraph_step w))
lies-insert_paragraph w v ready held short e =
    let told = left_tells (insert_paragraph_step w) v e in
    (subst Fit told.1.1 (insert_paragraph_fits w told.0 ready held short told.1.0)).lying
