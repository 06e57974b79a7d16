-- A character or a word that is deleted, and lines that are joined, leave a selection in the tree.
use Rattle.std.proofs.Common.{◌≡◌, ◌∙◌, ℕ, ◌+◌, ◌≤◌, Bool, true, false, cond, eqb, ◌&&◌, ◌||◌, not, List, [], ◌∷◌, length, Option, None, Some, Ok, refl, sym, ap, ap₂, subst, arith, inl, inr}
use Rattle.std.specs.Prelude.{◌⊎◌, filter, find}
use Rattle.std.proofs.lemmas.Bool.Decides.{eqb_tells, nat_tests}
use Rattle.lx_trees.specs.Siblings.{is_among}
use Rattle.lx_node.specs.Kinds.{may_hold, is_element, is_text_block, is_inline}
use Rattle.lx_node.specs.declared.kind.Kind.{Kind}
use Rattle.lx_node.specs.declared.kind.Kind.TheVariants as kinds
use Rattle.lx_node.specs.declared.fields.TextFields.{TextFields}
use Rattle.lx_node.specs.declared.cause.Point.{Point}
use Rattle.lx_node.specs.declared.cause.PointKind.{PointKind}
use Rattle.lx_node.specs.declared.cause.PointKind.TheVariants as point
use Rattle.lx_select.specs.Rules.{moved_to}
use Rattle.lx_forest.specs.Forest.{Forest}
use Rattle.lx_forest.specs.Lookups.{kind_of, children_of, size_of, is_attached, preorder, IsForest, IsHeld}
use Rattle.lx_forest.proofs.Walks.{is_among-preorder_of}
use Rattle.lx_draft.specs.Working.{Working}
use Rattle.lx_draft.specs.Selecting.{lies_in, is_counted_in}
use Rattle.lx_edit.specs.Edits.{pointed, element_point, remove_step}
use Rattle.lx_blocks.specs.declared.ranges.Ranged.{Ranged}
use Rattle.lx_blocks.specs.Blocks.{passes, is_at, is_line, is_rule_or_table, same_node, block_of, frame_of, leading}
use Rattle.lx_blocks.specs.Places.{before_holder, children_before, until, nodes_ahead, nodes_behind}
use Rattle.lx_blocks.specs.Ranges.{lies, range_of, is_collapsed, normal_at, characters_at}
use Rattle.lx_caret.specs.Lying.{LeavesLying}
use Rattle.lx_caret.specs.Removing.{removed_in, removed_empty}
use Rattle.lx_caret.specs.Deleting.{Reach, erased, erase_step, has_more, is_leaf_in, leaf_beside, edge, leaf_step, is_stop, stop_before, stop_behind, moved_in, inline_end, inline_place, line_joined, joined_with, back_to, join_back_step, met, on_to, join_step, leaf_or_line, deleted_in, delete_step, cluster_reach, delete_character_step, word_reach, delete_word_step}
use Rattle.lx_caret.proofs.Lies.{both}
use Rattle.lx_caret.proofs.Fit.{after_tells, Fit, stays_pointed, stays_splice}
use Rattle.lx_caret.proofs.Moves.{moved_in_stays}
use Rattle.lx_caret.proofs.Parents.{no_children, characters_no_element}
use Rattle.lx_caret.proofs.Removes.{clear_leaf, remove_fits}
use Rattle.lx_caret.proofs.Selected.{last_among}
use Rattle.lx_caret.proofs.Cleared.{among_filter, among_until, empty_fits, IsRange, range_lies, removed_in_fits, fit_of}

-- ---- lists

pub found_passes : (test : ℕ → Bool) (xs : List ℕ) (k : ℕ) → find test xs ≡ Some k → test k ≡ true
found_passes test [] k e = absurd (cc)
found_passes test (x ∷ xs) k e = by_test (found_passes test xs k) (test x) refl e where
  by_test : (find test xs ≡ Some k → test k ≡ true) → (b : Bool) → test x ≡ b → cond b (Some x) (find test xs) ≡ Some k → test k ≡ true
  by_test later true is e = let same : x ≡ k = cc in ap test (sym same) ∙ is
  by_test later false is e = later e

filter_passes : (test : ℕ → Bool) (xs : List ℕ) (k : ℕ) → is_among k (filter test xs) ≡ true → test k ≡ true
filter_passes test [] k e = absurd (cc)
filter_passes test (x ∷ xs) k e = by_test (filter_passes test xs k) (test x) refl e where
  by_test : (is_among k (filter test xs) ≡ true → test k ≡ true) → (b : Bool) → test x ≡ b → is_among k (cond b (x ∷ filter test xs) (filter test xs)) ≡ true
      → test k ≡ true
  by_test later true is e = elim (eqb_tells x k) [
    | inl own ↦ ap test (sym own.1) ∙ is
    | inr other ↦ later (grind (arith, e, other.0))
  ]
  by_test later false is e = later e

-- ---- a leaf

remove_leaf : (k : ℕ) (w v : Working) → Fit w → children_of w.forest k ≡ [] → remove_step k w ≡ Ok v → Fit v
remove_leaf k w v fit leaf e = remove_fits k w v fit (clear_leaf k w fit leaf) e

erased_fits : (back : Bool) (reach : Reach) (k at : ℕ) (t : Option TextFields) (w v : Working) → Fit w → children_of w.forest k ≡ []
    → erased back reach k at t w ≡ Ok v → Fit v
erased_fits true reach k at None w v fit leaf e = remove_leaf k w v fit leaf e
erased_fits false reach k at None w v fit leaf e = remove_leaf k w v fit leaf e
erased_fits true reach k at (Some t) w v fit leaf e = (stays_splice k (reach t.text at) at [] w v fit e).fit
erased_fits false reach k at (Some t) w v fit leaf e = (stays_splice k at (reach t.text at) [] w v fit e).fit

erase_fits : (back : Bool) (reach : Reach) (k at : ℕ) (w v : Working) → Fit w → children_of w.forest k ≡ [] → erase_step back reach k at w ≡ Ok v → Fit v
unfolding erase_step
erase_fits back reach k at w v fit leaf e = erased_fits back reach k at (normal_at w.forest k) w v fit leaf e

leaf_fits : (back : Bool) (reach : Reach) (k : ℕ) (w v : Working) → Fit w → children_of w.forest k ≡ [] → leaf_step back reach k w ≡ Ok v → Fit v
unfolding leaf_step
leaf_fits back reach k w v fit leaf e = by_test (eqb (characters_at w.forest k) 0) e where
  by_test : (b : Bool) → cond b (remove_step k w) (erase_step back reach k (edge back (characters_at w.forest k)) w) ≡ Ok v → Fit v
  by_test true e = remove_leaf k w v fit leaf e
  by_test false e = erase_fits back reach k (edge back (characters_at w.forest k)) w v fit leaf e

-- what is beside has no children
not_true : (b : Bool) → not b ≡ true → b ≡ false
not_true false e = refl
not_true true e = absurd (cc)

leaf_in : (f : Forest) (block k : ℕ) → IsForest f → IsHeld may_hold f → is_leaf_in f block k ≡ true → children_of f k ≡ []
leaf_in f block k h held e =
    no_children f k h held (not_true (is_at is_element f k) (both (not (is_at is_element f k)) (same_node (block_of f k) (Some block)) e).0)

beside_leaf : (back : Bool) (f : Forest) (block : ℕ) (p : Point) (k : ℕ) → IsForest f → IsHeld may_hold f → leaf_beside back f block p ≡ Some k
    → children_of f k ≡ []
beside_leaf true f block p k h held e =
    leaf_in f block k h held (filter_passes (is_leaf_in f block) (nodes_ahead f p) k (last_among (filter (is_leaf_in f block) (nodes_ahead f p)) k e))
beside_leaf false f block p k h held e = leaf_in f block k h held (found_passes (is_leaf_in f block) (nodes_behind f p) k e)

-- what a point counts characters in has no children
point_leaf : (f : Forest) (p : Point) → IsForest f → IsHeld may_hold f → p.kind ≡ point.Text → lies f p ≡ true → children_of f p.key ≡ []
point_leaf f p h held is e =
    let counted : is_counted_in p.kind (kind_of f p.key) ≡ true = (both _ _ (both (is_attached f p.key) (lies_in f p) e).1).0 in
    no_children f p.key h held (characters_no_element (kind_of f p.key) (ap (λ kind. is_counted_in kind (kind_of f p.key)) (sym is) ∙ counted))

-- ---- lines

kind_leaf : (w : Working) (k : ℕ) (kind : Kind) → Fit w → kind_of w.forest k ≡ Some kind → is_element kind ≡ false → children_of w.forest k ≡ []
kind_leaf w k kind fit is leaf = no_children w.forest k fit.ready.in_order fit.held (ap (passes is_element) is ∙ leaf)

pub block_element : (kind : Kind) → is_text_block kind ≡ true → is_element kind ≡ true
unfolding is_text_block is_element
block_element kinds.Paragraph e = refl
block_element (kinds.Heading level) e = refl
block_element kinds.Quote e = refl
block_element kinds.Item e = refl
block_element kind e = absurd (cc)

end_within : (f : Forest) (so_far here : ℕ) (ks : List ℕ) → so_far ≤ here → inline_end f so_far here ks ≤ here + length ks
end_within f so_far here [] e = omega (arith, e)
end_within f so_far here (k ∷ ks) e = by_test (is_at is_inline f k) (λ n few. end_within f n (here + 1) ks few) where
  by_test : (b : Bool) → ((n : ℕ) → n ≤ here + 1 → inline_end f n (here + 1) ks ≤ here + 1 + length ks)
      → inline_end f (cond b (here + 1) so_far) (here + 1) ks ≤ here + length (k ∷ ks)
  by_test true rest = omega (arith, rest (here + 1) (omega arith))
  by_test false rest = omega (arith, rest so_far (omega (arith, e)))

before_length : (f : Forest) (k : ℕ) (ks : List ℕ) → length (before_holder f k ks) ≤ length ks
before_length f k [] = omega arith
before_length f k (c ∷ ks) = grind (arith, before_length f k ks)

place_within : (f : Forest) (line block : ℕ) → inline_place f line block ≤ size_of f line
place_within f line block = omega (arith, end_within f 0 0 (children_before f line block) (omega arith), before_length f block (children_of f line))

moved_place : (f : Forest) (k : ℕ) (to x : Point) → lies f to ≡ true → lies f x ≡ true → lies f (moved_to k to x) ≡ true
unfolding moved_to
moved_place f k to x there so = by_test (eqb x.key k) where
  by_test : (b : Bool) → lies f (cond b to x) ≡ true
  by_test true = there
  by_test false = so

line_fits : (line block : ℕ) (kind : Kind) (w v : Working) → Fit w → is_attached w.forest line ≡ true → kind_of w.forest line ≡ Some kind
    → is_element kind ≡ true → line_joined line block w ≡ Ok v → Fit v
unfolding line_joined
line_fits line block kind w v fit place is element e =
    let index : ℕ = inline_place w.forest line block in
    let there : Point = element_point line index in
    let first = after_tells (moved_in line index (leading w.forest block) w) (λ u. removed_empty block (pointed (moved_to block there) u)) v e in
    let moved = moved_in_stays line index (leading w.forest block) w first.0 fit place (place_within w.forest line block) first.1.0 in
    let u : Working = first.0 in
    let counted : is_counted_in point.Element (kind_of u.forest line) ≡ true =
    ap (is_counted_in point.Element) (moved.stays.kept.each line kind is) ∙ element in
    let lies_there : lies u.forest there ≡ true = ap₂ ◌&&◌ (moved.stays.attached line place) (ap₂ ◌&&◌ counted (grind (arith, nat_tests, moved.reach))) in
    empty_fits block (pointed (moved_to block there) u) v
    (stays_pointed (moved_to block there) u moved.stays.fit (λ x so. moved_place u.forest block there x lies_there so)).fit first.1.1

either : (a b : Bool) → (a || b) ≡ true → (a ≡ true) ⊎ (b ≡ true)
either true b e = inl refl
either false b e = inr e

joined_fits : (o : Option Kind) (found block : ℕ) (w v : Working) → kind_of w.forest found ≡ o → Fit w → is_attached w.forest found ≡ true
    → (passes is_text_block o ≡ true) ⊎ (passes is_rule_or_table o ≡ true) → joined_with o found block w ≡ Ok v → Fit v
unfolding is_element
joined_fits None found block w v is fit place stop e = absurd (elim stop [ inl a ↦ cc | inr b ↦ cc ])
joined_fits (Some kinds.Table) found block w v is fit place stop e = let same : w ≡ v = cc in subst Fit same fit
joined_fits (Some kinds.Rule) found block w v is fit place stop e = remove_leaf found w v fit (kind_leaf w found kinds.Rule fit is refl) e
joined_fits (Some kind) found block w v is fit place stop e =
    line_fits found block kind w v fit place is (elim stop [ inl a ↦ block_element kind a | inr b ↦ absurd (cc) ]) e

stop_kind : (f : Forest) (frame : Option ℕ) (k : ℕ) → is_stop f frame k ≡ true
    → (passes is_text_block (kind_of f k) ≡ true) ⊎ (passes is_rule_or_table (kind_of f k) ≡ true)
stop_kind f frame k e =
    elim (either (is_line f k) (is_at is_rule_or_table f k) (both (is_line f k || is_at is_rule_or_table f k) (same_node (frame_of f k) frame) e).0) [
      | inl line ↦ inl (both (is_at is_text_block f k) _ line).0
      | inr rule ↦ inr rule
    ]

back_fits : (found : Option ℕ) (block : ℕ) (w v : Working) → stop_before w.forest block ≡ found → Fit w → back_to found block w ≡ Ok v → Fit v
back_fits None block w v is fit e = let same : w ≡ v = cc in subst Fit same fit
back_fits (Some k) block w v is fit e =
    let f : Forest = w.forest in
    let stops : List ℕ = filter (is_stop f (frame_of f block)) (until (Some block) (preorder f)) in
    let among : is_among k stops ≡ true = last_among stops k is in
    let place : is_attached f k ≡ true =
    sym (is_among-preorder_of f k)
    ∙ among_until (Some block) (preorder f) k (among_filter (is_stop f (frame_of f block)) (until (Some block) (preorder f)) k among) in
    joined_fits (kind_of f k) k block w v refl fit place
    (stop_kind f (frame_of f block) k (filter_passes (is_stop f (frame_of f block)) (until (Some block) (preorder f)) k among)) e

join_back_fits : (block : ℕ) (w v : Working) → Fit w → join_back_step block w ≡ Ok v → Fit v
unfolding join_back_step
join_back_fits block w v fit e = back_fits (stop_before w.forest block) block w v refl fit e

met_fits : (o : Option Kind) (found : ℕ) (w v : Working) → kind_of w.forest found ≡ o → Fit w → met o found w ≡ Ok v → Fit v
unfolding is_element
met_fits (Some kinds.Table) found w v is fit e = let same : w ≡ v = cc in subst Fit same fit
met_fits (Some kinds.Rule) found w v is fit e = remove_leaf found w v fit (kind_leaf w found kinds.Rule fit is refl) e
met_fits o found w v is fit e = join_back_fits found w v fit e

on_fits : (found : Option ℕ) (w v : Working) → Fit w → on_to found w ≡ Ok v → Fit v
on_fits None w v fit e = let same : w ≡ v = cc in subst Fit same fit
on_fits (Some found) w v fit e = met_fits (kind_of w.forest found) found w v refl fit e

join_fits : (back : Bool) (block : ℕ) (w v : Working) → Fit w → join_step back block w ≡ Ok v → Fit v
unfolding join_step
join_fits true block w v fit e = join_back_fits block w v fit e
join_fits false block w v fit e = on_fits (stop_behind w.forest block) w v fit e

-- ---- the commands

leaf_or_line_fits : (back : Bool) (reach : Reach) (block : ℕ) (p : Point) (leaf : Option ℕ) (w v : Working) → Fit w → leaf_beside back w.forest block p ≡ leaf
    → leaf_or_line back reach block leaf w ≡ Ok v → Fit v
leaf_or_line_fits back reach block p None w v fit is e = join_fits back block w v fit e
leaf_or_line_fits back reach block p (Some leaf) w v fit is e =
    leaf_fits back reach leaf w v fit (beside_leaf back w.forest block p leaf fit.ready.in_order fit.held is) e

more_text : (back : Bool) (f : Forest) (p : Point) (kind : PointKind) → has_more back f p kind ≡ true → kind ≡ point.Text
more_text back f p point.Text e = refl
more_text true f p point.Element e = absurd (cc)
more_text false f p point.Element e = absurd (cc)

deleted_fits : (back : Bool) (reach : Reach) (p : Point) (block : Option ℕ) (w v : Working) → Fit w → lies w.forest p ≡ true
    → deleted_in back reach p block w ≡ Ok v → Fit v
deleted_fits back reach p None w v fit so e = let same : w ≡ v = cc in subst Fit same fit
deleted_fits back reach p (Some block) w v fit so e = by_test (has_more back w.forest p p.kind) refl e where
  by_test : (b : Bool) → has_more back w.forest p p.kind ≡ b
      → cond b (erase_step back reach p.key p.offset w) (leaf_or_line back reach block (leaf_beside back w.forest block p) w) ≡ Ok v → Fit v
  by_test true more e =
      erase_fits back reach p.key p.offset w v fit (point_leaf w.forest p fit.ready.in_order fit.held (more_text back w.forest p p.kind more) so) e
  by_test false more e = leaf_or_line_fits back reach block p (leaf_beside back w.forest block p) w v fit refl e

lies-delete : (back : Bool) (reach : Reach) → LeavesLying (delete_step back reach)
unfolding delete_step
lies-delete back reach w v ready held short e =
    let first =
    after_tells (range_of w) (λ r. cond (is_collapsed r) (deleted_in back reach r.anchor (block_of w.forest r.anchor.key) w) (removed_in r w)) v e in
    let is = range_lies w first.0 first.1.0 in
    let fit = fit_of w first.0 ready held short is in
    (by_test first.0 (is_collapsed first.0) fit is first.1.1).lying where
      by_test : (r : Ranged) (b : Bool) → Fit w → IsRange w r
          → cond b (deleted_in back reach r.anchor (block_of w.forest r.anchor.key) w) (removed_in r w) ≡ Ok v → Fit v
      by_test r true fit is e = deleted_fits back reach r.anchor (block_of w.forest r.anchor.key) w v fit is.anchor e
      by_test r false fit is e = removed_in_fits r w v fit is e

pub lies-delete_character : (back : Bool) → LeavesLying (delete_character_step back)
unfolding delete_character_step
lies-delete_character back w v ready held short e = lies-delete back (cluster_reach back) w v ready held short e

pub lies-delete_word : (back : Bool) → LeavesLying (delete_word_step back)
unfolding delete_word_step
lies-delete_word back w v ready held short e = lies-delete back (word_reach back) w v ready held short e
