-- A range whose text is removed leaves a caret in the tree.
use Rattle.std.proofs.Common.{◌≡◌, ◌∙◌, ℕ, Bool, true, false, cond, eqb, ◌&&◌, ◌||◌, not, List, [], ◌∷◌, length, Option, None, Some, Ok, Err, refl, sym, ap, subst, arith, inl, inr}
use Rattle.std.specs.Prelude.{is_some, filter, slice_get}
use Rattle.std.specs.Option.{option_or}
use Rattle.std.proofs.lemmas.Bool.Decides.{eqb_tells, nat_tests}
use Rattle.lx_trees.specs.NamedTrees.{preorder}
use Rattle.lx_trees.specs.Siblings.{is_among, is_named, first_of}
use Rattle.lx_node.specs.Kinds.{may_hold}
use Rattle.lx_node.specs.declared.kind.Kind.{Kind}
use Rattle.lx_node.specs.declared.fields.Fields.{Fields}
use Rattle.lx_node.specs.declared.cause.Cause.TheVariants.{NoSelection}
use Rattle.lx_node.specs.declared.cause.SelectionKind.TheVariants as selected
use Rattle.lx_node.specs.declared.cause.Point.{Point}
use Rattle.lx_node.specs.declared.cause.PointKind.{PointKind}
use Rattle.lx_node.specs.declared.cause.PointKind.TheVariants as point
use Rattle.lx_trees.proofs.NamedTrees.{is_among-preorder}
use Rattle.lx_trees.proofs.Positions.{is_among-slice_get}
use Rattle.lx_trees.proofs.Siblings.{is_among-append, is_named_tells}
use Rattle.lx_select.specs.declared.selection.Selection.{Selection}
use Rattle.lx_select.specs.declared.selection.Selection.TheVariants.{Range}
use Rattle.lx_select.specs.Rules.{splice_moves}
use Rattle.lx_forest.specs.Forest.{Forest}
use Rattle.lx_forest.specs.Lookups.{key_of, has, alone, kind_of, label_of, parent_of, children_of, size_of, is_within, is_attached, from, behind, IsForest, IsHeld}
use Rattle.lx_forest.specs.Edits.{with_fields, drop_detached}
use Rattle.lx_forest.proofs.Lookups.{is_among-children_of}
use Rattle.lx_forest.proofs.Up.{attached_above}
use Rattle.lx_forest.proofs.Walks.{is_attached-up, tree_distinct}
use Rattle.lx_forest.proofs.Within.{alone-drop_detached, is_within-up, is_within-parent, is_within-trans, is_within-with_fields}
use Rattle.lx_draft.specs.Working.{Working, TextsAreShort}
use Rattle.lx_draft.specs.Covering.{IsReady, KindsStay}
use Rattle.lx_draft.specs.Selecting.{lies_in, is_counted_in, length_told}
use Rattle.lx_draft.specs.Faults.{after, over_limits, splice_fault}
use Rattle.lx_draft.specs.Steps.{fields_written, splice_points, label_with_piece, splice_step}
use Rattle.lx_draft.proofs.Covered.{answered}
use Rattle.lx_edit.specs.InTurn.{in_turn}
use Rattle.lx_edit.specs.Edits.{remove_step, moved_to_end}
use Rattle.lx_blocks.specs.declared.ranges.Ranged.{Ranged}
use Rattle.lx_blocks.specs.Blocks.{same_node, block_of, frame_of, leading}
use Rattle.lx_blocks.specs.Places.{from_child, behind_place, nodes_behind, until, covered, stands_below, outermost, comes_first}
use Rattle.lx_blocks.specs.Ranges.{lies, is_fit, range_in, range_of, is_collapsed, start_of, end_of, caret_at, normal_at}
use Rattle.lx_caret.specs.Lying.{EachPoint, IsLying, LeavesLying}
use Rattle.lx_caret.specs.Removing.{cut_step, start_part, start_cut, end_cut, removed_below, removed_empty, are_apart, merge_blocks, merge_step, remove_between, removed_in, remove_text_step}
use Rattle.lx_caret.proofs.Apart.{behind_apart}
use Rattle.lx_caret.proofs.Lies.{both}
use Rattle.lx_caret.proofs.Fit.{each_moved, each_all, after_tells, Fit, stays_caret, stays_splice, key_of_splice}
use Rattle.lx_caret.proofs.Moves.{stays_each_moved}
use Rattle.lx_caret.proofs.Parents.{no_children, characters_no_element}
use Rattle.lx_caret.proofs.Removes.{Avoids, IsAvoiding, Kept, kept_self, kept_then, kept_ok, clear_leaf, clear_empty, clear_avoided, remove_keeps, remove_fits}

-- ---- what comes after a point isn't above it

alone_tree : (f : Forest) (a : ℕ) → IsForest f → is_attached f a ≡ true → alone a (alone 0 f) ≡ alone a f
unfolding drop_detached
alone_tree f a h place = alone-drop_detached f a h place

behind_outside : (f : Forest) (q a : ℕ) → IsForest f → is_attached f q ≡ true → is_among a (behind f q) ≡ true → is_within f a q ≡ false
behind_outside f q a h place among = by_test (is_within f a q) refl where
  by_test : (b : Bool) → is_within f a q ≡ b → is_within f a q ≡ false
  by_test false is = is
  by_test true is =
      let tree_is = alone_tree f a h (attached_above f a q h place is) in
      let inside : has q (alone a (alone 0 f)) ≡ true = ap (has q) tree_is ∙ is in
      let apart : is_among a (behind f q) ≡ false = behind_apart key_of (alone 0 f) a q (tree_distinct f h) (grind (arith, nat_tests, inside)) in
      absurd (grind (arith, apart, among))

from_outside : (f : Forest) (e c a : ℕ) → IsForest f → is_attached f c ≡ true → parent_of f c ≡ Some e → is_among a (from f c) ≡ true → is_within f a e ≡ false
from_outside f e c a h place up among = by_test (is_within f a e) refl where
  not_within : is_within f c e ≡ false
  not_within = is_within-parent f c e h up

  tree_is : alone c (alone 0 f) ≡ alone c f
  tree_is = alone_tree f c h place

  in_tree : is_among a (preorder key_of (alone c (alone 0 f))) ≡ is_within f c a
  in_tree = is_among-preorder key_of a (alone c (alone 0 f)) ∙ ap (has a) tree_is

  parts : (is_within f c a || is_among a (behind f c)) ≡ true
  parts = sym (is_among-append a (preorder key_of (alone c (alone 0 f))) (behind f c) ∙ ap (λ b. b || is_among a (behind f c)) in_tree) ∙ among

  by_test : (b : Bool) → is_within f a e ≡ b → is_within f a e ≡ false
  by_test false is = is
  by_test true is = elim (eqb_tells c a) [
    | inl own ↦ let out : is_within f a e ≡ false = ap (λ n. is_within f n e) (sym own.1) ∙ not_within in out
    | inr other ↦
        let inside : is_within f a c ≡ true = is_within-up f a c e h up other.1 ∙ is in
        by_part (is_within f c a) refl inside is
  ] where
    by_part : (b : Bool) → is_within f c a ≡ b → is_within f a c ≡ true → is_within f a e ≡ true → is_within f a e ≡ false
    by_part true below inside is = let bad : true ≡ false = sym (is_within-trans f c a e h below is) ∙ not_within in absurd (cc)
    by_part false below inside is =
        let later : is_among a (behind f c) ≡ true = ap (λ b. b || is_among a (behind f c)) (sym below) ∙ parts in
        let bad : true ≡ false = sym inside ∙ behind_outside f c a h place later in absurd (cc)

child_up : (f : Forest) (p c i : ℕ) → IsForest f → slice_get (children_of f p) i ≡ Some c → parent_of f c ≡ Some p
child_up f p c i h e =
    let named : is_named (parent_of f c) p ≡ true = sym (is_among-children_of f c p h) ∙ is_among-slice_get (children_of f p) c i e in
    grind (arith, named, is_named_tells (parent_of f c) p)

behind_place_outside : (f : Forest) (k o : ℕ) (kind : PointKind) (a : ℕ) → IsForest f → is_attached f k ≡ true → is_among a (behind_place f k o kind) ≡ true
    → is_within f a k ≡ false
behind_place_outside f k o point.Text a h place among = behind_outside f k a h place among
behind_place_outside f k o point.Element a h place among = by_child (slice_get (children_of f k) o) refl among where
  by_child : (c : Option ℕ) → slice_get (children_of f k) o ≡ c → is_among a (from_child f k c) ≡ true → is_within f a k ≡ false
  by_child None is among = behind_outside f k a h place among
  by_child (Some c) is among =
      let up = child_up f k c o h is in
      from_outside f k c a h (is_attached-up f c k h up ∙ place) up among

-- the nodes after a point
abbrev pub behind_it : Forest → Point → ℕ → Bool
behind_it f start a = is_among a (nodes_behind f start)

start_avoids : (f : Forest) (start : Point) → IsForest f → is_attached f start.key ≡ true → Avoids (behind_it f start) f start.key
start_avoids f start h place a so inside =
    let bad : false ≡ true = sym (behind_place_outside f start.key start.offset start.kind a h place so) ∙ inside in absurd (cc)

-- what is covered is after the start
pub among_filter : (test : ℕ → Bool) (xs : List ℕ) (a : ℕ) → is_among a (filter test xs) ≡ true → is_among a xs ≡ true
among_filter test [] a e = e
among_filter test (x ∷ xs) a e = by_test (among_filter test xs a) (test x) e where
  by_test : (is_among a (filter test xs) ≡ true → is_among a xs ≡ true) → (b : Bool) → is_among a (cond b (x ∷ filter test xs) (filter test xs)) ≡ true
      → is_among a (x ∷ xs) ≡ true
  by_test later true e = grind (arith, e, later)
  by_test later false e = grind (arith, e, later)

pub among_until : (end : Option ℕ) (xs : List ℕ) (a : ℕ) → is_among a (until end xs) ≡ true → is_among a xs ≡ true
among_until end [] a e = e
among_until end (x ∷ xs) a e = by_test (among_until end xs a) (is_named end x) e where
  by_test : (is_among a (until end xs) ≡ true → is_among a xs ≡ true) → (b : Bool) → is_among a (cond b [] (x ∷ until end xs)) ≡ true
      → is_among a (x ∷ xs) ≡ true
  by_test later true e = absurd (cc)
  by_test later false e = grind (arith, e, later)

covered_behind : (f : Forest) (start end : Point) (a : ℕ) → is_among a (outermost f (covered f start end)) ≡ true → behind_it f start a ≡ true
covered_behind f start end a e =
    among_until (first_of (nodes_behind f end)) (nodes_behind f start) a
    (among_filter (λ k. not (is_within f k end.key)) (until (first_of (nodes_behind f end)) (nodes_behind f start)) a
    (among_filter (λ k. not (stands_below (parent_of f k) (covered f start end))) (covered f start end) a e))

-- ---- cuts

splice_avoids : (D : ℕ → Bool) (k from to : ℕ) (new : List ℕ) (w v : Working) → IsAvoiding D w → splice_step k from to new w ≡ Ok v → IsAvoiding D v
unfolding splice_step
splice_avoids D k from to new w v avoiding e =
    let x : Fields = label_with_piece (label_of w.forest k) from to new in
    let after_it : Working = fields_written k x (length new) (splice_points k from to new) w in
    let told = answered (option_or (splice_fault k from to w.forest) (over_limits (length new) w)) after_it v e in
    let g : Forest = with_fields k x w.forest in
    let moved : Point → Point = splice_moves k from to (length_told new) in
    subst (IsAvoiding D) told.1 (each_moved (λ p. Avoids D w.forest p.key) (λ p. Avoids D g p.key) moved w.selection
    (λ p avoids. subst (Avoids D g) (sym (key_of_splice k from to (length_told new) p))
    (λ a so inside. avoids a so (sym (is_within-with_fields k x w.forest a p.key) ∙ inside))) avoiding)

splice_keeps : (D : ℕ → Bool) (k from to : ℕ) (new : List ℕ) (w v : Working) → Fit w → IsAvoiding D w → splice_step k from to new w ≡ Ok v → Kept D w v
splice_keeps D k from to new w v fit avoiding e =
    let stays = stays_splice k from to new w v fit e in
    record { fit = stays.fit; avoiding = splice_avoids D k from to new w v avoiding e; kinds = stays.kept }

cut_keeps : (D : ℕ → Bool) (k from to : ℕ) (w v : Working) → Fit w → IsAvoiding D w → children_of w.forest k ≡ [] → cut_step k from to w ≡ Ok v → Kept D w v
unfolding cut_step
cut_keeps D k from to w v fit avoiding leaf e = by_test (eqb from to) (is_some (normal_at w.forest k)) e where
  by_test : (none normal : Bool) → cond none (Ok w) (cond normal (splice_step k from to [] w) (remove_step k w)) ≡ Ok v → Kept D w v
  by_test true normal e = kept_ok D w w v (kept_self D w fit avoiding) e
  by_test false true e = splice_keeps D k from to [] w v fit avoiding e
  by_test false false e = remove_keeps D k w v fit avoiding (clear_leaf k w fit leaf) e

-- what a point counts characters in has no children, also later
text_leaf : (w u : Working) (x : Point) → KindsStay w.forest u.forest → Fit u → x.kind ≡ point.Text → lies_in w.forest x ≡ true
    → children_of u.forest x.key ≡ []
text_leaf w u x kinds fit is e =
    let counted : is_counted_in point.Text (kind_of w.forest x.key) ≡ true =
    ap (λ kind. is_counted_in kind (kind_of w.forest x.key)) (sym is) ∙ (both _ _ e).0 in
    by_kind (kind_of w.forest x.key) refl counted where
      by_kind : (o : Option Kind) → kind_of w.forest x.key ≡ o → is_counted_in point.Text o ≡ true → children_of u.forest x.key ≡ []
      by_kind None is counted = absurd (cc)
      by_kind (Some kind) is counted =
          let now : kind_of u.forest x.key ≡ Some kind = kinds.each x.key kind is in
          no_children u.forest x.key fit.ready.in_order fit.held (characters_no_element (kind_of u.forest x.key) (ap (is_counted_in point.Text) now ∙ counted))

stays_kinds : (w : Working) → KindsStay w.forest w.forest
stays_kinds w = record { each = λ q kind e. e }

start_keeps : (D : ℕ → Bool) (start end : Point) (kind : PointKind) (w v : Working) → start.kind ≡ kind → lies_in w.forest start ≡ true → Fit w → IsAvoiding D w
    → start_cut start end kind w ≡ Ok v → Kept D w v
start_keeps D start end point.Text w v is e fit avoiding f =
    cut_keeps D start.key start.offset (start_part w.forest start end) w v fit avoiding (text_leaf w w start (stays_kinds w) fit is e) f
start_keeps D start end point.Element w v is e fit avoiding f = kept_ok D w w v (kept_self D w fit avoiding) f

end_keeps : (D : ℕ → Bool) (start end : Point) (kind : PointKind) (w u v : Working) → end.kind ≡ kind → lies_in w.forest end ≡ true → Kept D w u
    → end_cut start end kind u ≡ Ok v → Kept D u v
end_keeps D start end point.Text w u v is e kept f = by_test (eqb start.key end.key) f where
  by_test : (same : Bool) → cond same (Ok u) (cut_step end.key 0 end.offset u) ≡ Ok v → Kept D u v
  by_test true f = kept_ok D u u v (kept_self D u kept.fit kept.avoiding) f
  by_test false f = cut_keeps D end.key 0 end.offset u v kept.fit kept.avoiding (text_leaf w u end kept.kinds kept.fit is e) f
end_keeps D start end point.Element w u v is e kept f = kept_ok D u u v (kept_self D u kept.fit kept.avoiding) f

-- ---- nodes removed one by one

below_keeps : (D : ℕ → Bool) (k : ℕ) (w v : Working) → D k ≡ true → Fit w → IsAvoiding D w → removed_below k w ≡ Ok v → Kept D w v
unfolding removed_below
below_keeps D k w v so fit avoiding e = by_test (is_some (parent_of w.forest k)) e where
  by_test : (b : Bool) → cond b (remove_step k w) (Ok w) ≡ Ok v → Kept D w v
  by_test true e = remove_keeps D k w v fit avoiding (clear_avoided D k w avoiding so) e
  by_test false e = kept_ok D w w v (kept_self D w fit avoiding) e

each_keeps : (D : ℕ → Bool) (ks : List ℕ) (w v : Working) → ((k : ℕ) → is_among k ks ≡ true → D k ≡ true) → Fit w → IsAvoiding D w
    → in_turn removed_below ks w ≡ Ok v → Kept D w v
unfolding in_turn
each_keeps D [] w v so fit avoiding e = kept_ok D w w v (kept_self D w fit avoiding) e
each_keeps D (k ∷ ks) w v so fit avoiding e =
    let first = after_tells (removed_below k w) (in_turn removed_below ks) v e in
    let kept = below_keeps D k w first.0 (so k (grind (arith, eqb_tells k k))) fit avoiding first.1.0 in
    kept_then D w first.0 v kept (each_keeps D ks first.0 v (λ q among. so q (grind (arith, among))) kept.fit kept.avoiding first.1.1)

-- ---- blocks merged

pub empty_fits : (k : ℕ) (w v : Working) → Fit w → removed_empty k w ≡ Ok v → Fit v
unfolding removed_empty
empty_fits k w v fit e = by_test (eqb (size_of w.forest k) 0) refl e where
  by_test : (b : Bool) → eqb (size_of w.forest k) 0 ≡ b → cond b (remove_step k w) (Ok w) ≡ Ok v → Fit v
  by_test true none e = remove_fits k w v fit (clear_empty k w fit (grind (arith, none, eqb_tells (size_of w.forest k) 0))) e
  by_test false some e = let is : w ≡ v = cc in subst Fit is fit

merge_blocks_fits : (a b : ℕ) (w v : Working) → Fit w → merge_blocks a b w ≡ Ok v → Fit v
merge_blocks_fits a b w v fit e = by_test (are_apart w.forest a b) refl e where
  by_test : (t : Bool) → are_apart w.forest a b ≡ t → cond t (after (in_turn (moved_to_end a) (leading w.forest b) w) (removed_empty b)) (Ok w) ≡ Ok v → Fit v
  by_test false apart e = let is : w ≡ v = cc in subst Fit is fit
  by_test true apart e =
      let place : is_attached w.forest a ≡ true =
      (both (is_attached w.forest a) (is_attached w.forest b)
      (both (is_attached w.forest a && is_attached w.forest b) (not (is_within w.forest a b) && not (is_within w.forest b a)) apart).0).0 in
      let first = after_tells (in_turn (moved_to_end a) (leading w.forest b) w) (removed_empty b) v e in
      empty_fits b first.0 v (stays_each_moved a (leading w.forest b) w first.0 fit place first.1.0).fit first.1.1

merge_fits : (a b : Option ℕ) (w v : Working) → Fit w → merge_step a b w ≡ Ok v → Fit v
unfolding merge_step
merge_fits (Some a) (Some b) w v fit e = merge_blocks_fits a b w v fit e
merge_fits None b w v fit e = let is : w ≡ v = cc in subst Fit is fit
merge_fits (Some a) None w v fit e = let is : w ≡ v = cc in subst Fit is fit

-- ---- the whole

caret_avoids : (D : ℕ → Bool) (start : Point) (w : Working) → Avoids D w.forest start.key → IsAvoiding D (caret_at start w)
caret_avoids D start w avoids =
    each_moved (λ x. Unit {0}) (λ x. Avoids D w.forest x.key) (λ x. start) w.selection (λ x so. avoids) (each_all (λ x. Unit {0}) w.selection (λ x. tt))

pub remove_between_fits : (start end : Point) (w v : Working) → Fit w → lies w.forest start ≡ true → lies w.forest end ≡ true
    → remove_between start end w ≡ Ok v → Fit v
unfolding remove_between
remove_between_fits start end w v fit first_lies last_lies e =
    let f : Forest = w.forest in
    let D : ℕ → Bool = behind_it f start in
    let place = both (is_attached f start.key) (lies_in f start) first_lies in
    let last = both (is_attached f end.key) (lies_in f end) last_lies in
    let at : Working = caret_at start w in
    let caret : Fit at = (stays_caret start w fit first_lies).fit in
    let avoiding : IsAvoiding D at = caret_avoids D start w (start_avoids f start fit.ready.in_order place.0) in
    let one =
    after_tells (start_cut start end start.kind at)
    (λ cut. after (in_turn removed_below (outermost f (covered f start end)) cut)
    (λ removed. after (end_cut start end end.kind removed) (merge_step (block_of f start.key) (block_of f end.key)))) v e in
    let two =
    after_tells (in_turn removed_below (outermost f (covered f start end)) one.0)
    (λ removed. after (end_cut start end end.kind removed) (merge_step (block_of f start.key) (block_of f end.key))) v one.1.1 in
    let three = after_tells (end_cut start end end.kind two.0) (merge_step (block_of f start.key) (block_of f end.key)) v two.1.1 in
    let cut = start_keeps D start end start.kind at one.0 refl place.1 caret avoiding one.1.0 in
    let gone = each_keeps D (outermost f (covered f start end)) one.0 two.0 (λ k among. covered_behind f start end k among) cut.fit cut.avoiding two.1.0 in
    let done = end_keeps D start end end.kind at two.0 three.0 refl last.1 (kept_then D at one.0 two.0 cut gone) three.1.0 in
    merge_fits (block_of f start.key) (block_of f end.key) three.0 v done.fit three.1.1

-- the range that a command needs lies in the tree
pub record IsRange (w : Working) (r : Ranged) : Type 0 where
  pub lying : IsLying w
  pub anchor : lies w.forest r.anchor ≡ true
  pub focus : lies w.forest r.focus ≡ true

range_tells : (f : Forest) (s : Selection) (r : Ranged) → range_in f s ≡ Ok r
    → EachPoint (λ p. lies f p ≡ true) s × ((lies f r.anchor ≡ true) × (lies f r.focus ≡ true))
range_tells f (Range a b format) r e = by_test (is_fit f a b) refl e where
  by_test : (t : Bool) → is_fit f a b ≡ t → cond t (Ok (record { anchor = a; focus = b; format = format })) (Err (NoSelection selected.Range)) ≡ Ok r
      → EachPoint (λ p. lies f p ≡ true) (Range a b format) × ((lies f r.anchor ≡ true) × (lies f r.focus ≡ true))
  by_test false fits e = absurd (cc)
  by_test true fits e =
      let parts = both (lies f a) (lies f b) (both (lies f a && lies f b) (same_node (frame_of f a.key) (frame_of f b.key)) fits).0 in
      let is : ◌≡◌ {A = Ranged} (record { anchor = a; focus = b; format = format }) r = cc in
      (parts, (ap (λ x. lies f x.anchor) (sym is) ∙ parts.0, ap (λ x. lies f x.focus) (sym is) ∙ parts.1))
range_tells f other r e = absurd (cc)

pub range_lies : (w : Working) (r : Ranged) → range_of w ≡ Ok r → IsRange w r
unfolding range_of
range_lies w r e = let told = range_tells w.forest w.selection r e in record { lying = told.0; anchor = told.1.0; focus = told.1.1 }

pub removed_in_fits : (r : Ranged) (w v : Working) → Fit w → IsRange w r → removed_in r w ≡ Ok v → Fit v
removed_in_fits r w v fit is e = by_test (is_collapsed r) e where
  start_lies : (b : Bool) → lies w.forest (cond b r.anchor r.focus) ≡ true
  start_lies true = is.anchor
  start_lies false = is.focus

  end_lies : (b : Bool) → lies w.forest (cond b r.focus r.anchor) ≡ true
  end_lies true = is.focus
  end_lies false = is.anchor

  by_test : (b : Bool) → cond b (Ok w) (remove_between (start_of w.forest r) (end_of w.forest r) w) ≡ Ok v → Fit v
  by_test true e = let same : w ≡ v = cc in subst Fit same fit
  by_test false e =
      remove_between_fits (start_of w.forest r) (end_of w.forest r) w v fit (start_lies (comes_first w.forest r.anchor r.focus))
      (end_lies (comes_first w.forest r.anchor r.focus)) e

-- a draft on which nothing else is known goes on with a range
pub fit_of : (w : Working) (r : Ranged) → IsReady w → IsHeld may_hold w.forest → TextsAreShort w → IsRange w r → Fit w
fit_of w r ready held short is = record { ready = ready; held = held; short = short; lying = is.lying }

pub remove_text_fits : (w v : Working) → IsReady w → IsHeld may_hold w.forest → TextsAreShort w → remove_text_step w ≡ Ok v → Fit v
unfolding remove_text_step
remove_text_fits w v ready held short e =
    let first = after_tells (range_of w) (λ r. removed_in r w) v e in
    let is = range_lies w first.0 first.1.0 in
    removed_in_fits first.0 w v (fit_of w first.0 ready held short is) is first.1.1

pub lies-remove_text : LeavesLying remove_text_step
lies-remove_text w v ready held short e = (remove_text_fits w v ready held short e).lying
