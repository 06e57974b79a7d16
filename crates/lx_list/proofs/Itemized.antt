-- Lines that become items, and lists that become lists of another type, leave a selection in the tree.
use Rattle.std.proofs.Common.{◌≡◌, ◌∙◌, ℕ, Bool, true, false, cond, Option, None, Some, Result, Ok, refl, sym, subst, arith}
use Rattle.std.specs.List.{list_all}
use Rattle.lx_node.specs.Kinds.{is_inline, is_item}
use Rattle.lx_node.specs.declared.kind.Kind.TheVariants.{Item, List as ListKind}
use Rattle.lx_node.specs.declared.kind.ListType.{ListType}
use Rattle.lx_node.specs.declared.kind.ListType.TheVariants.{Bullet, Number, Check}
use Rattle.lx_node.specs.declared.fields.Fields.{Fields}
use Rattle.lx_node.specs.declared.cause.Cause.{Cause}
use Rattle.lx_forest.specs.Forest.{Forest}
use Rattle.lx_forest.specs.Lookups.{fields_of, parent_of, children_of, size_of, previous_of, is_attached, IsForest}
use Rattle.lx_forest.proofs.Siblings.{parent_of-previous}
use Rattle.lx_forest.proofs.Walks.{is_attached-up}
use Rattle.lx_draft.specs.Working.{Working}
use Rattle.lx_draft.specs.Faults.{after}
use Rattle.lx_draft.specs.Steps.{new_step, put_step}
use Rattle.lx_draft.specs.Beside.{put_before_step}
use Rattle.lx_edit.specs.InTurn.{in_turn}
use Rattle.lx_edit.specs.Edits.{children_step, remove_step}
use Rattle.lx_blocks.specs.Blocks.{is_at}
use Rattle.lx_caret.specs.Lying.{LeavesLying}
use Rattle.lx_caret.proofs.Fit.{after_tells, Fit, stays_new, stays_put}
use Rattle.lx_caret.proofs.Moves.{was_put, stays_before, put_before_in}
use Rattle.lx_caret.proofs.Removes.{clear_leaf, remove_fits}
use Rattle.lx_list.specs.Making.{list_fields, item_fields, unchecked, check_item}
use Rattle.lx_list.specs.Listing.{is_list_of, item_made, list_made, itemized, has_mark, remarked, retyped_with, retyped, retyped_above, listed, make_list_step}
use Rattle.lx_list.proofs.Checks.{stays_check}
use Rattle.lx_list.proofs.Emptied.{children_gone}
use Rattle.lx_list.proofs.Linewise.{FitsAtLine, each_fits, each_line_lies}

-- a node's children go to one in the tree, and it is removed
given_fits : (from to : ℕ) (w v : Working) → Fit w → is_attached w.forest to ≡ true → after (children_step from to w) (remove_step from) ≡ Ok v
    → Fit v
given_fits from to w v fit place e =
    let first = after_tells (children_step from to w) (remove_step from) v e in
    let gone = children_gone from to w first.0 fit place first.1.0 in
    remove_fits from first.0 v gone.stays.fit (clear_leaf from first.0 gone.stays.fit gone.none) first.1.1

-- ---- a line becomes an item

item_made_fits : (type : ListType) (line list : ℕ) (w v : Working) → Fit w → is_attached w.forest list ≡ true → item_made type line list w ≡ Ok v
    → Fit v
unfolding item_made
item_made_fits type line list w v fit place e =
    let item : ℕ = w.next_key in
    let given : Working → Result Working Cause = λ u. after (children_step line item u) (remove_step line) in
    let one = after_tells (new_step Item (item_fields (unchecked type)) w) (λ m. after (put_step item list (size_of m.forest list) m) given) v e in
    let m : Working = one.0 in
    let two = after_tells (put_step item list (size_of m.forest list) m) given v one.1.1 in
    let new = stays_new Item (item_fields (unchecked type)) w m fit one.1.0 in
    let put = stays_put item list (size_of m.forest list) m two.0 new.fit two.1.0 in
    let was = was_put item list (size_of m.forest list) m two.0 new.fit.ready.in_order two.1.0 in
    given_fits line item two.0 v put.fit (was.attached (new.attached list place)) two.1.1

list_made_fits : (type : ListType) (line : ℕ) (w v : Working) → Fit w → is_attached w.forest line ≡ true → list_made type line w ≡ Ok v → Fit v
unfolding list_made
list_made_fits type line w v fit place e =
    let list : ℕ = w.next_key in
    let one = after_tells (new_step (ListKind type) list_fields w) (λ m. after (put_before_step list line m) (item_made type line list)) v e in
    let m : Working = one.0 in
    let two = after_tells (put_before_step list line m) (item_made type line list) v one.1.1 in
    let new = stays_new (ListKind type) list_fields w m fit one.1.0 in
    let beside = put_before_in list line m two.0 new.fit (new.attached line place) two.1.0 in
    item_made_fits type line list two.0 v (stays_before list line m two.0 new.fit two.1.0).fit beside.attached two.1.1

-- what comes before a node of the tree is in it
before_there : (f : Forest) (k s : ℕ) (p : Option ℕ) → IsForest f → parent_of f k ≡ p → is_attached f k ≡ true → previous_of f k ≡ Some s
    → is_attached f s ≡ true
before_there f k s (Some p) h up place before =
    is_attached-up f s p h (parent_of-previous f k s p h up before) ∙ sym (is_attached-up f k p h up) ∙ place
before_there f k s None h up place before = absurd (grind (arith, up, before))

itemized_fits : (type : ListType) (line : ℕ) (list : Option ℕ) (w v : Working) → Fit w → is_attached w.forest line ≡ true
    → previous_of w.forest line ≡ list
    → itemized type line list w ≡ Ok v → Fit v
itemized_fits type line None w v fit place before e = list_made_fits type line w v fit place e
itemized_fits type line (Some list) w v fit place before e = by_test (is_at (is_list_of type) w.forest list) e where
  by_test : (b : Bool) → cond b (item_made type line list w) (list_made type line w) ≡ Ok v → Fit v
  by_test true e =
      item_made_fits type line list w v fit (before_there w.forest line list (parent_of w.forest line) fit.ready.in_order refl place before) e
  by_test false e = list_made_fits type line w v fit place e

-- ---- a list becomes one of another type

remarked_fits : (type : ListType) (item : ℕ) (w v : Working) → Fit w → remarked type item w ≡ Ok v → Fit v
remarked_fits Bullet item w v fit e = (stays_check None item w v fit e).fit
remarked_fits Number item w v fit e = (stays_check None item w v fit e).fit
remarked_fits Check item w v fit e = by_test (has_mark (fields_of w.forest item)) e where
  by_test : (b : Bool) → cond b (Ok w) (check_item (Some false) item w) ≡ Ok v → Fit v
  by_test true e = let is : w ≡ v = cc in subst Fit is fit
  by_test false e = (stays_check (Some false) item w v fit e).fit

retyped_with_fits : (type : ListType) (list : ℕ) (x : Option Fields) (w v : Working) → Fit w → is_attached w.forest list ≡ true
    → retyped_with type list x w ≡ Ok v → Fit v
retyped_with_fits type list None w v fit place e = let is : w ≡ v = cc in subst Fit is fit
retyped_with_fits type list (Some x) w v fit place e =
    let new : ℕ = w.next_key in
    let marks : Working → Result Working Cause = λ left. in_turn (remarked type) (children_of left.forest new) left in
    let rest : Working → Result Working Cause = λ put. after (children_step list new put) (λ moved. after (remove_step list moved) marks) in
    let one = after_tells (new_step (ListKind type) x w) (λ m. after (put_before_step new list m) rest) v e in
    let two = after_tells (put_before_step new list one.0) rest v one.1.1 in
    let three = after_tells (children_step list new two.0) (λ moved. after (remove_step list moved) marks) v two.1.1 in
    let four = after_tells (remove_step list three.0) marks v three.1.1 in
    let made = stays_new (ListKind type) x w one.0 fit one.1.0 in
    let put = stays_before new list one.0 two.0 made.fit two.1.0 in
    let beside = put_before_in new list one.0 two.0 made.fit (made.attached list place) two.1.0 in
    let gone = children_gone list new two.0 three.0 put.fit beside.attached three.1.0 in
    let left : Fit four.0 = remove_fits list three.0 four.0 gone.stays.fit (clear_leaf list three.0 gone.stays.fit gone.none) four.1.0 in
    each_fits (remarked type) (remarked_fits type) (children_of four.0.forest new) four.0 v left four.1.1

retyped_above_fits : (type : ListType) (list : Option ℕ) (line : ℕ) (w v : Working) → Fit w → is_attached w.forest line ≡ true
    → parent_of w.forest line ≡ list → retyped_above type list w ≡ Ok v → Fit v
unfolding retyped
retyped_above_fits type None line w v fit place up e = let is : w ≡ v = cc in subst Fit is fit
retyped_above_fits type (Some list) line w v fit place up e = by_test (is_at (is_list_of type) w.forest list) e where
  by_test : (b : Bool) → cond b (Ok w) (retyped_with type list (fields_of w.forest list) w) ≡ Ok v → Fit v
  by_test true e = let is : w ≡ v = cc in subst Fit is fit
  by_test false e =
      retyped_with_fits type list (fields_of w.forest list) w v fit (sym (is_attached-up w.forest line list fit.ready.in_order up) ∙ place) e

-- ---- the command

listed_fits : (type : ListType) → FitsAtLine (listed type)
unfolding listed
listed_fits type line w v fit place e =
    by_test (is_at is_item w.forest line) (list_all (is_at is_inline w.forest) (children_of w.forest line)) e where
      by_test : (item inline : Bool)
          → cond item (retyped_above type (parent_of w.forest line) w) (cond inline (itemized type line (previous_of w.forest line) w) (Ok w)) ≡ Ok v
          → Fit v
      by_test true inline e = retyped_above_fits type (parent_of w.forest line) line w v fit place refl e
      by_test false true e = itemized_fits type line (previous_of w.forest line) w v fit place refl e
      by_test false false e = let is : w ≡ v = cc in subst Fit is fit

pub lies-make_list : (type : ListType) → LeavesLying (make_list_step type)
unfolding make_list_step
lies-make_list type w v ready held short e = each_line_lies (listed type) (listed_fits type) w v ready held short e
