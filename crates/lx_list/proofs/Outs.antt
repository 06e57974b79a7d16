-- An item that goes out of its list leaves a selection in the tree.
use Rattle.std.proofs.Common.{◌≡◌, ◌∙◌, ℕ, Bool, true, false, cond, eqb, ◌&&◌, List, Option, None, Some, Result, Ok, refl, sym, subst, arith}
use Rattle.std.specs.Prelude.{is_none}
use Rattle.std.proofs.lemmas.Bool.Decides.{eqb_tells}
use Rattle.lx_trees.specs.Siblings.{is_named}
use Rattle.lx_node.specs.Kinds.{is_item}
use Rattle.lx_node.specs.declared.kind.Kind.TheVariants.{Item}
use Rattle.lx_node.specs.declared.cause.Cause.{Cause}
use Rattle.lx_forest.specs.Forest.{Label}
use Rattle.lx_forest.specs.Lookups.{label_of, parent_of, size_of, first_child, next_of, is_attached, is_within}
use Rattle.lx_forest.proofs.Walks.{is_attached-up}
use Rattle.lx_forest.proofs.Within.{is_within-self}
use Rattle.lx_draft.specs.Working.{Working}
use Rattle.lx_draft.specs.Faults.{after}
use Rattle.lx_draft.specs.Steps.{new_step, put_step}
use Rattle.lx_draft.specs.Beside.{put_behind_step}
use Rattle.lx_edit.specs.InTurn.{in_turn}
use Rattle.lx_edit.specs.Edits.{moved_before, moved_behind, moved_to_end, remove_step}
use Rattle.lx_blocks.specs.Blocks.{is_at}
use Rattle.lx_blocks.specs.Making.{new_like}
use Rattle.lx_caret.specs.Lying.{LeavesLying}
use Rattle.lx_caret.proofs.Fit.{after_tells, Fit, stays_new, stays_put}
use Rattle.lx_caret.proofs.Removes.{clear_empty, remove_fits}
use Rattle.lx_list.specs.Making.{item_fields, with_indent, change_step}
use Rattle.lx_list.specs.Outdenting.{items_behind, parted_like, parted, moved_out, gone_if_empty, out_of, out_from, out_by, shallower, outdented, outdent_step}
use Rattle.lx_list.proofs.Written.{stays_change}
use Rattle.lx_list.proofs.Moved.{placed, stays_like, stays_moved_before, stays_moved_behind}
use Rattle.lx_list.proofs.Aside.{is_in, aside_of, each_aside, joined}
use Rattle.lx_list.proofs.Linewise.{each_line_lies}

-- ---- the items behind go to a new outer item

-- where its list was put into the new item, and that comes behind the outer one with the items
items_part : (x item inner : ℕ) (behind : List ℕ) (outer : ℕ) (u v : Working) → Fit u → is_attached u.forest outer ≡ true
    → after (put_step inner item 0 u) (λ put. after (in_turn (moved_to_end inner) behind put) (λ moved.
    after (put_behind_step item outer moved) (moved_behind outer x))) ≡ Ok v → Fit v
items_part x item inner behind outer u v fit place e =
    let last : Working → Result Working Cause = λ moved. after (put_behind_step item outer moved) (moved_behind outer x) in
    let one = after_tells (put_step inner item 0 u) (λ put. after (in_turn (moved_to_end inner) behind put) last) v e in
    let put : Working = one.0 in
    let two = after_tells (in_turn (moved_to_end inner) behind put) last v one.1.1 in
    let three = after_tells (put_behind_step item outer two.0) (moved_behind outer x) v two.1.1 in
    let is = placed inner item 0 u put fit.ready.in_order one.1.0 in
    let stays = stays_put inner item 0 u put fit one.1.0 in
    let below : is_within put.forest item inner ≡ true =
    grind (arith, is.within item inner, is_within-self u.forest inner, is_within-self u.forest item, is.can.there, is.can.parent) in
    let inside : is_in item put.forest inner ≡ true = grind (arith, below) in
    let moved = each_aside item inner behind put two.0 (aside_of item put stays.fit) inside two.1.0 in
    let outer_in : is_in item put.forest outer ≡ true = grind (arith, stays.attached outer place) in
    let back = joined item outer two.0 three.0 moved.aside (moved.inside outer outer_in) three.1.0 in
    (stays_moved_behind outer x three.0 v back.fit (back.attached outer (moved.inside outer outer_in)) three.1.1).fit

parted_like_fits : (x : ℕ) (behind : List ℕ) (outer : ℕ) (like : Option Label) (w v : Working) → Fit w → is_attached w.forest outer ≡ true
    → parted_like x behind outer like w ≡ Ok v → Fit v
parted_like_fits x behind outer like w v fit place e =
    let item : ℕ = w.next_key in
    let rest : ℕ → Working → Result Working Cause = λ inner u.
    after (put_step inner item 0 u) (λ put. after (in_turn (moved_to_end inner) behind put) (λ moved.
    after (put_behind_step item outer moved) (moved_behind outer x))) in
    let one = after_tells (new_step Item (item_fields None) w) (λ m. after (new_like like m) (rest m.next_key)) v e in
    let m : Working = one.0 in
    let two = after_tells (new_like like m) (rest m.next_key) v one.1.1 in
    let new = stays_new Item (item_fields None) w m fit one.1.0 in
    let list = stays_like like m two.0 new.fit two.1.0 in
    items_part x item m.next_key behind outer two.0 v list.fit (list.attached outer (new.attached outer place)) two.1.1

parted_fits : (x list outer : ℕ) (w v : Working) → Fit w → is_attached w.forest outer ≡ true → parted x list outer w ≡ Ok v → Fit v
unfolding parted
parted_fits x list outer w v fit place e = parted_like_fits x (items_behind w.forest list x) outer (label_of w.forest list) w v fit place e

-- ---- out of the list

moved_out_fits : (x list outer : ℕ) (w v : Working) → Fit w → is_attached w.forest outer ≡ true → moved_out x list outer w ≡ Ok v → Fit v
unfolding moved_out
moved_out_fits x list outer w v fit place e =
    by_test (is_named (first_child w.forest list) x && is_named (first_child w.forest outer) list) (is_none (next_of w.forest x)) e where
      by_test : (first last : Bool) → cond first (moved_before outer x w) (cond last (moved_behind outer x w) (parted x list outer w)) ≡ Ok v → Fit v
      by_test true last e = (stays_moved_before outer x w v fit place e).fit
      by_test false true e = (stays_moved_behind outer x w v fit place e).fit
      by_test false false e = parted_fits x list outer w v fit place e

gone_fits : (list : ℕ) (w v : Working) → Fit w → gone_if_empty list w ≡ Ok v → Fit v
gone_fits list w v fit e = by_test (eqb (size_of w.forest list) 0) refl e where
  by_test : (b : Bool) → eqb (size_of w.forest list) 0 ≡ b → cond b (remove_step list w) (Ok w) ≡ Ok v → Fit v
  by_test true none e = remove_fits list w v fit (clear_empty list w fit (grind (arith, none, eqb_tells (size_of w.forest list) 0))) e
  by_test false some e = let is : w ≡ v = cc in subst Fit is fit

pub out_of_fits : (x list outer : ℕ) (w v : Working) → Fit w → is_attached w.forest outer ≡ true → out_of x list outer w ≡ Ok v → Fit v
unfolding out_of
out_of_fits x list outer w v fit place e =
    let first = after_tells (moved_out x list outer w) (gone_if_empty list) v e in
    gone_fits list first.0 v (moved_out_fits x list outer w first.0 fit place first.1.0) first.1.1

-- ---- a line one level up

out_from_fits : (x list : ℕ) (outer : Option ℕ) (w v : Working) → Fit w → is_attached w.forest list ≡ true → parent_of w.forest list ≡ outer
    → out_from x list outer w ≡ Ok v → Fit v
out_from_fits x list None w v fit place up e = let is : w ≡ v = cc in subst Fit is fit
out_from_fits x list (Some outer) w v fit place up e = by_test (is_at is_item w.forest outer) e where
  by_test : (b : Bool) → cond b (out_of x list outer w) (Ok w) ≡ Ok v → Fit v
  by_test true e = out_of_fits x list outer w v fit (sym (is_attached-up w.forest list outer fit.ready.in_order up) ∙ place) e
  by_test false e = let is : w ≡ v = cc in subst Fit is fit

out_by_fits : (x : ℕ) (list : Option ℕ) (w v : Working) → Fit w → is_attached w.forest x ≡ true → parent_of w.forest x ≡ list
    → out_by x list w ≡ Ok v → Fit v
out_by_fits x None w v fit there up e = let is : w ≡ v = cc in subst Fit is fit
out_by_fits x (Some list) w v fit there up e =
    out_from_fits x list (parent_of w.forest list) w v fit (sym (is_attached-up w.forest x list fit.ready.in_order up) ∙ there) refl e

outdented_fits : (x : ℕ) (w v : Working) → Fit w → is_attached w.forest x ≡ true → outdented x w ≡ Ok v → Fit v
unfolding outdented
outdented_fits x w v fit there e = by_test (is_at is_item w.forest x) e where
  by_test : (b : Bool) → cond b (out_by x (parent_of w.forest x) w) (change_step (with_indent shallower) x w) ≡ Ok v → Fit v
  by_test true e = out_by_fits x (parent_of w.forest x) w v fit there refl e
  by_test false e = (stays_change (with_indent shallower) x w v fit e).fit

pub lies-outdent : LeavesLying outdent_step
unfolding outdent_step
lies-outdent w v ready held short e = each_line_lies outdented outdented_fits w v ready held short e
