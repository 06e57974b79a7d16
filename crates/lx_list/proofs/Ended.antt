-- An item that ends its list leaves a selection in the tree.
use Rattle.std.proofs.Common.{◌≡◌, ◌∙◌, ℕ, Bool, true, false, cond, ◌&&◌, List, [], ◌∷◌, Option, None, Some, Result, Ok, refl, sym, ap, ap₂, subst}
use Rattle.lx_node.specs.Kinds.{is_element, is_item}
use Rattle.lx_node.specs.Plain.{plain_element}
use Rattle.lx_node.specs.declared.kind.Kind.TheVariants.{Paragraph}
use Rattle.lx_node.specs.declared.cause.Cause.{Cause}
use Rattle.lx_node.specs.declared.cause.PointKind.TheVariants as point
use Rattle.lx_forest.specs.Forest.{Forest, Label}
use Rattle.lx_forest.specs.Lookups.{has, label_of, kind_of, parent_of, size_of, is_within, is_attached}
use Rattle.lx_forest.proofs.Walks.{is_attached-up}
use Rattle.lx_forest.proofs.Within.{is_within-parent}
use Rattle.lx_draft.specs.Working.{Working}
use Rattle.lx_draft.specs.Faults.{after}
use Rattle.lx_draft.specs.Selecting.{is_counted_in}
use Rattle.lx_draft.specs.Steps.{new_step}
use Rattle.lx_draft.specs.Beside.{put_behind_step}
use Rattle.lx_edit.specs.InTurn.{in_turn}
use Rattle.lx_edit.specs.Edits.{element_point, moved_to_end, remove_step}
use Rattle.lx_blocks.specs.Blocks.{is_at}
use Rattle.lx_blocks.specs.Making.{new_like}
use Rattle.lx_blocks.specs.Ranges.{lies, caret_at}
use Rattle.lx_blocks.proofs.Steps.{attached_there}
use Rattle.lx_caret.specs.Lying.{IsLying}
use Rattle.lx_caret.proofs.Lies.{least}
use Rattle.lx_caret.proofs.Fit.{each_moved, each_all, after_tells, Fit, Stays, stays_then, stays_self, stays_ok, stays_new, stays_caret}
use Rattle.lx_caret.proofs.Moves.{stays_behind, put_behind_in, stays_each_moved}
use Rattle.lx_caret.proofs.Removes.{IsClear, remove_fits}
use Rattle.lx_caret.proofs.Adds.{new_kind}
use Rattle.lx_list.specs.Lines.{step_if_there}
use Rattle.lx_list.specs.Outdenting.{items_behind, out_of}
use Rattle.lx_list.specs.Ending.{rest_parted, paragraph_behind, list_ended_by, ended_in, paragraph_in_item_step}
use Rattle.lx_list.specs.Laws.{KeepsLyingInTree}
use Rattle.lx_list.proofs.Moved.{stays_like, outside_new, outside_like, outside_behind, outside_each, new_outside}
use Rattle.lx_list.proofs.Outs.{out_of_fits}

-- ---- the items behind

-- what parts the rest from a paragraph in the tree: nothing comes into the tree of a node that holds neither
pub record Parted (w v : Working) (x : ℕ) : Type 0 where
  pub stays : Stays w v
  pub outside : (q : ℕ) → is_within w.forest x q ≡ false → is_within v.forest x q ≡ false

rest_made : (x paragraph : ℕ) (items : List ℕ) (like : Option Label) (w v : Working) → Fit w → has x w.forest ≡ true
    → is_attached w.forest paragraph ≡ true
    → is_within w.forest x paragraph ≡ false
    → after (new_like like w) (λ u. after (put_behind_step w.next_key paragraph u) (in_turn (moved_to_end w.next_key) items)) ≡ Ok v → Parted w v x
rest_made x paragraph items like w v fit there place out e =
    let rest : ℕ = w.next_key in
    let one = after_tells (new_like like w) (λ u. after (put_behind_step rest paragraph u) (in_turn (moved_to_end rest) items)) v e in
    let m : Working = one.0 in
    let two = after_tells (put_behind_step rest paragraph m) (in_turn (moved_to_end rest) items) v one.1.1 in
    let put : Working = two.0 in
    let new = stays_like like w m fit one.1.0 in
    let behind = stays_behind rest paragraph m put new.fit two.1.0 in
    let beside = put_behind_in rest paragraph m put new.fit (new.attached paragraph place) two.1.0 in
    let moved = stays_each_moved rest items put v behind.fit beside.attached two.1.1 in
    let out_of_it : (q : ℕ) → is_within w.forest x q ≡ false → is_within put.forest x q ≡ false = λ q so.
    outside_behind rest paragraph m put x q new.fit.ready.in_order two.1.0 (outside_like like w m x paragraph fit there one.1.0 out)
    (outside_like like w m x q fit there one.1.0 so) in
    record {
      stays = stays_then w m v new (stays_then m put v behind moved);
      outside = λ q so.
          outside_each rest items put v x q behind.fit beside.attached two.1.1 (out_of_it rest (new_outside w x fit)) (out_of_it q so);
    }

rest_parts : (x paragraph : ℕ) (items : List ℕ) (like : Option Label) (w v : Working) → Fit w → has x w.forest ≡ true
    → is_attached w.forest paragraph ≡ true
    → is_within w.forest x paragraph ≡ false → rest_parted paragraph items like w ≡ Ok v → Parted w v x
rest_parts x paragraph [] like w v fit there place out e =
    let is : w ≡ v = cc in
    record { stays = stays_ok w w v (stays_self w fit) e; outside = λ q so. ap (λ u. is_within u.forest x q) (sym is) ∙ so }
rest_parts x paragraph (item ∷ items) like w v fit there place out e = rest_made x paragraph (item ∷ items) like w v fit there place out e

-- ---- the paragraph

caret_clear : (x paragraph : ℕ) (w : Working) → is_within w.forest x paragraph ≡ false → IsClear x (caret_at (element_point paragraph 0) w)
caret_clear x paragraph w out =
    each_moved (λ p. Unit {0}) (λ p. is_within w.forest x p.key ≡ true → p.key ≡ x) (λ p. element_point paragraph 0) w.selection
    (λ p so inside. let bad : false ≡ true = sym out ∙ inside in absurd (cc)) (each_all (λ p. Unit {0}) w.selection (λ p. tt))

paragraph_lies : (f : Forest) (k : ℕ) → is_attached f k ≡ true → kind_of f k ≡ Some Paragraph → lies f (element_point k 0) ≡ true
unfolding is_element
paragraph_lies f k there kind = ap₂ ◌&&◌ there (ap₂ ◌&&◌ (ap (is_counted_in point.Element) kind) (least (size_of f k)))

-- where nothing that is beside the list is in the item
paragraph_fits : (x list : ℕ) (items : List ℕ) (like : Option Label) (w m put left v : Working) → Fit w → is_attached w.forest x ≡ true
    → is_attached w.forest list ≡ true → is_within w.forest x list ≡ false → new_step Paragraph plain_element w ≡ Ok m
    → put_behind_step w.next_key list m ≡ Ok put → rest_parted w.next_key items like put ≡ Ok left
    → remove_step x (caret_at (element_point w.next_key 0) left) ≡ Ok v → Fit v
paragraph_fits x list items like w m put left v fit there place out first second third last =
    let key : ℕ = w.next_key in
    let known : has x w.forest ≡ true = attached_there w.forest x there in
    let new = stays_new Paragraph plain_element w m fit first in
    let behind = stays_behind key list m put new.fit second in
    let beside = put_behind_in key list m put new.fit (new.attached list place) second in
    let outside : (q : ℕ) → is_within w.forest x q ≡ false → is_within put.forest x q ≡ false = λ q so.
    outside_behind key list m put x q new.fit.ready.in_order second (outside_new Paragraph plain_element w m x list fit known first out)
    (outside_new Paragraph plain_element w m x q fit known first so) in
    let here : has x put.forest ≡ true = attached_there put.forest x (behind.attached x (new.attached x there)) in
    let parts = rest_parts x key items like put left behind.fit here beside.attached (outside key (new_outside w x fit)) third in
    let kind : kind_of left.forest key ≡ Some Paragraph =
    parts.stays.kept.each key Paragraph (behind.kept.each key Paragraph (new_kind Paragraph plain_element w m fit first)) in
    let lying : lies left.forest (element_point key 0) ≡ true = paragraph_lies left.forest key (parts.stays.attached key beside.attached) kind in
    remove_fits x (caret_at (element_point key 0) left) v (stays_caret (element_point key 0) left parts.stays.fit lying).fit
    (caret_clear x key left (parts.outside key (outside key (new_outside w x fit)))) last

behind_fits : (x list : ℕ) (w v : Working) → Fit w → is_attached w.forest x ≡ true → parent_of w.forest x ≡ Some list
    → paragraph_behind x list w ≡ Ok v → Fit v
unfolding paragraph_behind
behind_fits x list w v fit there up e =
    let key : ℕ = w.next_key in
    let items : List ℕ = items_behind w.forest list x in
    let like : Option Label = label_of w.forest list in
    let last : Working → Result Working Cause = λ left. remove_step x (caret_at (element_point key 0) left) in
    let one =
    after_tells (new_step Paragraph plain_element w) (λ m. after (put_behind_step key list m) (λ put. after (rest_parted key items like put) last)) v e in
    let two = after_tells (put_behind_step key list one.0) (λ put. after (rest_parted key items like put) last) v one.1.1 in
    let three = after_tells (rest_parted key items like two.0) last v two.1.1 in
    paragraph_fits x list items like w one.0 two.0 three.0 v fit there (sym (is_attached-up w.forest x list fit.ready.in_order up) ∙ there)
    (is_within-parent w.forest x list fit.ready.in_order up) one.1.0 two.1.0 three.1.0 three.1.1

-- ---- by what the list is in

ended_fits : (x list : ℕ) (above : Option ℕ) (w v : Working) → Fit w → is_attached w.forest x ≡ true → parent_of w.forest x ≡ Some list
    → parent_of w.forest list ≡ above → list_ended_by x list above w ≡ Ok v → Fit v
ended_fits x list None w v fit there up over e = let is : w ≡ v = cc in subst Fit is fit
ended_fits x list (Some above) w v fit there up over e = by_test (is_at is_item w.forest above) e where
  place : is_attached w.forest above ≡ true
  place =
      sym (is_attached-up w.forest list above fit.ready.in_order over) ∙ sym (is_attached-up w.forest x list fit.ready.in_order up) ∙ there

  by_test : (b : Bool) → cond b (out_of x list above w) (paragraph_behind x list w) ≡ Ok v → Fit v
  by_test true e = out_of_fits x list above w v fit place e
  by_test false e = behind_fits x list w v fit there up e

ended_in_fits : (x : ℕ) (list : Option ℕ) (w v : Working) → Fit w → is_attached w.forest x ≡ true → parent_of w.forest x ≡ list
    → ended_in x list w ≡ Ok v
    → Fit v
ended_in_fits x None w v fit there up e = let is : w ≡ v = cc in subst Fit is fit
ended_in_fits x (Some list) w v fit there up e = ended_fits x list (parent_of w.forest list) w v fit there up refl e

pub paragraph_in_item_fits : (x : ℕ) (w v : Working) → Fit w → is_attached w.forest x ≡ true → paragraph_in_item_step x w ≡ Ok v → Fit v
unfolding paragraph_in_item_step
paragraph_in_item_fits x w v fit there e = ended_in_fits x (parent_of w.forest x) w v fit there refl e

pub lies-paragraph_in_item : (x : ℕ) → KeepsLyingInTree (step_if_there (paragraph_in_item_step) x)
lies-paragraph_in_item x w v ready held short lying e = by_test (is_attached w.forest x) refl e where
  by_test : (b : Bool) → is_attached w.forest x ≡ b → cond b (paragraph_in_item_step x w) (Ok w) ≡ Ok v → IsLying v
  by_test true there e =
      (paragraph_in_item_fits x w v (record { ready = ready; held = held; short = short; lying = lying }) there e).lying
  by_test false out e = let is : w ≡ v = cc in subst IsLying is lying
