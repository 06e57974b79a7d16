-- A list that is removed leaves each point of a range in the tree, where none is on a node that goes with it.
use Rattle.std.proofs.Common.{◌≡◌, ◌∙◌, ℕ, Bool, true, false, cond, ◌&&◌, List, [], ◌∷◌, Some, Ok, refl, sym, ap, ap₂, subst, arith, inl, inr}
use Rattle.std.specs.Prelude.{option_map}
use Rattle.std.specs.List.{filter}
use Rattle.std.proofs.lemmas.Bool.Decides.{eqb_tells}
use Rattle.lx_trees.specs.Siblings.{is_among}
use Rattle.lx_node.specs.Kinds.{may_hold, is_inline, is_item, is_list, is_element}
use Rattle.lx_node.specs.Plain.{plain_element}
use Rattle.lx_node.specs.declared.kind.Kind.TheVariants.{Paragraph}
use Rattle.lx_node.specs.declared.cause.Point.{Point}
use Rattle.lx_node.specs.declared.cause.PointKind.TheVariants as point
use Rattle.lx_select.specs.Rules.{moved_to}
use Rattle.lx_forest.specs.Forest.{Forest}
use Rattle.lx_forest.specs.Lookups.{has, kind_of, parent_of, children_of, size_of, ancestors, is_within, is_attached, IsForest, IsHeld}
use Rattle.lx_forest.specs.Edits.{take_out}
use Rattle.lx_forest.proofs.Lookups.{kind_of-with_new}
use Rattle.lx_forest.proofs.Up.{attached_above}
use Rattle.lx_forest.proofs.Walks.{cases_option}
use Rattle.lx_forest.proofs.Within.{is_within-ancestors}
use Rattle.lx_links.proofs.Ordered.{there_within}
use Rattle.lx_draft.specs.Working.{Working}
use Rattle.lx_draft.specs.Covering.{KindsStay}
use Rattle.lx_draft.specs.Faults.{after}
use Rattle.lx_draft.specs.Selecting.{is_counted_in}
use Rattle.lx_draft.specs.Steps.{new_step, take_step}
use Rattle.lx_draft.specs.Beside.{put_before_step}
use Rattle.lx_edit.specs.InTurn.{in_turn}
use Rattle.lx_edit.specs.Edits.{pointed, element_point, sent_away, remove_step}
use Rattle.lx_edit.proofs.Climbed.{first_part, taken-forest, sent_away-forest}
use Rattle.lx_edit_laws.proofs.WrapSteps.{was_same}
use Rattle.lx_blocks.specs.Blocks.{is_at, is_line}
use Rattle.lx_blocks.specs.Ranges.{lies}
use Rattle.lx_blocks.proofs.Blocked.{found_among, more_among}
use Rattle.lx_caret.proofs.Fit.{each_moved, each_still, Fit, Stays, stays_self, stays_then, stays_new, stays_pointed}
use Rattle.lx_caret.proofs.Lies.{least}
use Rattle.lx_caret.proofs.Moves.{stays_before, put_before_in, stays_each_moved}
use Rattle.lx_caret.proofs.Removes.{IsClear, remove_fits}
use Rattle.lx_list.specs.Dissolving.{emptied_into, paragraph_made, dissolved, is_in_item, is_outermost, outermost_above, dissolved_around}
use Rattle.lx_list.proofs.Itemless.{there_at}
use Rattle.lx_list.specs.Lines.{step_if_there}
use Rattle.lx_list_laws.specs.Reading.{IsSoundDraft}
use Rattle.lx_list_laws.specs.Staying.{goes_with_list}
use Rattle.lx_list_laws.proofs.ReadDissolved.{lines_of, among_lines, IsEmptied, may_say, top_stays, found_passes}
use Rattle.lx_list_laws.proofs.ReadLines.{list_or_item}
use Rattle.lx_list_laws.proofs.ReadSaid.{has_still, are_said}
use Rattle.lx_list_laws.proofs.ReadSound.{new_forest}
use Rattle.lx_list_laws.proofs.StayGone.{Spared, parent_place, beside_place, list_up, spared_still}
use Rattle.lx_list_laws.proofs.StayKeys.{EachKey, each_same, same_new, same_take, same_before, same_each}
use Rattle.lx_list_laws.proofs.StayUnder.{Under, under, Sends, keys_sent, may_stay, goes_alone}

-- ---- a line becomes a paragraph

paragraph_holds : is_element Paragraph ≡ true
unfolding is_element
paragraph_holds = refl

sent_lies : (f : Forest) (line : ℕ) (there x : Point) → lies f there ≡ true → lies f x ≡ true → lies f (moved_to line there x) ≡ true
unfolding moved_to
sent_lies f line there x so is = elim (eqb_tells x.key line) [
  | inl own ↦ rw own.0 so
  | inr other ↦ rw other.0 is
]

paragraph_fits : (list line : ℕ) (w v : Working) → Fit w → is_attached w.forest list ≡ true → paragraph_made list line w ≡ Ok v → Stays w v
unfolding paragraph_made emptied_into
paragraph_fits list line w v fit place e =
    let n : ℕ = w.next_key in
    let a = first_part (new_step Paragraph plain_element w) (λ o. after (put_before_step n list o) (emptied_into n line)) v e in
    let b = first_part (put_before_step n list a.0) (emptied_into n line) v a.2 in
    let made = stays_new Paragraph plain_element w a.0 fit a.1 in
    let put = stays_before n list a.0 b.0 made.fit b.1 in
    let beside = put_before_in n list a.0 b.0 made.fit (made.attached list place) b.1 in
    let there : Point = element_point n 0 in
    let free : has n w.forest ≡ false = fit.ready.free n (omega arith) in
    let new : kind_of a.0.forest n ≡ Some Paragraph =
    ap (λ x. kind_of x n) (new_forest Paragraph plain_element w a.0 a.1)
    ∙ grind (arith, kind_of-with_new (record { key = n; kind = Paragraph; fields = plain_element }) w.forest n fit.ready.in_order free, eqb_tells n n) in
    let kind : kind_of b.0.forest n ≡ Some Paragraph = ap (option_map (λ l. l.kind)) (beside.label n) ∙ new in
    let so : lies b.0.forest there ≡ true =
    ap₂ ◌&&◌ beside.attached (ap₂ ◌&&◌ (ap (is_counted_in point.Element) kind ∙ paragraph_holds) (least (size_of b.0.forest n))) in
    let at : Working = pointed (moved_to line there) b.0 in
    let sent : Stays b.0 at = stays_pointed (moved_to line there) b.0 put.fit (λ x is. sent_lies b.0.forest line there x so is) in
    let filled : Stays at v = stays_each_moved n (filter (is_at is_inline b.0.forest) (children_of b.0.forest line)) at v sent.fit beside.attached b.2 in
    stays_then w b.0 v (stays_then w a.0 b.0 made put) (stays_then b.0 at v sent filled)

-- ---- where points are meanwhile

-- a node of a point meanwhile, by the forest before: in the list it doesn't go with it, and it is none of the lines but one
-- whose turn is still to come; and nothing of lists around further lines
record Waits (f : Forest) (list : ℕ) (ks ls : List ℕ) (q : ℕ) : Type 0 where
  here : is_within f list q ≡ true → goes_with_list f q ≡ false
  spared : Spared f ks q
  turn : is_among q (lines_of f list) ≡ true → is_among q ls ≡ true

new_waits : (f : Forest) (list : ℕ) (ks ls : List ℕ) (n : ℕ) → has n f ≡ false → Waits f list ks ls n
new_waits f list ks ls n free =
    let none : goes_with_list f n ≡ false = grind (arith, free, there_at is_list f n, there_at is_item f n) in
    record {
      here = λ inside. none;
      spared = λ line around among found inside. none;
      turn = λ among. absurd (grind (arith, free, there_within f list n (grind (arith, among, among_lines f list n))));
    }

turn_waits : (f : Forest) (list : ℕ) (ks ls : List ℕ) (line n : ℕ) (x : Point) → Waits f list ks ls n → Waits f list ks (line ∷ ls) x.key
    → Waits f list ks ls (moved_to line (element_point n 0) x).key
unfolding moved_to
turn_waits f list ks ls line n x new so = elim (eqb_tells x.key line) [
  | inl own ↦ rw own.0 new
  | inr other ↦ rw other.0 (record {
    here = so.here;
    spared = so.spared;
    turn = λ among. grind (arith, so.turn among, other.0, eqb_tells line x.key, other.1);
  })
]

line_keys : (f : Forest) (ks ls : List ℕ) (list line : ℕ) (w v : Working) → has w.next_key f ≡ false → paragraph_made list line w ≡ Ok v
    → EachKey (Waits f list ks (line ∷ ls)) w → EachKey (Waits f list ks ls) v
unfolding paragraph_made emptied_into
line_keys f ks ls list line w v free e each =
    let n : ℕ = w.next_key in
    let a = first_part (new_step Paragraph plain_element w) (λ o. after (put_before_step n list o) (emptied_into n line)) v e in
    let b = first_part (put_before_step n list a.0) (emptied_into n line) v a.2 in
    let W : ℕ → Type 0 = Waits f list ks (line ∷ ls) in
    let put : EachKey W b.0 = each_same W w b.0 (same_before n list a.0 b.0 b.1 ∙ same_new Paragraph plain_element w a.0 a.1) each in
    let at : Working = pointed (moved_to line (element_point n 0)) b.0 in
    let sent : EachKey (Waits f list ks ls) at =
    each_moved (λ x. W x.key) (λ x. Waits f list ks ls x.key) (moved_to line (element_point n 0)) b.0.selection
    (λ x so. turn_waits f list ks ls line n x (new_waits f list ks ls n free) so) put in
    each_same (Waits f list ks ls) at v (same_each n (filter (is_at is_inline b.0.forest) (children_of b.0.forest line)) at v b.2) sent

-- every line in its turn
record AreTurned (f : Forest) (list : ℕ) (ks : List ℕ) (w v : Working) : Type 0 where
  stays : Stays w v
  keys : EachKey (Waits f list ks []) v

lines_turned : (f : Forest) (ks ls : List ℕ) (list : ℕ) (w v : Working) → Fit w → is_attached w.forest list ≡ true → KindsStay f w.forest
    → in_turn (paragraph_made list) ls w ≡ Ok v → EachKey (Waits f list ks ls) w → AreTurned f list ks w v
unfolding in_turn
lines_turned f ks [] list w v fit place kinds e each =
    let is : w ≡ v = cc in subst (AreTurned f list ks w) is (record { stays = stays_self w fit; keys = each })
lines_turned f ks (line ∷ ls) list w v fit place kinds e each =
    let a = first_part (paragraph_made list line w) (in_turn (paragraph_made list) ls) v e in
    let one = paragraph_fits list line w a.0 fit place a.1 in
    let free : has w.next_key f ≡ false = grind (arith, has_still f w.forest kinds w.next_key, fit.ready.free w.next_key (omega arith)) in
    let keys = line_keys f ks ls list line w a.0 free a.1 each in
    let still : KindsStay f a.0.forest = record { each = λ q kind is. one.kept.each q kind (kinds.each q kind is) } in
    let rest = lines_turned f ks ls list a.0 v one.fit (one.attached list place) still a.2 keys in
    record { stays = stays_then w a.0 v one rest.stays; keys = rest.keys }

-- a node in the list on which a point may still be is the list
only_list : (f : Forest) (list : ℕ) (ks : List ℕ) (q : ℕ) → Waits f list ks [] q → Under f list q → q ≡ list
only_list f list ks q so u = elim (eqb_tells q list) [
  | inl same ↦ same.1
  | inr other ↦ elim (list_or_item f q u.listed) [
    | inl is ↦ absurd (grind (arith, so.here u.inside, is, u.nested other.1 is))
    | inr is ↦
        let line : is_line f q ≡ true = grind (arith, so.here u.inside, is) in
        let among : is_among q (lines_of f list) ≡ true = among_lines f list q ∙ ap₂ ◌&&◌ u.inside line in
        absurd (grind (arith, so.turn among))
  ]
]

-- ---- the whole

-- a draft on which a command goes on, and none of whose points goes with a list around one of these lines
pub record Remains (ks : List ℕ) (w : Working) : Type 0 where
  pub fit : Fit w
  pub places : EachKey (Spared w.forest ks) w

dissolved_remains : (ks : List ℕ) (list line : ℕ) (w v : Working) → Remains (line ∷ ks) w → outermost_above w.forest line ≡ Some list
    → is_attached w.forest list ≡ true → is_outermost w.forest list ≡ true → dissolved list w ≡ Ok v → Remains ks v
unfolding dissolved
dissolved_remains ks list line w v r found place outer e =
    let f : Forest = w.forest in
    let lines : List ℕ = lines_of f list in
    let sound : IsSoundDraft w = record { ready = r.fit.ready; held = r.fit.held } in
    let a = first_part (in_turn (paragraph_made list) lines w) (remove_step list) v e in
    let g : Forest = a.0.forest in
    let above = top_stays list lines w a.0 v sound a.1 a.2 in
    let p : ℕ = above.0 in
    let is : is_at is_list f list ≡ true = grind (arith, outer) in
    let none : is_at is_item f p ≡ false = grind (arith, outer, ap (is_in_item f) above.1) in
    let may = may_say f p list r.fit.ready.in_order r.fit.held above.1 is in
    let said = are_said p list lines w a.0 sound may a.1 in
    let m : IsEmptied f g p list = record { held = r.fit.held; up = above.1; is_list = is; all = said.0 } in
    let start : EachKey (Waits f list ks lines) w =
    each_still (λ x. Spared f (line ∷ ks) x.key) (λ x. Waits f list ks lines x.key) w.selection (λ x so. record {
      here = λ inside. so line list (grind (arith, eqb_tells line line)) found inside;
      spared = λ k around among. so k around (grind (arith, among));
      turn = λ among. among;
    }) r.places in
    let turned = lines_turned f ks lines list w a.0 r.fit place (record { each = λ q kind so. so }) a.1 start in
    let only : (q : ℕ) → Waits f list ks [] q → is_within g list q ≡ true → q ≡ list = λ q so inside. only_list f list ks q so (under f g p list m q inside) in
    let clear : IsClear list a.0 =
    each_still (λ x. Waits f list ks [] x.key) (λ x. is_within g list x.key ≡ true → x.key ≡ list) a.0.selection (λ x so. only x.key so) turned.keys in
    let held : IsHeld may_hold g = turned.stays.fit.held in
    let up : parent_of g list ≡ Some p = list_up f g p list m none in
    let order : IsForest g = turned.stays.fit.ready.in_order in
    let alone : take_step list (sent_away list a.0) ≡ Ok v =
    goes_alone list p a.0 v order up (may_stay g list p held up (said.0.lists list ∙ is) (said.0.item p ∙ none)) a.2 in
    let P : ℕ → Type 0 = Spared (take_out list g) ks in
    let sent : EachKey P (sent_away list a.0) =
    keys_sent P list p a.0 order up
    (each_still (λ x. Waits f list ks [] x.key) (λ x. Sends P g list p x.key) a.0.selection (λ x so. record {
      here = λ same. (
        λ k around among found inside. parent_place f g p list m none,
        λ s s_up k around among found inside. beside_place f g p list m none held s s_up,
      );
      away = λ other. spared_still f g p list m none ks x.key other (only x.key so) (grind (arith, so.turn)) so.spared;
    }) turned.keys) in
    let same : take_out list g ≡ v.forest = sym (taken-forest list (sent_away list a.0) v alone ∙ ap (take_out list) (sent_away-forest list a.0)) in
    let taken : EachKey P v = each_same P (sent_away list a.0) v (same_take list (sent_away list a.0) v alone) sent in
    record {
      fit = remove_fits list a.0 v turned.stays.fit clear a.2;
      places = subst (λ (x : Forest). EachKey (Spared x ks) v) same taken;
    }

-- a line that is passed over
passed : (ks : List ℕ) (line : ℕ) (w : Working) → Remains (line ∷ ks) w → Remains ks w
passed ks line w r = record {
  fit = r.fit;
  places = each_still (λ x. Spared w.forest (line ∷ ks) x.key) (λ x. Spared w.forest ks x.key) w.selection
      (λ x so k around among. so k around (grind (arith, among))) r.places;
}

list_there : (f : Forest) (line list : ℕ) → IsForest f → is_attached f line ≡ true → outermost_above f line ≡ Some list → is_attached f list ≡ true
list_there f line list h there found =
    attached_above f list line h there
    (is_within-ancestors f list line h (there_within f 0 line there)
    ∙ more_among line list (ancestors f line) (found_among (is_outermost f) (ancestors f line) list found))

-- the list around a line of the tree
around_remains : (ks : List ℕ) (line : ℕ) (w v : Working) → Remains (line ∷ ks) w → is_attached w.forest line ≡ true → dissolved_around line w ≡ Ok v
    → Remains ks v
unfolding dissolved_around
around_remains ks line w v r there e = elim (cases_option (outermost_above w.forest line)) [
  | inl none ↦ subst (Remains ks) (was_same w v (rw none at e)) (passed ks line w r)
  | inr (list, found) ↦
      dissolved_remains ks list line w v r found (list_there w.forest line list r.fit.ready.in_order there found)
      (found_passes (is_outermost w.forest) (ancestors w.forest line) list found) (rw found at e)
]

-- every line in its turn
pub lines_remain : (ks : List ℕ) (w v : Working) → Remains ks w → in_turn (step_if_there dissolved_around) ks w ≡ Ok v → Fit v
unfolding in_turn
lines_remain [] w v r e = subst Fit (was_same w v e) r.fit
lines_remain (line ∷ ks) w v r e =
    let a = first_part (step_if_there dissolved_around line w) (in_turn (step_if_there dissolved_around) ks) v e in
    lines_remain ks a.0 v (by_test a.0 (is_attached w.forest line) refl a.1) a.2 where
      by_test : (u : Working) (b : Bool) → is_attached w.forest line ≡ b → cond b (dissolved_around line w) (Ok w) ≡ Ok u → Remains ks u
      by_test u true there so = around_remains ks line w u r there so
      by_test u false out so = subst (Remains ks) (was_same w u so) (passed ks line w r)
