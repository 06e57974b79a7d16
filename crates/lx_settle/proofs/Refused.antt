-- An edit that has work is refused only where no count is left, or too much would be written.
use Rattle.std.proofs.Common.{◌≡◌, ◌∙◌, ℕ, Bool, true, false, cond, eqb, ◌&&◌, not, List, [], ◌∷◌, Option, None, Some, option_map, Ok, refl, sym, ap, subst, arith}
use Rattle.std.specs.List.{list_all, list_any}
use Rattle.std.specs.Prelude.{All}
use Rattle.std.proofs.lemmas.Bool.Decides.{eqb_tells}
use Rattle.std.proofs.lemmas.List.Sums.{AllPass-from_list_all}
use Rattle.lx_node.specs.Kinds.{is_element, is_text, may_hold}
use Rattle.lx_node.specs.OfKind.{IsOfKind, is_of_kind, fits_kind, is_text_of}
use Rattle.lx_trees.specs.Siblings.{is_among, NoRepeats}
use Rattle.lx_node.specs.declared.kind.Kind.{Kind}
use Rattle.lx_node.specs.declared.kind.Kind.TheVariants as kind
use Rattle.lx_node.specs.declared.fields.Fields.{Fields}
use Rattle.lx_node.specs.declared.fields.Fields.TheVariants as fields
use Rattle.lx_node.specs.declared.fields.TextFields.{TextFields}
use Rattle.lx_node.specs.declared.cause.Point.{Point}
use Rattle.lx_node.specs.declared.node.View.{View}
use Rattle.lx_step.specs.Patches.{has as has_member, with_members, patched, is_in_range, IsInRange}
use Rattle.lx_step.specs.declared.member.Member.{Member}
use Rattle.lx_step.specs.declared.rule.NewNode.{NewNode}
use Rattle.lx_step.specs.declared.rule.SelfEdit.{SelfEdit}
use Rattle.lx_step.specs.declared.rule.SelfEdit.TheVariants.{Set, Add, Remove, Replace, Wrap, Unwrap, Before, After, Child, MergeNext}
use Rattle.lx_step.proofs.Kept.{keeps_kind}
use Rattle.lx_select.specs.Selection.{ends_of}
use Rattle.lx_forest.specs.Forest.{Forest, Label}
use Rattle.lx_forest.specs.Lookups.{has, label_of, kind_of, parent_of, children_of, next_of, index_of, is_attached, holds, IsForest, IsHeld}
use Rattle.lx_forest.specs.Edits.{take_out, put_in, CanPut}
use Rattle.lx_forest.specs.Suited.{is_suited as suits, IsSuited}
use Rattle.lx_forest.specs.Views.{kind_at, view_of}
use Rattle.lx_forest.proofs.Lookups.{NoRepeats-children_of, has-parent_of, has-child, parent_of-self, parent_of-take_out}
use Rattle.lx_forest.proofs.Within.{is_within-parent, is_within-up}
use Rattle.lx_draft.specs.Working.{Working}
use Rattle.lx_draft.specs.Selecting.{unlike}
use Rattle.lx_draft.specs.Faults.{after, text_in, text_fields}
use Rattle.lx_draft.specs.Steps.{new_step, splice_step, take_step}
use Rattle.lx_draft.specs.Beside.{put_before_step}
use Rattle.lx_draft.specs.Covering.{IsReady}
use Rattle.lx_draft.proofs.CoveredSteps.{covered-new, covered-take}
use Rattle.lx_edit.specs.InTurn.{in_turn}
use Rattle.lx_edit.specs.Conditions.{length_at, unwrap_fault}
use Rattle.lx_edit.specs.Edits.{moved_before, brought_up, unwrapped, children_step, remove_step, replace_step, wrap_step, unwrap_step}
use Rattle.lx_edit.proofs.Climbed.{first_part, taken-forest}
use Rattle.lx_edit.proofs.Paths.{moved_before_path}
use Rattle.lx_rules.specs.Types.{is_kind, same_kind}
use Rattle.lx_rules.specs.Idle.{differs, has_work, is_root, is_held, is_suited, may_stand, has_text}
use Rattle.lx_draft.proofs.Gaps.{parent_here}
use Rattle.lx_settle.specs.Acting.{written, patched_in, with_made, is_element_at, merged, has_work_at, act_step}
use Rattle.lx_settle.proofs.Owned.{ready_path, work_at, root_at}
use Rattle.lx_settle.proofs.Written.{sees}
use Rattle.lx_settle.proofs.Rest.{there}
use Rattle.lx_settle.proofs.Neighbours.{next_siblings, next_other, attached_parent}
use Rattle.lx_settle.proofs.Alike.{same_hold, same_element}
use Rattle.lx_settle.proofs.Exhausted.{Exhausts, exhausts_ok, exhausts_then, exhausts_allowed, new_exhausts, set_exhausts, splice_exhausts, take_exhausts, remove_exhausts}
use Rattle.lx_settle.proofs.Moving.{IsMovable, HasMoved, can_move, fits-taken, before_exhausts, moved-parent, moved-movable, apart_among, first_among, later_among, apart_child, not_own_child, misfits_none, children_exhausts, children-parent}
use Rattle.lx_settle.proofs.Joinable.{end_none}
use Rattle.lx_settle.proofs.Placed.{held_by, ViewTells, view_tells, has_place, all_fit, fits_by, added, added_stands, new_before_exhausts, new_behind_exhausts, new_child_exhausts, before_put, replace_exhausts, wrap_exhausts}
use Rattle.lx_settle.proofs.Tests.{first_of, second_of, not_true}

like_by : (test : Kind → Bool) (o : Option Kind) (kind : Kind) → o ≡ Some kind → test kind ≡ true → unlike test o ≡ None
like_by test None kind is e = refl
like_by test (Some a) kind is e = let same : a ≡ kind = cc in rw (ap test same ∙ e) refl

-- ---- children that come up

none_if : (b : Bool) (o : Option ℕ) → b ≡ false → cond b None o ≡ o
none_if b o e = ap (λ c. cond c None o) e

own_apart : (f : Forest) (k c : ℕ) → IsForest f → parent_of f c ≡ Some k → eqb k c ≡ false
own_apart f k c h below = grind (arith, parent_of-self f c h, below, eqb_tells k c, eqb_tells c k)

before_moved_exhausts : (k p c : ℕ) (w : Working) → IsReady w → parent_of w.forest k ≡ Some p → IsMovable k p w.forest c → Exhausts (moved_before k c w)
unfolding moved_before
before_moved_exhausts k p c w r below m =
    exhausts_then (take_step c w) (put_before_step c k) (take_exhausts c k w m.below)
    (λ u e. let same : take_out c w.forest ≡ u.forest = sym (taken-forest c w u e) in
    before_exhausts c k p u (covered-take c w u r e).ready.in_order
    (ap (λ f. parent_of f k) (sym same) ∙ parent_of-take_out c w.forest k r.in_order
    ∙ none_if (eqb k c) (parent_of w.forest k) (own_apart w.forest k c r.in_order m.below) ∙ below)
    (subst (λ f. CanPut p c f) same (can_move w.forest c p k r.in_order m.below (has-parent_of w.forest k p below) m.apart))
    (subst (λ f. holds may_hold (kind_of f p) (kind_of f c) ≡ true) same (fits-taken w.forest c p c r.in_order m.fits)))

before_moved : (k p c : ℕ) (w v : Working) → IsReady w → parent_of w.forest k ≡ Some p → eqb k c ≡ false → moved_before k c w ≡ Ok v
    → HasMoved c p w.forest v.forest
unfolding moved_before
before_moved k p c w v r below other e =
    let a = first_part (take_step c w) (put_before_step c k) v e in
    let same : a.0.forest ≡ take_out c w.forest = taken-forest c w a.0 a.1 in
    let above : parent_of a.0.forest k ≡ Some p =
    ap (λ f. parent_of f k) same ∙ parent_of-take_out c w.forest k r.in_order ∙ none_if (eqb k c) (parent_of w.forest k) other ∙ below in
    let m = before_put c k p a.0 v above a.2 in
    record {
      can = subst (λ f. CanPut p c f) same m.can;
      before = m.before;
      is = m.is ∙ ap (put_in p m.before c) same;
    }

all_before : (k p : ℕ) (ks : List ℕ) (w : Working) → IsReady w → NoRepeats ks → parent_of w.forest k ≡ Some p
    → ((c : ℕ) → is_among c ks ≡ true → IsMovable k p w.forest c) → Exhausts (in_turn (moved_before k) ks w)
unfolding in_turn
all_before k p [] w r once below each = exhausts_ok w
all_before k p (x ∷ ks) w r once below each =
    let own = each x (first_among x ks) in
    let other = own_apart w.forest k x r.in_order own.below in
    exhausts_then (moved_before k x w) (in_turn (moved_before k) ks) (before_moved_exhausts k p x w r below own)
    (λ u e. let m = before_moved k p x w u r below other e in
    all_before k p ks u (moved_before_path ready_path k x tt w u r e) once.1 (moved-parent x p k w.forest u.forest r.in_order m other ∙ below)
    (λ c among. moved-movable k p x c w.forest u.forest r.in_order m (apart_among x c ks among once.0) (each c (later_among x c ks among))))

all_before-parent : (k p : ℕ) (ks : List ℕ) (w v : Working) → IsReady w → parent_of w.forest k ≡ Some p → is_among k ks ≡ false
    → in_turn (moved_before k) ks w ≡ Ok v → parent_of v.forest k ≡ Some p
unfolding in_turn
all_before-parent k p [] w v r below other e = let same : w ≡ v = cc in ap (λ (x : Working). parent_of x.forest k) (sym same) ∙ below
all_before-parent k p (x ∷ ks) w v r below other e =
    let a = first_part (moved_before k x w) (in_turn (moved_before k) ks) v e in
    let apart : eqb k x ≡ false = grind (arith, other, eqb_tells k x, eqb_tells x k) in
    let m = before_moved k p x w a.0 r below apart a.1 in
    all_before-parent k p ks a.0 v (moved_before_path ready_path k x tt w a.0 r a.1) (moved-parent x p k w.forest a.0.forest r.in_order m apart ∙ below)
    (grind (arith, other)) a.2

brought-forest : (k : ℕ) (p index : Option ℕ) (before : Option (Point × Point)) (w : Working) → (brought_up k p index before w).forest ≡ w.forest
brought-forest k (Some p) (Some index) before w = refl
brought-forest k None index before w = refl
brought-forest k (Some p) None before w = refl

pub unwrap_exhausts : (k p : ℕ) (w : Working) → IsReady w → parent_of w.forest k ≡ Some p → unlike is_element (kind_of w.forest k) ≡ None
    → ((c : ℕ) → is_among c (children_of w.forest k) ≡ true → holds may_hold (kind_of w.forest p) (kind_of w.forest c) ≡ true) → Exhausts (unwrap_step k w)
unfolding unwrap_step
unwrap_exhausts k p w r below element fits =
    exhausts_allowed (unwrap_fault k w.forest) w (unwrapped k)
    (rw (has-child w.forest k p below, element, below) (misfits_none w.forest (kind_of w.forest p) (children_of w.forest k) fits))
    (exhausts_then (in_turn (moved_before k) (children_of w.forest k) w)
    (λ v. remove_step k (brought_up k (parent_of w.forest k) (index_of w.forest k) (ends_of w.selection) v))
    (all_before k p (children_of w.forest k) w r (NoRepeats-children_of w.forest k r.in_order) below (λ c among.
    let child = parent_here w.forest k c r.in_order among in
    record { below = child; apart = apart_child w.forest k p c r.in_order (is_within-parent w.forest k p r.in_order below) child; fits = fits c among }))
    (λ v e. remove_exhausts k p (brought_up k (parent_of w.forest k) (index_of w.forest k) (ends_of w.selection) v)
    (ap (λ f. parent_of f k) (brought-forest k (parent_of w.forest k) (index_of w.forest k) (ends_of w.selection) v)
    ∙ all_before-parent k p (children_of w.forest k) w v r below (not_own_child w.forest k r.in_order) e)))

-- ---- the next sibling

pub merge_exhausts : (k n : ℕ) (a b : Kind) (w : Working) → IsReady w → IsHeld may_hold w.forest → next_of w.forest k ≡ Some n → kind_of w.forest k ≡ Some a
    → kind_of w.forest n ≡ Some b → is_element a ≡ true → same_kind b a ≡ true
    → Exhausts (after (children_step n k w) (remove_step n))
merge_exhausts k n a b w r held next is_a is_b element alike =
    let s = next_siblings w.forest k n r.in_order next in
    exhausts_then (children_step n k w) (remove_step n)
    (children_exhausts n k w r (record {
      from_there = has-child w.forest n s.parent s.second;
      to_there = has-child w.forest k s.parent s.first;
      from_element = like_by is_element (kind_of w.forest n) b is_b (same_element b a alike ∙ element);
      to_element = like_by is_element (kind_of w.forest k) a is_a element;
      apart = is_within-up w.forest n k s.parent r.in_order s.first (next_other w.forest k n r.in_order next)
          ∙ is_within-parent w.forest n s.parent r.in_order s.second;
      fits = λ c among. fits_by (kind_of w.forest k) (kind_of w.forest c) (λ inner at.
          ap (λ o. holds may_hold o (Some inner)) is_a ∙ sym (same_hold b a inner alike)
          ∙ ap (λ o. holds may_hold o (Some inner)) (sym is_b) ∙ ap (holds may_hold (kind_of w.forest n)) (sym at)
          ∙ held.each c n (parent_here w.forest n c r.in_order among));
    }))
    (λ u e. remove_exhausts n s.parent u (children-parent n k w u r e ∙ s.second))

-- ---- fields

suited_at : (f : Forest) (k : ℕ) (l : Label) → IsSuited f → label_of f k ≡ Some l → IsOfKind l.kind l.fields
suited_at f k l s is = ap suits (sym is) ∙ s.each k

patched_of_kind : (b : Bool) (kind : Kind) (ms : List Member) (old new : Fields) → list_all (has_member kind) ms ≡ b → All IsInRange ms → IsOfKind kind old
    → cond b (Some (with_members ms old)) None ≡ Some new → IsOfKind kind new
patched_of_kind true kind ms old new may ranged of e =
    let same : with_members ms old ≡ new = cc in subst (IsOfKind kind) same (keeps_kind kind ms old of may ranged)
patched_of_kind false kind ms old new may ranged of e = absurd (cc)

patched_suits : (kind : Kind) (ms : List Member) (old new : Fields) → All IsInRange ms → IsOfKind kind old → patched kind ms old ≡ Some new → IsOfKind kind new
unfolding patched
patched_suits kind ms old new ranged of e = patched_of_kind (list_all (has_member kind) ms) kind ms old new refl ranged of e

write_exhausts : (o : Option Fields) (k : ℕ) (l : Label) (w : Working) → has k w.forest ≡ true → label_of w.forest k ≡ Some l
    → ((new : Fields) → o ≡ Some new → IsOfKind l.kind new) → Exhausts (written o k w)
write_exhausts None k l w known is of = exhausts_ok w
write_exhausts (Some new) k l w known is of =
    set_exhausts k new w (rw (known, ap (option_map (λ (x : Label). x.kind)) is, of new refl) refl)

pub patch_exhausts : (ms : List Member) (k : ℕ) (x : View) (w : Working) → IsSuited w.forest → has k w.forest ≡ true → view_of w.forest k ≡ Some x
    → All IsInRange ms → Exhausts (written (patched_in (label_of w.forest k) ms) k w)
patch_exhausts ms k x w suited known seen ranged =
    let s = sees w.forest k x seen in
    subst (λ o. Exhausts (written (patched_in o ms) k w)) (sym s.is)
    (write_exhausts (patched s.label.kind ms s.label.fields) k s.label w known s.is
    (λ new e. patched_suits s.label.kind ms s.label.fields new ranged (suited_at w.forest k s.label suited s.is) e))

text_fields_of : (k : Kind) (f : Fields) → is_text k ≡ true → IsOfKind k f → (t : TextFields) × (text_fields k f ≡ Some t)
unfolding is_text is_of_kind fits_kind is_text_of
text_fields_of kind.Text (fields.Text t) text of = (t, refl)
text_fields_of kind.Text _ text of = absurd (grind (arith, of))
text_fields_of _ f text of = absurd (cc)

pub add_exhausts : (text : List ℕ) (k : ℕ) (x : View) (w : Working) → IsSuited w.forest → view_of w.forest k ≡ Some x → is_text x.kind ≡ true
    → Exhausts (splice_step k (length_at w.forest k) (length_at w.forest k) text w)
add_exhausts text k x w suited seen is =
    let s = sees w.forest k x seen in
    let t = text_fields_of s.label.kind s.label.fields (ap is_text (sym s.kind) ∙ is) (suited_at w.forest k s.label suited s.is) in
    splice_exhausts k (length_at w.forest k) (length_at w.forest k) text w (end_none w.forest k t.0 (ap text_in s.is ∙ t.1))

-- ---- the edits of rules

-- a node that isn't the root is below another
node_parent : (f : Forest) (k : ℕ) (x : View) → IsForest f → view_of f k ≡ Some x → is_attached f k ≡ true → is_root x.kind ≡ false
    → (p : ℕ) × (parent_of f k ≡ Some p)
node_parent f k x h seen here other = attached_parent f k h here (λ root. grind (arith, root_at f k x h root seen, other))

children_fit : (f : Forest) (k : ℕ) (x : View) (outer : Option Kind) (test : Kind → Bool) → ViewTells f k x → list_all test x.children ≡ true
    → ((inner : Kind) → test inner ≡ true → holds may_hold outer (Some inner) ≡ true)
    → (c : ℕ) → is_among c (children_of f k) ≡ true → holds may_hold outer (kind_of f c) ≡ true
children_fit f k x outer test t all held c among =
    fits_by outer (kind_of f c) (λ inner at. held inner (all_fit f test (children_of f k) (ap (list_all test) (sym t.children) ∙ all) c inner among at))

element_like : (f : Forest) (k : ℕ) → is_element_at (kind_of f k) ≡ true → unlike is_element (kind_of f k) ≡ None
element_like f k e = by_kind (kind_of f k) e where
  by_kind : (o : Option Kind) → is_element_at o ≡ true → unlike is_element o ≡ None
  by_kind None e = refl
  by_kind (Some kind) e = rw e refl

-- what a new node rests on that is where another is
stands_held : (x : View) (new : NewNode) (rest : Bool) → (may_stand x new && rest) ≡ true → is_held x.parent new.kind ≡ true
stands_held x new rest e =
    second_of (not (is_root x.kind)) (is_held x.parent new.kind)
    (second_of (is_suited new) (not (is_root x.kind) && is_held x.parent new.kind) (first_of (may_stand x new) rest e))

replace_new : (new : NewNode) (k : ℕ) (x : View) (w : Working) → IsReady w → has k w.forest ≡ true → ViewTells w.forest k x → is_held x.parent new.kind ≡ true
    → list_all (may_hold new.kind) x.children ≡ true
    → Exhausts (with_made new (λ made v. replace_step k made (is_element new.kind && is_element_at (kind_of w.forest k)) v) w)
replace_new new k x w r known t held fit =
    let keep : Bool = is_element new.kind && is_element_at (kind_of w.forest k) in
    let place = has_place w.forest k x new.kind t held in
    exhausts_then (new_step new.kind new.fields w) (λ v. replace_step k w.next_key keep v) (new_exhausts new.kind new.fields w)
    (λ u e. let a = added new.kind new.fields w u r e in
    replace_exhausts k w.next_key place.parent keep u (covered-new new.kind new.fields w u r e).ready
    (added_stands w.next_key k w.forest u.forest new.kind r.in_order a known place)
    (λ keeps. record {
      first = ap (unlike is_element) (a.kinds k known) ∙ element_like w.forest k (second_of (is_element new.kind) (is_element_at (kind_of w.forest k)) keeps);
      second = like_by is_element (kind_of u.forest w.next_key) new.kind a.own (first_of (is_element new.kind) (is_element_at (kind_of w.forest k)) keeps);
      fits = λ c among.
          let was : is_among c (children_of w.forest k) ≡ true = ap (is_among c) (sym (a.children k)) ∙ among in
          ap (λ o. holds may_hold o (kind_of u.forest c)) a.own
          ∙ ap (holds may_hold (Some new.kind)) (a.kinds c (has-child w.forest c k (parent_here w.forest k c r.in_order was)))
          ∙ children_fit w.forest k x (Some new.kind) (may_hold new.kind) t fit (λ inner h. h) c was;
    }))

wrap_new : (new : NewNode) (k : ℕ) (x : View) (w : Working) → IsReady w → has k w.forest ≡ true → ViewTells w.forest k x → is_held x.parent new.kind ≡ true
    → may_hold new.kind x.kind ≡ true
    → Exhausts (with_made new (λ made. wrap_step k made) w)
wrap_new new k x w r known t held fit =
    let place = has_place w.forest k x new.kind t held in
    exhausts_then (new_step new.kind new.fields w) (wrap_step k w.next_key) (new_exhausts new.kind new.fields w)
    (λ u e. let a = added new.kind new.fields w u r e in
    wrap_exhausts k w.next_key place.parent u (covered-new new.kind new.fields w u r e).ready
    (added_stands w.next_key k w.forest u.forest new.kind r.in_order a known place)
    (ap (λ o. holds may_hold o (kind_of u.forest k)) a.own ∙ ap (holds may_hold (Some new.kind)) (a.kinds k known ∙ t.kind) ∙ fit))

merged_exhausts : (k : ℕ) (o : Option ℕ) (x : View) (w : Working) → IsReady w → IsHeld may_hold w.forest → ViewTells w.forest k x → next_of w.forest k ≡ o
    → is_element x.kind ≡ true → is_kind (kind_at w.forest o) x.kind ≡ true → Exhausts (merged k o w)
merged_exhausts k None x w r held t next element alike = exhausts_ok w
merged_exhausts k (Some n) x w r held t next element alike = by_kind (kind_of w.forest n) refl alike where
  by_kind : (o : Option Kind) → kind_of w.forest n ≡ o → is_kind o x.kind ≡ true → Exhausts (after (children_step n k w) (remove_step n))
  by_kind None is e = absurd (cc)
  by_kind (Some b) is e = merge_exhausts k n x.kind b w r held next t.kind is element e

pub seen_exhausts : (edit : SelfEdit) (k : ℕ) (x : View) (w : Working) → IsReady w → IsHeld may_hold w.forest → IsSuited w.forest
    → is_attached w.forest k ≡ true → view_of w.forest k ≡ Some x → has_work x edit ≡ true → Exhausts (act_step edit k w)
unfolding act_step
seen_exhausts (Set patch) k x w r held suited here seen work =
    patch_exhausts patch.members k x w suited (there w.forest k here) seen
    (AllPass-from_list_all is_in_range patch.members
    (first_of (list_all is_in_range patch.members) (differs (patched x.kind patch.members x.fields) x.fields) work))
seen_exhausts (Add text) k x w r held suited here seen work = add_exhausts text k x w suited seen (first_of (is_text x.kind) (has_text text) work)
seen_exhausts Remove k x w r held suited here seen work =
    let p = node_parent w.forest k x r.in_order seen here (not_true (is_root x.kind) work) in remove_exhausts k p.0 w p.1
seen_exhausts (Replace new) k x w r held suited here seen work =
    let rest : Bool = not (same_kind x.kind new.kind) && list_all (may_hold new.kind) x.children in
    replace_new new k x w r (there w.forest k here) (view_tells w.forest k x seen) (stands_held x new rest work)
    (second_of (not (same_kind x.kind new.kind)) (list_all (may_hold new.kind) x.children) (second_of (may_stand x new) rest work))
seen_exhausts (Wrap new) k x w r held suited here seen work =
    let rest : Bool = not (is_kind x.parent new.kind) && may_hold new.kind x.kind in
    wrap_new new k x w r (there w.forest k here) (view_tells w.forest k x seen) (stands_held x new rest work)
    (second_of (not (is_kind x.parent new.kind)) (may_hold new.kind x.kind) (second_of (may_stand x new) rest work))
seen_exhausts Unwrap k x w r held suited here seen work =
    let rest : Bool = not (is_root x.kind) && list_all (is_held x.parent) x.children in
    let t = view_tells w.forest k x seen in
    let more = second_of (is_element x.kind) rest work in
    let p = node_parent w.forest k x r.in_order seen here
    (not_true (is_root x.kind) (first_of (not (is_root x.kind)) (list_all (is_held x.parent) x.children) more)) in
    let above : x.parent ≡ kind_of w.forest p.0 = t.parent ∙ ap (kind_at w.forest) p.1 in
    unwrap_exhausts k p.0 w r p.1 (like_by is_element (kind_of w.forest k) x.kind t.kind (first_of (is_element x.kind) rest work))
    (children_fit w.forest k x (kind_of w.forest p.0) (is_held x.parent) t (second_of (not (is_root x.kind)) (list_all (is_held x.parent) x.children) more)
    (λ inner h. held_by (kind_of w.forest p.0) inner (ap (λ o. is_held o inner) (sym above) ∙ h)))
seen_exhausts (Before new) k x w r held suited here seen work =
    new_before_exhausts new k w r (has_place w.forest k x new.kind (view_tells w.forest k x seen) (stands_held x new (not (is_kind x.prev new.kind)) work))
seen_exhausts (After new) k x w r held suited here seen work =
    new_behind_exhausts new k w r (has_place w.forest k x new.kind (view_tells w.forest k x seen) (stands_held x new (not (is_kind x.next new.kind)) work))
seen_exhausts (Child new) k x w r held suited here seen work =
    let rest : Bool = may_hold x.kind new.kind && not (list_any (same_kind new.kind) x.children) in
    new_child_exhausts new k w r (there w.forest k here)
    (ap (λ o. holds may_hold o (Some new.kind)) (view_tells w.forest k x seen).kind
    ∙ first_of (may_hold x.kind new.kind) (not (list_any (same_kind new.kind) x.children)) (second_of (is_suited new) rest work))
seen_exhausts MergeNext k x w r held suited here seen work =
    let t = view_tells w.forest k x seen in
    merged_exhausts k (next_of w.forest k) x w r held t refl (first_of (is_element x.kind) (is_kind x.next x.kind) work)
    (ap (λ o. is_kind o x.kind) (sym t.next) ∙ second_of (is_element x.kind) (is_kind x.next x.kind) work)

pub act_exhausts : (edit : SelfEdit) (k : ℕ) (w : Working) → IsReady w → IsHeld may_hold w.forest → IsSuited w.forest → is_attached w.forest k ≡ true
    → has_work_at (view_of w.forest k) edit ≡ true → Exhausts (act_step edit k w)
act_exhausts edit k w r held suited here work =
    let x = work_at (view_of w.forest k) edit work in seen_exhausts edit k x.0 w r held suited here x.1 x.2
