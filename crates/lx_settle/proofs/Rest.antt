-- Each edit of a rule that isn't idle marks its own node, or takes it out of the root's tree. So settling ends at rest.
use Rattle.std.proofs.Common.{◌≡◌, ◌≢◌, ◌∙◌, ℕ, Bool, true, false, ◌&&◌, not, List, Option, None, Some, option_map, Result, Ok, Err, refl, ap, arith, inl, inr}
use Rattle.std.specs.List.{list_all}
use Rattle.lx_node.specs.Kinds.{is_element, is_text, may_hold}
use Rattle.lx_node.specs.declared.cause.Cause.{Cause}
use Rattle.lx_node.specs.declared.node.View.{View}
use Rattle.lx_step.specs.Patches.{patched, is_in_range}
use Rattle.lx_step.specs.declared.rule.NewNode.{NewNode}
use Rattle.lx_step.specs.declared.rule.SelfEdit.{SelfEdit}
use Rattle.lx_step.specs.declared.rule.SelfEdit.TheVariants.{Set, Add, Remove, Replace, Wrap, Unwrap, Before, After, Child, MergeNext}
use Rattle.lx_trees.specs.Spots.{Spot}
use Rattle.lx_trees.proofs.Subtrees.{count-alone-le}
use Rattle.lx_forest.specs.Lookups.{key_of, has, spot, kind_of, next_of, size_of, is_attached}
use Rattle.lx_forest.specs.Forest.{Forest, Label}
use Rattle.lx_forest.specs.Records.{record_at}
use Rattle.lx_forest.specs.Views.{kind_at, viewed, view_of}
use Rattle.lx_draft.specs.Working.{Working}
use Rattle.lx_draft.specs.Faults.{after}
use Rattle.lx_draft.specs.Steps.{new_step, put_step}
use Rattle.lx_draft.specs.Covering.{IsReady}
use Rattle.lx_draft.proofs.CoveredSteps.{covered-new}
use Rattle.lx_edit.specs.Conditions.{length_at}
use Rattle.lx_draft.specs.Beside.{put_before_step, put_behind_step}
use Rattle.lx_edit.specs.Edits.{replace_step, wrap_step}
use Rattle.lx_rules.specs.Answers.{Answers}
use Rattle.lx_rules.specs.Types.{is_kind, same_kind}
use Rattle.lx_rules.specs.Idle.{differs, has_work, is_root, may_stand, is_suited, is_held, has_text}
use Rattle.lx_settle.specs.Acting.{with_made, is_element_at, merged, has_work_at, act_step}
use Rattle.lx_settle.specs.Settling.{settle_step}
use Rattle.lx_settle.specs.Rested.{is_due, IsRested}
use Rattle.lx_settle.proofs.Carried.{IsCarried, due_of_touched}
use Rattle.lx_settle.proofs.Turned.{ActsAreMarked}
use Rattle.lx_settle.proofs.Settled.{settled_rests}
use Rattle.lx_settle.proofs.Acted.{attached-made, act_carried, join_carried}
use Rattle.lx_settle.proofs.Owned.{work_at, remove_top, replace_top, unwrap_top, wrap_parent, put_parent, put_before_previous, put_behind_next, gone, below_new, above_new, behind_new, before_new, merge_changes}
use Rattle.lx_settle.proofs.Written.{set_changes, add_changes}
use Rattle.lx_settle.proofs.Tests.{first_of, second_of, not_true}

-- ---- what has work isn't the root

stands : (x : View) (new : NewNode) (rest : Bool) → (may_stand x new && rest) ≡ true → is_root x.kind ≡ false
stands x new rest e =
    not_true (is_root x.kind)
    (first_of (not (is_root x.kind)) (is_held x.parent new.kind)
    (second_of (is_suited new) (not (is_root x.kind) && is_held x.parent new.kind) (first_of (may_stand x new) rest e)))

-- an attached node is there
pub there : (f : Forest) (k : ℕ) → is_attached f k ≡ true → has k f ≡ true
there f k e = grind (arith, e, count-alone-le key_of k 0 f)

-- ---- an edit with work leaves its node otherwise than it was, or out of the tree

chain : {Q : Type 0} (new : NewNode) (next : ℕ → Working → Result Working Cause) (w v : Working) → IsReady w
    → ((u : Working) → IsReady u → new_step new.kind new.fields w ≡ Ok u → next w.next_key u ≡ Ok v → Q) → with_made new next w ≡ Ok v → Q
chain {Q = Q} new next w v r last e = by_made (new_step new.kind new.fields w) refl e where
  by_made : (s : Result Working Cause) → new_step new.kind new.fields w ≡ s → after s (next w.next_key) ≡ Ok v → Q
  by_made (Ok u) is f = last u (covered-new new.kind new.fields w u r is).ready is f
  by_made (Err cause) is f = absurd (cc)

-- no key that is there is a new one
other_key : (w : Working) (k : ℕ) → IsReady w → has k w.forest ≡ true → k ≢ w.next_key
other_key w k r here same = grind (arith, here, r.free k (omega (arith, same)))

view_next : (f : Forest) (q : ℕ) (o : Option (Spot Label)) (x : View) → option_map (viewed f q) o ≡ Some x → x.next ≡ kind_at f (next_of f q)
view_next f q None x e = absurd (cc)
view_next f q (Some s) x e = cc

merged_changes : (k : ℕ) (o : Option ℕ) (w v : Working) (x : View) → IsReady w → IsReady v → next_of w.forest k ≡ o → view_of w.forest k ≡ Some x
    → is_kind x.next x.kind ≡ true → merged k o w ≡ Ok v → record_at v.forest k ≡ record_at w.forest k → ⊥
merged_changes k (Some n) w v x r s is seen alike e same = merge_changes k n w v r s is e same
merged_changes k None w v x r s is seen alike e same =
    let none : is_kind x.next x.kind ≡ false = ap (λ o. is_kind o x.kind) (view_next w.forest k (spot w.forest k) x seen ∙ ap (kind_at w.forest) is) in
    grind (arith, none, alike)

pub act_changes : (edit : SelfEdit) (k : ℕ) (w v : Working) (x : View) → IsReady w → IsReady v → view_of w.forest k ≡ Some x → is_attached w.forest k ≡ true
    → has_work x edit ≡ true → act_step edit k w ≡ Ok v
    → spot v.forest k ≡ spot w.forest k → record_at v.forest k ≡ record_at w.forest k → is_attached v.forest k ≡ true → ⊥
unfolding act_step
act_changes (Set patch) k w v x r s seen here work e same links now =
    let otherwise = second_of (list_all is_in_range patch.members) (differs (patched x.kind patch.members x.fields) x.fields) work in
    grind (arith, otherwise, set_changes patch.members k w v x seen e same)
act_changes (Add text) k w v x r s seen here work e same links now =
    add_changes (length_at w.forest k) text k w v x seen (second_of (is_text x.kind) (has_text text) work) e same
act_changes Remove k w v x r s seen here work e same links now = gone k w v x r s seen (not_true (is_root x.kind) work) (remove_top k w v r e) now
act_changes (Replace new) k w v x r s seen here work e same links now =
    gone k w v x r s seen (stands x new (not (same_kind x.kind new.kind) && list_all (may_hold new.kind) x.children) work)
    (chain new (λ made u. replace_step k made (is_element new.kind && is_element_at (kind_of w.forest k)) u) w v r
    (λ u t f g. replace_top k w.next_key (is_element new.kind && is_element_at (kind_of w.forest k)) u v t g) e) now
act_changes (Wrap new) k w v x r s seen here work e same links now =
    below_new k w v r (chain new (λ made. wrap_step k made) w v r (λ u t f g. wrap_parent k w.next_key u v t g) e) same
act_changes Unwrap k w v x r s seen here work e same links now =
    gone k w v x r s seen
    (not_true (is_root x.kind)
    (first_of (not (is_root x.kind)) (list_all (is_held x.parent) x.children)
    (second_of (is_element x.kind) (not (is_root x.kind) && list_all (is_held x.parent) x.children) work))) (unwrap_top k w v r e) now
act_changes (Before new) k w v x r s seen here work e same links now =
    behind_new k w v r (chain new (λ made. put_before_step made k) w v r
    (λ u t f g. put_before_previous k w.next_key u v t (there u.forest k (attached-made new.kind new.fields k w u r here f))
    (other_key w k r (there w.forest k here)) g) e) links
act_changes (After new) k w v x r s seen here work e same links now =
    before_new k w v r (chain new (λ made. put_behind_step made k) w v r
    (λ u t f g. put_behind_next k w.next_key u v t (there u.forest k (attached-made new.kind new.fields k w u r here f))
    (other_key w k r (there w.forest k here)) g) e) links
act_changes (Child new) k w v x r s seen here work e same links now =
    above_new k w v r s (chain new (λ made u. put_step made k (size_of u.forest k) u) w v r (λ u t f g. put_parent w.next_key k (size_of u.forest k) u v t g) e)
    same
act_changes MergeNext k w v x r s seen here work e same links now =
    merged_changes k (next_of w.forest k) w v x r s refl seen (second_of (is_element x.kind) (is_kind x.next x.kind) work) e links

act_marks : (edit : SelfEdit) (k : ℕ) (w v : Working) → IsReady w → is_attached w.forest k ≡ true → has_work_at (view_of w.forest k) edit ≡ true
    → act_step edit k w ≡ Ok v → IsCarried w v → is_attached v.forest k ≡ true → is_due v.fresh k ≡ true
act_marks edit k w v r here work e c now =
    let x = work_at (view_of w.forest k) edit work in
    elim (c.covered.fresh.seen k) [
      | inl same ↦ absurd (act_changes edit k w v x.0 r c.covered.ready x.1 here x.2 e same.0 same.1 now)
      | inr touched ↦ due_of_touched v.fresh k touched
    ]

pub acts_are_marked : ActsAreMarked
acts_are_marked = record {
  act = λ edit k w v r here work e.
      let c = act_carried edit k w v r here e in
      (c, λ now. act_marks edit k w v r here work e c now);
  join = λ k w v r e. join_carried k w v r e;
}

-- Where all that is marked is still to be handled, settling leaves the forest rested for the marks.
pub rests : (rules : List Answers) (w v : Working) → IsReady w → ((q : ℕ) → is_due w.marks q ≡ true → is_due w.fresh q ≡ true) → settle_step rules w ≡ Ok v
    → IsRested rules v.forest v.marks
rests rules w v r all e = settled_rests acts_are_marked rules w v r all e
