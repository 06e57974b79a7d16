-- What holds of a draft and the keys that it has made or taken out still holds after each edit of its forest.
use Rattle.std.proofs.Common.{◌≡◌, ◌≢◌, ℕ, ◌+◌, ◌≤◌, ◌||◌, true, false, eqb, List, Option, None, Some, sym, ap, subst, ◌∙◌, arith}
use Rattle.std.proofs.lemmas.Bool.Decides.{eqb_tells}
use Rattle.lx_trees.specs.Trees.{nil}
use Rattle.lx_trees.specs.Siblings.{is_among}
use Rattle.lx_node.specs.Strings.{characters_of}
use Rattle.lx_node.specs.declared.fields.Fields.{Fields}
use Rattle.lx_marks.specs.Marks.{Marked, with_leaf}
use Rattle.lx_marks.proofs.Named.{is_among-with_name}
use Rattle.lx_forest.specs.Forest.{Forest, Label}
use Rattle.lx_forest.specs.Lookups.{has, IsForest}
use Rattle.lx_forest.specs.Edits.{with_new, with_fields, take_out, put_in, CanPut}
use Rattle.lx_forest.specs.Loose.{AreMoved}
use Rattle.lx_forest.proofs.Edits.{parent_of-root}
use Rattle.lx_forest.proofs.Loose.{moved-more, moved-with_new, moved-with_fields, moved-take_out, moved-put_in}
use Rattle.lx_links.specs.Faults.{detach_fault}
use Rattle.lx_node.specs.Limits.{most_depth}
use Rattle.lx_draft.specs.Working.{Working, IsWorking, HasRoom}
use Rattle.lx_draft.specs.Drafted.{IsDrafted}
use Rattle.lx_draft.specs.Raised.{IsRaised, IsRaisedBut}
use Rattle.lx_draft.proofs.Raised.{raised-with_new, raised-with_fields, raised-take_out, raised-put_in}
use Rattle.std.proofs.Common.{Result, Ok, Err, []}
use Rattle.std.specs.Prelude.{OnOk, OnErr}
use Rattle.lx_draft.proofs.Short.{IsShort}
use Rattle.lx_draft.proofs.Kept.{working_nil, working_take, working_put, working_set, working_new}

-- ---- one key more

among-leaf : (k q : ℕ) (m : Marked) → is_among q (with_leaf k m).leaves ≡ (is_among q m.leaves || eqb q k)
unfolding with_leaf
among-leaf k q m = is_among-with_name k m.leaves q

pub leaf_noted : (k : ℕ) (old new : Marked) → new ≡ with_leaf k old → is_among k new.leaves ≡ true
leaf_noted k old new e = ap (λ (m : Marked). is_among k m.leaves) e ∙ grind (arith, among-leaf k k old, eqb_tells k k)

pub leaves_stay : (k : ℕ) (old new : Marked) → new ≡ with_leaf k old → (q : ℕ) → is_among q old.leaves ≡ true → is_among q new.leaves ≡ true
leaves_stay k old new e q among = ap (λ (m : Marked). is_among q m.leaves) e ∙ grind (arith, among, among-leaf k q old)

moved_leaf : (f : Forest) (k : ℕ) (old new : Marked) → new ≡ with_leaf k old → AreMoved most_depth f old.leaves → AreMoved most_depth f new.leaves
moved_leaf f k old new e m = moved-more most_depth f old.leaves new.leaves m (leaves_stay k old new e)

-- ---- after each edit

moved_nil : (ks : List ℕ) → AreMoved most_depth nil ks
moved_nil ks = record {
  loose = λ q there top other. absurd (grind (arith, there));
  shallow = λ q d at deep. absurd (grind (arith, at));
}

pub drafted_nil : (w : Working) (old new : List ℕ) → IsDrafted w old → IsDrafted (record w { forest = nil }) new
drafted_nil w old new i =
    record { working = working_nil w i.working; moved = moved_nil new; raised = λ q p noted at. absurd (grind (arith, at)); raised_fresh = λ q p noted at. absurd (grind (arith, at)) }

pub drafted_new : (w : Working) (g : Forest) (l : Label) (old new : Marked) → IsForest w.forest → IsDrafted w old.leaves → HasRoom w → l.key ≡ w.next_key
    → new ≡ with_leaf l.key old → characters_of l.fields ≤ w.written → g ≡ with_new l w.forest
    → IsDrafted (record w { forest = g; next_key = w.next_key + 1 }) new.leaves
drafted_new w g l old new h i room key noted few made =
    let free : has l.key w.forest ≡ false = ap (λ k. has k w.forest) key ∙ i.working.free w.next_key (omega arith) in
    record {
      working = working_new w g l h i.working room key few made;
      moved = subst (λ f. AreMoved most_depth f new.leaves) (sym made)
          (moved-with_new most_depth l w.forest new.leaves h free (leaf_noted l.key old new noted) (moved_leaf w.forest l.key old new noted i.moved));
      raised = subst (λ f. IsRaised f w.marks) (sym made) (raised-with_new l w.forest w.marks h free i.raised);
      raised_fresh = subst (λ f. IsRaised f w.fresh) (sym made) (raised-with_new l w.forest w.fresh h free i.raised_fresh);
    }

pub drafted_set : (w : Working) (ks : List ℕ) (k : ℕ) (fields : Fields) → IsForest w.forest → IsShort w.written (Some fields) → IsDrafted w ks
    → IsDrafted (record w { forest = with_fields k fields w.forest }) ks
drafted_set w ks k fields h few i = record {
  working = working_set w k fields few i.working;
  moved = moved-with_fields most_depth k fields w.forest ks h i.moved;
  raised = raised-with_fields k fields w.forest w.marks i.raised;
  raised_fresh = raised-with_fields k fields w.forest w.fresh i.raised_fresh;
}

-- what may be taken isn't the root
not_root : (f : Forest) (k : ℕ) → IsForest f → detach_fault k f ≡ None → k ≢ 0
not_root f k h none same = grind (arith, none, same, parent_of-root f h)

pub drafted_take : (w : Working) (old new : Marked) (k : ℕ) → IsForest w.forest → detach_fault k w.forest ≡ None → new ≡ with_leaf k old
    → IsDrafted w old.leaves → IsDrafted (record w { forest = take_out k w.forest }) new.leaves
drafted_take w old new k h none noted i = record {
  working = working_take w k h i.working;
  moved = moved-take_out most_depth k w.forest new.leaves h (not_root w.forest k h none) (leaf_noted k old new noted)
      (moved_leaf w.forest k old new noted i.moved);
  raised = raised-take_out k w.forest w.marks h i.raised;
  raised_fresh = raised-take_out k w.forest w.fresh h i.raised_fresh;
}

working_marked : (w : Working) (marks fresh : Marked) → IsWorking w → IsWorking (record w { marks = marks; fresh = fresh })
working_marked w marks fresh i =
    record { counted = i.counted; edits = i.edits; written = i.written; first = i.first; next = i.next; free = i.free; few = i.few; short = i.short }

pub drafted_put : (w : Working) (ks : List ℕ) (p : ℕ) (before : Option ℕ) (k : ℕ) (marks fresh : Marked) → IsForest w.forest → CanPut p k w.forest
    → IsRaised (put_in p before k w.forest) marks → IsRaised (put_in p before k w.forest) fresh → IsDrafted w ks
    → IsDrafted (record w { forest = put_in p before k w.forest; marks = marks; fresh = fresh }) ks
drafted_put w ks p before k marks fresh h c up up_fresh i = record {
  working = working_marked (record w { forest = put_in p before k w.forest }) marks fresh (working_put w p before k h c i.working);
  moved = moved-put_in most_depth p before k w.forest ks h c i.moved;
  raised = up;
  raised_fresh = up_fresh;
}

pub drafted_marked : (w : Working) (ks : List ℕ) (marks fresh : Marked) → IsRaised w.forest marks → IsRaised w.forest fresh → IsDrafted w ks
    → IsDrafted (record w { marks = marks; fresh = fresh }) ks
drafted_marked w ks marks fresh up up_fresh i =
    record { working = working_marked w marks fresh i.working; moved = i.moved; raised = up; raised_fresh = up_fresh }

pub drafted_lost : (w : Working) (old new : List ℕ) (f : Forest) (marks fresh : Marked) → f ≡ nil → IsDrafted w old
    → IsDrafted (record w { forest = f; marks = marks; fresh = fresh }) new
drafted_lost w old new f marks fresh e i =
    subst (λ g. IsDrafted (record w { forest = g; marks = marks; fresh = fresh }) new) (sym e)
    (record { working = working_marked (record w { forest = nil }) marks fresh (working_nil w i.working); moved = moved_nil new; raised = λ q p noted at. absurd (grind (arith, at)); raised_fresh = λ q p noted at. absurd (grind (arith, at)) })

-- after memory ran out
pub drafted_failed : (w : Working) (old new : List ℕ) (f : Forest) → f ≡ nil → IsDrafted w old → IsDrafted (record w { forest = f }) new
drafted_failed w old new f e i = subst (λ g. IsDrafted (record w { forest = g }) new) (sym e) (drafted_nil w old new i)

-- after nodes were marked twice, or memory ran out
pub drafted_both : {E : Type 0} (r : Result Unit E) (w : Working) (ks : List ℕ) (f : Forest) (marks fresh a b : Marked) → OnOk r (f ≡ w.forest)
    → OnOk r ((marks ≡ a) × IsRaised w.forest marks) → OnOk r ((fresh ≡ b) × IsRaised w.forest fresh) → OnErr r (f ≡ nil)
    → IsDrafted w ks → IsDrafted (record w { forest = f; marks = marks; fresh = fresh }) ks
drafted_both (Ok u) w ks f marks fresh a b same up up_fresh lost i =
    subst (λ g. IsDrafted (record w { forest = g; marks = marks; fresh = fresh }) ks) (sym same) (drafted_marked w ks marks fresh up.1 up_fresh.1 i)
drafted_both (Err e) w ks f marks fresh a b same up up_fresh lost i = drafted_lost w ks ks f marks fresh lost i

-- the same after a put
pub drafted_put_both : {E : Type 0} (r : Result Unit E) (w : Working) (ks : List ℕ) (p : ℕ) (before : Option ℕ) (k : ℕ) (mid f : Forest)
    (marks fresh a b : Marked) → IsForest w.forest → CanPut p k w.forest → mid ≡ put_in p before k w.forest
    → OnOk r (f ≡ mid) → OnOk r ((marks ≡ a) × IsRaised mid marks) → OnOk r ((fresh ≡ b) × IsRaised mid fresh) → OnErr r (f ≡ nil) → IsDrafted w ks
    → IsDrafted (record w { forest = f; marks = marks; fresh = fresh }) ks
drafted_put_both (Ok u) w ks p before k mid f marks fresh a b h c made same up up_fresh lost i =
    subst (λ g. IsDrafted (record w { forest = g; marks = marks; fresh = fresh }) ks) (sym (same ∙ made))
    (drafted_put w ks p before k marks fresh h c (subst (λ g. IsRaised g marks) made up.1) (subst (λ g. IsRaised g fresh) made up_fresh.1) i)
drafted_put_both (Err e) w ks p before k mid f marks fresh a b h c made same up up_fresh lost i = drafted_lost w ks ks f marks fresh lost i

pub put_raised : (w : Working) (ks : List ℕ) (p : ℕ) (before : Option ℕ) (k : ℕ) (mid : Forest) → IsForest w.forest → CanPut p k w.forest
    → mid ≡ put_in p before k w.forest → IsDrafted w ks → IsRaisedBut mid k w.marks × IsRaisedBut mid k w.fresh
put_raised w ks p before k mid h c made i = (
  subst (λ g. IsRaisedBut g k w.marks) (sym made) (raised-put_in p before k w.forest w.marks h c i.raised),
  subst (λ g. IsRaisedBut g k w.fresh) (sym made) (raised-put_in p before k w.forest w.fresh h c i.raised_fresh),
)

pub failed_told : {E : Type 0} (r s : Result Unit E) (v u : Working) → r ≡ s → v ≡ u → OnErr s (u.forest ≡ nil) → OnErr r (v.forest ≡ nil)
failed_told r s v u e g h = rw (e, g) h

-- where leaves are handled, what is left still goes up
pub drafted_round : (w : Working) (ks : List ℕ) (fresh : Marked) → fresh ≡ record w.fresh { leaves = [] } → IsDrafted w ks
    → IsDrafted (record w { fresh = fresh }) ks
drafted_round w ks fresh e i =
    drafted_marked w ks w.marks fresh i.raised (subst (IsRaised w.forest) (sym e) (λ q p noted at. i.raised_fresh q p (grind (arith, noted)) at)) i
