-- What is removed, from a node upwards.
use Rattle.std.proofs.Common.{◌≡◌, ◌≢◌, ◌∙◌, ◌+◌, ℕ, Bool, true, false, cond, List, [], ◌∷◌, Option, None, Some, Result, Ok, Err, refl, ap, sym, inl, inr}
use Rattle.lx_node.specs.declared.cause.Cause.{Cause}
use Rattle.lx_trees.specs.Trees.{nil}
use Rattle.lx_select.specs.Selection.{has_point_on}
use Rattle.lx_select.proofs.Apart.{moved_to-apart}
use Rattle.lx_links.specs.Stands.{Sound}
use Rattle.lx_forest.specs.Lookups.{kind_of, parent_of, index_of, ancestors, IsForest}
use Rattle.lx_forest.specs.Edits.{take_out}
use Rattle.lx_forest.proofs.Walks.{ancestors-top, ancestors-step, cases_option}
use Rattle.lx_forest.proofs.Up.{ancestors-take_out_outside}
use Rattle.lx_forest.proofs.Within.{is_within-parent}
use Rattle.lx_draft.specs.Working.{Working}
use Rattle.lx_node.specs.declared.cause.Fault.{Fault}
use Rattle.lx_draft.specs.Faults.{answer, after}
use Rattle.lx_edit.specs.Standing.{Refuses}
use Rattle.lx_edit.proofs.Standing.{refuses_all}
use Rattle.lx_draft.specs.Steps.{take_step}
use Rattle.lx_edit.specs.Edits.{sent_from, sent_away, goes_too, goes_next, removed, remove_step}

-- a step that isn't refused leaves its state
pub answered : {A : Type 0} (o : Option Cause) (a v : A) → answer o a ≡ Ok v → v ≡ a
answered None a v e = cc
answered (Some cause) a v e = cc

-- the two parts of a step after another
pub first_part : (r : Result Working Cause) (next : Working → Result Working Cause) (v : Working) → after r next ≡ Ok v
    → (mid : Working) × (r ≡ Ok mid) × (next mid ≡ Ok v)
first_part (Ok mid) next v e = (mid, refl, e)
first_part (Err cause) next v e = absurd (cc)

sent_forest : (k : ℕ) (p index : Option ℕ) (w : Working) → (sent_from k p index w).forest ≡ w.forest
sent_forest k None index w = refl
sent_forest k (Some p) None w = refl
sent_forest k (Some p) (Some index) w = refl

-- points that are sent away change no node
pub sent_away-forest : (k : ℕ) (w : Working) → (sent_away k w).forest ≡ w.forest
unfolding sent_away
sent_away-forest k w = sent_forest k (parent_of w.forest k) (index_of w.forest k) w

sent_counted : (k : ℕ) (p index : Option ℕ) (w : Working) → (sent_from k p index w).counted ≡ w.counted
sent_counted k None index w = refl
sent_counted k (Some p) None w = refl
sent_counted k (Some p) (Some index) w = refl

pub sent_away-counted : (k : ℕ) (w : Working) → (sent_away k w).counted ≡ w.counted
unfolding sent_away
sent_away-counted k w = sent_counted k (parent_of w.forest k) (index_of w.forest k) w

sent_apart : (k : ℕ) (p index : Option ℕ) (w : Working) → has_point_on k w.selection ≡ false → sent_from k p index w ≡ w
sent_apart k None index w e = refl
sent_apart k (Some p) None w e = refl
sent_apart k (Some p) (Some index) w e = ap (λ s. record w { selection = s }) (moved_to-apart k _ w.selection e)

-- where no point is on the node, none is sent away
pub sent_away-apart : (k : ℕ) (w : Working) → has_point_on k w.selection ≡ false → sent_away k w ≡ w
unfolding sent_away
sent_away-apart k w e = sent_apart k (parent_of w.forest k) (index_of w.forest k) w e

pub taken-forest : (k : ℕ) (w v : Working) → take_step k w ≡ Ok v → v.forest ≡ take_out k w.forest
unfolding take_step
taken-forest k w v e = ap (λ x. x.forest) (answered _ _ v e)

pub taken-counted : (k : ℕ) (w v : Working) → take_step k w ≡ Ok v → v.counted ≡ w.counted + 1
unfolding take_step
taken-counted k w v e = ap (λ x. x.counted) (answered _ _ v e)

pub taken_once : (k : ℕ) (w v : Working) → take_step k (sent_away k w) ≡ Ok v → v.counted ≡ w.counted + 1
taken_once k w v e = taken-counted k (sent_away k w) v e ∙ ap (λ n. n + 1) (sent_away-counted k w)

-- where points could be sent away in a draft that hasn't failed, it was in order
pub order_before : (k : ℕ) (w : Working) → Sound w.forest → (sent_away k w).forest ≢ nil → IsForest w.forest
order_before k w sound living = sound.in_order (λ none. living (sent_away-forest k w ∙ none))

-- what is removed from a node on, if there is one
abbrev pub removed_from : Option ℕ → Working → Result Working Cause
removed_from None w = Ok w
removed_from (Some k) w = remove_step k w

-- above the parent, nothing changes as a node is taken
above_same : (k p : ℕ) (w v : Working) → IsForest w.forest → parent_of w.forest k ≡ Some p → take_step k (sent_away k w) ≡ Ok v
    → ancestors v.forest p ≡ ancestors w.forest p
above_same k p w v order below taken =
    ap (λ f. ancestors f p) (taken-forest k (sent_away k w) v taken ∙ ap (take_out k) (sent_away-forest k w))
    ∙ ancestors-take_out_outside k w.forest p order (is_within-parent w.forest k p order below)

gone_on : (goes : Bool) (p : ℕ) (v : Working) → removed_from (cond goes (Some p) None) v ≡ cond goes (removed p (ancestors v.forest p) v) (Ok v)
unfolding remove_step
gone_on true p v = refl
gone_on false p v = refl

step_below : (k p : ℕ) (w v : Working) → IsForest w.forest → parent_of w.forest k ≡ Some p → take_step k (sent_away k w) ≡ Ok v
    → removed_from (goes_next (kind_of w.forest k) v.forest (Some p)) v ≡ remove_step k w
unfolding remove_step
step_below k p w v order below taken =
    let goes : Bool = goes_too (kind_of w.forest k) v.forest p in
    gone_on goes p v
    ∙ ap (λ above. cond goes (removed p above v) (Ok v)) (above_same k p w v order below taken)
    ∙ sym (ap (λ above. removed k above w) (ancestors-step w.forest k p order below)
    ∙ ap (λ r. after r (λ x. cond (goes_too (kind_of w.forest k) x.forest p) (removed p (ancestors w.forest p) x) (Ok x))) taken)

step_top : (k : ℕ) (w v : Working) → parent_of w.forest k ≡ None → take_step k (sent_away k w) ≡ Ok v
    → removed_from (goes_next (kind_of w.forest k) v.forest None) v ≡ remove_step k w
unfolding remove_step
step_top k w v top taken = sym (ap (λ above. removed k above w) (ancestors-top w.forest k top) ∙ taken)

-- a node was taken out: the rest is what its parent asks for
pub climbed : (k : ℕ) (w v : Working) (next : Option ℕ) → IsForest w.forest → take_step k (sent_away k w) ≡ Ok v
    → next ≡ goes_next (kind_of w.forest k) v.forest (parent_of w.forest k)
    → removed_from next v ≡ remove_step k w
climbed k w v next order taken is =
    ap (λ n. removed_from n v) is
    ∙ elim (cases_option (parent_of w.forest k)) [
      | inl top ↦ ap (λ p. removed_from (goes_next (kind_of w.forest k) v.forest p) v) top ∙ step_top k w v top taken
      | inr below ↦ ap (λ p. removed_from (goes_next (kind_of w.forest k) v.forest p) v) below.1 ∙ step_below k below.0 w v order below.1 taken
    ]

-- it was refused
climb_refused_by : (k : ℕ) (above : List ℕ) (w : Working) (cause : Cause) → take_step k (sent_away k w) ≡ Err cause → removed k above w ≡ Err cause
climb_refused_by k [] w cause e = e
climb_refused_by k (p ∷ above) w cause e = ap (λ r. after r (λ x. cond (goes_too (kind_of w.forest k) x.forest p) (removed p above x) (Ok x))) e

pub climb_refused : (k : ℕ) (w : Working) (cause : Cause) → take_step k (sent_away k w) ≡ Err cause → remove_step k w ≡ Err cause
unfolding remove_step
climb_refused k w cause e = climb_refused_by k (ancestors w.forest k) w cause e

-- ... and so is all of it
pub climb_told : (k : ℕ) (w : Working) {fault : Fault} {new : Working} (all : Result Working Cause) → remove_step k w ≡ all
    → Refuses (take_step k (sent_away k w)) fault new → Refuses all fault new
climb_told k w all same refused = refuses_all (λ cause told. sym same ∙ climb_refused k w cause told) refused
