-- What wrapping, unwrapping, moving children and replacing leave.
use Rattle.std.proofs.Common.{◌≡◌, ◌≢◌, ◌∙◌, ℕ, Bool, true, false, cond, List, [], ◌∷◌, ◌++◌, not, Option, Some, Ok, refl, sym, ap, ap₂, subst, arith, Result}
use Rattle.std.proofs.lemmas.Bool.Decides.{eqb_tells}
use Rattle.lx_trees.specs.Siblings.{is_among, names_without, names_with}
use Rattle.lx_node.specs.declared.cause.Point.{Point}
use Rattle.lx_node.specs.declared.cause.Cause.{Cause}
use Rattle.lx_select.specs.Selection.{ends_of}
use Rattle.lx_trees.proofs.Siblings.{is_among-names_with, names_without-absent_list}
use Rattle.lx_forest.specs.Forest.{Forest}
use Rattle.lx_forest.specs.Lookups.{parent_of, children_of, size_of, index_of, IsForest}
use Rattle.lx_forest.specs.Edits.{take_out}
use Rattle.lx_forest.proofs.Lookups.{NoRepeats-children_of, parent_of-self, children_of-take_out}
use Rattle.lx_draft.specs.Working.{Working}
use Rattle.lx_draft.specs.Faults.{after, text_in}
use Rattle.lx_draft.specs.Beside.{put_before_step}
use Rattle.lx_draft.proofs.Gaps.{child_of, parent_here}
use Rattle.lx_edit.specs.InTurn.{in_turn}
use Rattle.lx_edit.specs.Conditions.{children_fault, replace_fault, unwrap_fault}
use Rattle.lx_edit.specs.Edits.{pointed, moved_before, moved_to_end, remove_step, brought, children_moved, children_step, kept, texts_pointed, replace_step, brought_up, unwrapped, unwrap_step}
use Rattle.lx_edit.specs.Texts.{text_or_none}
use Rattle.lx_edit.proofs.Climbed.{first_part}
use Rattle.lx_edit_laws.specs.Reading.{text_at, read_below, in_place_of}
use Rattle.lx_edit_laws.proofs.Reading.{read-leaf, read_without}
use Rattle.lx_edit_laws.proofs.WrapLists.{in_its_place, filter-gone}
use Rattle.lx_edit_laws.proofs.WrapSteps.{was_allowed, was_same, has_above, was_put_before, before_below, silent_element}
use Rattle.lx_edit_laws.proofs.WrapTrees.{not_child, beside, MayStandBefore, not_new, not_self, apart, beside-order, beside-up, beside-up_new, beside-elsewhere}
use Rattle.lx_edit_laws.proofs.WrapTurns.{WentOver, went_over, came_before, removed_alone, HoldsAsSilentGo, was_removed}

-- ---- children that go elsewhere

-- all of them
pub record WentAll (f g : Forest) (from to : ℕ) : Type 0 where
  pub over : WentOver f g from to (children_of f from)
  pub none : children_of g from ≡ []
  pub silent : text_at f from ≡ []

pub went_all : (from to : ℕ) (w v : Working) → IsForest w.forest → from ≢ to → children_step from to w ≡ Ok v → WentAll w.forest v.forest from to
unfolding children_step
went_all from to w v h two e =
    let f : Forest = w.forest in
    let ks : List ℕ = children_of f from in
    let allowed = was_allowed (children_fault from to f) w v (children_moved from to) e in
    let a = first_part (in_turn (moved_to_end to) ks w) (λ u. Ok (brought from to (size_of f to) (ends_of w.selection) u)) v allowed.1 in
    let same : a.0.forest ≡ v.forest = ap (λ (x : Working). x.forest) (was_same (brought from to (size_of f to) (ends_of w.selection) a.0) v a.2) in
    let over : WentOver f v.forest from to ks =
    subst (λ g. WentOver f g from to ks) same
    (went_over from to ks w a.0 h two (NoRepeats-children_of f from h) (λ c among. parent_here f from c h among) a.1) in
    record {
      over = over;
      none = over.left ∙ filter-gone (λ q. not (is_among q ks)) ks (λ q among. ap not among);
      silent = silent_element f from (grind (arith, allowed.0));
    }

-- ---- a node that stands for another, with its children

points_only : (both : Bool) (moved : Point → Point) (w : Working) → (cond both (pointed moved w) w).forest ≡ w.forest
points_only true moved w = refl
points_only false moved w = refl

texts_pointed-forest : (k with : ℕ) (w : Working) → (texts_pointed k with w).forest ≡ w.forest
unfolding texts_pointed
texts_pointed-forest k with w = points_only _ _ w

-- the second was put before the first, got its children, and the first was removed
record WasReplaced (k with : ℕ) (w v : Working) : Type 0 where
  parent : ℕ
  may : MayStandBefore w.forest parent k with
  mid : Working
  put : mid.forest ≡ beside parent k with w.forest
  moved : Working
  each : children_step k with mid ≡ Ok moved
  last : Working
  same : last.forest ≡ moved.forest
  gone : remove_step k last ≡ Ok v

was_replaced : (k with : ℕ) (w v : Working) → IsForest w.forest → replace_step k with true w ≡ Ok v → WasReplaced k with w v
unfolding replace_step
was_replaced k with w v h e =
    let then : Working → Result Working Cause = λ moved. remove_step k (texts_pointed k with moved) in
    let allowed = was_allowed (replace_fault k with true w.forest) w v (λ x. after (put_before_step with k x) (λ put. after (kept true k with put) then)) e in
    let a = first_part (put_before_step with k w) (λ put. after (kept true k with put) then) v allowed.1 in
    let b = first_part (children_step k with a.0) then v a.2 in
    let below = before_below with k w a.0 a.1 in
    let put = was_put_before with k below.0 w a.0 h below.1 a.1 in
    record {
      parent = below.0;
      may = record { in_order = h; up = below.1; can = put.0 };
      mid = a.0;
      put = put.1;
      moved = b.0;
      each = b.1;
      last = texts_pointed k with b.0;
      same = texts_pointed-forest k with b.0;
      gone = b.2;
    }

module _ (k with : ℕ) (w v : Working) (r : WasReplaced k with w v) where
  put_order : IsForest r.mid.forest
  put_order = subst IsForest (sym r.put) (beside-order w.forest r.parent k with r.may)

  -- neither has another parent when the children have gone
  put_up : parent_of r.mid.forest k ≡ Some r.parent
  put_up = ap (λ f. parent_of f k) r.put ∙ beside-up w.forest r.parent k with r.may

  put_up_with : parent_of r.mid.forest with ≡ Some r.parent
  put_up_with = ap (λ f. parent_of f with) r.put ∙ beside-up_new w.forest r.parent k with r.may

  went : WentOver r.mid.forest r.moved.forest k with (children_of r.mid.forest k)
  went = (went_all k with r.mid r.moved put_order (apart w.forest r.parent k with r.may) r.each).over

  stays_put : (q : ℕ) → parent_of r.mid.forest q ≡ Some r.parent → parent_of r.last.forest q ≡ Some r.parent
  stays_put q up =
      ap (λ f. parent_of f q) r.same ∙ went.up q
      ∙ grind (arith, up, not_child r.mid.forest q r.parent k put_order up (not_self w.forest r.parent k with r.may))

  -- nothing above goes too, since the second is there
  gone_alone : v.forest ≡ take_out k r.last.forest
  gone_alone =
      let order : IsForest r.last.forest = subst IsForest (sym r.same) went.in_order in
      removed_alone k r.parent with r.last v order (stays_put k put_up) (child_of r.last.forest r.parent with order (stays_put with put_up_with))
      (λ e. apart w.forest r.parent k with r.may (sym e)) r.gone

  left_with : children_of v.forest with ≡ children_of r.moved.forest with
  left_with =
      let up : parent_of r.moved.forest k ≡ Some r.parent = ap (λ f. parent_of f k) (sym r.same) ∙ stays_put k put_up in
      ap (λ f. children_of f with) (gone_alone ∙ ap (take_out k) r.same)
      ∙ children_of-take_out k r.moved.forest with went.in_order
      ∙ names_without-absent_list k (children_of r.moved.forest with)
      (not_child r.moved.forest k r.parent with went.in_order up (not_new w.forest r.parent k with r.may))

  children_kept : children_of v.forest with ≡ children_of w.forest with ++ children_of w.forest k
  children_kept =
      let before : (q : ℕ) → r.parent ≢ q → children_of r.mid.forest q ≡ children_of w.forest q =
      λ q other. ap (λ f. children_of f q) r.put ∙ beside-elsewhere w.forest r.parent k with r.may q (λ e. other (sym e)) in
      left_with ∙ went.there ∙ ap₂ ◌++◌ (before with (not_new w.forest r.parent k with r.may)) (before k (not_self w.forest r.parent k with r.may))

pub replaced_behind : (k with : ℕ) (w v : Working) → IsForest w.forest → replace_step k with true w ≡ Ok v
    → children_of v.forest with ≡ children_of w.forest with ++ children_of w.forest k
replaced_behind k with w v h e = children_kept k with w v (was_replaced k with w v h e)

-- ---- unwrapped

brought_up-forest : (k : ℕ) (p index : Option ℕ) (before : Option (Point × Point)) (w : Working) → (brought_up k p index before w).forest ≡ w.forest
brought_up-forest k (Some p) (Some index) before w = refl
brought_up-forest k p index before w = refl

-- the children of k came before it in the draft `mid`, from which it was removed
pub record WasUnwrapped (k : ℕ) (w v : Working) : Type 0 where
  pub parent : ℕ
  pub up : parent_of w.forest k ≡ Some parent
  pub silent : text_at w.forest k ≡ []
  pub mid : Working
  pub each : in_turn (moved_before k) (children_of w.forest k) w ≡ Ok mid
  pub last : Working
  pub same : last.forest ≡ mid.forest
  pub gone : remove_step k last ≡ Ok v

pub was_unwrapped : (k : ℕ) (w v : Working) → unwrap_step k w ≡ Ok v → WasUnwrapped k w v
unfolding unwrap_step
was_unwrapped k w v e =
    let f : Forest = w.forest in
    let allowed = was_allowed (unwrap_fault k f) w v (unwrapped k) e in
    let below = has_above f k (grind (arith, allowed.0)) in
    let a = first_part (in_turn (moved_before k) (children_of f k) w) (λ u. remove_step k (brought_up k (parent_of f k) (index_of f k) (ends_of w.selection) u))
    v allowed.1 in
    record {
      parent = below.0;
      up = below.1;
      silent = silent_element f k (grind (arith, allowed.0));
      mid = a.0;
      each = a.1;
      last = brought_up k (parent_of f k) (index_of f k) (ends_of w.selection) a.0;
      same = brought_up-forest k (parent_of f k) (index_of f k) (ends_of w.selection) a.0;
      gone = a.2;
    }

pub reads_stay : (b : ℕ) → HoldsAsSilentGo (λ f g. read_below g b ≡ read_below f b)
reads_stay b = record { self = λ f. refl; then = λ f g h one other. other ∙ one; out = λ k f h silent. read_without f k h silent b }

pub read_unwrapped : (k : ℕ) (w v : Working) (b : ℕ) → IsForest w.forest → unwrap_step k w ≡ Ok v → b ≢ k → read_below v.forest b ≡ read_below w.forest b
read_unwrapped k w v b h e other =
    let u = was_unwrapped k w v e in
    let came = came_before u.parent k (children_of w.forest k) w u.mid h u.up refl u.each in
    let mute : text_at u.mid.forest k ≡ [] = ap (λ o. text_or_none (text_in o)) (came.label k) ∙ u.silent in
    let silent : read_below u.last.forest k ≡ [] = ap (λ f. read_below f k) u.same ∙ read-leaf u.mid.forest k came.in_order came.none ∙ mute in
    was_removed (λ f g. read_below g b ≡ read_below f b) (reads_stay b) k u.last v (subst IsForest (sym u.same) came.in_order) silent u.gone
    ∙ ap (λ f. read_below f b) u.same
    ∙ came.read u.silent b other

-- where there are children, they are in the place of the node
in_place : (k p c : ℕ) (cs : List ℕ) (w v : Working) → IsForest w.forest → WasUnwrapped k w v → parent_of w.forest k ≡ Some p → children_of w.forest k ≡ c ∷ cs
    → children_of v.forest p ≡ in_place_of k (c ∷ cs) (children_of w.forest p)
in_place k p c cs w v h u up below =
    let f : Forest = w.forest in
    let g : Forest = u.last.forest in
    let ks : List ℕ = c ∷ cs in
    let came = came_before p k ks w u.mid h up below (ap (λ xs. in_turn (moved_before k) xs w) (sym below) ∙ u.each) in
    let order : IsForest g = subst IsForest (sym u.same) came.in_order in
    let there : children_of g p ≡ names_with (Some k) ks (children_of f p) = ap (λ x. children_of x p) u.same ∙ came.there in
    let not_self : p ≢ k = λ x. absurd (grind (arith, x, up, parent_of-self f k h, eqb_tells p k)) in
    let not_own : is_among k ks ≡ false = ap (is_among k) (sym below) ∙ not_child f k p k h up not_self in
    let other : c ≢ k = λ x. absurd (grind (arith, x, not_own, eqb_tells c k)) in
    let beside : is_among c (children_of g p) ≡ true =
    ap (is_among c) there ∙ is_among-names_with (Some k) ks (children_of f p) c ∙ grind (arith, eqb_tells c c) in
    let gone : v.forest ≡ take_out k g = removed_alone k p c u.last v order (ap (λ x. parent_of x k) u.same ∙ came.up) beside other u.gone in
    ap (λ x. children_of x p) gone
    ∙ children_of-take_out k g p order
    ∙ ap (names_without k) there
    ∙ in_its_place k ks (children_of f p) (NoRepeats-children_of f p h) (child_of f p k h up) not_own

pub unwrapped_in_place : (k p : ℕ) (w v : Working) → IsForest w.forest → unwrap_step k w ≡ Ok v → parent_of w.forest k ≡ Some p → children_of w.forest k ≢ []
    → children_of v.forest p ≡ in_place_of k (children_of w.forest k) (children_of w.forest p)
unwrapped_in_place k p w v h e up some = by_children (children_of w.forest k) refl where
  by_children : (ks : List ℕ) → children_of w.forest k ≡ ks → children_of v.forest p ≡ in_place_of k (children_of w.forest k) (children_of w.forest p)
  by_children [] is = absurd (some is)
  by_children (c ∷ cs) is = in_place k p c cs w v h (was_unwrapped k w v e) up is ∙ ap (λ xs. in_place_of k xs (children_of w.forest p)) (sym is)
