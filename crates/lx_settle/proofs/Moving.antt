-- Children that are moved elsewhere: where kinds allow it, nothing but a lack of counts refuses that.
use Rattle.std.proofs.Common.{◌≡◌, ◌≢◌, ◌∙◌, ℕ, ◌+◌, ◌≤◌, Bool, true, false, cond, eqb, ◌&&◌, ◌||◌, List, [], ◌∷◌, Option, None, Some, Result, Ok, refl, sym, ap, subst, arith, inl, inr}
use Rattle.std.specs.Prelude.{is_some, slice_get}
use Rattle.std.specs.Option.{option_or}
use Rattle.std.proofs.lemmas.Bool.{cases_Bool}
use Rattle.std.proofs.lemmas.Bool.Decides.{eqb_tells}
use Rattle.lx_node.specs.Kinds.{is_element, may_hold}
use Rattle.lx_trees.specs.Siblings.{is_among, is_named, index_in, NoRepeats}
use Rattle.lx_node.specs.declared.kind.Kind.{Kind}
use Rattle.lx_node.specs.declared.cause.Cause.{Cause}
use Rattle.lx_trees.proofs.Positions.{index_in-lt}
use Rattle.lx_trees.proofs.Siblings.{is_some-index_in}
use Rattle.lx_forest.specs.Forest.{Forest}
use Rattle.lx_forest.specs.Lookups.{has, kind_of, parent_of, children_of, children_below, size_of, index_of, is_within, holds, IsForest}
use Rattle.lx_forest.specs.Edits.{take_out, put_in, CanPut}
use Rattle.lx_forest.proofs.Edits.{parent_of-root}
use Rattle.lx_forest.proofs.Lookups.{is_among-children_of, NoRepeats-children_of, has-child, has-parent_of, parent_of-self, parent_of-take_out, parent_of-put_in, kind_of-take_out, kind_of-put_in}
use Rattle.lx_forest.proofs.Order.{IsForest-take_out}
use Rattle.lx_forest.proofs.Walks.{cases_option}
use Rattle.lx_forest.proofs.Within.{is_within-self, is_within-trans, is_within-up, is_within-take_out, is_within-put_in}
use Rattle.lx_draft.specs.Working.{Working}
use Rattle.lx_select.specs.Selection.{ends_of}
use Rattle.lx_draft.specs.Selecting.{unlike}
use Rattle.lx_draft.specs.Faults.{over_counts, put_fault}
use Rattle.lx_draft.specs.Steps.{take_step, node_placed, put_step}
use Rattle.lx_draft.specs.Beside.{before_at, put_before_step, behind_at, put_behind_step}
use Rattle.lx_draft.specs.Covering.{IsReady}
use Rattle.lx_draft.proofs.Put.{both_none, can_put}
use Rattle.lx_draft.proofs.Covered.{answered}
use Rattle.lx_draft.proofs.Gaps.{parent_here}
use Rattle.lx_draft.proofs.Touched.{is_some-kind_of}
use Rattle.lx_edit.specs.InTurn.{in_turn}
use Rattle.lx_edit.specs.Conditions.{misfit_among, children_fault}
use Rattle.lx_edit.specs.Edits.{moved_to_end, brought, children_moved, children_step}
use Rattle.lx_edit.proofs.Paths.{moved_to_end_path}
use Rattle.lx_edit.proofs.Climbed.{first_part, taken-forest}
use Rattle.lx_settle.proofs.Owned.{ready_path, allowed_by}
use Rattle.lx_settle.proofs.Exhausted.{Exhausts, exhausts_ok, exhausts_then, exhausts_allowed, misfit_none, take_exhausts, put_exhausts}

-- ---- a node that was taken out

pub has-taken : (f : Forest) (k q : ℕ) → IsForest f → has q f ≡ true → has q (take_out k f) ≡ true
has-taken f k q h there = sym (is_some-kind_of (take_out k f) q) ∙ ap is_some (kind_of-take_out k f q h) ∙ is_some-kind_of f q ∙ there

below_root : (f : Forest) (k q : ℕ) → IsForest f → parent_of f k ≡ Some q → k ≢ 0
below_root f k q h below root = let both : ◌≡◌ {A = Option ℕ} None (Some q) = sym (parent_of-root f h) ∙ ap (parent_of f) (sym root) ∙ below in cc

out_of : (a b : Bool) → a ≡ false → (a && b) ≡ false
out_of a b e = grind (arith, e)

pub can_move : (f : Forest) (k p q : ℕ) → IsForest f → parent_of f k ≡ Some q → has p f ≡ true → is_within f k p ≡ false → CanPut p k (take_out k f)
can_move f k p q h below there apart = record {
  other = below_root f k q h below;
  there = has-taken f k k h (has-child f k q below);
  detached = parent_of-take_out k f k h ∙ grind (arith, eqb_tells k k);
  parent = has-taken f k p h there;
  outside = is_within-take_out k f k p h ∙ out_of (is_within f k p) _ apart;
}

pub fits-taken : (f : Forest) (k p c : ℕ) → IsForest f → holds may_hold (kind_of f p) (kind_of f c) ≡ true
    → holds may_hold (kind_of (take_out k f) p) (kind_of (take_out k f) c) ≡ true
fits-taken f k p c h e =
    ap (λ o. holds may_hold o (kind_of (take_out k f) c)) (kind_of-take_out k f p h) ∙ ap (holds may_hold (kind_of f p)) (kind_of-take_out k f c h) ∙ e

-- ---- beside another

before_some : (made k p i : ℕ) (o x : Option ℕ) (w : Working) → o ≡ Some p → x ≡ Some i → Exhausts (put_step made p i w) → Exhausts (before_at made k o x w)
before_some made k p i o x w e f c =
    subst (λ a. Exhausts (before_at made k a x w)) (sym e) (subst (λ b. Exhausts (before_at made k (Some p) b w)) (sym f) c)

behind_some : (made k p i : ℕ) (o x : Option ℕ) (w : Working) → o ≡ Some p → x ≡ Some i → Exhausts (put_step made p (i + 1) w)
    → Exhausts (behind_at made k o x w)
behind_some made k p i o x w e f c =
    subst (λ a. Exhausts (behind_at made k a x w)) (sym e) (subst (λ b. Exhausts (behind_at made k (Some p) b w)) (sym f) c)

-- where a child is
pub place_of : (f : Forest) (k p : ℕ) → IsForest f → parent_of f k ≡ Some p → (i : ℕ) × (index_of f k ≡ Some i) × (i + 1 ≤ size_of f p)
place_of f k p h below =
    let among : is_among k (children_of f p) ≡ true = is_among-children_of f k p h ∙ ap (λ o. is_named o p) below ∙ grind (arith, eqb_tells p p) in
    let same : index_of f k ≡ index_in (children_of f p) k = ap (λ o. index_in (children_below f o) k) below in
    elim (cases_option (index_in (children_of f p) k)) [
      | inl none ↦ absurd (grind (arith, none, among, is_some-index_in (children_of f p) k))
      | inr (i, is) ↦ (i, same ∙ is, omega (arith, index_in-lt (children_of f p) k i is))
    ]

pub before_exhausts : (made k p : ℕ) (w : Working) → IsForest w.forest → parent_of w.forest k ≡ Some p → CanPut p made w.forest
    → holds may_hold (kind_of w.forest p) (kind_of w.forest made) ≡ true → Exhausts (put_before_step made k w)
unfolding put_before_step
before_exhausts made k p w h below can fits =
    let i = place_of w.forest k p h below in
    before_some made k p i.0 (parent_of w.forest k) (index_of w.forest k) w below i.1 (put_exhausts made p i.0 w can fits (omega (arith, i.2)))

pub behind_exhausts : (made k p : ℕ) (w : Working) → IsForest w.forest → parent_of w.forest k ≡ Some p → CanPut p made w.forest
    → holds may_hold (kind_of w.forest p) (kind_of w.forest made) ≡ true → Exhausts (put_behind_step made k w)
unfolding put_behind_step
behind_exhausts made k p w h below can fits =
    let i = place_of w.forest k p h below in
    behind_some made k p i.0 (parent_of w.forest k) (index_of w.forest k) w below i.1 (put_exhausts made p (i.0 + 1) w can fits i.2)

-- ---- a child that moves

-- a child of one node that another can have
pub record IsMovable (from p : ℕ) (f : Forest) (c : ℕ) : Type 0 where
  pub below : parent_of f c ≡ Some from
  pub apart : is_within f c p ≡ false
  pub fits : holds may_hold (kind_of f p) (kind_of f c) ≡ true

-- what a move came to
pub record HasMoved (c p : ℕ) (f g : Forest) : Type 0 where
  pub can : CanPut p c (take_out c f)
  pub before : Option ℕ
  pub is : g ≡ put_in p before c (take_out c f)

pub end_exhausts : (from p c : ℕ) (w : Working) → IsForest w.forest → has p w.forest ≡ true → IsMovable from p w.forest c → Exhausts (moved_to_end p c w)
unfolding moved_to_end
end_exhausts from p c w h there m =
    exhausts_then (take_step c w) (λ u. put_step c p (size_of u.forest p) u) (take_exhausts c from w m.below)
    (λ u e. let same : take_out c w.forest ≡ u.forest = sym (taken-forest c w u e) in
    put_exhausts c p (size_of u.forest p) u (subst (CanPut p c) same (can_move w.forest c p from h m.below there m.apart))
    (subst (λ f. holds may_hold (kind_of f p) (kind_of f c) ≡ true) same (fits-taken w.forest c p c h m.fits)) (omega arith))

put_moved : (c p index : ℕ) (w u v : Working) → take_step c w ≡ Ok u → put_step c p index u ≡ Ok v → HasMoved c p w.forest v.forest
unfolding put_step
put_moved c p index w u v first e =
    let a = answered (option_or (put_fault c p index u.forest) (over_counts u)) (node_placed c p index u) v e in
    let can = can_put u.forest c p index ((both_none (put_fault c p index u.forest) (over_counts u) a.0).0) in
    let same : u.forest ≡ take_out c w.forest = taken-forest c w u first in
    record {
      can = subst (CanPut p c) same can;
      before = slice_get (children_of u.forest p) index;
      is = ap (λ (x : Working). x.forest) (sym a.1) ∙ ap (put_in p (slice_get (children_of u.forest p) index) c) same;
    }

end_moved : (p c : ℕ) (w v : Working) → moved_to_end p c w ≡ Ok v → HasMoved c p w.forest v.forest
unfolding moved_to_end
end_moved p c w v e =
    let a = first_part (take_step c w) (λ u. put_step c p (size_of u.forest p) u) v e in
    put_moved c p (size_of a.0.forest p) w a.0 v a.1 a.2

-- the parent of another stays
pub moved-parent : (c p q : ℕ) (f g : Forest) → IsForest f → HasMoved c p f g → eqb q c ≡ false → parent_of g q ≡ parent_of f q
moved-parent c p q f g h m other =
    ap (λ x. parent_of x q) m.is ∙ parent_of-put_in p m.before c (take_out c f) q (IsForest-take_out c f h) m.can
    ∙ ap (λ b. cond b (Some p) (parent_of (take_out c f) q)) other ∙ parent_of-take_out c f q h
    ∙ ap (λ b. cond b (let o : Option ℕ = None in o) (parent_of f q)) other

moved-within : (c p q : ℕ) (f g : Forest) → IsForest f → HasMoved c p f g → is_within f q p ≡ false → is_within g q p ≡ false
moved-within c p q f g h m apart =
    let taken : is_within (take_out c f) q p ≡ false = is_within-take_out c f q p h ∙ out_of (is_within f q p) _ apart in
    ap (λ x. is_within x q p) m.is ∙ is_within-put_in p m.before c (take_out c f) q p (IsForest-take_out c f h) m.can
    ∙ neither (is_within (take_out c f) q p) (is_within (take_out c f) c p) taken where
      neither : (a b : Bool) → a ≡ false → (a || (b && a)) ≡ false
      neither a b e = grind (arith, e)

pub moved-kind : (c p q : ℕ) (f g : Forest) → IsForest f → HasMoved c p f g → kind_of g q ≡ kind_of f q
moved-kind c p q f g h m = ap (λ x. kind_of x q) m.is ∙ kind_of-put_in p m.before c (take_out c f) q (IsForest-take_out c f h) m.can ∙ kind_of-take_out c f q h

pub moved-has : (c p q : ℕ) (f g : Forest) → IsForest f → HasMoved c p f g → has q f ≡ true → has q g ≡ true
moved-has c p q f g h m there = sym (is_some-kind_of g q) ∙ ap is_some (moved-kind c p q f g h m) ∙ is_some-kind_of f q ∙ there

pub moved-movable : (from p x c : ℕ) (f g : Forest) → IsForest f → HasMoved x p f g → eqb c x ≡ false → IsMovable from p f c → IsMovable from p g c
moved-movable from p x c f g h m other is = record {
  below = moved-parent x p c f g h m other ∙ is.below;
  apart = moved-within x p c f g h m is.apart;
  fits = ap (λ o. holds may_hold o (kind_of g c)) (moved-kind x p p f g h m) ∙ ap (holds may_hold (kind_of f p)) (moved-kind x p c f g h m) ∙ is.fits;
}

-- ---- children one after another

pub apart_among : (x c : ℕ) (xs : List ℕ) → is_among c xs ≡ true → is_among x xs ≡ false → eqb c x ≡ false
apart_among x c xs among none =
    elim (eqb_tells c x) [ inl own ↦ absurd (grind (arith, none, ap (λ y. is_among y xs) own.1, among)) | inr other ↦ other.0 ]

pub first_among : (x : ℕ) (xs : List ℕ) → is_among x (x ∷ xs) ≡ true
first_among x xs = grind (arith, eqb_tells x x)

pub later_among : (x c : ℕ) (xs : List ℕ) → is_among c xs ≡ true → is_among c (x ∷ xs) ≡ true
later_among x c xs e = grind (arith, e)

all_end : (from p : ℕ) (ks : List ℕ) (w : Working) → IsReady w → NoRepeats ks → has p w.forest ≡ true
    → ((c : ℕ) → is_among c ks ≡ true → IsMovable from p w.forest c) → Exhausts (in_turn (moved_to_end p) ks w)
unfolding in_turn
all_end from p [] w r once there each = exhausts_ok w
all_end from p (x ∷ ks) w r once there each =
    exhausts_then (moved_to_end p x w) (in_turn (moved_to_end p) ks) (end_exhausts from p x w r.in_order there (each x (first_among x ks)))
    (λ u e. let m = end_moved p x w u e in
    all_end from p ks u (moved_to_end_path ready_path p x tt w u r e) once.1 (moved-has x p p w.forest u.forest r.in_order m there)
    (λ c among. moved-movable from p x c w.forest u.forest r.in_order m (apart_among x c ks among once.0) (each c (later_among x c ks among))))

-- the place of another stays
all_end-parent : (p : ℕ) (ks : List ℕ) (q : ℕ) (w v : Working) → IsReady w → is_among q ks ≡ false → in_turn (moved_to_end p) ks w ≡ Ok v
    → parent_of v.forest q ≡ parent_of w.forest q
unfolding in_turn
all_end-parent p [] q w v r other e = let same : w ≡ v = cc in ap (λ (x : Working). parent_of x.forest q) (sym same)
all_end-parent p (x ∷ ks) q w v r other e =
    let a = first_part (moved_to_end p x w) (in_turn (moved_to_end p) ks) v e in
    let m = end_moved p x w a.0 a.1 in
    all_end-parent p ks q a.0 v (moved_to_end_path ready_path p x tt w a.0 r a.1) (grind (arith, other)) a.2
    ∙ moved-parent x p q w.forest a.0.forest r.in_order m (grind (arith, other, eqb_tells x q, eqb_tells q x))

-- a node isn't in the tree of another's child where it isn't in that one's
pub apart_child : (f : Forest) (from to c : ℕ) → IsForest f → is_within f from to ≡ false → parent_of f c ≡ Some from → is_within f c to ≡ false
apart_child f from to c h apart below =
    elim (cases_Bool (is_within f c to)) [
      | inl inside ↦ absurd (grind (arith, apart, is_within-trans f from c to h (within_parent f from c h below) inside))
      | inr outside ↦ outside
    ] where
      within_parent : (f : Forest) (from c : ℕ) → IsForest f → parent_of f c ≡ Some from → is_within f from c ≡ true
      within_parent f from c h below =
          is_within-up f from c from h below (λ same. grind (arith, parent_of-self f c h, below, same, eqb_tells from c)) ∙ is_within-self f from
          ∙ has-parent_of f c from below

pub not_own_child : (f : Forest) (k : ℕ) → IsForest f → is_among k (children_of f k) ≡ false
not_own_child f k h = is_among-children_of f k k h ∙ parent_of-self f k h

pub misfits_none : (f : Forest) (outer : Option Kind) (ks : List ℕ) → ((c : ℕ) → is_among c ks ≡ true → holds may_hold outer (kind_of f c) ≡ true)
    → misfit_among f outer ks ≡ None
misfits_none f outer [] fits = refl
misfits_none f outer (k ∷ ks) fits =
    rw (misfit_none outer (kind_of f k) (fits k (first_among k ks))) (misfits_none f outer ks (λ c among. fits c (later_among k c ks among)))

-- elements of which one can have the other's children
pub record CanMerge (from to : ℕ) (f : Forest) : Type 0 where
  pub from_there : has from f ≡ true
  pub to_there : has to f ≡ true
  pub from_element : unlike is_element (kind_of f from) ≡ None
  pub to_element : unlike is_element (kind_of f to) ≡ None
  pub apart : is_within f from to ≡ false
  pub fits : (c : ℕ) → is_among c (children_of f from) ≡ true → holds may_hold (kind_of f to) (kind_of f c) ≡ true

pub children_exhausts : (from to : ℕ) (w : Working) → IsReady w → CanMerge from to w.forest → Exhausts (children_step from to w)
unfolding children_step
children_exhausts from to w r m =
    exhausts_allowed (children_fault from to w.forest) w (children_moved from to)
    (rw (m.from_there, m.to_there, m.from_element, m.to_element, m.apart) (misfits_none w.forest (kind_of w.forest to) (children_of w.forest from) m.fits))
    (exhausts_then (in_turn (moved_to_end to) (children_of w.forest from) w) (λ v. Ok (brought from to (size_of w.forest to) (ends_of w.selection) v))
    (all_end from to (children_of w.forest from) w r (NoRepeats-children_of w.forest from r.in_order) m.to_there (λ c among.
    let below = parent_here w.forest from c r.in_order among in
    record { below = below; apart = apart_child w.forest from to c r.in_order m.apart below; fits = m.fits c among }))
    (λ u e. exhausts_ok (brought from to (size_of w.forest to) (ends_of w.selection) u)))

-- ... and that one stays where it is
pub children-parent : (from to : ℕ) (w v : Working) → IsReady w → children_step from to w ≡ Ok v → parent_of v.forest from ≡ parent_of w.forest from
unfolding children_step
children-parent from to w v r e =
    allowed_by w v (children_fault from to w.forest) (children_moved from to) (λ f.
    let a = first_part (in_turn (moved_to_end to) (children_of w.forest from) w) (λ u. Ok (brought from to (size_of w.forest to) (ends_of w.selection) u)) v
    f in
    let same : brought from to (size_of w.forest to) (ends_of w.selection) a.0 ≡ v =
    let both : ◌≡◌ {A = Result Working Cause} (Ok (brought from to (size_of w.forest to) (ends_of w.selection) a.0)) (Ok v) = a.2 in cc in
    ap (λ (x : Working). parent_of x.forest from) (sym same)
    ∙ all_end-parent to (children_of w.forest from) from w a.0 r (not_own_child w.forest from r.in_order) a.1) e
