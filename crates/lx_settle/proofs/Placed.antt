-- New nodes of edits that have work: nothing but a lack of counts, or of room for text, refuses them and where they go.
use Rattle.std.proofs.Common.{◌≡◌, ◌∙◌, ℕ, Bool, true, false, cond, eqb, ◌&&◌, ◌||◌, List, [], ◌∷◌, Option, None, Some, option_map, Result, Ok, refl, sym, ap, subst, arith, inl, inr}
use Rattle.std.specs.List.{list_all}
use Rattle.std.specs.Prelude.{is_some, slice_get}
use Rattle.std.specs.Option.{option_or}
use Rattle.std.proofs.lemmas.Bool.Decides.{eqb_tells}
use Rattle.lx_node.specs.Kinds.{is_element, may_hold}
use Rattle.lx_trees.specs.Siblings.{is_among, names_with}
use Rattle.lx_trees.specs.Spots.{Spot, parent_at, children_at}
use Rattle.lx_node.specs.Strings.{characters_of}
use Rattle.lx_node.specs.declared.cause.Cause.{Cause}
use Rattle.lx_node.specs.declared.kind.Kind.{Kind}
use Rattle.lx_node.specs.declared.fields.Fields.{Fields}
use Rattle.lx_node.specs.declared.node.View.{View}
use Rattle.lx_step.specs.declared.rule.NewNode.{NewNode}
use Rattle.lx_forest.specs.Forest.{Forest, Label}
use Rattle.lx_forest.specs.Lookups.{has, spot, kind_of, parent_of, children_of, next_of, size_of, index_of, is_within, holds, IsForest}
use Rattle.lx_forest.specs.Edits.{with_new, put_in, CanPut}
use Rattle.lx_forest.specs.Views.{kind_at, with_kind, kinds_of, viewed, view_of}
use Rattle.lx_forest.proofs.Edits.{has-root}
use Rattle.lx_forest.proofs.Lookups.{kind_of-with_new, parent_of-with_new, children_of-with_new, kind_of-put_in, parent_of-put_in, children_of-put_in, parent_of-self, has-parent_of}
use Rattle.lx_forest.proofs.Walks.{no_parent}
use Rattle.lx_forest.proofs.Within.{is_within-parent, is_within-with_new, is_within-put_in}
use Rattle.lx_links.proofs.Up.{not_within}
use Rattle.lx_draft.specs.Working.{Working}
use Rattle.lx_draft.specs.Selecting.{unlike}
use Rattle.lx_draft.specs.Faults.{after, over_counts, over_limits, put_fault}
use Rattle.lx_draft.specs.Steps.{made, new_step, node_placed, put_step}
use Rattle.lx_draft.specs.Beside.{before_at, put_before_step, put_behind_step}
use Rattle.lx_draft.specs.Covering.{IsReady}
use Rattle.lx_draft.proofs.Put.{both_none, can_put}
use Rattle.lx_draft.proofs.Covered.{answered}
use Rattle.lx_draft.proofs.CoveredSteps.{covered-new}
use Rattle.lx_draft.proofs.Touched.{is_some-kind_of}
use Rattle.lx_edit.specs.Conditions.{instead_fault, keep_fault, replace_fault, wrap_fault}
use Rattle.lx_edit.specs.Edits.{kept, moved_to_end, remove_step, texts_pointed, replace_step, wrap_step}
use Rattle.lx_edit.proofs.Homed.{absent_under}
use Rattle.lx_edit.proofs.Paths.{put_before_path}
use Rattle.lx_rules.specs.Idle.{is_held}
use Rattle.lx_settle.specs.Acting.{with_made}
use Rattle.lx_settle.proofs.Owned.{ready_path}
use Rattle.lx_settle.proofs.Exhausted.{Exhausts, exhausts_ok, exhausts_then, exhausts_allowed, misfit_none, bound_none, new_exhausts, put_exhausts, remove_exhausts}
use Rattle.lx_settle.proofs.Moving.{CanMerge, before_exhausts, behind_exhausts, end_exhausts, misfits_none, children_exhausts, children-parent}
use Rattle.lx_settle.proofs.Tests.{first_of, second_of}

-- ---- what a view says

pub record ViewTells (f : Forest) (k : ℕ) (x : View) : Type 0 where
  pub kind : kind_of f k ≡ Some x.kind
  pub parent : x.parent ≡ kind_at f (parent_of f k)
  pub next : x.next ≡ kind_at f (next_of f k)
  pub children : x.children ≡ kinds_of f (children_of f k)

tells_by : (f : Forest) (k : ℕ) (o : Option (Spot Label)) (x : View) → spot f k ≡ o → option_map (viewed f k) o ≡ Some x → ViewTells f k x
tells_by f k None x is e = absurd (cc)
tells_by f k (Some s) x is e =
    let same : viewed f k s ≡ x = cc in
    record {
      kind = ap (λ o. option_map (λ (l : Label). l.kind) (option_map (λ (t : Spot Label). t.label) o)) is ∙ ap (λ (v : View). Some v.kind) same;
      parent = ap (λ (v : View). v.parent) (sym same) ∙ ap (λ o. kind_at f (parent_at o)) (sym is);
      next = ap (λ (v : View). v.next) (sym same);
      children = ap (λ (v : View). v.children) (sym same) ∙ ap (λ o. kinds_of f (children_at o)) (sym is);
    }

pub view_tells : (f : Forest) (k : ℕ) (x : View) → view_of f k ≡ Some x → ViewTells f k x
view_tells f k x e = tells_by f k (spot f k) x refl e

-- the parent may hold a node of this kind
pub record HasPlace (f : Forest) (k : ℕ) (inner : Kind) : Type 0 where
  pub parent : ℕ
  pub below : parent_of f k ≡ Some parent
  pub fits : holds may_hold (kind_of f parent) (Some inner) ≡ true

pub held_by : (o : Option Kind) (inner : Kind) → is_held o inner ≡ true → holds may_hold o (Some inner) ≡ true
held_by None inner e = absurd (cc)
held_by (Some outer) inner e = e

place_by : (f : Forest) (k : ℕ) (o : Option ℕ) (inner : Kind) → parent_of f k ≡ o → is_held (kind_at f o) inner ≡ true → HasPlace f k inner
place_by f k None inner is e = absurd (cc)
place_by f k (Some p) inner is e = record { parent = p; below = is; fits = held_by (kind_of f p) inner e }

pub has_place : (f : Forest) (k : ℕ) (x : View) (inner : Kind) → ViewTells f k x → is_held x.parent inner ≡ true → HasPlace f k inner
has_place f k x inner t e = place_by f k (parent_of f k) inner refl (ap (λ o. is_held o inner) (sym t.parent) ∙ e)

-- ---- kinds of several nodes

fit_first : (f : Forest) (test : Kind → Bool) (x : ℕ) (o : Option Kind) (xs : List ℕ) (kind : Kind) → kind_of f x ≡ o
    → list_all test (with_kind o (kinds_of f xs)) ≡ true → kind_of f x ≡ Some kind → test kind ≡ true
fit_first f test x None xs kind is e at = absurd (let both : ◌≡◌ {A = Option Kind} None (Some kind) = sym is ∙ at in cc)
fit_first f test x (Some a) xs kind is e at =
    let same : a ≡ kind = let both : Some a ≡ Some kind = sym is ∙ at in cc in
    subst (λ b. test b ≡ true) same (first_of (test a) (list_all test (kinds_of f xs)) e)

fit_later : (test : Kind → Bool) (o : Option Kind) (rest : List Kind) → list_all test (with_kind o rest) ≡ true → list_all test rest ≡ true
fit_later test None rest e = e
fit_later test (Some a) rest e = second_of (test a) (list_all test rest) e

pub all_fit : (f : Forest) (test : Kind → Bool) (ks : List ℕ) → list_all test (kinds_of f ks) ≡ true → (c : ℕ) (kind : Kind) → is_among c ks ≡ true
    → kind_of f c ≡ Some kind → test kind ≡ true
all_fit f test [] e c kind among at = absurd (cc)
all_fit f test (x ∷ xs) e c kind among at =
    elim (eqb_tells x c) [
      | inl own ↦ fit_first f test x (kind_of f x) xs kind refl e (ap (kind_of f) own.1 ∙ at)
      | inr other ↦ all_fit f test xs (fit_later test (kind_of f x) (kinds_of f xs) e) c kind (grind (arith, among, other.0)) at
    ]

holds_none : (outer : Option Kind) → holds may_hold outer None ≡ true
holds_none None = refl
holds_none (Some outer) = refl

pub fits_by : (outer : Option Kind) (o : Option Kind) → ((kind : Kind) → o ≡ Some kind → holds may_hold outer (Some kind) ≡ true)
    → holds may_hold outer o ≡ true
fits_by outer None each = holds_none outer
fits_by outer (Some kind) each = each kind refl

-- ---- a new node

apart_key : (f : Forest) (a b : ℕ) → has a f ≡ true → has b f ≡ false → eqb a b ≡ false
apart_key f a b there free =
    elim (eqb_tells a b) [ inl own ↦ absurd (grind (arith, there, free, ap (λ x. has x f) own.1)) | inr other ↦ other.0 ]

-- what a forest is with a new node
pub record IsAdded (made : ℕ) (f g : Forest) (kind : Kind) : Type 0 where
  pub free : has made f ≡ false
  pub there : has made g ≡ true
  pub own : kind_of g made ≡ Some kind
  pub parents : (q : ℕ) → parent_of g q ≡ parent_of f q
  pub children : (q : ℕ) → children_of g q ≡ children_of f q
  pub kinds : (q : ℕ) → has q f ≡ true → kind_of g q ≡ kind_of f q
  pub within : (a q : ℕ) → has a f ≡ true → is_within g a q ≡ is_within f a q
  pub inside : (q : ℕ) → has q f ≡ true → is_within g made q ≡ false

or_left : (a b c : Bool) → b ≡ false → (a || (b && c)) ≡ a
or_left a b c e = grind (arith, e)

or_neither : (a b c : Bool) → a ≡ false → c ≡ false → (a || (b && c)) ≡ false
or_neither a b c e f = grind (arith, e, f)

own_key : (k : ℕ) → eqb k k ≡ true
own_key k = grind (arith, eqb_tells k k)

added_new : (l : Label) (f : Forest) → IsForest f → has l.key f ≡ false → IsAdded l.key f (with_new l f) l.kind
added_new l f h free =
    let own : kind_of (with_new l f) l.key ≡ Some l.kind =
    kind_of-with_new l f l.key h free ∙ ap (λ b. cond b (Some l.kind) (kind_of f l.key)) (own_key l.key) in
    record {
      free = free;
      there = sym (is_some-kind_of (with_new l f) l.key) ∙ ap is_some own;
      own = own;
      parents = λ q. parent_of-with_new l f q h free;
      children = λ q. children_of-with_new l f q h free;
      kinds = λ q there. kind_of-with_new l f q h free ∙ ap (λ b. cond b (Some l.kind) (kind_of f q)) (apart_key f q l.key there free);
      within = λ a q there. is_within-with_new l f a q free ∙ or_left (is_within f a q) (eqb a l.key) (eqb q l.key) (apart_key f a l.key there free);
      inside =
          λ q there. is_within-with_new l f l.key q free
          ∙ or_neither (is_within f l.key q) (eqb l.key l.key) (eqb q l.key) (absent_under f l.key q free) (apart_key f q l.key there free);
    }

pub added : (kind : Kind) (fields : Fields) (w u : Working) → IsReady w → new_step kind fields w ≡ Ok u → IsAdded w.next_key w.forest u.forest kind
unfolding new_step
added kind fields w u r e =
    let l : Label = record { key = w.next_key; kind = kind; fields = fields } in
    let same : with_new l w.forest ≡ u.forest = ap (λ (x : Working). x.forest) ((answered (over_limits (characters_of fields) w) (made kind fields w) u e).1) in
    subst (λ g. IsAdded w.next_key w.forest g kind) same (added_new l w.forest r.in_order (r.free w.next_key (omega arith)))

added-has : (made : ℕ) (f g : Forest) (kind : Kind) (q : ℕ) → IsAdded made f g kind → has q f ≡ true → has q g ≡ true
added-has made f g kind q a there = sym (is_some-kind_of g q) ∙ ap is_some (a.kinds q there) ∙ is_some-kind_of f q ∙ there

pub added_can : (made p : ℕ) (f g : Forest) (kind : Kind) → IsForest f → IsAdded made f g kind → has p f ≡ true → CanPut p made g
added_can made p f g kind h a there = record {
  other = λ root. grind (arith, has-root f h, a.free, root);
  there = a.there;
  detached = a.parents made ∙ no_parent f made a.free;
  parent = added-has made f g kind p a there;
  outside = a.inside p there;
}

pub added_fits : (made p : ℕ) (f g : Forest) (kind : Kind) → IsAdded made f g kind → has p f ≡ true → holds may_hold (kind_of f p) (Some kind) ≡ true
    → holds may_hold (kind_of g p) (kind_of g made) ≡ true
added_fits made p f g kind a there fits = ap (λ o. holds may_hold o (kind_of g made)) (a.kinds p there) ∙ ap (holds may_hold (kind_of f p)) a.own ∙ fits

-- ---- before, after, child

-- a new node that may come below a node is put there by a step that refuses nothing where it can come
new_put : (new : NewNode) (p : ℕ) (next : ℕ → Working → Result Working Cause) (w : Working) → IsReady w → has p w.forest ≡ true
    → holds may_hold (kind_of w.forest p) (Some new.kind) ≡ true
    → ((u : Working) → IsForest u.forest → IsAdded w.next_key w.forest u.forest new.kind → CanPut p w.next_key u.forest
    → holds may_hold (kind_of u.forest p) (kind_of u.forest w.next_key) ≡ true → Exhausts (next w.next_key u))
    → Exhausts (with_made new next w)
new_put new p next w r there fits puts =
    exhausts_then (new_step new.kind new.fields w) (next w.next_key) (new_exhausts new.kind new.fields w)
    (λ u e. let a = added new.kind new.fields w u r e in
    puts u (covered-new new.kind new.fields w u r e).ready.in_order a (added_can w.next_key p w.forest u.forest new.kind r.in_order a there)
    (added_fits w.next_key p w.forest u.forest new.kind a there fits))

pub new_before_exhausts : (new : NewNode) (k : ℕ) (w : Working) → IsReady w → HasPlace w.forest k new.kind
    → Exhausts (with_made new (λ made. put_before_step made k) w)
new_before_exhausts new k w r place =
    new_put new place.parent (λ made. put_before_step made k) w r (has-parent_of w.forest k place.parent place.below) place.fits
    (λ u h a can fits. before_exhausts w.next_key k place.parent u h (a.parents k ∙ place.below) can fits)

pub new_behind_exhausts : (new : NewNode) (k : ℕ) (w : Working) → IsReady w → HasPlace w.forest k new.kind
    → Exhausts (with_made new (λ made. put_behind_step made k) w)
new_behind_exhausts new k w r place =
    new_put new place.parent (λ made. put_behind_step made k) w r (has-parent_of w.forest k place.parent place.below) place.fits
    (λ u h a can fits. behind_exhausts w.next_key k place.parent u h (a.parents k ∙ place.below) can fits)

pub new_child_exhausts : (new : NewNode) (k : ℕ) (w : Working) → IsReady w → has k w.forest ≡ true → holds may_hold (kind_of w.forest k) (Some new.kind) ≡ true
    → Exhausts (with_made new (λ made u. put_step made k (size_of u.forest k) u) w)
new_child_exhausts new k w r there fits =
    new_put new k (λ made u. put_step made k (size_of u.forest k) u) w r there fits
    (λ u h a can fits. put_exhausts w.next_key k (size_of u.forest k) u can fits (omega arith))

-- ---- what a put came to

pub record HasPut (made p : ℕ) (f g : Forest) : Type 0 where
  pub can : CanPut p made f
  pub before : Option ℕ
  pub is : g ≡ put_in p before made f

put_tells : (made p index : ℕ) (w v : Working) → put_step made p index w ≡ Ok v → HasPut made p w.forest v.forest
unfolding put_step
put_tells made p index w v e =
    let a = answered (option_or (put_fault made p index w.forest) (over_counts w)) (node_placed made p index w) v e in
    record {
      can = can_put w.forest made p index ((both_none (put_fault made p index w.forest) (over_counts w) a.0).0);
      before = slice_get (children_of w.forest p) index;
      is = ap (λ (x : Working). x.forest) (sym a.1);
    }

before_tells : (made k p : ℕ) (o x : Option ℕ) (w v : Working) → o ≡ Some p → before_at made k o x w ≡ Ok v → HasPut made p w.forest v.forest
before_tells made k p (Some q) (Some i) w v is e =
    let same : q ≡ p = cc in subst (λ y. HasPut made y w.forest v.forest) same (put_tells made q i w v e)
before_tells made k p _ _ w v is e = absurd (cc)

pub before_put : (made k p : ℕ) (w v : Working) → parent_of w.forest k ≡ Some p → put_before_step made k w ≡ Ok v → HasPut made p w.forest v.forest
unfolding put_before_step
before_put made k p w v below e = before_tells made k p (parent_of w.forest k) (index_of w.forest k) w v below e

pub put-parent : (made p q : ℕ) (f g : Forest) → IsForest f → HasPut made p f g → eqb q made ≡ false → parent_of g q ≡ parent_of f q
put-parent made p q f g h m other =
    ap (λ x. parent_of x q) m.is ∙ parent_of-put_in p m.before made f q h m.can ∙ ap (λ b. cond b (Some p) (parent_of f q)) other

put-kind : (made p q : ℕ) (f g : Forest) → IsForest f → HasPut made p f g → kind_of g q ≡ kind_of f q
put-kind made p q f g h m = ap (λ x. kind_of x q) m.is ∙ kind_of-put_in p m.before made f q h m.can

put-has : (made p q : ℕ) (f g : Forest) → IsForest f → HasPut made p f g → has q f ≡ true → has q g ≡ true
put-has made p q f g h m there = sym (is_some-kind_of g q) ∙ ap is_some (put-kind made p q f g h m) ∙ is_some-kind_of f q ∙ there

put-children : (made p q : ℕ) (f g : Forest) → IsForest f → HasPut made p f g → eqb q p ≡ false → children_of g q ≡ children_of f q
put-children made p q f g h m other =
    ap (λ x. children_of x q) m.is ∙ children_of-put_in p m.before made f q h m.can
    ∙ ap (λ b. cond b (names_with m.before (made ∷ []) (children_of f q)) (children_of f q)) other

-- ---- one node for another

-- the second can be where the first is
pub record CanStand (k made p : ℕ) (f : Forest) : Type 0 where
  pub below : parent_of f k ≡ Some p
  pub can : CanPut p made f
  pub under : CanPut k made f
  pub fits : holds may_hold (kind_of f p) (kind_of f made) ≡ true
  pub apart : is_within f k made ≡ false
  pub other : eqb k made ≡ false

pub added_stands : (made k : ℕ) (f g : Forest) (kind : Kind) → IsForest f → IsAdded made f g kind → has k f ≡ true → (place : HasPlace f k kind)
    → CanStand k made place.parent g
added_stands made k f g kind h a there place =
    let above = has-parent_of f k place.parent place.below in
    record {
      below = a.parents k ∙ place.below;
      can = added_can made place.parent f g kind h a above;
      under = added_can made k f g kind h a there;
      fits = added_fits made place.parent f g kind a above place.fits;
      apart = a.within k made there ∙ not_within f k made a.free;
      other = apart_key f k made there a.free;
    }

instead_none : (k made p : ℕ) (f : Forest) → CanStand k made p f → instead_fault k made f ≡ None
instead_none k made p f c =
    rw (c.under.parent, c.can.there, c.below, bound_none f k made c.under) (misfit_none (kind_of f p) (kind_of f made) c.fits)

not_parent : (f : Forest) (k p : ℕ) → IsForest f → parent_of f k ≡ Some p → eqb k p ≡ false
not_parent f k p h below = grind (arith, parent_of-self f k h, below, eqb_tells k p, eqb_tells p k)

-- after the put, the first can give its children to the second
put_apart : (k made p : ℕ) (f g : Forest) → IsForest f → CanStand k made p f → HasPut made p f g → is_within g k made ≡ false
put_apart k made p f g h c m =
    ap (λ x. is_within x k made) m.is ∙ is_within-put_in p m.before made f k made h m.can
    ∙ or_neither (is_within f k made) (is_within f made made) (is_within f k p) c.apart (is_within-parent f k p h c.below)

-- the children of the first may go into the second
pub record Keeps (k made : ℕ) (f : Forest) : Type 0 where
  pub first : unlike is_element (kind_of f k) ≡ None
  pub second : unlike is_element (kind_of f made) ≡ None
  pub fits : (c : ℕ) → is_among c (children_of f k) ≡ true → holds may_hold (kind_of f made) (kind_of f c) ≡ true

keep_none : (keep : Bool) (k made : ℕ) (f : Forest) → (keep ≡ true → Keeps k made f) → keep_fault keep k made f ≡ None
keep_none false k made f keeps = refl
keep_none true k made f keeps =
    let a = keeps refl in rw (a.first, a.second) (misfits_none f (kind_of f made) (children_of f k) a.fits)

put_merges : (k made p : ℕ) (f g : Forest) → IsForest f → CanStand k made p f → Keeps k made f → HasPut made p f g → CanMerge k made g
put_merges k made p f g h c a m = record {
  from_there = put-has made p k f g h m c.under.parent;
  to_there = put-has made p made f g h m c.can.there;
  from_element = ap (unlike is_element) (put-kind made p k f g h m) ∙ a.first;
  to_element = ap (unlike is_element) (put-kind made p made f g h m) ∙ a.second;
  apart = put_apart k made p f g h c m;
  fits = λ x among.
      ap (λ o. holds may_hold o (kind_of g x)) (put-kind made p made f g h m) ∙ ap (holds may_hold (kind_of f made)) (put-kind made p x f g h m)
      ∙ a.fits x (ap (is_among x) (sym (put-children made p k f g h m (not_parent f k p h c.below))) ∙ among);
}

kept_exhausts : (keep : Bool) (k made : ℕ) (w : Working) → IsReady w → (keep ≡ true → CanMerge k made w.forest) → Exhausts (kept keep k made w)
kept_exhausts false k made w r m = exhausts_ok w
kept_exhausts true k made w r m = children_exhausts k made w r (m refl)

kept-parent : (keep : Bool) (k made : ℕ) (w v : Working) → IsReady w → kept keep k made w ≡ Ok v → parent_of v.forest k ≡ parent_of w.forest k
kept-parent false k made w v r e = let same : w ≡ v = cc in ap (λ (x : Working). parent_of x.forest k) (sym same)
kept-parent true k made w v r e = children-parent k made w v r e

pointed_by : (both : Bool) (v w : Working) → v.forest ≡ w.forest → (cond both v w).forest ≡ w.forest
pointed_by true v w e = e
pointed_by false v w e = refl

texts_pointed-forest : (k made : ℕ) (w : Working) → (texts_pointed k made w).forest ≡ w.forest
unfolding texts_pointed
texts_pointed-forest k made w = pointed_by _ _ w refl

pub replace_exhausts : (k made p : ℕ) (keep : Bool) (w : Working) → IsReady w → CanStand k made p w.forest → (keep ≡ true → Keeps k made w.forest)
    → Exhausts (replace_step k made keep w)
unfolding replace_step
replace_exhausts k made p keep w r c keeps =
    exhausts_allowed (replace_fault k made keep w.forest) w
    (λ a. after (put_before_step made k a) (λ b. after (kept keep k made b) (λ x. remove_step k (texts_pointed k made x))))
    (rw (instead_none k made p w.forest c) (keep_none keep k made w.forest keeps))
    (exhausts_then (put_before_step made k w) (λ b. after (kept keep k made b) (λ x. remove_step k (texts_pointed k made x)))
    (before_exhausts made k p w r.in_order c.below c.can c.fits)
    (λ b e. let m = before_put made k p w b c.below e in
    let s = put_before_path ready_path made k tt w b r e in
    exhausts_then (kept keep k made b) (λ x. remove_step k (texts_pointed k made x))
    (kept_exhausts keep k made b s (λ t. put_merges k made p w.forest b.forest r.in_order c (keeps t) m))
    (λ x f. remove_exhausts k p (texts_pointed k made x)
    (ap (λ g. parent_of g k) (texts_pointed-forest k made x) ∙ kept-parent keep k made b x s f ∙ put-parent made p k w.forest b.forest r.in_order m c.other
    ∙ c.below))))

pub wrap_exhausts : (k made p : ℕ) (w : Working) → IsReady w → CanStand k made p w.forest → holds may_hold (kind_of w.forest made) (kind_of w.forest k) ≡ true
    → Exhausts (wrap_step k made w)
unfolding wrap_step
wrap_exhausts k made p w r c fits =
    exhausts_allowed (wrap_fault k made w.forest) w (λ a. after (put_before_step made k a) (moved_to_end made k))
    (rw (instead_none k made p w.forest c) (misfit_none (kind_of w.forest made) (kind_of w.forest k) fits))
    (exhausts_then (put_before_step made k w) (moved_to_end made k) (before_exhausts made k p w r.in_order c.below c.can c.fits)
    (λ b e. let m = before_put made k p w b c.below e in
    end_exhausts p made k b (put_before_path ready_path made k tt w b r e).in_order (put-has made p made w.forest b.forest r.in_order m c.can.there)
    (record {
      below = put-parent made p k w.forest b.forest r.in_order m c.other ∙ c.below;
      apart = put_apart k made p w.forest b.forest r.in_order c m;
      fits = ap (λ o. holds may_hold o (kind_of b.forest k)) (put-kind made p made w.forest b.forest r.in_order m)
          ∙ ap (holds may_hold (kind_of w.forest made)) (put-kind made p k w.forest b.forest r.in_order m) ∙ fits;
    })))
