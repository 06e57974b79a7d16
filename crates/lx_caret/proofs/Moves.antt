-- A node that is put somewhere, or moved to a place in the tree, leaves every point of a range in the tree.
use Rattle.std.proofs.Common.{◌≡◌, ◌≢◌, ◌∙◌, ℕ, ◌+◌, ◌-◌, ◌≤◌, Bool, true, false, cond, eqb, ◌&&◌, List, [], ◌∷◌, Option, None, Some, Ok, refl, sym, ap, ap₂, subst, arith, inl, inr}
use Rattle.std.specs.Prelude.{is_some, slice_get}
use Rattle.std.specs.Option.{option_or}
use Rattle.std.proofs.lemmas.Bool.Decides.{eqb_tells}
use Rattle.lx_trees.specs.Siblings.{is_among}
use Rattle.lx_node.specs.Kinds.{may_hold}
use Rattle.lx_node.specs.declared.cause.Point.{Point}
use Rattle.lx_trees.proofs.Siblings.{is_some-index_in}
use Rattle.lx_select.specs.Selection.{each_point}
use Rattle.lx_select.specs.Rules.{take_moves, put_moves, is_behind}
use Rattle.lx_forest.specs.Forest.{Forest}
use Rattle.lx_forest.specs.Lookups.{has, label_of, parent_of, children_of, children_below, siblings, index_of, size_of, is_within, is_attached, IsForest}
use Rattle.lx_forest.specs.Edits.{take_out, put_in, CanPut}
use Rattle.lx_forest.proofs.Edits.{parent_of-root}
use Rattle.lx_forest.proofs.Held.{IsHeld-take_out, IsHeld-put_in}
use Rattle.lx_forest.proofs.Lookups.{is_among-children_of, label_of-take_out, label_of-put_in, parent_of-put_in}
use Rattle.lx_forest.proofs.Walks.{cases_option, is_attached-up}
use Rattle.lx_forest.proofs.Within.{is_within-self, is_within-take_out, is_attached-take_out, is_attached-put_in}
use Rattle.lx_forest.proofs.Order.{IsForest-take_out}
use Rattle.lx_links.specs.Faults.{detach_fault, unknown, not_below}
use Rattle.lx_draft.specs.Working.{Working}
use Rattle.lx_draft.specs.Selecting.{lies_in}
use Rattle.lx_draft.specs.Covering.{AreCovered}
use Rattle.lx_draft.specs.Faults.{answer, after, over_counts, put_fault}
use Rattle.lx_draft.specs.Steps.{node_taken, node_placed, take_step, put_step, take_points}
use Rattle.lx_draft.specs.Beside.{before_at, put_before_step, behind_at, put_behind_step}
use Rattle.lx_draft.proofs.Covered.{answered, covered-then}
use Rattle.lx_draft.proofs.CoveredSteps.{covered-take, covered-put}
use Rattle.lx_draft.proofs.Put.{both_none}
use Rattle.lx_edit.specs.InTurn.{in_turn}
use Rattle.lx_edit.specs.Edits.{moved_to_end}
use Rattle.lx_blocks.specs.Ranges.{lies}
use Rattle.lx_caret.specs.Lying.{EachPoint}
use Rattle.lx_caret.specs.Deleting.{moved_in}
use Rattle.lx_caret.proofs.Lies.{both, lies_taken, lies_put, attached_moved, size_grown}
use Rattle.lx_caret.proofs.Fit.{each_moved, after_tells, Fit, Stays, Staying, stays_self, stays_then, stays_ok, stays_after, stays_put, puts, key_of_put}
use Rattle.lx_draft.proofs.Short.{same-short}

-- ---- where a put node is

pub record WasPut (w v : Working) (k p index : ℕ) : Type 0 where
  pub up : parent_of v.forest k ≡ Some p
  pub attached : is_attached w.forest p ≡ true → is_attached v.forest k ≡ true
  pub label : (q : ℕ) → label_of v.forest q ≡ label_of w.forest q
  pub size : index + 1 ≤ size_of v.forest p

pub was_put : (k p index : ℕ) (w v : Working) → IsForest w.forest → put_step k p index w ≡ Ok v → WasPut w v k p index
unfolding put_step
was_put k p index w v h e =
    let told = answered (option_or (put_fault k p index w.forest) (over_counts w)) (node_placed k p index w) v e in
    let is = puts w.forest k p index (both_none (put_fault k p index w.forest) (over_counts w) told.0).0 in
    let before : Option ℕ = slice_get (children_of w.forest p) index in
    let own : eqb k k ≡ true = grind (arith, eqb_tells k k) in
    subst (λ u. WasPut w u k p index) told.1 (record {
      up = parent_of-put_in p before k w.forest k h is.may ∙ ap (λ b. cond b (Some p) (parent_of w.forest k)) own;
      attached = λ place. is_attached-put_in p before k w.forest k h is.may ∙ grind (arith, place, is_within-self w.forest k, is.may.there);
      label = λ q. label_of-put_in p before k w.forest q h is.may;
      size = omega (arith, is.within, size_grown w.forest k p before h is.may);
    })

-- beside a node in the tree a node comes into the tree
pub record IsBesideIn (w v : Working) (k : ℕ) : Type 0 where
  pub parent : ℕ
  pub up : parent_of v.forest k ≡ Some parent
  pub attached : is_attached v.forest k ≡ true
  pub label : (q : ℕ) → label_of v.forest q ≡ label_of w.forest q

stays_before_at : (k other : ℕ) (p index : Option ℕ) (w v : Working) → Fit w → before_at k other p index w ≡ Ok v → Stays w v
stays_before_at k other (Some p) (Some index) w v fit e = stays_put k p index w v fit e
stays_before_at k other None index w v fit e = absurd (cc)
stays_before_at k other (Some p) None w v fit e = absurd (cc)

pub stays_before : (k other : ℕ) → Staying (put_before_step k other)
unfolding put_before_step
stays_before k other w v fit e = stays_before_at k other (parent_of w.forest other) (index_of w.forest other) w v fit e

stays_behind_at : (k other : ℕ) (p index : Option ℕ) (w v : Working) → Fit w → behind_at k other p index w ≡ Ok v → Stays w v
stays_behind_at k other (Some p) (Some index) w v fit e = stays_put k p (index + 1) w v fit e
stays_behind_at k other None index w v fit e = absurd (cc)
stays_behind_at k other (Some p) None w v fit e = absurd (cc)

pub stays_behind : (k other : ℕ) → Staying (put_behind_step k other)
unfolding put_behind_step
stays_behind k other w v fit e = stays_behind_at k other (parent_of w.forest other) (index_of w.forest other) w v fit e

-- put below the parent of another node
placed_in : (k other p at : ℕ) (w v : Working) → Fit w → parent_of w.forest other ≡ Some p → is_attached w.forest other ≡ true → put_step k p at w ≡ Ok v
    → IsBesideIn w v k
placed_in k other p at w v fit up place e =
    let was = was_put k p at w v fit.ready.in_order e in
    record { parent = p; up = was.up; attached = was.attached (sym (is_attached-up w.forest other p fit.ready.in_order up) ∙ place); label = was.label }

before_in : (k other : ℕ) (p index : Option ℕ) (w v : Working) → Fit w → parent_of w.forest other ≡ p → is_attached w.forest other ≡ true
    → before_at k other p index w ≡ Ok v → IsBesideIn w v k
before_in k other (Some p) (Some index) w v fit up place e = placed_in k other p index w v fit up place e
before_in k other None index w v fit up place e = absurd (cc)
before_in k other (Some p) None w v fit up place e = absurd (cc)

pub put_before_in : (k other : ℕ) (w v : Working) → Fit w → is_attached w.forest other ≡ true → put_before_step k other w ≡ Ok v → IsBesideIn w v k
unfolding put_before_step
put_before_in k other w v fit place e = before_in k other (parent_of w.forest other) (index_of w.forest other) w v fit refl place e

behind_in : (k other : ℕ) (p index : Option ℕ) (w v : Working) → Fit w → parent_of w.forest other ≡ p → is_attached w.forest other ≡ true
    → behind_at k other p index w ≡ Ok v → IsBesideIn w v k
behind_in k other (Some p) (Some index) w v fit up place e = placed_in k other p (index + 1) w v fit up place e
behind_in k other None index w v fit up place e = absurd (cc)
behind_in k other (Some p) None w v fit up place e = absurd (cc)

pub put_behind_in : (k other : ℕ) (w v : Working) → Fit w → is_attached w.forest other ≡ true → put_behind_step k other w ≡ Ok v → IsBesideIn w v k
unfolding put_behind_step
put_behind_in k other w v fit place e = behind_in k other (parent_of w.forest other) (index_of w.forest other) w v fit refl place e

-- ---- taken, and put elsewhere

pub key_of_take : (p i : ℕ) (x : Point) → (take_moves p i x).key ≡ x.key
unfolding take_moves
key_of_take p i x = by_test (is_behind p i x) where
  by_test : (b : Bool) → (cond b (record x { offset = x.offset - 1 }) x).key ≡ x.key
  by_test true = refl
  by_test false = refl

-- a node with a parent is at an index there
pub stands : (f : Forest) (k p : ℕ) → IsForest f → parent_of f k ≡ Some p → (i : ℕ) × (index_of f k ≡ Some i)
stands f k p h up =
    let among : is_some (index_of f k) ≡ true =
    is_some-index_in (siblings f k) k ∙ ap (λ o. is_among k (children_below f o)) up ∙ is_among-children_of f k p h
    ∙ rw up (grind (arith, eqb_tells p p)) in
    elim (cases_option (index_of f k)) [
      | inl none ↦ absurd (grind (arith, among, none))
      | inr (i, at) ↦ (i, at)
    ]

-- what a point of the draft becomes
moved_lies : (f : Forest) (k p0 i0 p i : ℕ) (before : Option ℕ) (x : Point) → IsForest f → k ≢ 0 → has k f ≡ true → parent_of f k ≡ Some p0
    → index_of f k ≡ Some i0 → CanPut p k (take_out k f) → is_attached f p ≡ true
    → lies f x ≡ true → lies (put_in p before k (take_out k f)) (put_moves p i (take_moves p0 i0 x)) ≡ true
moved_lies f k p0 i0 p i before x h other there up at can place e =
    let parts = both (is_attached f x.key) (lies_in f x) e in
    let gone : IsForest (take_out k f) = IsForest-take_out k f h in
    let y : Point = take_moves p0 i0 x in
    let key : (put_moves p i y).key ≡ x.key = key_of_put p i y ∙ key_of_take p0 i0 x in
    let attached : is_attached (put_in p before k (take_out k f)) (put_moves p i y).key ≡ true =
    ap (is_attached (put_in p before k (take_out k f))) key ∙ attached_moved f k p x.key before h gone other there can place parts.0 in
    ap₂ ◌&&◌ attached (lies_put (take_out k f) k p i y.key y.offset y.kind before gone can (lies_taken f k p0 i0 x.key x.offset x.kind h up at parts.1))

-- a key that can be taken is there, below a parent
pub taken_below : (f : Forest) (k : ℕ) → detach_fault k f ≡ None → (has k f ≡ true) × ((p : ℕ) × (parent_of f k ≡ Some p))
taken_below f k none =
    let parts = both_none (unknown f k) (not_below f k) none in
    elim (cases_option (parent_of f k)) [
      | inl top ↦ absurd (grind (arith, parts.1, top))
      | inr (p, up) ↦ (grind (arith, parts.0), (p, up))
    ]

pub not_root : (f : Forest) (k p : ℕ) → IsForest f → parent_of f k ≡ Some p → k ≢ 0
not_root f k p h up = λ same. absurd (grind (arith, up, same, parent_of-root f h))

placed_after : (w v : Working) (k p index p0 i0 : ℕ) → Fit w → is_attached w.forest p ≡ true → has k w.forest ≡ true → parent_of w.forest k ≡ Some p0
    → index_of w.forest k ≡ Some i0
    → AreCovered w (node_taken k w) → put_step k p index (node_taken k w) ≡ Ok v → Stays w v
unfolding put_step
placed_after w v k p index p0 i0 fit place there up at took e =
    let h = fit.ready.in_order in
    let gone : IsForest (take_out k w.forest) = IsForest-take_out k w.forest h in
    let told = answered (option_or (put_fault k p index (take_out k w.forest)) (over_counts (node_taken k w))) (node_placed k p index (node_taken k w)) v e in
    let is = puts (take_out k w.forest) k p index (both_none (put_fault k p index (take_out k w.forest)) (over_counts (node_taken k w)) told.0).0 in
    let before : Option ℕ = slice_get (children_of (take_out k w.forest) p) index in
    let g : Forest = put_in p before k (take_out k w.forest) in
    let all =
    covered-then w (node_taken k w) (node_placed k p index (node_taken k w)) took
    (covered-put k p index (node_taken k w) (node_placed k p index (node_taken k w)) took.ready
    (ap (λ o. answer o (node_placed k p index (node_taken k w))) told.0)) in
    let points : (node_taken k w).selection ≡ each_point (take_moves p0 i0) w.selection =
    ap₂ (λ a b. take_points a b w.selection) up at in
    let each : EachPoint (λ x. lies g x ≡ true) (each_point (put_moves p index) (each_point (take_moves p0 i0) w.selection)) =
    each_moved (λ x. lies g (put_moves p index x) ≡ true) (λ x. lies g x ≡ true) (put_moves p index) (each_point (take_moves p0 i0) w.selection) (λ x so. so)
    (each_moved (λ x. lies w.forest x ≡ true) (λ x. lies g (put_moves p index x) ≡ true) (take_moves p0 i0) w.selection
    (λ x so. moved_lies w.forest k p0 i0 p index before x h (not_root w.forest k p0 h up) there up at is.may place so) fit.lying) in
    subst (Stays w) told.1 (record {
      fit = record {
        ready = all.ready;
        held = IsHeld-put_in may_hold (take_out k w.forest) gone (IsHeld-take_out may_hold w.forest h fit.held k) p before k is.may is.fits;
        short = same-short w.forest g w.written (λ q. label_of-put_in p before k (take_out k w.forest) q gone is.may ∙ label_of-take_out k w.forest q h)
            fit.short;
        lying = subst (λ s. EachPoint (λ x. lies g x ≡ true) (each_point (put_moves p index) s)) (sym points) each;
      };
      attached = λ q so. attached_moved w.forest k p q before h gone (not_root w.forest k p0 h up) there is.may place so;
      kept = all.kinds;
    })

pub stays_placed : (k p index : ℕ) (w u v : Working) → Fit w → is_attached w.forest p ≡ true → take_step k w ≡ Ok u → put_step k p index u ≡ Ok v → Stays w v
unfolding take_step
stays_placed k p index w u v fit place first second =
    let told = answered (option_or (detach_fault k w.forest) (over_counts w)) (node_taken k w) u first in
    let below = taken_below w.forest k (both_none (detach_fault k w.forest) (over_counts w) told.0).0 in
    let at = stands w.forest k below.1.0 fit.ready.in_order below.1.1 in
    let took = covered-take k w (node_taken k w) fit.ready (ap (λ o. answer o (node_taken k w)) told.0) in
    placed_after w v k p index below.1.0 at.0 fit place below.0 below.1.1 at.1 took (ap (λ x. put_step k p index x) told.1 ∙ second)

pub stays_moved : (parent k : ℕ) (w v : Working) → Fit w → is_attached w.forest parent ≡ true → moved_to_end parent k w ≡ Ok v → Stays w v
unfolding moved_to_end
stays_moved parent k w v fit place e =
    let first = after_tells (take_step k w) (λ u. put_step k parent (size_of u.forest parent) u) v e in
    stays_placed k parent (size_of first.0.forest parent) w first.0 v fit place first.1.0 first.1.1

-- each of a list moved to the end of a node in the tree
pub stays_each_moved : (parent : ℕ) (ks : List ℕ) (w v : Working) → Fit w → is_attached w.forest parent ≡ true → in_turn (moved_to_end parent) ks w ≡ Ok v
    → Stays w v
unfolding in_turn
stays_each_moved parent [] w v fit place e = stays_ok w w v (stays_self w fit) e
stays_each_moved parent (k ∷ ks) w v fit place e =
    stays_after w v (moved_to_end parent k w) (in_turn (moved_to_end parent) ks) (λ u so. stays_moved parent k w u fit place so)
    (λ u so a f. stays_each_moved parent ks u v a.fit (a.attached parent place) f) e

-- what is moved into the tree is in it
place_left : (f : Forest) (k p : ℕ) → IsForest f → k ≢ 0 → has k f ≡ true → is_within (take_out k f) k p ≡ false → is_attached f p ≡ true
    → is_attached (take_out k f) p ≡ true
place_left f k p h other there outside place =
    grind (arith, is_attached-take_out k f p h other, is_within-take_out k f k p h, is_within-self f k, there, outside, place)

placed_attached : (k p index p0 : ℕ) (w v : Working) → Fit w → is_attached w.forest p ≡ true → has k w.forest ≡ true → parent_of w.forest k ≡ Some p0
    → put_step k p index (node_taken k w) ≡ Ok v → is_attached v.forest k ≡ true
unfolding put_step
placed_attached k p index p0 w v fit place there up e =
    let h = fit.ready.in_order in
    let told = answered (option_or (put_fault k p index (take_out k w.forest)) (over_counts (node_taken k w))) (node_placed k p index (node_taken k w)) v e in
    let is = puts (take_out k w.forest) k p index (both_none (put_fault k p index (take_out k w.forest)) (over_counts (node_taken k w)) told.0).0 in
    (was_put k p index (node_taken k w) v (IsForest-take_out k w.forest h) e).attached
    (place_left w.forest k p h (not_root w.forest k p0 h up) there is.may.outside place)

pub moved_attached : (parent k : ℕ) (w v : Working) → Fit w → is_attached w.forest parent ≡ true → moved_to_end parent k w ≡ Ok v
    → is_attached v.forest k ≡ true
unfolding moved_to_end take_step
moved_attached parent k w v fit place e =
    let first =
    after_tells (answer (option_or (detach_fault k w.forest) (over_counts w)) (node_taken k w)) (λ u. put_step k parent (size_of u.forest parent) u) v e in
    let told = answered (option_or (detach_fault k w.forest) (over_counts w)) (node_taken k w) first.0 first.1.0 in
    let below = taken_below w.forest k (both_none (detach_fault k w.forest) (over_counts w) told.0).0 in
    placed_attached k parent (size_of (take_out k w.forest) parent) below.1.0 w v fit place below.0 below.1.1
    (ap (λ u. put_step k parent (size_of u.forest parent) u) told.1 ∙ first.1.1)

-- each of a list moved to a place, one after the other
pub record MovedIn (w v : Working) (p index : ℕ) : Type 0 where
  pub stays : Stays w v
  pub reach : index ≤ size_of v.forest p

pub moved_in_stays : (p index : ℕ) (ks : List ℕ) (w v : Working) → Fit w → is_attached w.forest p ≡ true → index ≤ size_of w.forest p
    → moved_in p index ks w ≡ Ok v → MovedIn w v p index
unfolding moved_in
moved_in_stays p index [] w v fit place within e = let is : w ≡ v =
    cc in subst (λ u. MovedIn w u p index) is (record { stays = stays_self w fit; reach = within })
moved_in_stays p index (k ∷ ks) w v fit place within e =
    let first = after_tells (take_step k w) (λ u. after (put_step k p index u) (moved_in p (index + 1) ks)) v e in
    let second = after_tells (put_step k p index first.0) (moved_in p (index + 1) ks) v first.1.1 in
    let stays = stays_placed k p index w first.0 second.0 fit place first.1.0 second.1.0 in
    let was = was_put k p index first.0 second.0 (covered-take k w first.0 fit.ready first.1.0).ready.in_order second.1.0 in
    let rest = moved_in_stays p (index + 1) ks second.0 v stays.fit (stays.attached p place) was.size second.1.1 in
    record { stays = stays_then w second.0 v stays rest.stays; reach = omega (arith, rest.reach) }
