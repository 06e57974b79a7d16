-- Points that lie in the root's tree or in one beside it, which is put into that tree in the end.
use Rattle.std.proofs.Common.{◌≡◌, ◌≢◌, ◌∙◌, ℕ, Bool, true, ◌&&◌, ◌||◌, List, [], ◌∷◌, Option, None, Some, Ok, sym, ap, ap₂, subst, arith}
use Rattle.std.specs.Prelude.{slice_get}
use Rattle.std.specs.Option.{option_or}
use Rattle.lx_node.specs.Kinds.{may_hold}
use Rattle.lx_node.specs.declared.cause.Point.{Point}
use Rattle.lx_select.specs.Selection.{each_point}
use Rattle.lx_select.specs.Rules.{take_moves, put_moves}
use Rattle.lx_forest.specs.Forest.{Forest}
use Rattle.lx_forest.specs.Lookups.{has, parent_of, children_of, index_of, size_of, is_within, is_attached, IsForest, IsHeld}
use Rattle.lx_forest.specs.Edits.{take_out, put_in, CanPut}
use Rattle.lx_forest.proofs.Held.{IsHeld-take_out, IsHeld-put_in}
use Rattle.lx_forest.proofs.Lookups.{label_of-take_out, label_of-put_in}
use Rattle.lx_forest.proofs.Order.{IsForest-take_out}
use Rattle.lx_forest.proofs.Walks.{is_attached-up}
use Rattle.lx_forest.proofs.Within.{is_within-self, is_within-up, is_within-take_out, is_within-put_in}
use Rattle.lx_links.specs.Faults.{detach_fault}
use Rattle.lx_draft.specs.Working.{Working, TextsAreShort}
use Rattle.lx_draft.specs.Covering.{IsReady, AreCovered}
use Rattle.lx_draft.specs.Selecting.{lies_in}
use Rattle.lx_draft.specs.Faults.{answer, over_counts, put_fault}
use Rattle.lx_draft.specs.Steps.{node_taken, node_placed, take_step, put_step, take_points}
use Rattle.lx_draft.specs.Beside.{put_behind_step}
use Rattle.lx_draft.proofs.Covered.{answered, covered-then}
use Rattle.lx_draft.proofs.CoveredSteps.{covered-take, covered-put}
use Rattle.lx_draft.proofs.Put.{both_none}
use Rattle.lx_edit.specs.InTurn.{in_turn}
use Rattle.lx_edit.specs.Edits.{moved_to_end}
use Rattle.lx_blocks.specs.Ranges.{lies}
use Rattle.lx_caret.specs.Lying.{EachPoint}
use Rattle.lx_caret.proofs.Lies.{both, lies_taken, lies_put}
use Rattle.lx_caret.proofs.Fit.{each_moved, each_still, after_tells, Fit, puts, key_of_put}
use Rattle.lx_caret.proofs.Moves.{key_of_take, stands, taken_below}
use Rattle.lx_draft.proofs.Short.{same-short}
use Rattle.lx_list.proofs.Moved.{placed_behind}

-- a node is in the root's tree, or in that of this one
abbrev pub is_in : ℕ → Forest → ℕ → Bool
is_in d f q = is_attached f q || is_within f d q

-- a point lies in one of them
abbrev pub lies_aside : ℕ → Forest → Point → Bool
lies_aside d f x = is_in d f x.key && lies_in f x

-- a draft on which a command goes on, but that points may be in the tree aside
pub record Aside (d : ℕ) (w : Working) : Type 0 where
  pub ready : IsReady w
  pub held : IsHeld may_hold w.forest
  pub short : TextsAreShort w
  pub lying : EachPoint (λ x. lies_aside d w.forest x ≡ true) w.selection

-- such a draft that still has what the other one had in the two trees
pub record StaysAside (d : ℕ) (w v : Working) : Type 0 where
  pub aside : Aside d v
  pub inside : (q : ℕ) → is_in d w.forest q ≡ true → is_in d v.forest q ≡ true

pub aside_of : (d : ℕ) (w : Working) → Fit w → Aside d w
aside_of d w fit = record {
  ready = fit.ready;
  held = fit.held;
  short = fit.short;
  lying = each_still (λ x. lies w.forest x ≡ true) (λ x. lies_aside d w.forest x ≡ true) w.selection (λ x so.
      let parts = both (is_attached w.forest x.key) (lies_in w.forest x) so in
      ap₂ (λ a b. (a || is_within w.forest d x.key) && b) parts.0 parts.1) fit.lying;
}

-- ---- moved

is_in_moved : (d : ℕ) (f : Forest) (k p q : ℕ) (before : Option ℕ) → IsForest f → IsForest (take_out k f) → has k f ≡ true → CanPut p k (take_out k f)
    → is_in d f p ≡ true → is_in d f q ≡ true → is_in d (put_in p before k (take_out k f)) q ≡ true
is_in_moved d f k p q before h taken there can place e =
    grind (arith, is_within-put_in p before k (take_out k f) 0 q taken can, is_within-put_in p before k (take_out k f) d q taken can, is_within-take_out k f 0 q h, is_within-take_out k f d q h, is_within-take_out k f k q h, is_within-take_out k f 0 p h, is_within-take_out k f d p h, is_within-take_out k f k p h, is_within-self f k, there, can.outside, place, e)

-- what a point of the draft becomes
moved_lies : (d : ℕ) (f : Forest) (k p0 i0 p i : ℕ) (before : Option ℕ) (x : Point) → IsForest f → has k f ≡ true → parent_of f k ≡ Some p0
    → index_of f k ≡ Some i0 → CanPut p k (take_out k f) → is_in d f p ≡ true → lies_aside d f x ≡ true
    → lies_aside d (put_in p before k (take_out k f)) (put_moves p i (take_moves p0 i0 x)) ≡ true
moved_lies d f k p0 i0 p i before x h there up at can place e =
    let parts = both (is_in d f x.key) (lies_in f x) e in
    let gone : IsForest (take_out k f) = IsForest-take_out k f h in
    let y : Point = take_moves p0 i0 x in
    let key : (put_moves p i y).key ≡ x.key = key_of_put p i y ∙ key_of_take p0 i0 x in
    ap₂ ◌&&◌ (ap (is_in d (put_in p before k (take_out k f))) key ∙ is_in_moved d f k p x.key before h gone there can place parts.0)
    (lies_put (take_out k f) k p i y.key y.offset y.kind before gone can (lies_taken f k p0 i0 x.key x.offset x.kind h up at parts.1))

placed_aside : (d : ℕ) (w v : Working) (k p index p0 i0 : ℕ) → Aside d w → is_in d w.forest p ≡ true → has k w.forest ≡ true
    → parent_of w.forest k ≡ Some p0
    → index_of w.forest k ≡ Some i0
    → AreCovered w (node_taken k w) → put_step k p index (node_taken k w) ≡ Ok v → StaysAside d w v
unfolding put_step
placed_aside d w v k p index p0 i0 aside place there up at took e =
    let h = aside.ready.in_order in
    let gone : IsForest (take_out k w.forest) = IsForest-take_out k w.forest h in
    let told = answered (option_or (put_fault k p index (take_out k w.forest)) (over_counts (node_taken k w))) (node_placed k p index (node_taken k w)) v e in
    let is = puts (take_out k w.forest) k p index (both_none (put_fault k p index (take_out k w.forest)) (over_counts (node_taken k w)) told.0).0 in
    let before : Option ℕ = slice_get (children_of (take_out k w.forest) p) index in
    let g : Forest = put_in p before k (take_out k w.forest) in
    let all =
    covered-then w (node_taken k w) (node_placed k p index (node_taken k w)) took
    (covered-put k p index (node_taken k w) (node_placed k p index (node_taken k w)) took.ready
    (ap (λ o. answer o (node_placed k p index (node_taken k w))) told.0)) in
    let points : (node_taken k w).selection ≡ each_point (take_moves p0 i0) w.selection =
    ap₂ (λ a b. take_points a b w.selection) up at in
    let each : EachPoint (λ x. lies_aside d g x ≡ true) (each_point (put_moves p index) (each_point (take_moves p0 i0) w.selection)) =
    each_moved (λ x. lies_aside d g (put_moves p index x) ≡ true) (λ x. lies_aside d g x ≡ true) (put_moves p index)
    (each_point (take_moves p0 i0) w.selection) (λ x so. so)
    (each_moved (λ x. lies_aside d w.forest x ≡ true) (λ x. lies_aside d g (put_moves p index x) ≡ true) (take_moves p0 i0) w.selection
    (λ x so. moved_lies d w.forest k p0 i0 p index before x h there up at is.may place so) aside.lying) in
    subst (StaysAside d w) told.1 (record {
      aside = record {
        ready = all.ready;
        held = IsHeld-put_in may_hold (take_out k w.forest) gone (IsHeld-take_out may_hold w.forest h aside.held k) p before k is.may is.fits;
        short = same-short w.forest g w.written (λ q. label_of-put_in p before k (take_out k w.forest) q gone is.may ∙ label_of-take_out k w.forest q h)
            aside.short;
        lying = subst (λ s. EachPoint (λ x. lies_aside d g x ≡ true) (each_point (put_moves p index) s)) (sym points) each;
      };
      inside = λ q so. is_in_moved d w.forest k p q before h gone there is.may place so;
    })

moved_aside : (d parent k : ℕ) (w v : Working) → Aside d w → is_in d w.forest parent ≡ true → moved_to_end parent k w ≡ Ok v → StaysAside d w v
unfolding moved_to_end take_step
moved_aside d parent k w v aside place e =
    let first =
    after_tells (answer (option_or (detach_fault k w.forest) (over_counts w)) (node_taken k w)) (λ u. put_step k parent (size_of u.forest parent) u) v e in
    let told = answered (option_or (detach_fault k w.forest) (over_counts w)) (node_taken k w) first.0 first.1.0 in
    let below = taken_below w.forest k (both_none (detach_fault k w.forest) (over_counts w) told.0).0 in
    let at = stands w.forest k below.1.0 aside.ready.in_order below.1.1 in
    let took = covered-take k w (node_taken k w) aside.ready (ap (λ o. answer o (node_taken k w)) told.0) in
    placed_aside d w v k parent (size_of (take_out k w.forest) parent) below.1.0 at.0 aside place below.0 below.1.1 at.1 took
    (ap (λ u. put_step k parent (size_of u.forest parent) u) told.1 ∙ first.1.1)

pub each_aside : (d parent : ℕ) (ks : List ℕ) (w v : Working) → Aside d w → is_in d w.forest parent ≡ true → in_turn (moved_to_end parent) ks w ≡ Ok v
    → StaysAside d w v
unfolding in_turn
each_aside d parent [] w v aside place e =
    let is : w ≡ v = cc in subst (StaysAside d w) is (record { aside = aside; inside = λ q so. so })
each_aside d parent (k ∷ ks) w v aside place e =
    let first = after_tells (moved_to_end parent k w) (in_turn (moved_to_end parent) ks) v e in
    let one = moved_aside d parent k w first.0 aside place first.1.0 in
    let rest = each_aside d parent ks first.0 v one.aside (one.inside parent place) first.1.1 in
    record { aside = rest.aside; inside = λ q so. rest.inside q (one.inside q so) }

-- ---- the tree aside put into the root's

-- beside a node of one of the trees a tree can only be put where that node is in the root's
place_there : (d : ℕ) (f : Forest) (other p : ℕ) → IsForest f → parent_of f other ≡ Some p → CanPut p d f → is_in d f other ≡ true
    → is_attached f other ≡ true
place_there d f other p h up can e =
    let apart : other ≢ d = λ same. let bad : None ≡ Some p = sym can.detached ∙ ap (parent_of f) (sym same) ∙ up in absurd (cc) in
    grind (arith, is_within-up f d other p h up apart, can.outside, e)

joined_in : (d : ℕ) (f : Forest) (p q : ℕ) (before : Option ℕ) → IsForest f → CanPut p d f → is_attached f p ≡ true → is_in d f q ≡ true
    → is_attached (put_in p before d f) q ≡ true
joined_in d f p q before h can place e = grind (arith, is_within-put_in p before d f 0 q h can, place, e)

pub record Joined (d : ℕ) (w v : Working) : Type 0 where
  pub fit : Fit v
  pub attached : (q : ℕ) → is_in d w.forest q ≡ true → is_attached v.forest q ≡ true

joined_at : (d p index : ℕ) (w v : Working) → Aside d w → (CanPut p d w.forest → is_attached w.forest p ≡ true) → put_step d p index w ≡ Ok v
    → Joined d w v
unfolding put_step
joined_at d p index w v aside leads e =
    let h = aside.ready.in_order in
    let told = answered (option_or (put_fault d p index w.forest) (over_counts w)) (node_placed d p index w) v e in
    let all = covered-put d p index w (node_placed d p index w) aside.ready (ap (λ o. answer o (node_placed d p index w)) told.0) in
    let is = puts w.forest d p index (both_none (put_fault d p index w.forest) (over_counts w) told.0).0 in
    let place : is_attached w.forest p ≡ true = leads is.may in
    let before : Option ℕ = slice_get (children_of w.forest p) index in
    let g : Forest = put_in p before d w.forest in
    subst (Joined d w) told.1 (record {
      fit = record {
        ready = all.ready;
        held = IsHeld-put_in may_hold w.forest h aside.held p before d is.may is.fits;
        short = same-short w.forest g w.written (λ q. label_of-put_in p before d w.forest q h is.may) aside.short;
        lying = each_moved (λ x. lies_aside d w.forest x ≡ true) (λ x. lies g x ≡ true) (put_moves p index) w.selection (λ x so.
            let parts = both (is_in d w.forest x.key) (lies_in w.forest x) so in
            ap₂ ◌&&◌ (ap (is_attached g) (key_of_put p index x) ∙ joined_in d w.forest p x.key before h is.may place parts.0)
            (lies_put w.forest d p index x.key x.offset x.kind before h is.may parts.1)) aside.lying;
      };
      attached = λ q so. joined_in d w.forest p q before h is.may place so;
    })

pub joined : (d other : ℕ) (w v : Working) → Aside d w → is_in d w.forest other ≡ true → put_behind_step d other w ≡ Ok v → Joined d w v
joined d other w v aside inside e =
    let by = placed_behind d other w v e in
    let h = aside.ready.in_order in
    joined_at d by.parent by.at w v aside (λ can.
    sym (is_attached-up w.forest other by.parent h by.up) ∙ place_there d w.forest other by.parent h by.up can inside) by.put
