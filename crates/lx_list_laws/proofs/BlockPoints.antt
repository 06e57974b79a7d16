-- Where points go with the children of their node, and with all points on it.
use Rattle.std.proofs.Common.{◌≡◌, ◌≢◌, ◌∙◌, ℕ, true, false, cond, eqb, List, [], ◌∷◌, Option, None, Some, Ok, refl, sym, ap, ap₂, subst, arith, inl, inr}
use Rattle.std.specs.Option.{option_or}
use Rattle.std.proofs.lemmas.Bool.Decides.{eqb_tells}
use Rattle.lx_trees.specs.Siblings.{is_among, NoRepeats}
use Rattle.lx_node.specs.declared.cause.Point.{Point}
use Rattle.lx_select.specs.declared.selection.Selection.{Selection}
use Rattle.lx_select.specs.declared.selection.Selection.TheVariants.{Nothing, Range, Nodes, Cells}
use Rattle.lx_select.specs.Selection.{each_point, has_point_on, ends_of, carried, carried_point}
use Rattle.lx_select.specs.Rules.{is_behind, take_moves, put_moves, carry_moves, moved_to}
use Rattle.lx_forest.specs.Lookups.{parent_of, index_of, size_of, IsForest}
use Rattle.lx_links.specs.Faults.{detach_fault}
use Rattle.lx_draft.specs.Working.{Working}
use Rattle.lx_draft.specs.Faults.{over_counts, put_fault}
use Rattle.lx_draft.specs.Steps.{take_points, node_taken, node_placed, take_step, put_step}
use Rattle.lx_draft.proofs.Covered.{answered}
use Rattle.lx_edit.specs.InTurn.{in_turn}
use Rattle.lx_edit.specs.Edits.{element_point, moved_to_end}
use Rattle.lx_edit.proofs.Climbed.{first_part}
use Rattle.lx_edit_laws.proofs.WrapSteps.{was_moved_to_end, was_same}
use Rattle.lx_edit_laws.proofs.WrapTrees.{IsForest-moved, parent_of-moved}
use Rattle.lx_caret.specs.Lying.{EachPoint}
use Rattle.lx_caret.proofs.Fit.{each_all}
use Rattle.lx_list_laws.proofs.LevelPoints.{take_stays}
use Rattle.lx_list_laws.proofs.StayKeys.{carry_key}

-- ---- points on two nodes move, and all others stay

pub record MovesOn (from to : ℕ) (s t : Selection) : Type 0 where
  pub by : Point → Point
  pub is : t ≡ each_point by s
  pub still : (a : Point) → a.key ≢ from → a.key ≢ to → by a ≡ a

each_self : (s : Selection) → s ≡ each_point (λ a. a) s
each_self (Range a b format) = refl
each_self other = refl

each_twice : (first second : Point → Point) (s : Selection) → each_point second (each_point first s) ≡ each_point (λ a. second (first a)) s
each_twice first second (Range a b format) = refl
each_twice first second other = refl

moves_self : (from to : ℕ) (s : Selection) → MovesOn from to s s
moves_self from to s = record { by = λ a. a; is = each_self s; still = λ a x y. refl }

moves_then : (from to : ℕ) (s t u : Selection) → MovesOn from to s t → MovesOn from to t u → MovesOn from to s u
moves_then from to s t u m n = record {
  by = λ a. n.by (m.by a);
  is = n.is ∙ ap (each_point n.by) m.is ∙ each_twice m.by n.by s;
  still = λ a x y. ap n.by (m.still a x y) ∙ n.still a x y;
}

take_leaves : (p index : ℕ) (a : Point) → a.key ≢ p → take_moves p index a ≡ a
unfolding take_moves is_behind
take_leaves p index a off = grind (arith, off, eqb_tells a.key p)

put_leaves : (p index : ℕ) (a : Point) → a.key ≢ p → put_moves p index a ≡ a
unfolding put_moves is_behind
put_leaves p index a off = grind (arith, off, eqb_tells a.key p)

moves_take : (k from to : ℕ) (w v : Working) → parent_of w.forest k ≡ Some from → take_step k w ≡ Ok v → MovesOn from to w.selection v.selection
unfolding take_step
moves_take k from to w v up e =
    let told = answered (option_or (detach_fault k w.forest) (over_counts w)) (node_taken k w) v e in
    subst (MovesOn from to w.selection) (ap (λ o. take_points o (index_of w.forest k) w.selection) (sym up) ∙ ap (λ (x : Working). x.selection) told.1)
    (by_index (index_of w.forest k)) where
      by_index : (o : Option ℕ) → MovesOn from to w.selection (take_points (Some from) o w.selection)
      by_index None = moves_self from to w.selection
      by_index (Some i) = record { by = take_moves from i; is = refl; still = λ a x y. take_leaves from i a x }

moves_put : (k from to index : ℕ) (w v : Working) → put_step k to index w ≡ Ok v → MovesOn from to w.selection v.selection
unfolding put_step
moves_put k from to index w v e =
    let told = answered (option_or (put_fault k to index w.forest) (over_counts w)) (node_placed k to index w) v e in
    subst (MovesOn from to w.selection) (ap (λ (x : Working). x.selection) told.1)
    (record { by = put_moves to index; is = refl; still = λ a x y. put_leaves to index a y })

moves_to_end : (to k from : ℕ) (w v : Working) → parent_of w.forest k ≡ Some from → moved_to_end to k w ≡ Ok v → MovesOn from to w.selection v.selection
unfolding moved_to_end
moves_to_end to k from w v up e =
    let a = first_part (take_step k w) (λ u. put_step k to (size_of u.forest to) u) v e in
    moves_then from to w.selection a.0.selection v.selection (moves_take k from to w a.0 up a.1) (moves_put k from to (size_of a.0.forest to) a.0 v a.2)

-- those below a node are below it still as one of them goes
parents_left : (to from k : ℕ) (ks : List ℕ) (w u : Working) → IsForest w.forest → NoRepeats (k ∷ ks)
    → ((q : ℕ) → is_among q (k ∷ ks) ≡ true → parent_of w.forest q ≡ Some from)
    → moved_to_end to k w ≡ Ok u → IsForest u.forest × ((q : ℕ) → is_among q ks ≡ true → parent_of u.forest q ≡ Some from)
parents_left to from k ks w u h once up e =
    let m = was_moved_to_end to k w u e in (
      IsForest-moved w.forest u.forest to k None h m,
      λ q among.
          let other : eqb q k ≡ false = grind (arith, among, once.0, eqb_tells q k) in
          parent_of-moved w.forest u.forest to k None h m q ∙ ap (λ t. cond t (Some to) (parent_of w.forest q)) other ∙ up q (grind (arith, among)),
    )

pub moves_each : (to from : ℕ) (ks : List ℕ) (w v : Working) → IsForest w.forest → NoRepeats ks
    → ((q : ℕ) → is_among q ks ≡ true → parent_of w.forest q ≡ Some from)
    → in_turn (moved_to_end to) ks w ≡ Ok v → MovesOn from to w.selection v.selection
unfolding in_turn
moves_each to from [] w v h once up e =
    subst (MovesOn from to w.selection) (ap (λ (x : Working). x.selection) (was_same w v e)) (moves_self from to w.selection)
moves_each to from (k ∷ ks) w v h once up e =
    let a = first_part (moved_to_end to k w) (in_turn (moved_to_end to) ks) v e in
    let left = parents_left to from k ks w a.0 h once up a.1 in
    moves_then from to w.selection a.0.selection v.selection (moves_to_end to k from w a.0 (up k (grind (arith, eqb_tells k k))) a.1)
    (moves_each to from ks a.0 v left.0 once.1 left.1 a.2)

-- ---- points on a node go along

carried_by : (from at to : ℕ) (m : Point → Point) (s : Selection)
    → carried from (carry_moves from to at) (ends_of s) (each_point m s) ≡ each_point (λ a. carried_point from (carry_moves from to at) a (m a)) s
carried_by from at to m (Range a b format) = refl
carried_by from at to m Nothing = refl
carried_by from at to m (Nodes keys) = refl
carried_by from at to m (Cells x y z) = refl

-- each point on the first is on the second then, and any other that isn't on the second stays
pub record GoesAlong (from to : ℕ) (s t : Selection) : Type 0 where
  pub by : Point → Point
  pub is : t ≡ each_point by s
  pub along : (a : Point) → a.key ≡ from → (by a).key ≡ to
  pub still : (a : Point) → a.key ≢ from → a.key ≢ to → by a ≡ a

pub goes_along : (from to at : ℕ) (s t : Selection) → MovesOn from to s t → GoesAlong from to s (carried from (carry_moves from to at) (ends_of s) t)
goes_along from to at s t m = record {
  by = λ a. carried_point from (carry_moves from to at) a (m.by a);
  is = ap (carried from (carry_moves from to at) (ends_of s)) m.is ∙ carried_by from at to m.by s;
  along = λ a own.
      let here : eqb a.key from ≡ true = grind (arith, own, eqb_tells a.key from) in
      ap (λ b. (cond b (carry_moves from to at a) (m.by a)).key) here ∙ carry_key from to at a own;
  still = λ a x y.
      let away : eqb a.key from ≡ false = grind (arith, x, eqb_tells a.key from) in
      ap (λ b. cond b (carry_moves from to at a) (m.by a)) away ∙ m.still a x y;
}

-- where none is on the first, and none on the second, all stay
pub along_apart : (from to : ℕ) (s t : Selection) → GoesAlong from to s t → has_point_on from s ≡ false → has_point_on to s ≡ false → t ≡ s
along_apart from to (Range a b format) t g off off_to =
    g.is ∙ ap₂ (λ x y. Range x y format)
    (g.still a (λ e. absurd (grind (arith, off, e, eqb_tells a.key from))) (λ e. absurd (grind (arith, off_to, e, eqb_tells a.key to))))
    (g.still b (λ e. absurd (grind (arith, off, e, eqb_tells b.key from))) (λ e. absurd (grind (arith, off_to, e, eqb_tells b.key to))))
along_apart from to other t g off off_to = g.is

sent_alike : (from to : ℕ) (there a b : Point) → (a.key ≡ from → b.key ≡ to) → (a.key ≢ from → b ≡ a) → a.key ≢ to
    → moved_to to there b ≡ moved_to from there a
unfolding moved_to
sent_alike from to there a b along still off = elim (eqb_tells a.key from) [
  | inl own ↦ grind (arith, own.0, along own.1, eqb_tells b.key to)
  | inr other ↦
      let same : b ≡ a = still other.1 in
      let away : eqb b.key to ≡ false = ap (λ (x : Point). eqb x.key to) same ∙ grind (arith, off, eqb_tells a.key to) in
      rw (other.0, away) same
]

-- points that went along and are then sent elsewhere are those that were on the first
pub along_sent : (from to : ℕ) (there : Point) (s t : Selection) → GoesAlong from to s t → has_point_on to s ≡ false
    → each_point (moved_to to there) t ≡ each_point (moved_to from there) s
along_sent from to there (Range a b format) t g off =
    let off_a : a.key ≢ to = λ e. absurd (grind (arith, off, e, eqb_tells a.key to)) in
    let off_b : b.key ≢ to = λ e. absurd (grind (arith, off, e, eqb_tells b.key to)) in
    ap (each_point (moved_to to there)) g.is
    ∙ ap₂ (λ x y. Range x y format) (sent_alike from to there a (g.by a) (g.along a) (λ other. g.still a other off_a) off_a)
    (sent_alike from to there b (g.by b) (g.along b) (λ other. g.still b other off_b) off_b)
along_sent from to there other t g off = ap (each_point (moved_to to there)) g.is

-- and none is on a node that isn't the second, where none was, or on the first
off_then : (from to q : ℕ) (a b : Point) → (a.key ≡ from → b.key ≡ to) → (a.key ≢ from → b ≡ a) → q ≢ to → (a.key ≢ from → eqb a.key q ≡ false)
    → eqb b.key q ≡ false
off_then from to q a b along still other off = elim (eqb_tells a.key from) [
  | inl own ↦ grind (arith, along own.1, other, eqb_tells b.key q, eqb_tells q to)
  | inr away ↦ ap (λ (x : Point). eqb x.key q) (still away.1) ∙ off away.1
]

off_along : (from to q : ℕ) (s t : Selection) → GoesAlong from to s t → q ≢ to → has_point_on to s ≡ false
    → EachPoint (λ a. a.key ≢ from → eqb a.key q ≡ false) s → has_point_on q t ≡ false
off_along from to q (Range a b format) t g other off each =
    let off_a : a.key ≢ to = λ e. absurd (grind (arith, off, e, eqb_tells a.key to)) in
    let off_b : b.key ≢ to = λ e. absurd (grind (arith, off, e, eqb_tells b.key to)) in
    let first = off_then from to q a (g.by a) (g.along a) (λ x. g.still a x off_a) other each.0 in
    let second = off_then from to q b (g.by b) (g.along b) (λ x. g.still b x off_b) other each.1 in
    ap (has_point_on q) g.is ∙ grind (arith, first, second)
off_along from to q other t g apart off each = ap (has_point_on q) g.is

off_from : (from : ℕ) (s : Selection) → EachPoint (λ a. a.key ≢ from → eqb a.key from ≡ false) s
off_from from s = each_all (λ a. a.key ≢ from → eqb a.key from ≡ false) s (λ a e. grind (arith, e, eqb_tells a.key from))

off_other : (from q : ℕ) (s : Selection) → has_point_on q s ≡ false → EachPoint (λ a. a.key ≢ from → eqb a.key q ≡ false) s
off_other from q (Range a b format) off = (λ e. grind (arith, off), λ e. grind (arith, off))
off_other from q other off = tt

pub left_first : (from to : ℕ) (s t : Selection) → GoesAlong from to s t → from ≢ to → has_point_on to s ≡ false → has_point_on from t ≡ false
left_first from to s t g other off = off_along from to from s t g other off (off_from from s)

pub still_off : (from to q : ℕ) (s t : Selection) → GoesAlong from to s t → q ≢ to → has_point_on to s ≡ false → has_point_on q s ≡ false
    → has_point_on q t ≡ false
still_off from to q s t g other off off_q = off_along from to q s t g other off (off_other from q s off_q)

-- ---- points sent to the start of a node

point_off : (k q : ℕ) (there a : Point) → eqb there.key q ≡ false → (a.key ≢ k → eqb a.key q ≡ false) → eqb (moved_to k there a).key q ≡ false
unfolding moved_to
point_off k q there a away off = elim (eqb_tells a.key k) [
  | inl own ↦ rw own.0 away
  | inr other ↦ rw other.0 (off other.1)
]

pub off_sent : (k q : ℕ) (there : Point) (s : Selection) → there.key ≢ q → EachPoint (λ a. a.key ≢ k → eqb a.key q ≡ false) s
    → has_point_on q (each_point (moved_to k there) s) ≡ false
off_sent k q there (Range a b format) away each =
    let no : eqb there.key q ≡ false = grind (arith, away, eqb_tells there.key q) in
    grind (arith, point_off k q there a no each.0, point_off k q there b no each.1)
off_sent k q there other away each = refl

-- no point is left on the node that all were sent from, and none is on another on which none was
pub sent_off : (k : ℕ) (there : Point) (s : Selection) → there.key ≢ k → has_point_on k (each_point (moved_to k there) s) ≡ false
sent_off k there s away = off_sent k k there s away (off_from k s)

pub sent_off_other : (k q : ℕ) (there : Point) (s : Selection) → there.key ≢ q → has_point_on q s ≡ false
    → has_point_on q (each_point (moved_to k there) s) ≡ false
sent_off_other k q there s away off = off_sent k q there s away (off_other k q s off)

-- ---- points at the start of a node

-- each point on a node is at its start
abbrev pub AreAtStart : ℕ → Selection → Type 0
AreAtStart n s = EachPoint (λ a. a.key ≡ n → a.offset ≡ 0) s

point_start : (k n : ℕ) (a : Point) → eqb a.key n ≡ false → (moved_to k (element_point n 0) a).key ≡ n → (moved_to k (element_point n 0) a).offset ≡ 0
unfolding moved_to
point_start k n a off at = elim (eqb_tells a.key k) [
  | inl own ↦ grind (arith, own.0)
  | inr other ↦ absurd (grind (arith, other.0, at, off, eqb_tells a.key n))
]

pub sent_start : (k n : ℕ) (s : Selection) → has_point_on n s ≡ false → AreAtStart n (each_point (moved_to k (element_point n 0)) s)
sent_start k n (Range a b format) off = (point_start k n a (grind (arith, off)), point_start k n b (grind (arith, off)))
sent_start k n Nothing off = tt
sent_start k n (Nodes keys) off = tt
sent_start k n (Cells x y z) off = tt

start_stays : (n index : ℕ) (a : Point) → (a.key ≡ n → a.offset ≡ 0) → put_moves n index a ≡ a
unfolding put_moves is_behind
start_stays n index a start = elim (eqb_tells a.key n) [
  | inl own ↦ grind (arith, start own.1)
  | inr other ↦ grind (arith, other.0)
]

starts_stay : (n index : ℕ) (s : Selection) → AreAtStart n s → each_point (put_moves n index) s ≡ s
starts_stay n index (Range a b format) each = ap₂ (λ x y. Range x y format) (start_stays n index a each.0) (start_stays n index b each.1)
starts_stay n index Nothing each = refl
starts_stay n index (Nodes keys) each = refl
starts_stay n index (Cells x y z) each = refl

start_put : (k n index : ℕ) (s : Selection) (w v : Working) → put_step k n index w ≡ Ok v → w.selection ≡ s → AreAtStart n s → v.selection ≡ s
unfolding put_step
start_put k n index s w v e is start =
    let told = answered (option_or (put_fault k n index w.forest) (over_counts w)) (node_placed k n index w) v e in
    sym (ap (λ (x : Working). x.selection) told.1) ∙ ap (each_point (put_moves n index)) is ∙ starts_stay n index s start

start_to_end : (n k from : ℕ) (s : Selection) (w v : Working) → parent_of w.forest k ≡ Some from → moved_to_end n k w ≡ Ok v → w.selection ≡ s
    → has_point_on from s ≡ false → AreAtStart n s
    → v.selection ≡ s
unfolding moved_to_end
start_to_end n k from s w v up e is off start =
    let a = first_part (take_step k w) (λ u. put_step k n (size_of u.forest n) u) v e in
    start_put k n (size_of a.0.forest n) s a.0 v a.2 (take_stays k from w a.0 a.1 up (ap (has_point_on from) is ∙ off) ∙ is) start

-- they stay there as nodes come to its end
pub starts_each : (n from : ℕ) (ks : List ℕ) (s : Selection) (w v : Working) → IsForest w.forest → NoRepeats ks
    → ((q : ℕ) → is_among q ks ≡ true → parent_of w.forest q ≡ Some from)
    → in_turn (moved_to_end n) ks w ≡ Ok v → w.selection ≡ s → has_point_on from s ≡ false → AreAtStart n s → v.selection ≡ s
unfolding in_turn
starts_each n from [] s w v h once up e is off start = ap (λ (x : Working). x.selection) (sym (was_same w v e)) ∙ is
starts_each n from (k ∷ ks) s w v h once up e is off start =
    let a = first_part (moved_to_end n k w) (in_turn (moved_to_end n) ks) v e in
    let left = parents_left n from k ks w a.0 h once up a.1 in
    starts_each n from ks s a.0 v left.0 once.1 left.1 a.2 (start_to_end n k from s w a.0 (up k (grind (arith, eqb_tells k k))) a.1 is off start) off start
