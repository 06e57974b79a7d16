-- Steps about nodes on which no point is leave the selection as it is.
use Rattle.std.proofs.Common.{◌≡◌, ◌≢◌, ◌∙◌, ℕ, ◌==◌, true, false, Option, Some, Result, Ok, refl, sym, ap, arith}
use Rattle.std.specs.Option.{option_or}
use Rattle.std.proofs.lemmas.Bool.{or_parts}
use Rattle.std.proofs.lemmas.Bool.Decides.{eqb_tells}
use Rattle.lx_trees.specs.Siblings.{is_among}
use Rattle.lx_node.specs.declared.cause.Cause.{Cause}
use Rattle.lx_node.specs.declared.cause.Point.{Point}
use Rattle.lx_select.specs.declared.selection.Selection.{Selection}
use Rattle.lx_select.specs.declared.selection.Selection.TheVariants.{Range}
use Rattle.lx_select.specs.Selection.{has_point_on}
use Rattle.lx_select.specs.Rules.{take_moves, is_behind}
use Rattle.lx_select.proofs.Apart.{put-apart}
use Rattle.lx_forest.specs.Forest.{Forest}
use Rattle.lx_forest.specs.Lookups.{parent_of, children_of, size_of, next_of, index_of, is_within, IsForest}
use Rattle.lx_links.specs.Faults.{detach_fault}
use Rattle.lx_draft.specs.Working.{Working}
use Rattle.lx_draft.specs.Faults.{after, over_counts, put_fault}
use Rattle.lx_draft.specs.Steps.{take_points, node_taken, node_placed, take_step, put_step}
use Rattle.lx_draft.specs.Beside.{gap_index, put_before_step, put_behind_step}
use Rattle.lx_draft.proofs.Covered.{answered}
use Rattle.lx_draft.proofs.Gaps.{before_is, behind_is}
use Rattle.lx_edit.specs.Edits.{moved_before, moved_behind, moved_to_end, sent_away, remove_step}
use Rattle.lx_edit.proofs.Climbed.{first_part, sent_away-apart}
use Rattle.lx_list.specs.Indenting.{moved_to_front}
use Rattle.lx_edit_laws.proofs.WrapSteps.{still_there}
use Rattle.lx_edit_laws.proofs.WrapTurns.{left_alone}
use Rattle.lx_list_laws.specs.Levels.{has_points_within}

-- no point in the tree of x is on a node outside

pub off_outside : (f : Forest) (x q : ℕ) (s : Selection) → has_points_within f x s ≡ true → is_within f x q ≡ false → has_point_on q s ≡ false
off_outside f x q (Range a b format) points outside = grind (arith, points, outside, eqb_tells a.key q, eqb_tells b.key q)
off_outside f x q other points outside = refl

-- ---- take and put

take_leaves : (p index : ℕ) (a : Point) → (a.key == p) ≡ false → take_moves p index a ≡ a
unfolding take_moves is_behind
take_leaves p index a off = grind (arith, off)

take_apart : (p : ℕ) (o : Option ℕ) (s : Selection) → has_point_on p s ≡ false → take_points (Some p) o s ≡ s
take_apart p (Some index) (Range a b format) off = let each =
    or_parts (a.key == p) (b.key == p) off in rw (take_leaves p index a each.0, take_leaves p index b each.1) refl
take_apart p o other off = refl

pub take_stays : (k p : ℕ) (w v : Working) → take_step k w ≡ Ok v → parent_of w.forest k ≡ Some p → has_point_on p w.selection ≡ false
    → v.selection ≡ w.selection
unfolding take_step
take_stays k p w v e up off =
    let told = answered (option_or (detach_fault k w.forest) (over_counts w)) (node_taken k w) v e in
    sym (ap (λ (x : Working). x.selection) told.1) ∙ ap (λ o. take_points o (index_of w.forest k) w.selection) up
    ∙ take_apart p (index_of w.forest k) w.selection off

pub put_stays : (k p index : ℕ) (w v : Working) → put_step k p index w ≡ Ok v → has_point_on p w.selection ≡ false → v.selection ≡ w.selection
unfolding put_step
put_stays k p index w v e off =
    let told = answered (option_or (put_fault k p index w.forest) (over_counts w)) (node_placed k p index w) v e in
    sym (ap (λ (x : Working). x.selection) told.1) ∙ put-apart p index w.selection off

pub before_stays : (k other p : ℕ) (w v : Working) → IsForest w.forest → parent_of w.forest other ≡ Some p → put_before_step k other w ≡ Ok v
    → has_point_on p w.selection ≡ false → v.selection ≡ w.selection
before_stays k other p w v h up e off = put_stays k p (gap_index (Some other) (children_of w.forest p)) w v (before_is w k p other h up ∙ e) off

behind_stays : (k other p : ℕ) (w v : Working) → IsForest w.forest → parent_of w.forest other ≡ Some p → put_behind_step k other w ≡ Ok v
    → has_point_on p w.selection ≡ false → v.selection ≡ w.selection
behind_stays k other p w v h up e off =
    put_stays k p (gap_index (next_of w.forest other) (children_of w.forest p)) w v (behind_is w k p other (next_of w.forest other) refl h up ∙ e) off

-- ---- moves, from below one node to below another

pub to_end_stays : (to k p : ℕ) (w v : Working) → moved_to_end to k w ≡ Ok v → parent_of w.forest k ≡ Some p → has_point_on p w.selection ≡ false
    → has_point_on to w.selection ≡ false → v.selection ≡ w.selection
unfolding moved_to_end
to_end_stays to k p w v e up off off_to =
    let a = first_part (take_step k w) (λ u. put_step k to (size_of u.forest to) u) v e in
    let taken = take_stays k p w a.0 a.1 up off in
    put_stays k to (size_of a.0.forest to) a.0 v a.2 (ap (has_point_on to) taken ∙ off_to) ∙ taken

pub to_front_stays : (to k p : ℕ) (w v : Working) → moved_to_front to k w ≡ Ok v → parent_of w.forest k ≡ Some p → has_point_on p w.selection ≡ false
    → has_point_on to w.selection ≡ false → v.selection ≡ w.selection
unfolding moved_to_front
to_front_stays to k p w v e up off off_to =
    let a = first_part (take_step k w) (put_step k to 0) v e in
    let taken = take_stays k p w a.0 a.1 up off in
    put_stays k to 0 a.0 v a.2 (ap (has_point_on to) taken ∙ off_to) ∙ taken

-- a node taken out and put beside another leaves the selection, where no point is on the parent that it comes from or goes to
abbrev pub BesideStays : (ℕ → ℕ → Working → Result Working Cause) → Type 0
BesideStays step = (other k from p : ℕ) (w v : Working) → IsForest w.forest → parent_of w.forest other ≡ Some p → other ≢ k
    → step other k w ≡ Ok v → parent_of w.forest k ≡ Some from
    → has_point_on from w.selection ≡ false → has_point_on p w.selection ≡ false → v.selection ≡ w.selection

moved_beside_stays : (put : ℕ → ℕ → Working → Result Working Cause)
    → ((k other p : ℕ) (u v : Working) → IsForest u.forest → parent_of u.forest other ≡ Some p → put k other u ≡ Ok v
    → has_point_on p u.selection ≡ false → v.selection ≡ u.selection)
    → BesideStays (λ other k w. after (take_step k w) (put k other))
moved_beside_stays put put_stays other k from p w v h up apart e below off off_to =
    let a = first_part (take_step k w) (put k other) v e in
    let taken = take_stays k from w a.0 a.1 below off in
    let still = still_there k other p w a.0 h up apart a.1 in
    put_stays k other p a.0 v still.0 still.1 a.2 (ap (has_point_on p) taken ∙ off_to) ∙ taken

pub moved_before_stays : BesideStays moved_before
unfolding moved_before
moved_before_stays = moved_beside_stays put_before_step before_stays

pub moved_behind_stays : BesideStays moved_behind
unfolding moved_behind
moved_behind_stays = moved_beside_stays put_behind_step behind_stays

-- ---- removed

pub sent_stays : (k p : ℕ) (w v : Working) → take_step k (sent_away k w) ≡ Ok v → parent_of w.forest k ≡ Some p → has_point_on k w.selection ≡ false
    → has_point_on p w.selection ≡ false → v.selection ≡ w.selection
sent_stays k p w v e up off off_above = take_stays k p w v (ap (take_step k) (sym (sent_away-apart k w off)) ∙ e) up off_above

-- where another child is left, nothing above goes too
pub removed_stays : (k p s : ℕ) (w v : Working) → IsForest w.forest → parent_of w.forest k ≡ Some p → is_among s (children_of w.forest p) ≡ true → s ≢ k
    → remove_step k w ≡ Ok v → has_point_on k w.selection ≡ false → has_point_on p w.selection ≡ false → v.selection ≡ w.selection
removed_stays k p s w v h up among other e off off_above = sent_stays k p w v (left_alone k p s w v h up among other e) up off off_above
