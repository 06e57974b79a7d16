-- Numbers that are written leave a selection in the tree.
use Rattle.std.proofs.Common.{◌≡◌, ℕ, ◌+◌, cond, List, [], ◌∷◌, Ok, subst}
use Rattle.std.specs.Prelude.{filter}
use Rattle.lx_node.specs.Kinds.{may_hold, is_list}
use Rattle.lx_forest.specs.Lookups.{fields_of, children_of, preorder, IsHeld}
use Rattle.lx_draft.specs.Working.{Working, TextsAreShort}
use Rattle.lx_draft.specs.Covering.{IsReady}
use Rattle.lx_blocks.specs.Blocks.{is_at}
use Rattle.lx_caret.specs.Lying.{IsLying}
use Rattle.lx_caret.proofs.Fit.{after_tells, Fit}
use Rattle.lx_list.specs.Nesting.{is_nesting}
use Rattle.lx_list.specs.Making.{with_extra_changed, with_number, number_item}
use Rattle.lx_list.specs.Numbering.{list_start, numbered_from, list_numbered, number_step}
use Rattle.lx_list.specs.Laws.{KeepsLyingInTree}
use Rattle.lx_list.proofs.Linewise.{each_fits}
use Rattle.lx_list.proofs.Written.{stays_change}

number_fits : (n item : ℕ) (w v : Working) → Fit w → number_item n item w ≡ Ok v → Fit v
unfolding number_item
number_fits n item w v fit e = (stays_change (with_extra_changed (with_number n)) item w v fit e).fit

numbered_fits : (n : ℕ) (items : List ℕ) (w v : Working) → Fit w → numbered_from n items w ≡ Ok v → Fit v
unfolding numbered_from
numbered_fits n [] w v fit e = let is : w ≡ v = cc in subst Fit is fit
numbered_fits n (item ∷ items) w v fit e =
    let next : ℕ = cond (is_nesting w.forest item) n (n + 1) in
    let first = after_tells (number_item n item w) (numbered_from next items) v e in
    numbered_fits next items first.0 v (number_fits n item w first.0 fit first.1.0) first.1.1

list_fits : (list : ℕ) (w v : Working) → Fit w → list_numbered list w ≡ Ok v → Fit v
list_fits list w v fit e = numbered_fits (list_start (fields_of w.forest list)) (children_of w.forest list) w v fit e

pub lies-number : KeepsLyingInTree number_step
unfolding number_step
lies-number w v ready held short lying e =
    (each_fits list_numbered list_fits (filter (is_at is_list w.forest) (preorder w.forest)) w v
    (record { ready = ready; held = held; short = short; lying = lying }) e).lying

-- the same, as a call tells it
pub number_lies : (w v : Working) → IsReady w → IsHeld may_hold w.forest → number_step w ≡ Ok v → TextsAreShort w → IsLying w → IsLying v
number_lies w v ready held e short lying = lies-number w v ready held short lying e
