-- A step at each selected line leaves a selection in the tree, where it does at one.
use Rattle.std.proofs.Common.{◌≡◌, ℕ, Bool, true, false, cond, List, [], ◌∷◌, Result, Ok, refl, subst}
use Rattle.lx_node.specs.declared.cause.Cause.{Cause}
use Rattle.lx_forest.specs.Lookups.{is_attached}
use Rattle.lx_draft.specs.Working.{Working}
use Rattle.lx_edit.specs.InTurn.{in_turn}
use Rattle.lx_blocks.specs.Lines.{selected_lines}
use Rattle.lx_blocks.specs.Ranges.{range_of}
use Rattle.lx_caret.specs.Lying.{LeavesLying}
use Rattle.lx_caret.proofs.Fit.{after_tells, Fit}
use Rattle.lx_caret.proofs.Cleared.{range_lies, fit_of}
use Rattle.lx_list.specs.Lines.{step_if_there, each_line}

-- a step at a line of the root's tree keeps a draft on which a command goes on
abbrev pub FitsAtLine : (ℕ → Working → Result Working Cause) → Type 0
FitsAtLine step = (k : ℕ) (w v : Working) → Fit w → is_attached w.forest k ≡ true → step k w ≡ Ok v → Fit v

there_fits : (step : ℕ → Working → Result Working Cause) → FitsAtLine step → (k : ℕ) (w v : Working) → Fit w → step_if_there step k w ≡ Ok v → Fit v
there_fits step fits k w v fit e = by_test (is_attached w.forest k) refl e where
  by_test : (b : Bool) → is_attached w.forest k ≡ b → cond b (step k w) (Ok w) ≡ Ok v → Fit v
  by_test true there e = fits k w v fit there e
  by_test false out e = let is : w ≡ v = cc in subst Fit is fit

pub each_fits : (step : ℕ → Working → Result Working Cause) → ((k : ℕ) (w v : Working) → Fit w → step k w ≡ Ok v → Fit v)
    → (ks : List ℕ) (w v : Working)
    → Fit w → in_turn step ks w ≡ Ok v → Fit v
unfolding in_turn
each_fits step fits [] w v fit e = let is : w ≡ v = cc in subst Fit is fit
each_fits step fits (k ∷ ks) w v fit e =
    let first = after_tells (step k w) (in_turn step ks) v e in
    each_fits step fits ks first.0 v (fits k w first.0 fit first.1.0) first.1.1

pub each_line_lies : (step : ℕ → Working → Result Working Cause) → FitsAtLine step → LeavesLying (each_line step)
unfolding each_line
each_line_lies step fits w v ready held short e =
    let first = after_tells (range_of w) (λ range. in_turn (step_if_there step) (selected_lines w.forest range) w) v e in
    (each_fits (step_if_there step) (there_fits step fits) (selected_lines w.forest first.0) w v
    (fit_of w first.0 ready held short (range_lies w first.0 first.1.0)) first.1.1).lying
