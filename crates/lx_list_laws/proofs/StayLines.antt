-- A step at each selected line keeps a property of the draft, where it does at a line of the root's tree.
use Rattle.std.proofs.Common.{◌≡◌, ℕ, Bool, true, false, cond, List, [], ◌∷◌, Result, Ok, refl, subst}
use Rattle.lx_node.specs.declared.cause.Cause.{Cause}
use Rattle.lx_forest.specs.Lookups.{is_attached}
use Rattle.lx_draft.specs.Working.{Working}
use Rattle.lx_edit.specs.InTurn.{in_turn}
use Rattle.lx_blocks.specs.declared.ranges.Ranged.{Ranged}
use Rattle.lx_blocks.specs.Lines.{selected_lines}
use Rattle.lx_blocks.specs.Ranges.{range_of}
use Rattle.lx_caret.proofs.Fit.{after_tells}
use Rattle.lx_list.specs.Lines.{step_if_there, each_line}

-- a step at a line of the root's tree keeps a property
abbrev pub KeepsAtLine : (Working → Type 0) → (ℕ → Working → Result Working Cause) → Type 0
KeepsAtLine R step = (k : ℕ) (w v : Working) → R w → is_attached w.forest k ≡ true → step k w ≡ Ok v → R v

there_keeps : (R : Working → Type 0) (step : ℕ → Working → Result Working Cause) → KeepsAtLine R step → (k : ℕ) (w v : Working) → R w
    → step_if_there step k w ≡ Ok v
    → R v
there_keeps R step keeps k w v r e = by_test (is_attached w.forest k) refl e where
  by_test : (b : Bool) → is_attached w.forest k ≡ b → cond b (step k w) (Ok w) ≡ Ok v → R v
  by_test true there e = keeps k w v r there e
  by_test false out e = let is : w ≡ v = cc in subst R is r

each_keeps : (R : Working → Type 0) (step : ℕ → Working → Result Working Cause) → KeepsAtLine R step → (ks : List ℕ) (w v : Working) → R w
    → in_turn (step_if_there step) ks w ≡ Ok v → R v
unfolding in_turn
each_keeps R step keeps [] w v r e = let is : w ≡ v = cc in subst R is r
each_keeps R step keeps (k ∷ ks) w v r e =
    let first = after_tells (step_if_there step k w) (in_turn (step_if_there step) ks) v e in
    each_keeps R step keeps ks first.0 v (there_keeps R step keeps k w first.0 r first.1.0) first.1.1

-- so a command keeps it that goes line by line, where the property follows from what a command needs of the range
pub each_line_keeps : (R : Working → Type 0) (step : ℕ → Working → Result Working Cause) → KeepsAtLine R step → (w v : Working)
    → ((r : Ranged) → range_of w ≡ Ok r → R w)
    → each_line step w ≡ Ok v → R v
unfolding each_line
each_line_keeps R step keeps w v start e =
    let first = after_tells (range_of w) (λ range. in_turn (step_if_there step) (selected_lines w.forest range) w) v e in
    each_keeps R step keeps (selected_lines w.forest first.0) w v (start first.0 first.1.0) first.1.1
