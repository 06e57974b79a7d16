-- Trees that are copied, of which a slice is written.
use Rattle.std.specs.Prelude.{◌≡◌, Some}
use Rattle.lx_node.specs.Kinds.{may_hold}
use Rattle.lx_select.specs.declared.selection.Selection.{Selection}
use Rattle.lx_forest.specs.Forest.{Forest}
use Rattle.lx_forest.specs.Lookups.{IsForest, IsHeld}
use Rattle.lx_json.specs.GivenBack.{AreGivenBack}
use Rattle.lx_clip.specs.Slices.{sliced}

-- What a selection covers of a tree in order, in which each node holds what it may. What is written for each covered node gives
-- its fields back.
pub record IsCopy (c : Forest) : Type 0 where
  pub tree : Forest
  pub selection : Selection
  pub order : IsForest tree
  pub held : IsHeld may_hold tree
  pub covered : sliced tree selection ≡ Some c
  pub back : AreGivenBack c
