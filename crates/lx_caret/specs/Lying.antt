-- Selections that lie in the root's tree, and commands that leave such.
use Rattle.std.specs.Prelude.{◌≡◌, true, Result, Ok}
use Rattle.lx_node.specs.Kinds.{may_hold}
use Rattle.lx_node.specs.declared.cause.Cause.{Cause}
use Rattle.lx_node.specs.declared.cause.Point.{Point}
use Rattle.lx_select.specs.declared.selection.Selection.{Selection}
use Rattle.lx_select.specs.declared.selection.Selection.TheVariants.{Range}
use Rattle.lx_forest.specs.Lookups.{IsHeld}
use Rattle.lx_draft.specs.Working.{Working, TextsAreShort}
use Rattle.lx_draft.specs.Covering.{IsReady}
use Rattle.lx_blocks.specs.Ranges.{lies}

-- each point of a range has a property, and of other selections nothing is asked
abbrev pub EachPoint : (Point → Type 0) → Selection → Type 0
EachPoint P (Range a b format) = P a × P b
EachPoint P other = Unit {0}

-- the points of a range lie in the root's tree
abbrev pub IsLying : Working → Type 0
IsLying w = EachPoint (λ p. lies w.forest p ≡ true) w.selection

-- a command that isn't refused leaves a selection that lies in the tree, whatever was selected: the draft is in order,
-- its nodes hold what they may, and its texts are short
abbrev pub LeavesLying : (Working → Result Working Cause) → Type 0
LeavesLying command = (w v : Working) → IsReady w → IsHeld may_hold w.forest → TextsAreShort w → command w ≡ Ok v → IsLying v
