-- An item that goes a level deeper and comes up again.
use Rattle.std.specs.Prelude.{ℕ, ◌≡◌, ◌≢◌, ◌&&◌, Bool, true, [], ◌∷◌, Option, None, Some, Ok}
use Rattle.lx_node.specs.Kinds.{is_item, may_hold}
use Rattle.lx_select.specs.declared.selection.Selection.{Selection}
use Rattle.lx_select.specs.declared.selection.Selection.TheVariants.{Range}
use Rattle.lx_forest.specs.Forest.{Forest}
use Rattle.lx_forest.specs.Lookups.{children_of, previous_of, next_of, is_within, is_attached, IsHeld}
use Rattle.lx_forest.specs.Edits.{drop_detached}
use Rattle.lx_draft.specs.Working.{Working}
use Rattle.lx_draft.specs.Covering.{IsReady}
use Rattle.lx_blocks.specs.Blocks.{is_at}
use Rattle.lx_blocks.specs.declared.ranges.Ranged.{Ranged}
use Rattle.lx_blocks.specs.Ranges.{range_of}
use Rattle.lx_blocks.specs.Lines.{selected_lines}
use Rattle.lx_list.specs.Nesting.{nested_in}
use Rattle.lx_list.specs.Indenting.{indented, indent_step}
use Rattle.lx_list.specs.Outdenting.{outdented, outdent_step}

-- the list in the item right before a node, where that is nesting
abbrev pub nested_before : Forest → ℕ → Option ℕ
nested_before f x = nested_in f (previous_of f x)

-- the list in the item right after a node, where that is nesting
abbrev pub nested_behind : Forest → ℕ → Option ℕ
nested_behind f x = nested_in f (next_of f x)

-- an item of the draft w, in which each node holds what it may, went a level deeper, which left v, and up again, which
-- left u
pub record GoesAndComes (x : ℕ) (w v u : Working) : Type 0 where
  pub ready : IsReady w
  pub held : IsHeld may_hold w.forest
  pub item : is_at is_item w.forest x ≡ true
  pub deeper : indented x w ≡ Ok v
  pub up : outdented x v ≡ Ok u

-- both points of a range are in the tree of a node; another selection has no points
abbrev pub has_points_within : Forest → ℕ → Selection → Bool
has_points_within f k (Range a b format) = is_within f k a.key && is_within f k b.key
has_points_within f k other = true

-- points in the item stay where they are, when it goes and when it comes
abbrev pub PointsStay : ℕ → Working → Working → Working → Type 0
PointsStay x w v u = has_points_within w.forest x w.selection ≡ true → (v.selection ≡ w.selection) × (u.selection ≡ w.selection)

-- x is all that a command goes by: the one line that the range of a draft selects, and in the root's tree
pub record SelectsAlone (x : ℕ) (w : Working) : Type 0 where
  pub range : Ranged
  pub is : range_of w ≡ Ok range
  pub line : selected_lines w.forest range ≡ x ∷ []
  pub attached : is_attached w.forest x ≡ true

-- an item went a level deeper and up again by the two commands, each of which goes by it alone
pub record CommandsGoAndCome (x : ℕ) (w v u : Working) : Type 0 where
  pub ready : IsReady w
  pub held : IsHeld may_hold w.forest
  pub item : is_at is_item w.forest x ≡ true
  pub before : SelectsAlone x w
  pub deeper : indent_step w ≡ Ok v
  pub between : SelectsAlone x v
  pub up : outdent_step v ≡ Ok u

-- an item that goes a level deeper and comes up again is where it was, with the whole tree, unless the items before it
-- and after it are both nesting
pub record LevelsComeAndGo : Type 0 where
  -- between items that aren't nesting: the tree is as it was
  pub alone : (x : ℕ) (w v u : Working) → GoesAndComes x w v u
      → nested_before w.forest x ≡ None → nested_behind w.forest x ≡ None → (drop_detached u.forest ≡ drop_detached w.forest) × PointsStay x w v u
  -- after a nesting item alone, or before one alone, whose list isn't empty: every node is where it was, as it was
  pub behind : (x list : ℕ) (w v u : Working) → GoesAndComes x w v u
      → nested_before w.forest x ≡ Some list → nested_behind w.forest x ≡ None → children_of w.forest list ≢ [] → (u.forest ≡ w.forest) × PointsStay x w v u
  pub ahead : (x list : ℕ) (w v u : Working) → GoesAndComes x w v u
      → nested_before w.forest x ≡ None → nested_behind w.forest x ≡ Some list → children_of w.forest list ≢ [] → (u.forest ≡ w.forest) × PointsStay x w v u
  -- and the commands do just that
  pub commands : (x : ℕ) (w v u : Working) → CommandsGoAndCome x w v u → GoesAndComes x w v u
