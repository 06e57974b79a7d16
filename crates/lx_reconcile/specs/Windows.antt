-- A run of children of a node, and what is beside it. Only this crate's own contracts cite it.
use Rattle.std.specs.Prelude.{ℕ, ◌≡◌, ◌+◌, ◌++◌, Bool, false, true, is_none, if◌then◌else◌, List, [], ◌∷◌, length, map, filter, Option, None, Some}
use Rattle.lx_trees.specs.Siblings.{is_among, first_of, last_of, next_in, previous_in, from_name, up_to_name}
use Rattle.lx_node.specs.declared.node.Node.{Node}
use Rattle.lx_reconcile.specs.declared.moves.Move.{Move}
use Rattle.lx_reconcile.specs.declared.windows.Window.{Window}
use Rattle.lx_reconcile.specs.Walk.{toward, IsWalk}

-- ---- the children before

-- it is a run of these children, between a front and a back
pub record IsWindow (children : List ℕ) (w : Window) : Type 0 where
  pub front : List ℕ
  pub back : List ℕ
  pub list : children ≡ front ++ (w.keys.items ++ back)
  pub before : w.before ≡ last_of front
  pub behind : w.behind ≡ first_of back

-- how many of these carry a mark
abbrev pub marked_among : (ℕ → Bool) → List ℕ → ℕ
marked_among noted keys = length (filter noted keys)

-- the child right after a run, or else the one right before it
abbrev pub beside : Bool → Window → Option ℕ
beside behind w = if behind then w.behind else w.before

-- a child was added to a run: the one right after it, or else the one right before it
pub record IsGrown (behind : Bool) (child : ℕ) (node : Node) (old new : Window) : Type 0 where
  pub keys : new.keys.items ≡ (if behind then old.keys.items ++ child ∷ [] else child ∷ old.keys.items)
  pub before : new.before ≡ (if behind then old.before else node.prev)
  pub behind_is : new.behind ≡ (if behind then node.next else old.behind)

-- One more child was taken into a run, and it is said whether it carries a mark.
pub record Takes (noted : ℕ → Bool) (children : List ℕ) (old new : Window) (marked : Bool) : Type 0 where
  pub is : IsWindow children new
  pub marks : marked_among noted new.keys.items ≡ marked_among noted old.keys.items + (if marked then 1 else 0)
  pub one : length new.keys.items ≡ length old.keys.items + 1

-- It holds all that carry a mark, and none only where there are no children.
pub record IsWindowOfMarks (noted : ℕ → Bool) (children : List ℕ) (w : Window) : Type 0 where
  pub is : IsWindow children w
  pub front_plain : (k : ℕ) → is_among k is.front ≡ true → noted k ≡ false
  pub back_plain : (k : ℕ) → is_among k is.back ≡ true → noted k ≡ false
  pub none : w.keys.items ≡ [] → children ≡ []

-- Each of the first children that carries no mark is one of the second, between the same neighbours.
pub record PlainStay (noted : ℕ → Bool) (olds news : List ℕ) : Type 0 where
  pub among : (c : ℕ) → is_among c olds ≡ true → noted c ≡ false → is_among c news ≡ true
  pub previous : (c : ℕ) → is_among c olds ≡ true → noted c ≡ false → previous_in news c ≡ previous_in olds c
  pub next : (c : ℕ) → is_among c olds ≡ true → noted c ≡ false → next_in news c ≡ next_in olds c

-- ---- the children after

-- the names up to that one, or all where none is named
abbrev pub up_to_end : Option ℕ → List ℕ → List ℕ
up_to_end None keys = keys
up_to_end (Some last) keys = up_to_name (Some last) keys

-- the names from the first of these two on, up to the second, or to the end where it isn't named
abbrev pub between_names : Option ℕ → Option ℕ → List ℕ → List ℕ
between_names first last keys = up_to_end last (from_name first keys)

-- where a run begins among the children after, of which that is the first
abbrev pub start_of : Window → Option ℕ → Option ℕ
start_of w first = if is_none w.before then first else first_of w.keys.items

-- where a run ends among the children after, if something comes after it
abbrev pub end_of : Window → Option ℕ
end_of w = if is_none w.behind then None else last_of w.keys.items

-- The moves are those of a walk over the run before and what is in its place after.
pub record IsWalkIn (w : Window) (first : Option ℕ) (news : List ℕ) (moves : List Move) : Type 0 where
  pub walk : List Move
  pub is : IsWalk w.keys.items (between_names (start_of w first) (end_of w) news) walk
  pub moves_are : moves ≡ map (toward w.behind) walk
