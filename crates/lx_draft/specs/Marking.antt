-- Which nodes an edit marks, and in which order.
use Rattle.std.specs.Prelude.{ℕ, true, false, if◌then◌else◌, List, [], ◌∷◌, Option, None, Some}
use Rattle.lx_node.specs.Kinds.{is_element}
use Rattle.lx_node.specs.declared.kind.Kind.{Kind}
use Rattle.lx_marks.specs.Marks.{Marked, with_leaf, with_marked}
use Rattle.lx_forest.specs.Forest.{Forest}
use Rattle.lx_forest.specs.Lookups.{kind_of, parent_of, previous_of, next_of, ancestors}
use Rattle.lx_draft.specs.Working.{Working}

-- ancestors marked, from the nearest, since something below them is
abbrev pub mark_above : List ℕ → Marked → Marked
mark_above [] m = m
mark_above (k ∷ ks) m = mark_above ks (with_marked k false m)

-- a node marked itself, as a leaf or as an element, if it is there
abbrev pub mark_itself : Option Kind → ℕ → Marked → Marked
mark_itself None k m = m
mark_itself (Some kind) k m = if is_element kind then with_marked k true m else with_leaf k m

-- a node marked, and then its ancestors
unfoldable pub mark_node : Forest → ℕ → Marked → Marked
mark_node f k m = mark_above (ancestors f k) (mark_itself (kind_of f k) k m)

-- several nodes marked, one after another, each followed by its ancestors
abbrev pub mark_nodes : Forest → List ℕ → Marked → Marked
mark_nodes f [] m = m
mark_nodes f (k ∷ ks) m = mark_nodes f ks (mark_node f k m)

-- a key, if there is one, in front of keys
abbrev pub with_key : Option ℕ → List ℕ → List ℕ
with_key None ks = ks
with_key (Some k) ks = k ∷ ks

-- a node, its parent, and its neighbours
abbrev pub near : Forest → ℕ → List ℕ
near f k = k ∷ with_key (parent_of f k) (with_key (previous_of f k) (with_key (next_of f k) []))

-- a draft in which these nodes of a forest are marked: anew too, so they are to be handled again
abbrev pub marked_in : Forest → List ℕ → Working → Working
marked_in f ks w = record w { marks = mark_nodes f ks w.marks; fresh = mark_nodes f ks w.fresh }
