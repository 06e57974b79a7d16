-- A walk through the root's tree in preorder.
use Rattle.std.specs.Prelude.{ℕ, ◌≡◌, List, [], ◌∷◌, Option, None, Some}
use Rattle.lx_trees.specs.Siblings.{last_of}
use Rattle.lx_forest.specs.Forest.{Forest}
use Rattle.lx_forest.specs.Lookups.{ancestors, preorder, from, depth}
use Rattle.lx_blocks.specs.Places.{until}

-- the nodes from one on, which comes with its depth: none where there is none
abbrev pub left_from : Forest → Option (ℕ × ℕ) → List ℕ
left_from f None = []
left_from f (Some at) = from f at.0

-- a node and those above it, the nearest first: none where there is none
abbrev pub upward_from : Forest → Option ℕ → List ℕ
upward_from f None = []
upward_from f (Some k) = k ∷ ancestors f k

-- the depth with which the node comes is its own
abbrev pub IsAt : Forest → Option (ℕ × ℕ) → Type 0
IsAt f None = Unit {0}
IsAt f (Some at) = depth f at.0 ≡ Some at.1

-- the nodes before one in the root's tree, in preorder
abbrev pub nodes_before : Forest → ℕ → List ℕ
nodes_before f k = until (Some k) (preorder f)

-- the last of the nodes before one
abbrev pub node_before : Forest → ℕ → Option ℕ
node_before f k = last_of (nodes_before f k)

-- the key of a step of a walk, without its depth
abbrev pub key_of_step : Option (ℕ × ℕ) → Option ℕ
key_of_step None = None
key_of_step (Some at) = Some at.0
