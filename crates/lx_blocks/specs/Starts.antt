-- Where what a node has begins.
use Rattle.std.specs.Prelude.{ℕ, ◌+◌, ◌==◌, if◌then◌else◌, find, Option, None, Some}
use Rattle.lx_node.specs.Kinds.{is_element, is_text}
use Rattle.lx_node.specs.declared.cause.Point.{Point}
use Rattle.lx_forest.specs.Forest.{Forest}
use Rattle.lx_forest.specs.Lookups.{parent_of, index_of, size_of, keys_within}
use Rattle.lx_edit.specs.Edits.{text_point, element_point}
use Rattle.lx_blocks.specs.Blocks.{is_at}

-- down first children from a node: the first in its tree without children
abbrev pub first_leaf : Forest → ℕ → Option ℕ
first_leaf f k = find (λ q. size_of f q == 0) (keys_within f k)

-- the place of a node in its parent, or so many after it
abbrev pub place_at : ℕ → ℕ → Option ℕ → Option ℕ → Point
place_at more k (Some p) (Some index) = element_point p (index + more)
place_at more k _ _ = element_point k 0

-- a text begins with its characters, an empty element at 0, another leaf in its parent
abbrev pub start_at : Forest → Option ℕ → Point
start_at f None = element_point 0 0
start_at f (Some k) =
    if is_at is_text f k then text_point k 0
    else if is_at is_element f k then element_point k 0
    else place_at 0 k (parent_of f k) (index_of f k)

-- where what a node has begins, which is with its first leaf
abbrev pub start_within : Forest → ℕ → Point
start_within f k = start_at f (first_leaf f k)
