-- Text blocks, frames and lines.
use Rattle.std.specs.Prelude.{ℕ, ◌==◌, ◌&&◌, ◌||◌, Bool, true, false, if◌then◌else◌, List, [], ◌∷◌, find, Option, None, Some, option_and_then}
use Rattle.std.specs.List.{list_any}
use Rattle.lx_node.specs.Kinds.{is_text_block, is_inline, is_cell}
use Rattle.lx_node.specs.declared.kind.Kind.{Kind}
use Rattle.lx_node.specs.declared.kind.Kind.TheVariants.{Root, Cell, Table, Rule}
use Rattle.lx_forest.specs.Forest.{Forest}
use Rattle.lx_forest.specs.Lookups.{kind_of, parent_of, children_of, size_of, ancestors}

-- what is no line, and yet comes among lines
abbrev pub is_rule_or_table : Kind → Bool
is_rule_or_table Table = true
is_rule_or_table Rule = true
is_rule_or_table other = false

-- whether there is a node whose kind passes the test
abbrev pub passes : (Kind → Bool) → Option Kind → Bool
passes test None = false
passes test (Some kind) = test kind

-- whether the kind of a node passes the test
abbrev pub is_at : (Kind → Bool) → Forest → ℕ → Bool
is_at test f k = passes test (kind_of f k)

-- the block of a node: itself, or the nearest above it that is a text block
abbrev pub block_of : Forest → ℕ → Option ℕ
block_of f k = find (is_at is_text_block f) (k ∷ ancestors f k)

-- the cell of a node: itself, or the nearest above it
abbrev pub cell_of : Forest → ℕ → Option ℕ
cell_of f k = find (is_at is_cell f) (k ∷ ancestors f k)

-- the frame of a node: the nearest cell above it
abbrev pub frame_of : Forest → ℕ → Option ℕ
frame_of f k = find (is_at is_cell f) (ancestors f k)

-- what holds blocks: the root and cells
abbrev pub holds_blocks : Kind → Bool
holds_blocks Root = true
holds_blocks Cell = true
holds_blocks other = false

-- whether a node is a child of the root or of a cell
abbrev pub stands_among_blocks : Forest → ℕ → Bool
stands_among_blocks f k = passes holds_blocks (option_and_then (kind_of f) (parent_of f k))

-- the nearest of a node and those above it that is a child of the root or of a cell
abbrev pub outer_block : Forest → ℕ → Option ℕ
outer_block f k = find (stands_among_blocks f) (k ∷ ancestors f k)

-- whether both are the same node, or neither is there
abbrev pub same_node : Option ℕ → Option ℕ → Bool
same_node None None = true
same_node (Some a) (Some b) = a == b
same_node _ _ = false

-- a line: a text block that is empty or has an inline child
abbrev pub is_line : Forest → ℕ → Bool
is_line f k = is_at is_text_block f k && ((size_of f k == 0) || list_any (is_at is_inline f) (children_of f k))

-- the inline children with which a list of children begins
abbrev pub leading_in : Forest → List ℕ → List ℕ
leading_in f [] = []
leading_in f (k ∷ ks) = if is_at is_inline f k then k ∷ leading_in f ks else []

-- the inline children with which those of a node begin
abbrev pub leading : Forest → ℕ → List ℕ
leading f k = leading_in f (children_of f k)
