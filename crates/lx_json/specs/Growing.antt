-- Links that grow by trees, one node after another.
use Rattle.std.specs.Prelude.{◌≡◌, ◌≤◌, ℕ, ◌+◌, false, codes, List, Option, None, Some, Result, Ok}
use Rattle.serde_json.specs.Data.{Data}
use Rattle.serde_json.specs.Find.{get}
use Rattle.lx_trees.specs.Trees.{Trees, nil}
use Rattle.lx_trees.specs.NamedTrees.{total}
use Rattle.lx_node.specs.declared.kind.Kind.{Kind}
use Rattle.lx_node.specs.declared.cause.Cause.{Cause}
use Rattle.lx_node.specs.declared.cause.Fault.{Fault}
use Rattle.lx_node.specs.declared.cause.Fault.TheVariants as fault
use Rattle.lx_forest.specs.Lookups.{has, IsForest}
use Rattle.lx_forest.specs.Edits.{last_below}
use Rattle.lx_json.specs.declared.growing.Growth.{Growth}
use Rattle.lx_json.specs.Reading.{Piece, and_then, under, if_element, listed}
use Rattle.lx_json.specs.Importing.{keyed, rooted, next_behind}

-- ---- links that grow

-- what holds of links while they grow: keys from the next one on are free, and there are no more nodes than keys
pub record IsGrowing (g : Growth) : Type 0 where
  pub order : IsForest g.links
  pub few : total g.links ≤ g.next
  pub free : (q : ℕ) → g.next ≤ q → has q g.links ≡ false

-- links with trees put after the children of a parent, and the next key after those that the trees got
unfoldable pub grown : ℕ → Trees Piece → Growth → Growth
grown parent trees g = record { links = last_below parent (keyed g.next trees) g.links; next = g.next + total trees }

-- links with the trees that were read put after the children of a parent, unless they were refused
unfoldable pub grown_by : ℕ → Result (Trees Piece) Cause → Growth → Result Growth Cause
grown_by parent told g = and_then told (λ trees. Ok (grown parent trees g))

-- the root's tree alone, and the next key
unfoldable pub rooted_growth : ℕ → Trees Piece → Growth
rooted_growth next trees = record { links = rooted next trees; next = next_behind next trees }

-- the root's tree that was read, alone, unless it was refused
unfoldable pub rooted_by : ℕ → Result (Trees Piece) Cause → Result Growth Cause
rooted_by next told = and_then told (λ trees. Ok (rooted_growth next trees))

-- ---- the children of an object

-- the trees that a member lists for a node of the kind: none where it is missing
abbrev pub listed_in : Option Data → Kind → Result (Trees Piece) Cause
listed_in None kind = Ok nil
listed_in (Some d) kind = listed d kind

-- the children that an object gives a node of the kind
unfoldable pub children_told : Kind → Data → Result (Trees Piece) Cause
children_told kind d = if_element kind (listed_in (get (codes "children") d) kind)

-- ---- faults

-- refused for this cause, or memory ran out
abbrev pub IsRefusedFor : Cause → Fault → Type 0
IsRefusedFor cause (fault.Cause told) = told ≡ cause
IsRefusedFor cause fault.Memory = Unit {0}

-- a fault at a place, said from one place further up; or memory ran out
abbrev pub IsUnder : List ℕ → Fault → Fault → Type 0
IsUnder place (fault.Cause cause) (fault.Cause told) = told ≡ under place cause
IsUnder place fault.Memory (fault.Cause told) = ⊥
IsUnder place old fault.Memory = Unit {0}
