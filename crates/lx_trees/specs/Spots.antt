-- Where a name is in trees: with which label, below which, and with which children.
use Rattle.std.specs.Prelude.{ℕ, ◌==◌, if◌then◌else◌, List, [], Option, None, Some}
use Rattle.std.specs.Option.{option_or}
use Rattle.lx_trees.specs.Trees.{Trees, nil, tree}
use Rattle.lx_trees.specs.NamedTrees.{names}

-- where a label is: below which parent, if any, and with which children
pub record Spot (A : Type 0) : Type 0 where
  pub label : A
  pub parent : Option ℕ
  pub children : List ℕ

-- the parent of what is at a spot, if there is one
abbrev pub parent_at : {A : Type 0} → Option (Spot A) → Option ℕ
parent_at None = None
parent_at (Some s) = s.parent

-- the children of what is at a spot: none where there is no such name
abbrev pub children_at : {A : Type 0} → Option (Spot A) → List ℕ
children_at None = []
children_at (Some s) = s.children

module _ {A : Type 0} (name : A → ℕ) where
  -- where the name is in trees that are below this parent, if any
  abbrev pub spot_below : Option ℕ → Trees A → ℕ → Option (Spot A)
  spot_below parent nil q = None
  spot_below parent (tree a below rest) q =
      if name a == q then Some (record { label = a; parent = parent; children = names name below })
      else option_or (spot_below (Some (name a)) below q) (spot_below parent rest q)

  -- where the name is, of the trees as a whole
  abbrev pub spot : Trees A → ℕ → Option (Spot A)
  spot trees q = spot_below None trees q
