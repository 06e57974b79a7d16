-- No node has more children than the forest has nodes.
use Rattle.std.proofs.Common.{ℕ, ◌≤◌, ◌<◌}
use Rattle.lx_trees.specs.NamedTrees.{total}
use Rattle.lx_forest.specs.Forest.{Forest}
use Rattle.lx_forest.specs.Lookups.{key_of, size_of, IsForest}
use Rattle.lx_forest.specs.Edits.{CanPut}
use Rattle.lx_trees.proofs.Bounds as rootedBounds
use Rattle.lx_forest.proofs.Ordered.{ordered}

pub size_of-le : (f : Forest) (q : ℕ) → size_of f q ≤ total f
size_of-le f q = rootedBounds.size_of-le key_of f q

-- a node below which another may be put has fewer children than there are nodes
pub size_of-lt : (p k : ℕ) (f : Forest) → IsForest f → CanPut p k f → size_of f p < total f
size_of-lt p k f h1 h2 = rootedBounds.size_of-lt key_of p k f (ordered h1) h2
