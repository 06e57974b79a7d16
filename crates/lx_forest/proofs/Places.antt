-- When a tree may be put.
use Rattle.std.proofs.Common.{◌≡◌, ◌≢◌, ℕ, true, false}
use Rattle.lx_forest.specs.Forest.{Forest}
use Rattle.lx_forest.specs.Lookups.{key_of, has, is_within, IsForest}
use Rattle.lx_forest.specs.Edits.{take_out, CanPut}
use Rattle.lx_trees.proofs.Places as rootedPlaces
use Rattle.lx_forest.proofs.Ordered.{ordered}

-- a tree that was taken out may be put below each node outside it
pub CanPut-take_out : (p k : ℕ) (f : Forest) → IsForest f → k ≢ 0 → has k f ≡ true → has p f ≡ true → is_within f k p ≡ false → CanPut p k (take_out k f)
unfolding take_out
CanPut-take_out p k f h1 h2 h3 h4 h5 = rootedPlaces.CanPut-take_out key_of p k f (ordered h1) h2 h3 h4 h5
