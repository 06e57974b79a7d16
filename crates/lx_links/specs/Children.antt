-- Where a walk through the children of a node is.
use Rattle.std.specs.Prelude.{ℕ, ◌+◌, ◌≤◌, ◌≡◌, Option}
use Rattle.std.specs.List.{slice_get}
use Rattle.lx_forest.specs.Forest.{Forest}
use Rattle.lx_forest.specs.Lookups.{children_of, size_of}
use Rattle.lx_links.specs.Stands.{Sound}

-- so many children have been passed, so many are left, and the ends of those that are left are these
pub record IsAmid (f : Forest) (parent passed left : ℕ) (front back : Option ℕ) : Type 0 where
  pub sound : Sound f
  pub within : passed + left ≤ size_of f parent
  pub front_is : front ≡ slice_get (children_of f parent) passed
  pub back_is : (at : ℕ) → passed + left ≡ at + 1 → back ≡ slice_get (children_of f parent) at
