-- What the operations of a commit owe.
use Rattle.std.specs.Prelude.{◌≡◌, List, [], ◌∷◌}
use Rattle.lx_host.specs.declared.op.Op.{Op}
use Rattle.lx_host.specs.Hosts.{HostTree}
use Rattle.lx_forest.specs.Forest.{Forest}
use Rattle.lx_forest.specs.Lookups.{roots}
use Rattle.lx_links.specs.Stands.{Sound}
use Rattle.lx_forest.specs.Covered.{Marking}
use Rattle.lx_reconcile.specs.Allowed.{AreAllowed}
use Rattle.lx_marks.specs.Marks.{Marked, is_touched, is_noted}

-- A forest that is the root's tree alone.
pub record IsTree (f : Forest) : Type 0 where
  pub sound : Sound f
  pub alone : roots f ≡ 0 ∷ []

-- which nodes these marks mark: themselves, and at all
abbrev pub marking : Marked → Marking
marking m = record { touched = is_touched m; noted = is_noted m }

-- The operations are allowed between two trees, from a host tree that shows the old one.
abbrev pub IsAllowed : Forest → Forest → Marking → HostTree → List Op → Type 0
IsAllowed old new marks v ops = (w : HostTree) × AreAllowed old new marks.touched v ops w
