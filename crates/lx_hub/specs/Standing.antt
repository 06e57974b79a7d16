-- What the fields of a hub stand for, and what holds of them.
use Rattle.std.specs.Prelude.{◌≡◌, ◌≤◌, ◌-◌, min, length, take, List, [], ◌∷◌}
use Rattle.std.specs.List.{AllByRecursion}
use Rattle.lx_node.specs.Limits.{last_u32}
use Rattle.lx_host.specs.declared.op.Op.{Op}
use Rattle.lx_host.specs.Hosts.{HostTree, FitInTurn}
use Rattle.lx_hub.specs.declared.hub.Hub.TheInside.{Inside}
use Rattle.lx_hub.specs.Hub.{View, Hub, effects, most_kept, most_views}

-- the hub that the fields of the code's hub stand for
abbrev pub hub_of : Inside → Hub
hub_of h = record { tip = h.tip.tree; commits = h.commits; kept = h.kept.items; views = h.views.items; made = h.made }

-- what batches make of a host tree, the first of them the last
abbrev pub all_effects : List (List Op) → HostTree → HostTree
all_effects [] w = w
all_effects (ops ∷ older) w = effects ops (all_effects older w)

-- each of these batches fits in its turn, the first of them the last
abbrev pub AllFit : List (List Op) → HostTree → Type 0
AllFit [] w = Unit {0}
AllFit (ops ∷ older) w = AllFit older w × FitInTurn (all_effects older w) ops

-- these batches lead a view to the tip, each fitting in its turn
pub record LeadToTip (batches : List (List Op)) (tree tip : HostTree) : Type 0 where
  pub fit : AllFit batches tree
  pub lead : all_effects batches tree ≡ tip

-- a view is no further than the tip, and where all batches after it are kept they lead it there
pub record IsLagging (h : Hub) (v : View) : Type 0 where
  pub within : v.reached ≤ h.commits
  pub leads : h.commits - v.reached ≤ length h.kept → LeadToTip (take (h.commits - v.reached) h.kept) v.tree h.tip

-- what holds of a hub: few views, the newest hundred batches kept, each view at the tip or lagging, few enough batches
pub record IsHub (h : Hub) : Type 0 where
  pub numbered : h.commits ≤ last_u32
  pub few : length h.views ≤ most_views
  pub kept : length h.kept ≡ min most_kept h.commits
  pub each : AllByRecursion (IsLagging h) h.views
