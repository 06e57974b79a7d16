use Rattle.std.proofs.Common.{◌≡◌, true, ◌-◌, ◌≤◌, length}
use Rattle.lx_trees.specs.Siblings.{is_among}
use Rattle.lx_trees.proofs.Positions.{place_in}
use Rattle.lx_forest.specs.Lookups.{parent_of, siblings}
use Rattle.lx_list.proofs.windows.is_between.Given as goal

-- it is a sibling from the first up to the last
abbrev pub invariant-loop-last : goal.invariant-loop-last
invariant-loop-last l = record {
  sibling : parent_of l.links l.at ≡ parent_of l.links l.fn.first;
  passed : place_in (siblings l.links l.fn.first) l.fn.first ≤ place_in (siblings l.links l.fn.first) l.at;
  up_to :
      is_among l.last (siblings l.links l.fn.first) ≡ true → place_in (siblings l.links l.fn.first) l.fn.first ≤ place_in (siblings l.links l.fn.first) l.last
      → place_in (siblings l.links l.fn.first) l.at ≤ place_in (siblings l.links l.fn.first) l.last;
}

abbrev pub decreases-loop-last : goal.decreases-loop-last
decreases-loop-last l = length (siblings l.links l.fn.first) - place_in (siblings l.links l.fn.first) l.at
