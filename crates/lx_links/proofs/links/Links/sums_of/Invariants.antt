use Rattle.std.proofs.Common.{◌≡◌, take}
use Rattle.std.specs.Prelude.{sum_by}
use Rattle.lx_forest.specs.Weights.{own_weight}
use Rattle.lx_links.specs.Characters.{counted_in}
use Rattle.lx_links.specs.Sums.{item_counted_in, items_in}
use Rattle.lx_links.proofs.links.Links.sums_of.Given as goal

-- the sums over the keys so far
abbrev pub invariant-loop-key : goal.invariant-loop-key
invariant-loop-key l =
    (l.characters ≡ sum_by (own_weight counted_in l.self) (take l.key-index l.keys))
    × ((l.items ≡ sum_by (own_weight items_in l.self) (take l.key-index l.keys))
    × (l.item_characters ≡ sum_by (own_weight item_counted_in l.self) (take l.key-index l.keys)))
