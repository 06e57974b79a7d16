use Rattle.std.proofs.Common.{◌≡◌, ◌+◌, drop}
use Rattle.std.specs.Prelude.{sum_by}
use Rattle.lx_forest.specs.Weights.{own_weight}
use Rattle.lx_links.specs.Sums.{items_in, item_characters_in}
use Rattle.lx_list.proofs.weighing.Weighed.with_nodes.Given as goal

-- what was weighed, with what is left, is all
abbrev pub invariant-loop-key : goal.invariant-loop-key
invariant-loop-key l = record {
  items : l.weighed.items + sum_by (own_weight items_in l.links) (drop l.key-index l.keys) ≡ l.fn.self.items + sum_by (own_weight items_in l.links) l.keys;
  characters : l.weighed.characters + sum_by (own_weight item_characters_in l.links) (drop l.key-index l.keys)
      ≡ l.fn.self.characters + sum_by (own_weight item_characters_in l.links) l.keys;
}
