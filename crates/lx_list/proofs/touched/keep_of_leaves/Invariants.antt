use Rattle.std.proofs.Common.{◌≡◌, ℕ, Bool, ◌&&◌, ◌||◌, take}
use Rattle.std.specs.Prelude.{filter}
use Rattle.std.specs.List.{list_any}
use Rattle.lx_node.specs.Kinds.{is_list}
use Rattle.lx_forest.specs.Lookups.{preorder}
use Rattle.lx_blocks.specs.Blocks.{is_at}
use Rattle.lx_list.specs.Touched.{is_of_list}
use Rattle.lx_list.proofs.touched.keep_of_leaves.Given as goal

-- those of the leaves that were passed are kept
abbrev pub invariant-loop-leaf : goal.invariant-loop-leaf
invariant-loop-leaf l =
    (p : ℕ → Bool) → l.fn.keys.items ≡ filter p (preorder l.links)
    → l.keys.items ≡ filter (λ q. p q || (is_at is_list l.links q && list_any (is_of_list l.links q) (take l.leaf-index l.leaves))) (preorder l.links)
