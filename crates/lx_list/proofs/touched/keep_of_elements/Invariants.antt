use Rattle.std.proofs.Common.{◌≡◌, ℕ, Bool, ◌&&◌, ◌||◌, take}
use Rattle.std.specs.Prelude.{filter}
use Rattle.std.specs.List.{list_any}
use Rattle.lx_node.specs.Kinds.{is_list}
use Rattle.lx_forest.specs.Lookups.{preorder}
use Rattle.lx_blocks.specs.Blocks.{is_at}
use Rattle.lx_list.specs.Touched.{is_of_list}
use Rattle.lx_list.proofs.touched.keep_of_elements.Given as goal

-- those of the elements that were passed are kept
abbrev pub invariant-loop-key : goal.invariant-loop-key
invariant-loop-key l =
    (p : ℕ → Bool) → l.fn.keys.items ≡ filter p (preorder l.links)
    → l.keys.items
    ≡ filter (λ q. p q || (is_at is_list l.links q && list_any (λ e. e.1 && is_of_list l.links q e.0) (take l.key-index l.elements))) (preorder l.links)
