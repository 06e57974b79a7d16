-- Nodes that go into an element one after another.
use Rattle.std.proofs.Common.{◌≡◌, ℕ, ◌+◌, ◌≤◌, ◌<◌, ◌^◌, List, [], ◌∷◌, length, ap, arith}
use Rattle.lx_trees.specs.NamedTrees.{total}
use Rattle.lx_forest.specs.Forest.{Forest}
use Rattle.lx_forest.specs.Lookups.{children_of, size_of}
use Rattle.lx_forest.proofs.Bounds.{size_of-le}
use Rattle.lx_draft.specs.Working.{Working, IsWorking}
use Rattle.lx_blocks.specs.Blocks.{leading_in, leading}

-- ---- how many there are

leading_within : (f : Forest) (ks : List ℕ) → length (leading_in f ks) ≤ length ks
leading_within f [] = omega arith
leading_within f (k ∷ ks) = grind (arith, leading_within f ks)

-- their indices are far below 2 ^ 32
pub few_moved : (w : Working) (f g : Forest) (line block index : ℕ) (keys : List ℕ) → IsWorking w → f ≡ w.forest → g ≡ w.forest → index ≤ size_of f line
    → keys ≡ leading g block → index + length keys < 2 ^ 32
few_moved w f g line block index keys holds is also within told =
    omega (arith, within, ap length told, leading_within g (children_of g block), size_of-le f line, size_of-le g block, ap (λ (x : Forest). total x) is, ap (λ (x : Forest). total x) also, holds.few, holds.counted)
