-- How many children a node has beside another.
use Rattle.std.proofs.Common.{◌≡◌, ◌+◌, ℕ, false, cond, length, Some, refl, subst, arith}
use Rattle.lx_trees.specs.Trees.{nil, tree}
use Rattle.lx_trees.specs.Siblings.{is_named, names_without}
use Rattle.lx_trees.proofs.Siblings.{length-names_without}
use Rattle.lx_forest.specs.Forest.{Forest}
use Rattle.lx_forest.specs.Lookups.{children_of, size_of, parent_of, IsForest}
use Rattle.lx_forest.proofs.Lookups.{is_among-children_of, NoRepeats-children_of}
use Rattle.lx_links.specs.Stands.{Sound}
use Rattle.lx_links.proofs.Up.{in_order}

-- one less than all, where it is below that node
in_all : (f : Forest) (k p : ℕ) → IsForest f → length (names_without k (children_of f p)) + cond (is_named (parent_of f k) p) 1 0 ≡ size_of f p
in_all f k p h =
    subst (λ b. length (names_without k (children_of f p)) + cond b 1 0 ≡ size_of f p) (is_among-children_of f k p h)
    (length-names_without k (children_of f p) (NoRepeats-children_of f p h))

pub beside_child : (f : Forest) (k p : ℕ) → Sound f → parent_of f k ≡ Some p → length (names_without k (children_of f p)) + 1 ≡ size_of f p
beside_child f k p s up = let all = in_all f k p (in_order f k p s up) in grind (arith, all, up)

pub beside_other : (f : Forest) (k p : ℕ) → Sound f → is_named (parent_of f k) p ≡ false → size_of f p ≡ length (names_without k (children_of f p))
beside_other nil k p s other = refl
beside_other (tree l below rest) k p s other =
    let f : Forest = tree l below rest in
    let all = in_all f k p (s.in_order (λ none. cc)) in
    grind (arith, all, other)
