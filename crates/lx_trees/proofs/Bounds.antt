-- No node has more children than the forest has nodes.
use Rattle.std.proofs.Common.{ℕ, ◌≡◌, ◌+◌, ◌≤◌, ◌<◌, Bool, true, false, cond, eqb, length, Option, None, Some, ap, ◌∙◌, arith}
use Rattle.std.specs.Option.{option_or}
use Rattle.std.proofs.lemmas.Bool.Decides.{eqb_tells}
use Rattle.lx_trees.specs.Trees.{Trees, nil, tree}
use Rattle.lx_trees.specs.Spots.{Spot, spot_below, children_at}
use Rattle.lx_trees.proofs.Siblings.{length-names_with}
use Rattle.lx_trees.proofs.Edits.{total-put_in}
use Rattle.lx_trees.proofs.Lookups.{children_of-put_in}
use Rattle.lx_trees.specs.NamedTrees.{names, total}
use Rattle.lx_trees.specs.Lookups.{children_of, size_of, IsOrdered}
use Rattle.lx_trees.specs.Edits.{put_in, CanPut}

module _ {A : Type 0} (name : A → ℕ) where
  length-names-le : (t : Trees A) → length (names name t) ≤ total t
  length-names-le nil = omega arith
  length-names-le (tree a below rest) = omega (arith, length-names-le rest)

  either : (o p : Option (Spot A)) (m n : ℕ) → length (children_at o) ≤ m → length (children_at p) ≤ n → length (children_at (option_or o p)) ≤ m + n
  either None p m n h k = omega (arith, k)
  either (Some s) p m n h k = omega (arith, h)

  first_case : (a : A) (r : Option ℕ) (below rest : Trees A) (o : Option (Spot A)) (b : Bool) → length (children_at o) ≤ total below + total rest
      → length (children_at (cond b (Some (record { label = a; parent = r; children = names name below })) o)) ≤ 1 + total below + total rest
  first_case a r below rest o true h = omega (arith, length-names-le below)
  first_case a r below rest o false h = omega (arith, h)

  length-children-le : (r : Option ℕ) (t : Trees A) (q : ℕ) → length (children_at (spot_below name r t q)) ≤ total t
  length-children-le r nil q = omega arith
  length-children-le r (tree a below rest) q =
      first_case a r below rest (option_or (spot_below name (Some (name a)) below q) (spot_below name r rest q)) (eqb (name a) q)
      (either (spot_below name (Some (name a)) below q) (spot_below name r rest q) (total below) (total rest) (length-children-le (Some (name a)) below q)
      (length-children-le r rest q))

  pub size_of-le : (f : Trees A) (q : ℕ) → size_of name f q ≤ total f
  size_of-le f q = length-children-le None f q

  -- a node below which another may be put has fewer children than there are nodes
  pub size_of-lt : (p k : ℕ) (f : Trees A) → IsOrdered name f → CanPut name p k f → size_of name f p < total f
  size_of-lt p k f h c =
      let more : size_of name (put_in name p None k f) p ≡ size_of name f p + 1 =
      ap length (children_of-put_in name p None k f p h c)
      ∙ grind (arith, eqb_tells p p, length-names_with None k (children_of name f p)) in
      omega (arith, more, size_of-le (put_in name p None k f) p, total-put_in name p None k f h c.parent c.outside)
