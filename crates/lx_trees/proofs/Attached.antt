-- The laws of ways through trees: up from a name, and through the root's tree in preorder.
use Rattle.std.proofs.Common.{◌≡◌, ◌≢◌, ℕ, false, Option, None, Some, refl, arith, ◌⊎◌, inl, inr}
use Rattle.lx_trees.proofs.Edits.{is_some-spot, parent_of-root}
use Rattle.lx_trees.proofs.Within.{is_within-top, is_within-up}
use Rattle.lx_trees.specs.Trees.{Trees}
use Rattle.lx_trees.specs.NamedTrees.{IsDistinct, has, alone}
use Rattle.lx_trees.specs.Siblings.{is_among, NoRepeats}
use Rattle.lx_trees.proofs.NamedTrees.{is_among-preorder, NoRepeats-preorder}
use Rattle.lx_trees.proofs.Subtrees.{count-alone-le}
use Rattle.lx_trees.specs.Lookups.{parent_of, is_attached, preorder, IsOrdered}

pub cases_option : {X : Type 0} (o : Option X) → (o ≡ None) ⊎ ((x : X) × (o ≡ Some x))
cases_option None = inl refl
cases_option (Some x) = inr (x, refl)

module _ {A : Type 0} (name : A → ℕ) where
  -- what is nowhere has no parent
  pub no_parent : (f : Trees A) (q : ℕ) → has name q f ≡ false → parent_of name f q ≡ None
  no_parent f q absent = grind (arith, absent, is_some-spot name f q)

  -- a child is attached just where its parent is
  pub is_attached-up : (f : Trees A) (q p : ℕ) → IsOrdered name f → parent_of name f q ≡ Some p → is_attached name f q ≡ is_attached name f p
  is_attached-up f q p h up = is_within-up name f 0 q p h up (λ e. grind (arith, e, up, parent_of-root name f h))

  -- of the names without a parent only the root is attached
  pub is_attached-top : (f : Trees A) (q : ℕ) → IsOrdered name f → parent_of name f q ≡ None → q ≢ 0 → is_attached name f q ≡ false
  is_attached-top f q h up other = is_within-top name f 0 q h up other

  -- ---- preorder

  pub tree_distinct : (f : Trees A) → IsOrdered name f → IsDistinct name (alone name 0 f)
  tree_distinct f h q = omega (arith, count-alone-le name q 0 f, h.once q)

  -- the names of preorder are the attached ones, each once
  pub is_among-preorder_of : (f : Trees A) (q : ℕ) → is_among q (preorder name f) ≡ is_attached name f q
  is_among-preorder_of f q = is_among-preorder name q (alone name 0 f)

  pub NoRepeats-preorder_of : (f : Trees A) → IsOrdered name f → NoRepeats (preorder name f)
  NoRepeats-preorder_of f h = NoRepeats-preorder name (alone name 0 f) (tree_distinct f h)
