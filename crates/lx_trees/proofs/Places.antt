-- When a tree may be put, and what taking and putting undo.
use Rattle.std.proofs.Common.{◌≡◌, ◌≢◌, ℕ, true, false, cond, eqb, None, refl, ◌∙◌, arith}
use Rattle.std.proofs.lemmas.Bool.Decides.{eqb_tells}
use Rattle.lx_trees.specs.Siblings.{names_without}
use Rattle.lx_trees.specs.Spots.{Spot, spot}
use Rattle.lx_trees.proofs.Spots.{option_map-same}
use Rattle.lx_trees.proofs.Edits.{count-take_out, nobodys_child, option_map-agree, same_spot, spot-take_out}
use Rattle.lx_trees.proofs.Lookups.{parent_of-take_out}
use Rattle.lx_trees.proofs.Order.{IsOrdered-take_out, same_forest}
use Rattle.lx_trees.proofs.Within.{is_within-take_out}
use Rattle.lx_trees.specs.Trees.{Trees}
use Rattle.lx_trees.specs.NamedTrees.{has}
use Rattle.lx_trees.specs.Lookups.{parent_of, is_within, IsOrdered}
use Rattle.lx_trees.specs.Edits.{take_out, CanPut, taken}

module _ {A : Type 0} (name : A → ℕ) where
  -- a tree that was taken out may be put below each node outside it
  pub CanPut-take_out : (p k : ℕ) (f : Trees A) → IsOrdered name f → k ≢ 0 → has name k f ≡ true → has name p f ≡ true → is_within name f k p ≡ false
      → CanPut name p k (take_out name k f)
  CanPut-take_out p k f h other there parent outside = record {
    other = other;
    there = grind (arith, count-take_out name k k f, there);
    detached = grind (arith, parent_of-take_out name k f k h, eqb_tells k k);
    parent = grind (arith, count-take_out name p k f, parent);
    outside = grind (arith, is_within-take_out name k f k p h, outside);
  }

  -- a tree that is below none stays where it is
  pub take_out-top : (k : ℕ) (f : Trees A) → IsOrdered name f → parent_of name f k ≡ None → take_out name k f ≡ f
  take_out-top k f h top =
      same_forest name (take_out name k f) f (IsOrdered-take_out name k f h) h
      (λ q.
      spot-take_out name k f q h
      ∙ option_map-agree (taken k q) (λ s. s) (spot name f q)
      (λ s e. same_spot name s (cond (eqb q k) None s.parent) (names_without k s.children) (grind (arith, eqb_tells q k, e, top))
      (nobodys_child name f q k s h top e))
      ∙ option_map-same (λ (s : Spot A). s) (λ s. refl) (spot name f q))
