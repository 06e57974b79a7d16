-- What is read of a name after each edit, and how parents and children agree.
use Rattle.std.proofs.Common.{List, length, ◌≡◌, ℕ, true, false, cond, eqb, [], ◌∷◌, Option, None, Some, refl, sym, ◌∙◌, arith}
use Rattle.std.proofs.lemmas.Bool.Decides.{eqb_tells}
use Rattle.lx_trees.specs.Trees.{Trees, nil, tree}
use Rattle.lx_trees.specs.NamedTrees as named
use Rattle.lx_trees.specs.Siblings.{is_named, is_among, NoRepeats, names_without, names_with}
use Rattle.lx_trees.specs.Spots.{Spot, spot}
use Rattle.lx_trees.proofs.Spots.{is_among-children, is_among-children_self, NoRepeats-children}
use Rattle.lx_trees.proofs.NamedTrees.{is_among-preorder, length-preorder, NoRepeats-preorder}
use Rattle.lx_trees.proofs.Positions.{same_length}
use Rattle.lx_trees.proofs.Subtrees.{count-parent, alone-spot_below, gathered-names}
use Rattle.lx_trees.proofs.Edits.{is_some-spot, spot-put_in, spot-take_out, spot-with_new}
use Rattle.lx_trees.specs.NamedTrees.{has, names, alone, gathered, total}
use Rattle.lx_trees.specs.Lookups.{parent_of, children_of, IsOrdered}
use Rattle.lx_trees.specs.Edits.{with_new, take_out, put_in, CanPut}

module _ {A : Type 0} (name : A → ℕ) where
  -- q is a child of p just where p is the parent of q
  pub is_among-children_of : (f : Trees A) (q p : ℕ) → IsOrdered name f → is_among q (children_of name f p) ≡ is_named (parent_of name f q) p
  is_among-children_of f q p h = is_among-children name None f q p h.once refl

  pub NoRepeats-children_of : (f : Trees A) (q : ℕ) → IsOrdered name f → NoRepeats (children_of name f q)
  NoRepeats-children_of f q h = NoRepeats-children name None f q h.once

  -- a parent is there, and so is a child
  pub has-parent_of : (f : Trees A) (q p : ℕ) → parent_of name f q ≡ Some p → has name p f ≡ true
  has-parent_of f q p e = grind (arith, count-parent name f q p e)

  pub has-child : (f : Trees A) (q p : ℕ) → parent_of name f q ≡ Some p → has name q f ≡ true
  has-child f q p e = grind (arith, is_some-spot name f q)

  -- nothing is its own parent
  pub parent_of-self : (f : Trees A) (q : ℕ) → IsOrdered name f → is_named (parent_of name f q) q ≡ false
  parent_of-self f q h = sym (is_among-children_of f q q h) ∙ is_among-children_self name None f q h.once

  pub alone-spot : (f : Trees A) (k : ℕ) (s : Spot A) → IsOrdered name f → spot name f k ≡ Some s
      → alone name k f ≡ tree s.label (gathered name f s.children) nil
  alone-spot f k s h e = alone-spot_below name None f k s h.once e

  -- all are the trees of the first names
  pub trees_of-roots : (f : Trees A) → IsOrdered name f → gathered name f (names name f) ≡ f
  trees_of-roots f h = gathered-names name f h.once

  -- as many as a list of them has that names each once
  pub length-keys : (f : Trees A) (ks : List ℕ) → IsOrdered name f → NoRepeats ks → ((q : ℕ) → is_among q ks ≡ has name q f) → length ks ≡ total f
  length-keys f ks h unrepeated same =
      same_length ks (named.preorder name f) unrepeated (NoRepeats-preorder name f h.once) (λ q. same q ∙ sym (is_among-preorder name q f))
      ∙ length-preorder name f

  pub parent_of-with_new : (l : A) (f : Trees A) (q : ℕ) → IsOrdered name f → has name (name l) f ≡ false
      → parent_of name (with_new name l f) q ≡ parent_of name f q
  parent_of-with_new l f q h free = grind (arith, spot-with_new name l f q h free, eqb_tells q (name l), is_some-spot name f q)

  pub children_of-with_new : (l : A) (f : Trees A) (q : ℕ) → IsOrdered name f → has name (name l) f ≡ false
      → children_of name (with_new name l f) q ≡ children_of name f q
  children_of-with_new l f q h free = grind (arith, spot-with_new name l f q h free, eqb_tells q (name l), is_some-spot name f q)

  pub parent_of-take_out : (k : ℕ) (f : Trees A) (q : ℕ) → IsOrdered name f → parent_of name (take_out name k f) q ≡ cond (eqb q k) None (parent_of name f q)
  parent_of-take_out k f q h = grind (arith, spot-take_out name k f q h)

  pub children_of-take_out : (k : ℕ) (f : Trees A) (q : ℕ) → IsOrdered name f → children_of name (take_out name k f) q ≡ names_without k (children_of name f q)
  children_of-take_out k f q h = grind (arith, spot-take_out name k f q h)

  pub parent_of-put_in : (p : ℕ) (before : Option ℕ) (k : ℕ) (f : Trees A) (q : ℕ) → IsOrdered name f → CanPut name p k f
      → parent_of name (put_in name p before k f) q ≡ cond (eqb q k) (Some p) (parent_of name f q)
  parent_of-put_in p before k f q h c = grind (arith, spot-put_in name p before k f q h c, eqb_tells q k, c.there, is_some-spot name f k)

  pub children_of-put_in : (p : ℕ) (before : Option ℕ) (k : ℕ) (f : Trees A) (q : ℕ) → IsOrdered name f → CanPut name p k f
      → children_of name (put_in name p before k f) q ≡ cond (eqb q p) (names_with before (k ∷ []) (children_of name f q)) (children_of name f q)
  children_of-put_in p before k f q h c = grind (arith, spot-put_in name p before k f q h c, eqb_tells q p, c.parent, is_some-spot name f p)
