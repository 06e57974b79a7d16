-- The edits of trees in order, and what each does to a spot.
use Rattle.std.specs.Prelude.{ℕ, ◌≡◌, ◌≢◌, ◌==◌, true, false, nat_lt, if◌then◌else◌, [], ◌∷◌, Option, None, Some}
use Rattle.std.specs.declared.cmp.Ordering.{Ordering}
use Rattle.std.specs.declared.cmp.Ordering.TheVariants.{Less, Greater}
use Rattle.lx_trees.specs.Trees.{Trees, nil, tree, joined}
use Rattle.lx_trees.specs.NamedTrees.{has, alone, without, put_below}
use Rattle.lx_trees.specs.Siblings.{names_without, names_with}
use Rattle.lx_trees.specs.Spots.{Spot}
use Rattle.lx_trees.specs.Lookups.{parent_of, is_within, order_of}

module _ {A : Type 0} (name : A → ℕ) where
  -- trees with others among the first ones, before the first of a greater name
  abbrev pub among_roots : ℕ → Trees A → Trees A → Trees A
  among_roots k new nil = new
  among_roots k new (tree l below rest) =
      if nat_lt k (name l) then joined new (tree l below rest) else tree l below (among_roots k new rest)

  -- new: a tree without children
  unfoldable pub with_new : A → Trees A → Trees A
  with_new l f = among_roots (name l) (tree l nil nil) f

  -- take: the tree of k, out of its parent's children
  unfoldable pub take_out : ℕ → Trees A → Trees A
  take_out k f = among_roots k (alone name k f) (without name k f)

  -- put: the tree of k goes among the children of p, before that one, or at the end
  unfoldable pub put_in : ℕ → Option ℕ → ℕ → Trees A → Trees A
  put_in p before k f = put_below name p before (alone name k f) (without name k f)

  -- trees put after the children of p
  abbrev pub last_below : ℕ → Trees A → Trees A → Trees A
  last_below p new f = put_below name p None new f

-- the tree of k may be put below p: it is detached and isn't the root's, and p is outside it
pub record CanPut {A : Type 0} (name : A → ℕ) (p k : ℕ) (f : Trees A) : Type 0 where
  pub other : k ≢ 0
  pub there : has name k f ≡ true
  pub detached : parent_of name f k ≡ None
  pub parent : has name p f ≡ true
  pub outside : is_within name f k p ≡ false

-- where a name is once k was taken
abbrev pub taken : {A : Type 0} → ℕ → ℕ → Spot A → Spot A
taken k q s =
    record { label = s.label; parent = (if q == k then None else s.parent); children = names_without k s.children }

-- where a name is once k was put below p
abbrev pub placed : {A : Type 0} → ℕ → Option ℕ → ℕ → ℕ → Spot A → Spot A
placed p before k q s =
    record {
      label = s.label;
      parent = (if q == k then Some p else s.parent);
      children = (if q == p then names_with before (k ∷ []) s.children else s.children);
    }

module _ {A : Type 0} (name : A → ℕ) where
  -- how a name in a tree that comes to this place among the children of p stands to a name q elsewhere: as the child
  -- before which it comes, or else as p; but it is before that child, and after all in the tree of p
  abbrev pub order_from_place : Trees A → ℕ → Option ℕ → ℕ → Option Ordering
  order_from_place f p None q = if is_within name f p q then Some Greater else order_of name f p q
  order_from_place f p (Some c) q = if q == c then Some Less else order_of name f c q
