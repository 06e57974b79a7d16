-- What is read of a name in trees of which the first is the root's, and when such trees are in order.
use Rattle.std.specs.Prelude.{ℕ, ◌<◌, ◌≡◌, ◌==◌, ◌&&◌, Bool, true, false, nat_lt, if◌then◌else◌, List, [], ◌∷◌, length, Option, None, Some}
use Rattle.std.specs.declared.cmp.Ordering.{Ordering}
use Rattle.std.specs.Ordering.{nat_cmp}
use Rattle.lx_trees.specs.Trees.{Trees}
use Rattle.lx_trees.specs.NamedTrees as named
use Rattle.lx_trees.specs.NamedTrees.{count, has, names, alone}
use Rattle.lx_trees.specs.Siblings.{first_of, last_of, next_in, previous_in, index_in}
use Rattle.lx_trees.specs.Spots.{spot, parent_at, children_at}
use Rattle.lx_trees.specs.Walks as walks
use Rattle.lx_trees.specs.Walks.{ancestors}

-- each name is greater than the one before it, the first one than this
abbrev pub rises_from : ℕ → List ℕ → Bool
rises_from low [] = true
rises_from low (x ∷ xs) = nat_lt low x && rises_from x xs

-- the root's name first, and then rising
abbrev pub rises : List ℕ → Bool
rises [] = false
rises (x ∷ xs) = (x == 0) && rises_from 0 xs

-- which of two indices is less, if there are both
abbrev pub order_between : Option ℕ → Option ℕ → Option Ordering
order_between (Some i) (Some j) = Some (nat_cmp i j)
order_between _ _ = None

module _ {A : Type 0} (name : A → ℕ) where
  -- the parent of a name, if it has one
  abbrev pub parent_of : Trees A → ℕ → Option ℕ
  parent_of f q = parent_at (spot name f q)

  -- the children of a name, in their order
  abbrev pub children_of : Trees A → ℕ → List ℕ
  children_of f q = children_at (spot name f q)

  -- how many children a name has
  abbrev pub size_of : Trees A → ℕ → ℕ
  size_of f q = length (children_of f q)

  -- the first child of a name, if it has one
  abbrev pub first_child : Trees A → ℕ → Option ℕ
  first_child f q = first_of (children_of f q)

  -- the last child of a name, if it has one
  abbrev pub last_child : Trees A → ℕ → Option ℕ
  last_child f q = last_of (children_of f q)

  -- the children of a parent, if there is one
  abbrev pub children_below : Trees A → Option ℕ → List ℕ
  children_below f None = []
  children_below f (Some p) = children_of f p

  -- the names of the list in which a name is, itself among them: none where it has no parent
  abbrev pub siblings : Trees A → ℕ → List ℕ
  siblings f q = children_below f (parent_of f q)

  -- the name right before this one among its siblings
  abbrev pub previous_of : Trees A → ℕ → Option ℕ
  previous_of f q = previous_in (siblings f q) q

  -- the name right after this one among its siblings
  abbrev pub next_of : Trees A → ℕ → Option ℕ
  next_of f q = next_in (siblings f q) q

  -- whether q is in the tree of k: k itself, or below it
  abbrev pub is_within : Trees A → ℕ → ℕ → Bool
  is_within f k q = has name q (alone name k f)

  -- whether a name is in the root's tree
  abbrev pub is_attached : Trees A → ℕ → Bool
  is_attached f q = is_within f 0 q

  -- the names of the tree of k, each before those below it, and those before its next siblings
  abbrev pub keys_within : Trees A → ℕ → List ℕ
  keys_within f k = named.preorder name (alone name k f)

  -- the names of the root's tree, each before those below it
  abbrev pub preorder : Trees A → List ℕ
  preorder f = keys_within f 0

  -- the names of the root's tree from q on
  abbrev pub from : Trees A → ℕ → List ℕ
  from f q = walks.from name (alone name 0 f) q

  -- the names of the root's tree after the tree of q
  abbrev pub behind : Trees A → ℕ → List ℕ
  behind f q = walks.behind name (alone name 0 f) q

  -- which of two attached names comes first in preorder
  abbrev pub order_of : Trees A → ℕ → ℕ → Option Ordering
  order_of f a b = order_between (index_in (preorder f) a) (index_in (preorder f) b)

  -- how many names are above an attached one
  abbrev pub depth : Trees A → ℕ → Option ℕ
  depth f q = if is_attached f q then Some (length (ancestors name f q)) else None

-- trees are in order: no name occurs twice, the first tree is the root's, and those after it come by their names
pub record IsOrdered {A : Type 0} (name : A → ℕ) (f : Trees A) : Type 0 where
  pub once : (q : ℕ) → count name q f < 2
  pub rising : rises (names name f) ≡ true
