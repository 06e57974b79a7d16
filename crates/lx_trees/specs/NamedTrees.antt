-- Trees whose labels have names. The function `name` says how a label is called. Nothing here needs names to
-- differ: a function acts on each label of the name that it is given.
use Rattle.std.specs.Prelude.{ℕ, ◌+◌, ◌<◌, ◌==◌, ◌++◌, Bool, nat_lt, if◌then◌else◌, List, [], ◌∷◌, Option}
use Rattle.lx_trees.specs.Trees.{Trees, nil, tree, joined}
use Rattle.lx_trees.specs.Siblings.{is_named}

-- how many labels there are
abbrev pub total : {A : Type 0} → Trees A → ℕ
total nil = 0
total (tree a below rest) = 1 + total below + total rest

-- each label changed by itself
abbrev pub mapped : {A : Type 0} → (A → A) → Trees A → Trees A
mapped change nil = nil
mapped change (tree a below rest) = tree (change a) (mapped change below) (mapped change rest)

module _ {A : Type 0} (name : A → ℕ) where
  -- how many labels have the name
  abbrev pub count : ℕ → Trees A → ℕ
  count q nil = 0
  count q (tree a below rest) = (if name a == q then 1 else 0) + count q below + count q rest

  -- whether a label has the name
  abbrev pub has : ℕ → Trees A → Bool
  has q trees = nat_lt 0 (count q trees)

  -- no name occurs twice
  abbrev pub IsDistinct : Trees A → Type 0
  IsDistinct trees = (q : ℕ) → count q trees < 2

  -- the names of the first labels: those that are below nothing
  abbrev pub names : Trees A → List ℕ
  names nil = []
  names (tree a below rest) = name a ∷ names rest

  -- all names, each before those below it, and those before the names after
  abbrev pub preorder : Trees A → List ℕ
  preorder nil = []
  preorder (tree a below rest) = name a ∷ preorder below ++ preorder rest

  -- the trees without the one of that name, and so without all below it
  abbrev pub without : ℕ → Trees A → Trees A
  without k nil = nil
  without k (tree a below rest) = if name a == k then without k rest else tree a (without k below) (without k rest)

  -- the tree of that name alone, with all below it
  abbrev pub alone : ℕ → Trees A → Trees A
  alone k nil = nil
  alone k (tree a below rest) =
      if name a == k then tree a below (alone k rest) else joined (alone k below) (alone k rest)

  -- the names of the children of that name
  abbrev pub children_of : ℕ → Trees A → List ℕ
  children_of q nil = []
  children_of q (tree a below rest) =
      (if name a == q then names below else children_of q below) ++ children_of q rest

  -- trees with new ones before the first tree of that name, or after all where none is named or there is none
  abbrev pub inserted : Option ℕ → Trees A → Trees A → Trees A
  inserted before new nil = new
  inserted before new (tree a below rest) =
      if is_named before (name a) then joined new (tree a below rest) else tree a below (inserted before new rest)

  -- trees with new ones put among the children of that name
  abbrev pub put_below : ℕ → Option ℕ → Trees A → Trees A → Trees A
  put_below parent before new nil = nil
  put_below parent before new (tree a below rest) =
      tree a (if name a == parent then inserted before new below else put_below parent before new below) (put_below parent before new rest)

  -- the trees of these names, one after another
  abbrev pub gathered : Trees A → List ℕ → Trees A
  gathered trees [] = nil
  gathered trees (k ∷ ks) = joined (alone k trees) (gathered trees ks)
