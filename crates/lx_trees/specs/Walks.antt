-- Ways through trees whose labels have names: up from a name, and through all names in preorder.
use Rattle.std.specs.Prelude.{ℕ, ◌==◌, ◌++◌, if◌then◌else◌, List, [], ◌∷◌, Option, None, Some, unwrap_or}
use Rattle.std.specs.Option.{option_or}
use Rattle.lx_trees.specs.Trees.{Trees, nil, tree}
use Rattle.lx_trees.specs.NamedTrees.{preorder, alone}

module _ {A : Type 0} (name : A → ℕ) where
  -- the names above q, from the nearest, in trees that are below these
  abbrev pub ancestors_below : List ℕ → Trees A → ℕ → Option (List ℕ)
  ancestors_below above nil q = None
  ancestors_below above (tree a below rest) q =
      if name a == q then Some above else option_or (ancestors_below (name a ∷ above) below q) (ancestors_below above rest q)

  -- the names above q, from its parent on
  abbrev pub ancestors : Trees A → ℕ → List ℕ
  ancestors trees q = unwrap_or (ancestors_below [] trees q) []

  -- the names after the tree of q in preorder, in trees that these follow: none where q isn't there
  abbrev pub behind_before : List ℕ → Trees A → ℕ → Option (List ℕ)
  behind_before after nil q = None
  behind_before after (tree a below rest) q =
      if name a == q then Some (preorder name rest ++ after)
      else option_or (behind_before (preorder name rest ++ after) below q) (behind_before after rest q)

  -- the names after the tree of q in preorder
  abbrev pub behind : Trees A → ℕ → List ℕ
  behind trees q = unwrap_or (behind_before [] trees q) []

  -- the names from q on in preorder
  abbrev pub from : Trees A → ℕ → List ℕ
  from trees q = preorder name (alone name q trees) ++ behind trees q
