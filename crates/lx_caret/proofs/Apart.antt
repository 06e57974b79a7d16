-- What comes after a node in preorder isn't above it.
use Rattle.std.proofs.Common.{◌≡◌, ℕ, ◌<◌, false, List, [], ◌++◌, None, refl, arith}
use Rattle.std.specs.Prelude.{unwrap_or}
use Rattle.std.proofs.lemmas.Bool.Decides.{eqb_tells}
use Rattle.lx_trees.specs.Trees.{Trees, nil, tree}
use Rattle.lx_trees.specs.NamedTrees.{IsDistinct, count, preorder, alone}
use Rattle.lx_trees.specs.Siblings.{is_among}
use Rattle.lx_trees.specs.Walks.{behind_before, behind}
use Rattle.lx_trees.proofs.NamedTrees.{is_among-preorder, count-joined, alone-absent}
use Rattle.lx_trees.proofs.Siblings.{is_among-append}
use Rattle.lx_trees.proofs.Subtrees.{count-alone-le}

module _ {A : Type 0} (name : A → ℕ) where
  -- what isn't in trees, nor after them, is after nothing in them
  absent_behind : (after : List ℕ) (t : Trees A) (x q : ℕ) → count name x t ≡ 0 → is_among x after ≡ false
      → is_among x (unwrap_or (behind_before name after t q) []) ≡ false
  absent_behind after nil x q none out = refl
  absent_behind after (tree a below rest) x q none out =
      let more : is_among x (preorder name rest ++ after) ≡ false =
      grind (arith, none, out, is_among-append x (preorder name rest) after, is_among-preorder name x rest) in
      grind (arith, none, out, more, absent_behind (preorder name rest ++ after) below x q, absent_behind after rest x q)

  behind_none : (after : List ℕ) (t : Trees A) (q : ℕ) → count name q t ≡ 0 → behind_before name after t q ≡ None
  behind_none after nil q e = refl
  behind_none after (tree a below rest) q e =
      grind (arith, e, eqb_tells (name a) q, behind_none (preorder name rest ++ after) below q, behind_none after rest q)

  apart_below : (after : List ℕ) (t : Trees A) (x q : ℕ) → IsDistinct name t → 0 < count name q (alone name x t) → is_among x after ≡ false
      → is_among x (unwrap_or (behind_before name after t q) []) ≡ false
  apart_below after nil x q once some out = refl
  apart_below after (tree a below rest) x q once some out =
      let more : count name x rest ≡ 0 → is_among x (preorder name rest ++ after) ≡ false =
      λ none. grind (arith, none, out, is_among-append x (preorder name rest) after, is_among-preorder name x rest) in
      grind (
        arith,
        once q,
        once x,
        some,
        out,
        more,
        eqb_tells (name a) x,
        eqb_tells (name a) q,
        apart_below (preorder name rest ++ after) below x q (λ z. grind (arith, once z)),
        apart_below after rest x q (λ z. grind (arith, once z)),
        absent_behind (preorder name rest ++ after) below x q,
        absent_behind after rest x q,
        behind_none (preorder name rest ++ after) below q,
        behind_none after rest q,
        count-joined name q (alone name x below) (alone name x rest),
        count-alone-le name q x below,
        count-alone-le name q x rest,
        alone-absent name x below,
        alone-absent name x rest,
        is_among-append x (preorder name rest) after,
        is_among-preorder name x rest,
      )

  pub behind_apart : (t : Trees A) (x q : ℕ) → IsDistinct name t → 0 < count name q (alone name x t) → is_among x (behind name t q) ≡ false
  behind_apart t x q once some = apart_below [] t x q once some refl
