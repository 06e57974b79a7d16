-- A walk through the tree that lists its headings.
use Rattle.std.proofs.Common.{◌≡◌, ◌∙◌, ℕ, true, false, List, [], ◌∷◌, ◌++◌, Option, Some, refl, sym, ap, arith}
use Rattle.std.proofs.lemmas.Bool.Decides.{nat_tests}
use Rattle.lx_trees.specs.NamedTrees as named
use Rattle.lx_trees.proofs.NamedTrees.{alone-absent}
use Rattle.lx_forest.specs.Forest.{Forest}
use Rattle.lx_forest.specs.Lookups.{key_of, has, depth, from, preorder}
use Rattle.lx_forest.proofs.Walks.{from-root, depth-root}
use Rattle.lx_links.specs.Stands.{Sound}
use Rattle.lx_links.proofs.Up.{in_order_at}
use Rattle.lx_outline.specs.declared.headings.Entry.{Entry}
use Rattle.lx_outline.specs.declared.headings.Heading.{Heading}
use Rattle.lx_outline.specs.Outline.{OutlineView, IsOutlineOf, entries_kept, entries_among}
use Rattle.lx_outline.specs.Reading.{left_from, IsAt}

pub first_left : (f : Forest) (root : ℕ) → root ≡ 0 → Sound f → has root f ≡ true → from f root ≡ preorder f
first_left f root is s there = ap (from f) is ∙ from-root f (in_order_at f root s there)

pub first_deep : (f : Forest) (root : ℕ) → root ≡ 0 → Sound f → has root f ≡ true → depth f root ≡ Some 0
first_deep f root is s there = ap (depth f) is ∙ depth-root f (in_order_at f root s there)

pub none_left : (f : Forest) (root : ℕ) → root ≡ 0 → has root f ≡ false → [] ≡ preorder f
none_left f root is out =
    sym (ap (named.preorder key_of) (alone-absent key_of 0 f (let none : has 0 f ≡ false = sym (ap (λ k. has k f) is) ∙ out in grind (arith, nat_tests, none))))

-- what is kept of keys is what the tree has there, where this is its outline
pub kept_among : (o : OutlineView) (f : Forest) (qs : List ℕ) → IsOutlineOf o f → entries_kept o.headings qs ≡ entries_among f qs
kept_among o f [] is = refl
kept_among o f (q ∷ qs) is = rw (is.heading q, kept_among o f qs is) refl

-- what was listed, with what is left from there on, is all
pub record IsListed (headings : List (ℕ × Heading)) (f : Forest) (entries : List Entry) (at : Option (ℕ × ℕ)) : Type 0 where
  pub listed : entries ++ entries_kept headings (left_from f at) ≡ entries_kept headings (preorder f)
  pub here : IsAt f at
