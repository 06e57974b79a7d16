-- The laws of ways through a forest: up from a key, and through the root's tree in preorder.
use Rattle.std.proofs.Common.{◌≡◌, ◌≢◌, ℕ, ◌+◌, ◌<◌, true, false, cond, ◌&&◌, List, [], ◌∷◌, length, Option, None, Some, refl, sym, ap, ◌∙◌, arith, inl, inr}
use Rattle.std.specs.Prelude.{is_some, option_map}
use Rattle.std.proofs.lemmas.Bool.Decides.{eqb_tells, nat_tests}
use Rattle.std.specs.declared.cmp.Ordering.TheVariants.{Less, Equal, Greater}
use Rattle.lx_trees.specs.NamedTrees.{total}
use Rattle.lx_trees.specs.NamedTrees as named
use Rattle.lx_trees.specs.Siblings.{is_among, first_of, index_in, ComesBefore, NoRepeats}
use Rattle.lx_trees.proofs.NamedTrees.{count-without-alone, names-alone}
use Rattle.lx_trees.proofs.Siblings.{is_some-index_in, is_named_tells}
use Rattle.lx_trees.proofs.Subtrees.{total-alone_child-lt, alone-alone}
use Rattle.lx_trees.proofs.Walks as walks
use Rattle.lx_forest.specs.Forest.{Forest}
use Rattle.lx_forest.specs.Lookups.{key_of, count, has, roots, alone, spot, parent_of, children_of, first_child, next_of, is_within, is_attached, ancestors, depth, preorder, from, behind, order_between, order_of, IsForest}
use Rattle.lx_forest.specs.Edits.{drop_detached}
use Rattle.lx_forest.proofs.Edits.{has-root, spot-drop_detached}
use Rattle.lx_forest.proofs.Lookups.{is_among-children_of}
use Rattle.lx_trees.proofs.Attached as rootedWalks
use Rattle.lx_trees.proofs.Up as rootedUp
pub use Rattle.lx_trees.proofs.Attached.{cases_option}
use Rattle.lx_forest.proofs.Ordered.{ordered}

-- ---- up

-- what is nowhere has no parent
pub no_parent : (f : Forest) (q : ℕ) → has q f ≡ false → parent_of f q ≡ None
no_parent f q h1 = rootedWalks.no_parent key_of f q h1

pub ancestors-top : (f : Forest) (q : ℕ) → parent_of f q ≡ None → ancestors f q ≡ []
ancestors-top f q up = walks.ancestors-top key_of f q up

pub ancestors-step : (f : Forest) (q p : ℕ) → IsForest f → parent_of f q ≡ Some p → ancestors f q ≡ p ∷ ancestors f p
ancestors-step f q p h up = walks.ancestors-step key_of f q p h.once up

-- fewer keys are above one than there are in all, so a walk up ends
pub length-ancestors-lt : (f : Forest) (q : ℕ) → has q f ≡ true → length (ancestors f q) < total f
length-ancestors-lt f q there = walks.length-ancestors-lt key_of f q (grind (arith, there))

-- a child's tree is smaller than its parent's, so a walk down ends
pub total-alone-lt : (f : Forest) (q p : ℕ) → IsForest f → parent_of f q ≡ Some p → total (alone q f) < total (alone p f)
total-alone-lt f q p h up = total-alone_child-lt key_of f q p h.once up

-- a child is attached just where its parent is
pub is_attached-up : (f : Forest) (q p : ℕ) → IsForest f → parent_of f q ≡ Some p → is_attached f q ≡ is_attached f p
is_attached-up f q p h1 h2 = rootedWalks.is_attached-up key_of f q p (ordered h1) h2

-- of the keys without a parent only the root is attached
pub is_attached-top : (f : Forest) (q : ℕ) → IsForest f → parent_of f q ≡ None → q ≢ 0 → is_attached f q ≡ false
is_attached-top f q h1 h2 h3 = rootedWalks.is_attached-top key_of f q (ordered h1) h2 h3

pub depth-root : (f : Forest) → IsForest f → depth f 0 ≡ Some 0
depth-root f h = rootedUp.depth-root key_of f (ordered h)

pub depth-step : (f : Forest) (q p : ℕ) → IsForest f → parent_of f q ≡ Some p → depth f q ≡ option_map (λ d. d + 1) (depth f p)
depth-step f q p h up = rootedUp.depth-step key_of f q p (ordered h) up

-- ---- preorder

pub spot_in_tree : (f : Forest) (q : ℕ) → IsForest f → spot (alone 0 f) q ≡ cond (is_attached f q) (spot f q) None
unfolding drop_detached
spot_in_tree f q h = spot-drop_detached f q h

pub tree_distinct : (f : Forest) → IsForest f → named.IsDistinct key_of (alone 0 f)
tree_distinct f h = rootedWalks.tree_distinct key_of f (ordered h)

-- the keys of preorder are the attached ones, each once
pub is_among-preorder_of : (f : Forest) (q : ℕ) → is_among q (preorder f) ≡ is_attached f q
is_among-preorder_of f q = rootedWalks.is_among-preorder_of key_of f q

pub NoRepeats-preorder_of : (f : Forest) → IsForest f → NoRepeats (preorder f)
NoRepeats-preorder_of f h = rootedWalks.NoRepeats-preorder_of key_of f (ordered h)

root_first : (f : Forest) → IsForest f → roots (alone 0 f) ≡ 0 ∷ []
root_first f h = names-alone key_of 0 f (grind (arith, h.once 0, has-root f h))

-- all are the ones from the root on
pub from-root : (f : Forest) → IsForest f → from f 0 ≡ preorder f
from-root f h = walks.from-first key_of (alone 0 f) 0 (tree_distinct f h) (ap first_of (root_first f h))

-- from a key on: the key, and from its first child on, or else what comes after it
pub from-child : (f : Forest) (q c : ℕ) → IsForest f → is_attached f q ≡ true → first_child f q ≡ Some c → from f q ≡ q ∷ from f c
from-child f q c h attached first = walks.from-child key_of (alone 0 f) q c (tree_distinct f h) (rw (spot_in_tree f q h, attached) first)

pub from-leaf : (f : Forest) (q : ℕ) → IsForest f → is_attached f q ≡ true → children_of f q ≡ [] → from f q ≡ q ∷ behind f q
from-leaf f q h attached none = walks.from-leaf key_of (alone 0 f) q (tree_distinct f h) (grind (arith, attached)) (rw (spot_in_tree f q h, attached) none)

-- after a key: from its next sibling on, or else what comes after its parent
pub behind-next : (f : Forest) (q n : ℕ) → IsForest f → is_attached f q ≡ true → next_of f q ≡ Some n → behind f q ≡ from f n
behind-next f q n h attached next =
    elim (cases_option (parent_of f q)) [
      | inl none ↦ absurd (grind (arith, rw none at next))
      | inr (p, some) ↦
          let above : is_attached f p ≡ true = sym (is_attached-up f q p h some) ∙ attached in
          walks.behind-next key_of (alone 0 f) q n p (tree_distinct f h) (rw (spot_in_tree f p h, above) (rw some at next))
    ]

pub behind-last : (f : Forest) (q p : ℕ) → IsForest f → is_attached f q ≡ true → parent_of f q ≡ Some p → next_of f q ≡ None → behind f q ≡ behind f p
behind-last f q p h attached up next =
    let above : is_attached f p ≡ true = sym (is_attached-up f q p h up) ∙ attached in
    walks.behind-last key_of (alone 0 f) q p (tree_distinct f h)
    (rw (spot_in_tree f p h, above) (is_among-children_of f q p h ∙ grind (arith, up, eqb_tells p p)))
    (rw (spot_in_tree f p h, above) (rw up at next))

pub behind-root : (f : Forest) → IsForest f → behind f 0 ≡ []
behind-root f h = walks.behind-top key_of (alone 0 f) 0 (tree_distinct f h) (rw (root_first f h)) (rw (root_first f h))

-- ---- which comes first

order_before : (xs : List ℕ) (x y : ℕ) → ComesBefore xs x y
    → (order_between (index_in xs x) (index_in xs y) ≡ Some Less) × (order_between (index_in xs y) (index_in xs x) ≡ Some Greater)
order_before xs x y c =
    (rw (c.first_is, c.second_is) (grind (arith, c.before, nat_tests)), rw (c.first_is, c.second_is) (grind (arith, c.before, nat_tests)))

same_place : (o : Option ℕ) → is_some o ≡ true → order_between o o ≡ Some Equal
same_place None e = absurd (grind arith)
same_place (Some i) e = grind (arith, nat_tests)

no_place : (o r : Option ℕ) → (is_some o && is_some r) ≡ false → order_between o r ≡ None
no_place None r e = refl
no_place (Some i) None e = refl
no_place (Some i) (Some j) e = absurd (grind arith)

-- a tree in the root's is the same there
inside_root : (f : Forest) (k q : ℕ) → IsForest f → is_attached f k ≡ true → is_within f k q ≡ true → 0 < count q (alone k (alone 0 f))
inside_root f k q h attached inside =
    grind (arith, h.once k, count-without-alone key_of k 0 f, alone-alone key_of k 0 f)

child_attached : (f : Forest) (p x i : ℕ) → IsForest f → is_attached f p ≡ true → index_in (children_of f p) x ≡ Some i → is_attached f x ≡ true
child_attached f p x i h attached e =
    let up : parent_of f x ≡ Some p = grind (arith, is_some-index_in (children_of f p) x, is_among-children_of f x p h, is_named_tells (parent_of f x) p) in
    is_attached-up f x p h up ∙ attached

-- an attached key comes before all below it
pub order_of-below : (f : Forest) (k q : ℕ) → IsForest f → is_attached f k ≡ true → is_within f k q ≡ true → q ≢ k
    → (order_of f k q ≡ Some Less) × (order_of f q k ≡ Some Greater)
order_of-below f k q h attached inside other =
    order_before (preorder f) k q (walks.ComesBefore-below key_of (alone 0 f) k q (tree_distinct f h) (inside_root f k q h attached inside) other)

-- what is in the tree of a child comes before what is in the tree of a later child
pub order_of-children : (f : Forest) (p x y q s : ℕ) → IsForest f → is_attached f p ≡ true → ComesBefore (children_of f p) x y → is_within f x q ≡ true
    → is_within f y s ≡ true → (order_of f q s ≡ Some Less) × (order_of f s q ≡ Some Greater)
order_of-children f p x y q s h attached c u v =
    order_before (preorder f) q s
    (walks.ComesBefore-children key_of (alone 0 f) p x y q s (tree_distinct f h) (rw (spot_in_tree f p h, attached) c)
    (inside_root f x q h (child_attached f p x c.first h attached c.first_is) u)
    (inside_root f y s h (child_attached f p y c.second h attached c.second_is) v))

pub order_of-self : (f : Forest) (q : ℕ) → IsForest f → is_attached f q ≡ true → order_of f q q ≡ Some Equal
order_of-self f q h attached = same_place (index_in (preorder f) q) (is_some-index_in (preorder f) q ∙ is_among-preorder_of f q ∙ attached)

pub order_of-detached : (f : Forest) (a b : ℕ) → IsForest f → (is_attached f a && is_attached f b) ≡ false → order_of f a b ≡ None
order_of-detached f a b h detached =
    no_place (index_in (preorder f) a) (index_in (preorder f) b)
    (rw (is_some-index_in (preorder f) a, is_some-index_in (preorder f) b, is_among-preorder_of f a, is_among-preorder_of f b) detached)
