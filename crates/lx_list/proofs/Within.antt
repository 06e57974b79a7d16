-- The lines in a tree, and the list around a line.
use Rattle.std.proofs.Common.{◌≡◌, ◌≢◌, ◌∙◌, ℕ, Bool, true, List, [], ◌∷◌, ◌++◌, length, Option, None, Some, refl, sym, ap, subst, arith}
use Rattle.std.specs.Prelude.{find, filter, IfSome, IfNone}
use Rattle.lx_trees.specs.NamedTrees as named
use Rattle.lx_trees.specs.Siblings.{NoRepeats, first_of}
use Rattle.lx_trees.proofs.NamedTrees.{count-without-alone}
use Rattle.lx_trees.proofs.Subtrees.{alone-alone}
use Rattle.lx_forest.specs.Forest.{Forest}
use Rattle.lx_forest.specs.Lookups.{key_of, has, parent_of, ancestors, is_attached, keys_within, from, behind, depth, IsForest}
use Rattle.lx_forest.proofs.Walks.{NoRepeats-preorder_of, ancestors-step, ancestors-top}
use Rattle.lx_forest.proofs.Within.{is_within-ancestors}
use Rattle.lx_forest.proofs.Up.{attached_above}
use Rattle.lx_links.specs.Stands.{Sound}
use Rattle.lx_links.proofs.Up.{in_order, in_order_at}
use Rattle.lx_links.proofs.Ordered.{there_within}
use Rattle.lx_blocks.specs.Places.{until}
use Rattle.lx_blocks.specs.Walks.{left_from, key_of_step}
use Rattle.lx_blocks.proofs.Blocked.{found_among, more_among}
use Rattle.lx_blocks.proofs.Until.{until_front}
use Rattle.lx_blocks.proofs.Gathered.{next_at}
use Rattle.lx_blocks.proofs.Steps.{first_left, in_order_with}
use Rattle.lx_blocks.proofs.Stretches.{before_and_from}

-- ---- a tree, up to what comes after it

from_is : (f : Forest) (q : ℕ) → IsForest f → is_attached f q ≡ true → from f q ≡ keys_within f q ++ behind f q
from_is f q h attached =
    ap (λ t. named.preorder key_of t ++ behind f q) (alone-alone key_of q 0 f (grind (arith, h.once q, attached, count-without-alone key_of q 0 f)))

no_repeats_back : (xs ys : List ℕ) → NoRepeats (xs ++ ys) → NoRepeats ys
no_repeats_back [] ys u = u
no_repeats_back (x ∷ xs) ys u = no_repeats_back xs ys u.1

behind_left : (f : Forest) (q : ℕ) (stop : Option (ℕ × ℕ)) → IfSome stop (λ next. behind f q ≡ from f next.0) → IfNone stop (behind f q ≡ [])
    → left_from f stop ≡ behind f q
behind_left f q None some none = sym none
behind_left f q (Some next) some none = sym some

-- the nodes from one on, up to what comes after its tree, are those of its tree
pub tree_walked : (test : ℕ → Bool) (f : Forest) (q : ℕ) (stop : Option (ℕ × ℕ)) → Sound f → is_attached f q ≡ true
    → IfSome stop (λ next. behind f q ≡ from f next.0) → IfNone stop (behind f q ≡ [])
    → IfSome stop (λ next. depth f next.0 ≡ Some next.1) → filter test (until (key_of_step stop) (from f q)) ≡ filter test (keys_within f q)
tree_walked test f q stop s attached some none deep =
    let h : IsForest f = in_order_with f q s attached in
    let is : from f q ≡ keys_within f q ++ behind f q = from_is f q h attached in
    let once : NoRepeats (from f q) = no_repeats_back _ (from f q) (subst NoRepeats (before_and_from f q h attached) (NoRepeats-preorder_of f h)) in
    let stop_is : key_of_step stop ≡ first_of (behind f q) = first_left f stop (next_at stop f deep) ∙ ap first_of (behind_left f q stop some none) in
    ap (filter test)
    (ap (λ o. until o (from f q)) stop_is ∙ ap (until (first_of (behind f q))) is ∙ until_front (keys_within f q) (behind f q) (subst NoRepeats is once))

-- ---- the list around a line

above_attached : (test : ℕ → Bool) (f : Forest) (k b : ℕ) → Sound f → is_attached f k ≡ true → find test (ancestors f k) ≡ Some b → is_attached f b ≡ true
above_attached test f k b s attached e =
    let there : has k f ≡ true = there_within f 0 k attached in
    let h : IsForest f = in_order_at f k s there in
    attached_above f b k h attached (is_within-ancestors f b k h there ∙ more_among k b (ancestors f k) (found_among test (ancestors f k) b e))

pub found_attached : (test : ℕ → Bool) (o : Option ℕ) (f : Forest) (k : ℕ) → Sound f → is_attached f k ≡ true → o ≡ find test (ancestors f k)
    → IfSome o (λ b. is_attached f b ≡ true)
found_attached test None f k s attached e = tt
found_attached test (Some b) f k s attached e = above_attached test f k b s attached (sym e)

-- the way up begins with the parent
pub find_above : (test : ℕ → Bool) (f : Forest) (q p : ℕ) → Sound f → parent_of f q ≡ Some p → find test (ancestors f q) ≡ find test (p ∷ ancestors f p)
find_above test f q p s up = ap (find test) (ancestors-step f q p (in_order f q p s up) up)

pub find_none_above : (test : ℕ → Bool) (f : Forest) (q : ℕ) → parent_of f q ≡ None → find test (ancestors f q) ≡ None
find_none_above test f q top = ap (find test) (ancestors-top f q top)

-- what is attached has a depth
pub depth_known : (f : Forest) (q : ℕ) → is_attached f q ≡ true → depth f q ≢ None
depth_known f q attached none = let e : depth f q ≡ Some (length (ancestors f q)) = rw attached refl in absurd (cc)
