-- How deep a tree is, from the trees of the keys that were made or taken out.
use Rattle.std.proofs.Common.{◌≡◌, ℕ, ◌+◌, ◌-◌, ◌<◌, ◌≤◌, ◌||◌, true, false, cond, List, [], ◌∷◌, ◌++◌, length, take, get_or, Option, None, Some, unwrap_or, refl, sym, ap, subst, ◌∙◌, arith, inl, inr}
use Rattle.std.proofs.lemmas.List.{take_more}
use Rattle.std.proofs.lemmas.Bool.{cases_Bool, cases_lt}
use Rattle.std.proofs.lemmas.Bool.Decides.{eqb_tells, nat_tests}
use Rattle.lx_node.specs.Strings.{capped}
use Rattle.lx_trees.specs.Siblings.{is_among}
use Rattle.lx_node.specs.declared.cause.Limit.TheVariants.{Depth}
use Rattle.lx_forest.specs.Forest.{Forest}
use Rattle.lx_forest.specs.Lookups.{has, depth, preorder, is_within, is_attached, ancestors, IsForest}
use Rattle.lx_forest.specs.Edits.{drop_detached}
use Rattle.lx_forest.specs.Loose.{is_in_one, AreMoved}
use Rattle.lx_forest.specs.Weights.{weight}
use Rattle.lx_forest.proofs.Loose.{attached_at, swept-whole}
use Rattle.lx_forest.proofs.Up.{attached_above}
use Rattle.lx_forest.proofs.Walks.{cases_option, is_among-preorder_of}
use Rattle.lx_forest.proofs.Weights.{weight-preorder}
use Rattle.lx_links.specs.Stands.{Sound}
use Rattle.lx_links.specs.Shallow.{AreWithin}
use Rattle.lx_links.specs.Characters.{characters_in}
use Rattle.lx_node.specs.Limits.{most_depth}
use Rattle.lx_draft.specs.Faults.{over}
use Rattle.lx_draft.specs.Freezing.{greatest, depth_at, tree_depth, characters_at, tree_characters}

-- ---- the trees of keys

-- each attached key in one of these trees isn't too deep
abbrev pub AreShallow : Forest → List ℕ → Type 0
AreShallow f ks = (q d : ℕ) → depth f q ≡ Some d → is_in_one f ks q ≡ true → d ≤ most_depth

in_order_deep : (f : Forest) (q d : ℕ) → Sound f → depth f q ≡ Some d → IsForest f
in_order_deep f q d s e = s.in_order (λ no. let P : Forest → Type 0 = λ g. depth g q ≡ Some d in let h : None ≡ Some d = subst P no e in cc)

steps_of : (f : Forest) (q d : ℕ) → depth f q ≡ Some d → d ≡ length (ancestors f q)
steps_of f q d e =
    let h : Some (length (ancestors f q)) ≡ Some d = sym (ap (λ b. cond b (Some (length (ancestors f q))) None) (attached_at f q d e)) ∙ e in
    cc

in_one-append : (f : Forest) (xs ys : List ℕ) (q : ℕ) → is_in_one f (xs ++ ys) q ≡ (is_in_one f xs q || is_in_one f ys q)
in_one-append f [] ys q = refl
in_one-append f (x ∷ xs) ys q = grind (arith, in_one-append f xs ys q)

one_more : (f : Forest) (ks : List ℕ) (i k q : ℕ) → i < length ks → k ≡ get_or ks i k
    → is_in_one f (take (i + 1) ks) q ≡ (is_in_one f (take i ks) q || (is_within f k q || false))
one_more f ks i k q few at =
    ap (λ xs. is_in_one f xs q) (take_more ks i k few) ∙ in_one-append f (take i ks) (get_or ks i k ∷ []) q
    ∙ ap (λ x. is_in_one f (take i ks) q || (is_within f x q || false)) (sym at)

more_of : (f : Forest) (ks : List ℕ) (i k : ℕ) → i < length ks → k ≡ get_or ks i k → AreShallow f (take i ks)
    → ((q d : ℕ) → depth f q ≡ Some d → is_within f k q ≡ true → d ≤ most_depth) → AreShallow f (take (i + 1) ks)
more_of f ks i k few at m own q d deep inside = elim (cases_Bool (is_within f k q)) [
  | inl here ↦ own q d deep here
  | inr apart ↦ m q d deep (grind (arith, inside, apart, one_more f ks i k q few at))
]

-- a tree that goes down so far from where it is
pub shallow_tree : (f : Forest) (ks : List ℕ) (i k n : ℕ) (o : Option ℕ) → Sound f → i < length ks → k ≡ get_or ks i k → o ≡ depth f k → o ≡ Some n
    → n ≤ most_depth → AreWithin (most_depth - n) f k → AreShallow f (take i ks) → AreShallow f (take (i + 1) ks)
shallow_tree f ks i k n o s few at is some small within m = more_of f ks i k few at m (λ q d deep inside.
    omega (arith, steps_of f q d deep, within q inside, steps_of f k n (sym is ∙ some), small))

-- one that isn't attached
pub shallow_away : (f : Forest) (ks : List ℕ) (i k : ℕ) (o : Option ℕ) → Sound f → i < length ks → k ≡ get_or ks i k → o ≡ depth f k → o ≡ None
    → AreShallow f (take i ks) → AreShallow f (take (i + 1) ks)
shallow_away f ks i k o s few at is none m = more_of f ks i k few at m (λ q d deep inside.
    absurd (grind (arith, attached_above f k q (in_order_deep f q d s deep) (attached_at f q d deep) inside, sym is ∙ none)))

pub shallow_all : (f : Forest) (ks : List ℕ) → AreMoved most_depth f ks → AreShallow f ks → (q d : ℕ) → depth f q ≡ Some d → d ≤ most_depth
shallow_all f ks m shallow q d deep = elim (cases_lt most_depth d) [
  | inl over ↦ shallow q d deep (m.shallow q d deep over)
  | inr within ↦ omega (arith, within)
]

-- ---- the greatest depth

greatest-le : (measure : ℕ → ℕ) (most : ℕ) (ks : List ℕ) → ((k : ℕ) → measure k ≤ most) → greatest measure ks ≤ most
greatest-le measure most [] few = omega arith
greatest-le measure most (k ∷ ks) few = omega (arith, few k, greatest-le measure most ks few)

le-greatest : (measure : ℕ → ℕ) (k : ℕ) (ks : List ℕ) → is_among k ks ≡ true → measure k ≤ greatest measure ks
le-greatest measure k [] among = absurd (grind (arith, among))
le-greatest measure k (x ∷ ks) among = elim (eqb_tells x k) [
  | inl own ↦ omega (arith, ap measure own.1)
  | inr other ↦ omega (arith, le-greatest measure k ks (grind (arith, among, other.0)))
]

tree_depth-le : (f : Forest) → ((q d : ℕ) → depth f q ≡ Some d → d ≤ most_depth) → tree_depth f ≤ most_depth
tree_depth-le f few = greatest-le (depth_at f) most_depth (preorder f) (λ k. elim (cases_option (depth f k)) [
  | inl none ↦ omega (arith, ap (λ o. unwrap_or o 0) none)
  | inr (d, some) ↦ omega (arith, ap (λ o. unwrap_or o 0) some, few k d some)
])

pub le-tree_depth : (f : Forest) (q d : ℕ) → depth f q ≡ Some d → d ≤ tree_depth f
le-tree_depth f q d e = omega (arith, ap (λ o. unwrap_or o 0) e, le-greatest (depth_at f) q (preorder f) (is_among-preorder_of f q ∙ attached_at f q d e))

not_over : (n : ℕ) → n ≤ most_depth → None ≡ over Depth most_depth n
unfolding capped
not_over n small = grind (arith, nat_tests, small)

pub no_depth_fault : (f : Forest) → ((q d : ℕ) → depth f q ≡ Some d → d ≤ most_depth) → None ≡ over Depth most_depth (tree_depth f)
no_depth_fault f few = not_over (tree_depth f) (tree_depth-le f few)

-- ---- a swept forest

pub whole_of : (f : Forest) (q : ℕ) → IsForest f → drop_detached f ≡ f → has q f ≡ true → is_attached f q ≡ true
whole_of f q h same there = subst (λ g. is_attached g q ≡ true) same (swept-whole f q h (ap (has q) same ∙ there))

pub tree_counts : (f : Forest) → IsForest f → drop_detached f ≡ f → capped (weight characters_in f) ≡ capped (tree_characters f)
tree_counts f h same = ap capped (sym (weight-preorder characters_in (characters_at f) f h (λ q s e. rw e refl) ∙ ap (weight characters_in) same))
