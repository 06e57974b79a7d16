-- Down first children from a node to a leaf.
use Rattle.std.proofs.Common.{◌≡◌, ◌≢◌, ◌∙◌, ℕ, zero, suc, ◌<◌, eqb, Bool, true, false, cond, List, [], ◌∷◌, ◌++◌, length, Option, None, Some, refl, sym, ap, arith, append-nil, inl, inr}
use Rattle.std.specs.Prelude.{find, is_some, nat_lt}
use Rattle.std.proofs.lemmas.Bool.{cases_Bool}
use Rattle.std.proofs.lemmas.Bool.Decides.{eqb_tells, nat_tests}
use Rattle.lx_trees.specs.Trees.{nil}
use Rattle.lx_trees.specs.NamedTrees as named
use Rattle.lx_trees.specs.NamedTrees.{total}
use Rattle.lx_trees.specs.Siblings.{first_of}
use Rattle.lx_trees.specs.Spots.{Spot, children_at}
use Rattle.lx_trees.proofs.NamedTrees.{preorder-joined, alone-absent}
use Rattle.lx_trees.proofs.Siblings.{first_of-among}
use Rattle.lx_forest.specs.Forest.{Forest, Label}
use Rattle.lx_forest.specs.Lookups.{key_of, count, has, alone, trees_of, spot, parent_of, children_of, size_of, first_child, keys_within, IsForest}
use Rattle.lx_forest.proofs.Edits.{key-spot, is_some-spot}
use Rattle.lx_forest.proofs.Lookups.{alone-spot, has-child}
use Rattle.lx_forest.proofs.Walks.{total-alone-lt}
use Rattle.lx_links.specs.Stands.{Sound}
use Rattle.lx_links.proofs.Placed.{parent_of-child}

-- a node without children
abbrev pub is_leaf : Forest → ℕ → Bool
is_leaf f q = eqb (size_of f q) 0

keys_down : (f : Forest) (k : ℕ) (s : Spot Label) → IsForest f → spot f k ≡ Some s → keys_within f k ≡ k ∷ named.preorder key_of (trees_of f s.children)
keys_down f k s i at =
    ap (λ t. named.preorder key_of t) (alone-spot f k s i at)
    ∙ ap (λ xs. s.label.key ∷ xs) (append-nil (named.preorder key_of (trees_of f s.children)))
    ∙ ap (λ q. q ∷ named.preorder key_of (trees_of f s.children)) (key-spot f k s at)

find_front : (test : ℕ → Bool) (xs ys : List ℕ) → is_some (find test xs) ≡ true → find test (xs ++ ys) ≡ find test xs
find_front test [] ys e = absurd (cc)
find_front test (x ∷ xs) ys e =
    elim (cases_Bool (test x)) [
      | inl here ↦ rw here refl
      | inr other ↦ rw other (find_front test xs ys (rw other at e))
    ]

pub first_up : (f : Forest) (q c : ℕ) → Sound f → first_child f q ≡ Some c → parent_of f c ≡ Some q
first_up f q c s e = parent_of-child f c q s (first_of-among (children_of f q) c e)

not_leaf : (f : Forest) (q c : ℕ) → first_child f q ≡ Some c → is_leaf f q ≡ false
not_leaf f q c e = by_children (children_of f q) e where
  by_children : (xs : List ℕ) → first_of xs ≡ Some c → eqb (length xs) 0 ≡ false
  by_children [] e = absurd (cc)
  by_children (x ∷ xs) e = elim (eqb_tells (length (x ∷ xs)) 0) [ inl none ↦ absurd (omega (arith, none.1)) | inr some ↦ some.0 ]

first_of-split : (xs : List ℕ) (c : ℕ) → first_of xs ≡ Some c → (rest : List ℕ) × (xs ≡ c ∷ rest)
first_of-split [] c e = absurd (cc)
first_of-split (x ∷ xs) c e = (xs, (let is : x ≡ c = cc in ap (λ q. q ∷ xs) is))

keys_first : (f : Forest) (q c : ℕ) (o : Option (Spot Label)) → IsForest f → spot f q ≡ o → first_of (children_at o) ≡ Some c
    → (rest : List ℕ) × (keys_within f q ≡ q ∷ (keys_within f c ++ rest))
keys_first f q c None i at e = absurd (cc)
keys_first f q c (Some s) i at e =
    let split = first_of-split s.children c e in (
      named.preorder key_of (trees_of f split.0),
      keys_down f q s i at
          ∙ ap (λ ks. q ∷ named.preorder key_of (trees_of f ks)) split.1
          ∙ ap (λ xs. q ∷ xs) (preorder-joined key_of (alone c f) (trees_of f split.0)),
    )

past : (f : Forest) (q c : ℕ) (rest : List ℕ) → keys_within f q ≡ q ∷ (keys_within f c ++ rest) → first_child f q ≡ Some c
    → is_some (find (is_leaf f) (keys_within f c)) ≡ true → find (is_leaf f) (keys_within f q) ≡ find (is_leaf f) (keys_within f c)
past f q c rest keys e some =
    ap (find (is_leaf f)) keys
    ∙ ap (λ b. cond b (Some q) (find (is_leaf f) (keys_within f c ++ rest))) (not_leaf f q c e)
    ∙ find_front (is_leaf f) (keys_within f c) rest some

none_first : (xs : List ℕ) → first_of xs ≡ None → xs ≡ []
none_first [] e = refl
none_first (x ∷ xs) e = absurd (cc)

alone_leaf : (f : Forest) (q : ℕ) (o : Option (Spot Label)) → IsForest f → spot f q ≡ o → is_some o ≡ true → children_at o ≡ []
    → find (is_leaf f) (keys_within f q) ≡ Some q
alone_leaf f q None i at there none = absurd (cc)
alone_leaf f q (Some s) i at there none =
    let children : children_of f q ≡ [] = ap children_at at ∙ none in
    ap (find (is_leaf f)) (keys_down f q s i at)
    ∙ ap (λ b. cond b (Some q) (find (is_leaf f) (named.preorder key_of (trees_of f s.children)))) (ap (λ (xs : List ℕ). eqb (length xs) 0) children)

-- there is a leaf in each tree
leaf_by : (f : Forest) (q : ℕ) (o : Option ℕ) → Sound f → f ≢ nil → has q f ≡ true → first_child f q ≡ o
    → ((c : ℕ) → first_child f q ≡ Some c → is_some (find (is_leaf f) (keys_within f c)) ≡ true) → is_some (find (is_leaf f) (keys_within f q)) ≡ true
leaf_by f q None s living there e below =
    ap is_some (alone_leaf f q (spot f q) (s.in_order living) refl (is_some-spot f q ∙ there) (none_first (children_of f q) e))
leaf_by f q (Some c) s living there e below =
    let keys = keys_first f q c (spot f q) (s.in_order living) refl e in
    ap is_some (past f q c keys.0 keys.1 e (below c e)) ∙ below c e

leaf_there : (n : ℕ) (f : Forest) (q : ℕ) → Sound f → f ≢ nil → total (alone q f) < n → has q f ≡ true → is_some (find (is_leaf f) (keys_within f q)) ≡ true
leaf_there zero f q s living few there = absurd (omega (arith, few))
leaf_there (suc n) f q s living few there =
    leaf_by f q (first_child f q) s living there refl (λ c e.
    let up = first_up f q c s e in
    let less = total-alone-lt f c q (s.in_order living) up in
    leaf_there n f c s living (omega (arith, few, less)) (has-child f c q up))

pub first_on : (f : Forest) (q c : ℕ) → Sound f → f ≢ nil → first_child f q ≡ Some c → find (is_leaf f) (keys_within f c) ≡ find (is_leaf f) (keys_within f q)
first_on f q c s living e =
    let up = first_up f q c s e in
    let some = leaf_there (suc (total (alone c f))) f c s living (omega arith) (has-child f c q up) in
    let keys = keys_first f q c (spot f q) (s.in_order living) refl e in
    sym (past f q c keys.0 keys.1 e some)

pub first_fewer : (f : Forest) (q c : ℕ) → Sound f → f ≢ nil → first_child f q ≡ Some c → total (alone c f) < total (alone q f)
first_fewer f q c s living e = total-alone-lt f c q (s.in_order living) (first_up f q c s e)

pub first_there : (f : Forest) (q c : ℕ) → Sound f → first_child f q ≡ Some c → has c f ≡ true
first_there f q c s e = has-child f c q (first_up f q c s e)

pub first_found : (f : Forest) (q : ℕ) (whole : Option ℕ) → Sound f → f ≢ nil → has q f ≡ true → first_child f q ≡ None
    → find (is_leaf f) (keys_within f q) ≡ whole → Some q ≡ whole
first_found f q whole s living there e so_far =
    sym (alone_leaf f q (spot f q) (s.in_order living) refl (is_some-spot f q ∙ there) (none_first (children_of f q) e)) ∙ so_far

-- where there is a node the forest isn't empty
pub living : (f : Forest) (q : ℕ) → has q f ≡ true → f ≢ nil
living f q there none = let absent : has q nil ≡ true = sym (ap (has q) none) ∙ there in absurd (cc)

-- where there is no node there is no leaf
pub no_leaf : (f : Forest) (q : ℕ) → has q f ≡ false → find (is_leaf f) (keys_within f q) ≡ None
no_leaf f q absent = ap (λ t. find (is_leaf f) (named.preorder key_of t)) (alone-absent key_of q f (absent_count (count q f) absent)) where
  absent_count : (n : ℕ) → nat_lt 0 n ≡ false → n ≡ 0
  absent_count n e = grind (arith, nat_tests, e)
