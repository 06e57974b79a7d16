-- Down last children from the root to a leaf.
use Rattle.std.proofs.Common.{◌≡◌, ◌≢◌, ◌∙◌, ℕ, ◌<◌, true, false, List, [], ◌∷◌, ◌++◌, Option, None, Some, refl, sym, ap, arith, append-nil, inl, inr}
use Rattle.std.specs.Prelude.{is_some}
use Rattle.lx_trees.specs.Trees.{nil}
use Rattle.lx_trees.specs.NamedTrees as named
use Rattle.lx_trees.specs.NamedTrees.{total}
use Rattle.lx_trees.specs.Siblings.{last_from, last_of, is_among}
use Rattle.lx_trees.specs.Spots.{Spot, children_at}
use Rattle.std.proofs.lemmas.Bool.{cases_Bool}
use Rattle.std.proofs.lemmas.Bool.Decides.{eqb_tells}
use Rattle.lx_trees.proofs.NamedTrees.{joined-nil, preorder-joined, is_among-preorder}
use Rattle.lx_forest.specs.Forest.{Forest, Label}
use Rattle.lx_forest.specs.Lookups.{key_of, has, alone, trees_of, spot, parent_of, children_of, last_child, is_attached, keys_within, IsForest}
use Rattle.lx_forest.proofs.Edits.{key-spot, is_some-spot}
use Rattle.lx_forest.proofs.Lookups.{alone-spot, has-child}
use Rattle.lx_forest.proofs.Walks.{is_attached-up, total-alone-lt}
use Rattle.lx_forest.proofs.Order.{is_attached-root}
use Rattle.lx_forest.proofs.Within.{is_within-self}
use Rattle.lx_links.specs.Stands.{Sound}
use Rattle.lx_links.proofs.Up.{not_within}
use Rattle.lx_links.proofs.Placed.{parent_of-child}

-- what is as attached as the root is attached
attached_there : (f : Forest) (q : ℕ) → Sound f → f ≢ nil → is_attached f q ≡ is_attached f 0 → is_attached f q ≡ true
attached_there f q s living same = same ∙ is_attached-root f (s.in_order living)

-- ---- last

last_behind : (a : Option ℕ) (xs ys : List ℕ) (z : ℕ) → last_of ys ≡ Some z → last_from a (xs ++ ys) ≡ Some z
last_behind a [] [] z e = cc
last_behind a [] (y ∷ ys) z e = e
last_behind a (x ∷ xs) ys z e = last_behind (Some x) xs ys z e

last_there : (a : Option ℕ) (xs : List ℕ) (q : ℕ) → is_among q xs ≡ true → (z : ℕ) × (last_from a xs ≡ Some z)
last_there a [] q e = cc
last_there a (x ∷ []) q e = (x, refl)
last_there a (x ∷ y ∷ ys) q e = last_there (Some x) (y ∷ ys) y (grind (arith, eqb_tells y y))

last_among : (x : ℕ) (xs : List ℕ) (c : ℕ) → last_from (Some x) xs ≡ Some c → is_among c (x ∷ xs) ≡ true
last_among x [] c e = grind (arith, eqb_tells x c)
last_among x (y ∷ ys) c e = grind (arith, last_among y ys c e)

last_child_among : (xs : List ℕ) (c : ℕ) → last_of xs ≡ Some c → is_among c xs ≡ true
last_child_among [] c e = cc
last_child_among (x ∷ xs) c e = last_among x xs c e

none_last : (xs : List ℕ) → last_of xs ≡ None → xs ≡ []
none_last [] e = refl
none_last (x ∷ xs) e = let some = last_there None (x ∷ xs) x (grind (arith, eqb_tells x x)) in let no : None ≡ Some some.0 = sym e ∙ some.1 in cc

last_up : (f : Forest) (q c : ℕ) → Sound f → last_child f q ≡ Some c → parent_of f c ≡ Some q
last_up f q c s e = parent_of-child f c q s (last_child_among (children_of f q) c e)

pub last_attached : (f : Forest) (q c : ℕ) → Sound f → f ≢ nil → is_attached f q ≡ is_attached f 0 → last_child f q ≡ Some c → is_attached f c ≡ is_attached f 0
last_attached f q c s living same e = is_attached-up f c q (s.in_order living) (last_up f q c s e) ∙ same

pub last_fewer : (f : Forest) (q c : ℕ) → Sound f → f ≢ nil → last_child f q ≡ Some c → total (alone c f) < total (alone q f)
last_fewer f q c s living e = total-alone-lt f c q (s.in_order living) (last_up f q c s e)

-- the last below the last of these
last_below : (f : Forest) (ks : List ℕ) (c z : ℕ) → last_of ks ≡ Some c → last_of (keys_within f c) ≡ Some z
    → last_of (named.preorder key_of (trees_of f ks)) ≡ Some z
last_below f [] c z e h = cc
last_below f (k ∷ []) c z e h =
    let same : k ≡ c = cc in
    ap (λ t. last_of (named.preorder key_of t)) (joined-nil (alone k f)) ∙ ap (λ x. last_of (keys_within f x)) same ∙ h
last_below f (k ∷ j ∷ ks) c z e h =
    ap last_of (preorder-joined key_of (alone k f) (trees_of f (j ∷ ks)))
    ∙ last_behind None (keys_within f k) (named.preorder key_of (trees_of f (j ∷ ks))) z (last_below f (j ∷ ks) c z e h)

last_down : (f : Forest) (q c z : ℕ) (o : Option (Spot Label)) → IsForest f → spot f q ≡ o → last_of (children_at o) ≡ Some c
    → last_of (keys_within f c) ≡ Some z → last_of (keys_within f q) ≡ Some z
last_down f q c z None i at e h = cc
last_down f q c z (Some s) i at e h =
    ap (λ t. last_of (named.preorder key_of t)) (alone-spot f q s i at)
    ∙ ap (λ xs. last_of (s.label.key ∷ xs)) (append-nil (named.preorder key_of (trees_of f s.children)))
    ∙ last_behind None (s.label.key ∷ []) (named.preorder key_of (trees_of f s.children)) z (last_below f s.children c z e h)

pub last_on : (f : Forest) (q c : ℕ) → Sound f → f ≢ nil → last_child f q ≡ Some c → last_of (keys_within f c) ≡ last_of (keys_within f q)
last_on f q c s living e =
    let there : is_among c (keys_within f c) ≡ true = is_among-preorder key_of c (alone c f) ∙ is_within-self f c ∙ has-child f c q (last_up f q c s e) in
    let some = last_there None (keys_within f c) c there in
    some.1 ∙ sym (last_down f q c some.0 (spot f q) (s.in_order living) refl e some.1)

attached_has : (f : Forest) (q : ℕ) → is_attached f q ≡ true → has q f ≡ true
attached_has f q e = elim (cases_Bool (has q f)) [
  | inl there ↦ there
  | inr absent ↦ let no : false ≡ true = sym (not_within f 0 q absent) ∙ e in cc
]

last_alone : (f : Forest) (q : ℕ) (o : Option (Spot Label)) → IsForest f → spot f q ≡ o → children_at o ≡ [] → is_some o ≡ true
    → last_of (keys_within f q) ≡ Some q
last_alone f q None i at e there = cc
last_alone f q (Some s) i at e there =
    ap (λ t. last_of (named.preorder key_of t)) (alone-spot f q s i at)
    ∙ ap (λ ks. last_of (s.label.key ∷ named.preorder key_of (trees_of f ks) ++ [])) e
    ∙ ap (λ k. Some k) (key-spot f q s at)

pub last_found : (f : Forest) (q : ℕ) → Sound f → f ≢ nil → is_attached f q ≡ is_attached f 0 → last_child f q ≡ None
    → last_of (keys_within f q) ≡ last_of (keys_within f 0) → Some q ≡ last_of (keys_within f 0)
last_found f q s living same e way =
    let none : children_of f q ≡ [] = none_last (children_of f q) e in
    let there : is_some (spot f q) ≡ true = is_some-spot f q ∙ attached_has f q (attached_there f q s living same) in
    sym (last_alone f q (spot f q) (s.in_order living) refl none there) ∙ way
