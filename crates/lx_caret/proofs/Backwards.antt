-- A walk back through the root's tree, for the last node that passes a test.
use Rattle.std.proofs.Common.{◌≡◌, ◌∙◌, ℕ, ◌<◌, Bool, true, false, not, ◌&&◌, List, [], ◌∷◌, ◌++◌, length, Option, None, Some, refl, sym, ap, subst, arith, length-append}
use Rattle.std.specs.Prelude.{filter, IfSome, IfNone}
use Rattle.lx_trees.specs.Siblings.{last_from, last_of}
use Rattle.lx_node.specs.declared.cause.Point.{Point}
use Rattle.lx_forest.specs.Forest.{Forest}
use Rattle.lx_forest.specs.Lookups.{is_within, is_attached}
use Rattle.lx_links.specs.Stands.{Sound}
use Rattle.lx_blocks.specs.Places.{nodes_up_to}
use Rattle.lx_blocks.specs.Walks.{nodes_before}
use Rattle.lx_caret.specs.Deleting.{is_leaf_in, leaf_beside}
use Rattle.lx_caret.proofs.BlockOrder.{filter_none, no_leaf_before}

-- the nodes up to one, itself among them: none where there is none
abbrev pub up_to : Forest → Option ℕ → List ℕ
up_to f None = []
up_to f (Some k) = nodes_before f k ++ k ∷ []

abbrev pub IsUp : Forest → Option ℕ → Type 0
IsUp f None = Unit {0}
IsUp f (Some k) = is_attached f k ≡ true

-- what is looked for is the last of the nodes that are left
abbrev pub IsBack : (test : ℕ → Bool) (f : Forest) (at whole : Option ℕ) → Type 0
IsBack test f at whole = IsUp f at × (last_of (filter test (up_to f at)) ≡ whole)

hit : (test : ℕ → Bool) (xs : List ℕ) (k : ℕ) (before : Option ℕ) → test k ≡ true → last_from before (filter test (xs ++ k ∷ [])) ≡ Some k
hit test [] k before so = rw so refl
hit test (x ∷ xs) k before so = grind (arith, so, hit test xs k before so, hit test xs k (Some x) so)

miss : (test : ℕ → Bool) (xs : List ℕ) (k : ℕ) (before : Option ℕ) → test k ≡ false
    → last_from before (filter test (xs ++ k ∷ [])) ≡ last_from before (filter test xs)
miss test [] k before so = rw so refl
miss test (x ∷ xs) k before so = grind (arith, so, miss test xs k before so, miss test xs k (Some x) so)

pub up_next : (o : Option ℕ) (f : Forest) (ks : List ℕ) → IfSome o (λ before. ks ≡ nodes_before f before ++ before ∷ []) → IfNone o (ks ≡ []) → ks ≡ up_to f o
up_next None f ks some none = none
up_next (Some k) f ks some none = some

pub up_at : (o : Option ℕ) (f : Forest) → IfSome o (λ before. is_attached f before ≡ true) → IsUp f o
up_at None f e = tt
up_at (Some k) f e = e

pub back_starts : (test : ℕ → Bool) (o : Option ℕ) (f : Forest) (ks : List ℕ) → IfSome o (λ before. ks ≡ nodes_before f before ++ before ∷ [])
    → IfNone o (ks ≡ [])
    → IfSome o (λ before. is_attached f before ≡ true) → IsBack test f o (last_of (filter test ks))
back_starts test o f ks some none attached = (up_at o f attached, ap (λ xs. last_of (filter test xs)) (sym (up_next o f ks some none)))

pub back_on : (test : ℕ → Bool) (at o : Option ℕ) (f : Forest) (k : ℕ) (whole : Option ℕ) → IsBack test f at whole
    → IfSome o (λ before. nodes_before f k ≡ nodes_before f before ++ before ∷ [])
    → IfNone o (nodes_before f k ≡ []) → IfSome o (λ before. is_attached f before ≡ true) → test k ≡ false → at ≡ Some k → IsBack test f o whole
back_on test at o f k whole way some none attached so is =
    let way_at : IsBack test f (Some k) whole = subst (λ x. IsBack test f x whole) is way in
    (up_at o f attached, ap (λ xs. last_of (filter test xs)) (sym (up_next o f (nodes_before f k) some none)) ∙ sym (miss test (nodes_before f k) k None so) ∙ way_at.1)

pub back_found : (test : ℕ → Bool) (at : Option ℕ) (f : Forest) (k : ℕ) (whole : Option ℕ) → IsBack test f at whole → test k ≡ true → at ≡ Some k
    → Some k ≡ whole
back_found test at f k whole way so is =
    let way_at : IsBack test f (Some k) whole = subst (λ x. IsBack test f x whole) is way in
    sym (hit test (nodes_before f k) k None so) ∙ way_at.1

pub back_ends : (test : ℕ → Bool) (at : Option ℕ) (f : Forest) (whole : Option ℕ) → IsBack test f at whole → at ≡ None → None ≡ whole
back_ends test at f whole way is = (subst (λ x. IsBack test f x whole) is way).1

pub back_shorter : (at o : Option ℕ) (f : Forest) (k : ℕ) → IfSome o (λ before. nodes_before f k ≡ nodes_before f before ++ before ∷ [])
    → IfNone o (nodes_before f k ≡ [])
    → at ≡ Some k → length (up_to f o) < length (up_to f at)
back_shorter at o f k some none is =
    let now : length (up_to f at) ≡ length (nodes_before f k ++ k ∷ []) = ap (λ x. length (up_to f x)) is in
    omega (arith, now, length-append (nodes_before f k) (k ∷ []), ap length (up_next o f (nodes_before f k) some none))

pub up_attached : (test : ℕ → Bool) (at : Option ℕ) (f : Forest) (k : ℕ) (whole : Option ℕ) → IsBack test f at whole → at ≡ Some k → is_attached f k ≡ true
up_attached test at f k whole way is = (subst (λ x. IsBack test f x whole) is way).0

-- ---- the last leaf of a block before a point

-- a leaf of the block that doesn't hold the point
abbrev pub is_leaf_before : Forest → ℕ → Point → ℕ → Bool
is_leaf_before f block p k = is_leaf_in f block k && not (is_within f k p.key)

filter_both : (a b : ℕ → Bool) (xs : List ℕ) → filter a (filter b xs) ≡ filter (λ k. a k && b k) xs
filter_both a b [] = refl
filter_both a b (x ∷ xs) = grind (arith, filter_both a b xs)

pub leaf_starts : (o : Option ℕ) (f : Forest) (block : ℕ) (p : Point) → IfSome o (λ before. nodes_up_to f p ≡ nodes_before f before ++ before ∷ [])
    → IfNone o (nodes_up_to f p ≡ [])
    → IfSome o (λ before. is_attached f before ≡ true) → IsBack (is_leaf_before f block p) f o (leaf_beside true f block p)
leaf_starts o f block p some none attached =
    subst (IsBack (is_leaf_before f block p) f o) (ap last_of (sym (filter_both (is_leaf_in f block) (λ k. not (is_within f k p.key)) (nodes_up_to f p))))
    (back_starts (is_leaf_before f block p) o f (nodes_up_to f p) some none attached)

no_both : (a b : Bool) → a ≡ false → (a && b) ≡ false
no_both a b e = grind (arith, e)

-- at the block none is left
pub leaf_stops : (at : Option ℕ) (f : Forest) (block : ℕ) (p : Point) (k : ℕ) (whole : Option ℕ) → Sound f → IsBack (is_leaf_before f block p) f at whole
    → is_leaf_before f block p k ≡ false
    → k ≡ block → at ≡ Some k → None ≡ whole
leaf_stops at f block p k whole s way so same is =
    let way_at : IsBack (is_leaf_before f block p) f (Some k) whole = subst (λ x. IsBack (is_leaf_before f block p) f x whole) is way in
    let attached : is_attached f block ≡ true = sym (ap (is_attached f) same) ∙ way_at.0 in
    let none : filter (is_leaf_before f block p) (nodes_before f k) ≡ [] =
    ap (λ x. filter (is_leaf_before f block p) (nodes_before f x)) same
    ∙ filter_none (is_leaf_before f block p) (nodes_before f block)
    (λ x e. no_both (is_leaf_in f block x) (not (is_within f x p.key)) (no_leaf_before f block s attached x e)) in
    sym (ap last_of none) ∙ sym (miss (is_leaf_before f block p) (nodes_before f k) k None so) ∙ way_at.1
