-- Where the tree of a node lies in preorder: after the nodes before it, and before those after it.
use Rattle.std.proofs.Common.{◌≡◌, ◌∙◌, ◌⊎◌, inl, inr, ℕ, ◌+◌, ◌<◌, ◌≤◌, true, false, eqb, List, [], ◌∷◌, ◌++◌, length, length-append, Some, sym, ap, arith, append_assoc, subst}
use Rattle.std.specs.Prelude.{unwrap_or, slice_get}
use Rattle.std.proofs.lemmas.List.{append-nil}
use Rattle.std.proofs.lemmas.Bool.{cases_lt}
use Rattle.std.proofs.lemmas.Bool.Decides.{eqb_tells}
use Rattle.lx_trees.specs.Trees.{Trees, nil, tree, joined}
use Rattle.lx_trees.specs.NamedTrees as named
use Rattle.lx_trees.specs.NamedTrees.{IsDistinct, count}
use Rattle.lx_trees.specs.Siblings.{is_among, NoRepeats, first_of}
use Rattle.lx_trees.specs.Walks.{behind_before}
use Rattle.lx_trees.proofs.NamedTrees.{alone-absent, joined-nil, preorder-joined, is_among-preorder, count-without-alone}
use Rattle.lx_trees.proofs.Positions.{place_in, slice_get-place_in}
use Rattle.lx_trees.proofs.Siblings.{is_among-append, index_in-append}
use Rattle.lx_trees.proofs.Subtrees.{alone-alone}
use Rattle.lx_trees.proofs.Walks.{behind_before-below, behind_before-rest}
use Rattle.lx_forest.specs.Forest.{Forest}
use Rattle.lx_forest.specs.Lookups.{key_of, alone, is_within, is_attached, keys_within, preorder, from, behind, IsForest}
use Rattle.lx_forest.proofs.Walks.{tree_distinct, is_among-preorder_of, NoRepeats-preorder_of}
use Rattle.lx_blocks.specs.Places.{until}
use Rattle.lx_blocks.specs.Walks.{nodes_before}
use Rattle.lx_blocks.proofs.Until.{until_ahead, until_past, until_without, until_front, back_tells}

module _ {A : Type 0} (name : A → ℕ) where
  -- a name below the first one, and one after its tree
  split_below : (after : List ℕ) (a : A) (below rest : Trees A) (q : ℕ) → eqb (name a) q ≡ false → count name q rest ≡ 0
      → is_among q (named.preorder name below) ≡ true
      → behind_before name after (tree a below rest) q ≡ behind_before name (named.preorder name rest ++ after) below q →
      named.preorder name below ++ (named.preorder name rest ++ after)
      ≡ until (Some q) (named.preorder name below)
      ++ (named.preorder name (named.alone name q below) ++ unwrap_or (behind_before name (named.preorder name rest ++ after) below q) []) →
      named.preorder name (tree a below rest) ++ after
      ≡ until (Some q) (named.preorder name (tree a below rest))
      ++ (named.preorder name (named.alone name q (tree a below rest)) ++ unwrap_or (behind_before name after (tree a below rest) q) [])
  split_below after a below rest q other gone there same lower =
      let trees : joined (named.alone name q below) (named.alone name q rest) ≡ named.alone name q below =
      ap (joined (named.alone name q below)) (alone-absent name q rest gone) ∙ joined-nil (named.alone name q below) in
      rw (same, other, trees, until_ahead q (named.preorder name below) (named.preorder name rest) there)
      (ap (λ ks. name a ∷ ks) (append_assoc (named.preorder name below) (named.preorder name rest) after ∙ lower))

  split_rest : (after : List ℕ) (a : A) (below rest : Trees A) (q : ℕ) → eqb (name a) q ≡ false → count name q below ≡ 0
      → is_among q (named.preorder name below) ≡ false → behind_before name after (tree a below rest) q ≡ behind_before name after rest q →
      named.preorder name rest ++ after
      ≡ until (Some q) (named.preorder name rest) ++ (named.preorder name (named.alone name q rest) ++ unwrap_or (behind_before name after rest q) []) →
      named.preorder name (tree a below rest) ++ after
      ≡ until (Some q) (named.preorder name (tree a below rest))
      ++ (named.preorder name (named.alone name q (tree a below rest)) ++ unwrap_or (behind_before name after (tree a below rest) q) [])
  split_rest after a below rest q other gone away same later =
      rw (same, other, alone-absent name q below gone, until_past q (named.preorder name below) (named.preorder name rest) away)
      (ap (λ ks. name a ∷ ks) (append_assoc (named.preorder name below) (named.preorder name rest) after ∙ ap (λ ks. named.preorder name below ++ ks) later
      ∙ sym (append_assoc (named.preorder name below) (until (Some q) (named.preorder name rest))
      (named.preorder name (named.alone name q rest) ++ unwrap_or (behind_before name after rest q) []))))

  -- the names up to one, those of its tree, and those after it, where others follow
  split_trees : (after : List ℕ) (t : Trees A) (q : ℕ) → IsDistinct name t → 0 < count name q t
      → named.preorder name t ++ after
      ≡ until (Some q) (named.preorder name t) ++ (named.preorder name (named.alone name q t) ++ unwrap_or (behind_before name after t q) [])
  split_trees after nil q once some = absurd (omega arith)
  split_trees after (tree a below rest) q once some =
      elim (eqb_tells (name a) q) [
        | inl own ↦
            let gone : count name q rest ≡ 0 = grind (arith, own, once q) in
            rw (own.0, alone-absent name q rest gone, append-nil (named.preorder name below))
            (ap (λ ks. name a ∷ ks) (append_assoc (named.preorder name below) (named.preorder name rest) after))
        | inr other ↦ elim (cases_lt 0 (count name q below)) [
          | inl inner ↦
              split_below after a below rest q other.0 (omega (arith, once q)) (grind (arith, inner, is_among-preorder name q below))
              (behind_before-below name after a below rest q (once q) inner)
              (split_trees (named.preorder name rest ++ after) below q (λ x. omega (arith, once x)) inner)
          | inr outer ↦
              let there : 0 < count name q rest = grind (arith, other, some, outer) in
              split_rest after a below rest q other.0 (omega arith) (grind (arith, outer, is_among-preorder name q below))
              (behind_before-rest name after a below rest q (once q) there)
              (split_trees after rest q (λ x. omega (arith, once x)) there)
        ]
      ]

  begins_here : (a : A) (below rest : Trees A) (q : ℕ) → eqb (name a) q ≡ true → name a ≡ q
      → named.preorder name (named.alone name q (tree a below rest)) ≡ q ∷ (named.preorder name below ++ named.preorder name (named.alone name q rest))
  begins_here a below rest q own is = rw own (ap (λ x. x ∷ (named.preorder name below ++ named.preorder name (named.alone name q rest))) is)

  begins_below : (a : A) (below rest : Trees A) (q : ℕ) (ks : List ℕ) → eqb (name a) q ≡ false → named.preorder name (named.alone name q below) ≡ q ∷ ks
      → named.preorder name (named.alone name q (tree a below rest)) ≡ q ∷ (ks ++ named.preorder name (named.alone name q rest))
  begins_below a below rest q ks other e =
      rw other (preorder-joined name (named.alone name q below) (named.alone name q rest) ∙ ap (λ xs. xs ++ named.preorder name (named.alone name q rest)) e)

  begins_rest : (a : A) (below rest : Trees A) (q : ℕ) (ks : List ℕ) → eqb (name a) q ≡ false → count name q below ≡ 0
      → named.preorder name (named.alone name q rest) ≡ q ∷ ks → named.preorder name (named.alone name q (tree a below rest)) ≡ q ∷ ks
  begins_rest a below rest q ks other gone e = rw (other, alone-absent name q below gone) e

  -- a tree alone begins with its own name
  alone_begins : (t : Trees A) (q : ℕ) → 0 < count name q t → (rest : List ℕ) × (named.preorder name (named.alone name q t) ≡ q ∷ rest)
  alone_begins nil q some = absurd (omega arith)
  alone_begins (tree a below rest) q some =
      elim (eqb_tells (name a) q) [
        | inl own ↦ (named.preorder name below ++ named.preorder name (named.alone name q rest), begins_here a below rest q own.0 own.1)
        | inr other ↦ elim (cases_lt 0 (count name q below)) [
          | inl inner ↦
              let begins = alone_begins below q inner in
              (begins.0 ++ named.preorder name (named.alone name q rest), begins_below a below rest q begins.0 other.0 begins.1)
          | inr outer ↦
              let begins = alone_begins rest q (grind (arith, other, some, outer)) in
              (begins.0, begins_rest a below rest q begins.0 other.0 (omega arith) begins.1)
        ]
      ]

-- ---- in a forest

-- a tree in the root's is the same there
in_root : (f : Forest) (q : ℕ) → IsForest f → is_attached f q ≡ true → alone q (alone 0 f) ≡ alone q f
in_root f q h attached = alone-alone key_of q 0 f (grind (arith, h.once q, attached, count-without-alone key_of q 0 f))

pub stretches : (f : Forest) (q : ℕ) → IsForest f → is_attached f q ≡ true → preorder f ≡ nodes_before f q ++ (keys_within f q ++ behind f q)
stretches f q h attached =
    sym (append-nil (preorder f)) ∙ split_trees key_of [] (alone 0 f) q (tree_distinct f h) (grind (arith, attached))
    ∙ ap (λ t. nodes_before f q ++ (named.preorder key_of t ++ behind f q)) (in_root f q h attached)

-- the nodes from one on are those of its tree, and those after it
from_is : (f : Forest) (q : ℕ) → IsForest f → is_attached f q ≡ true → from f q ≡ keys_within f q ++ behind f q
from_is f q h attached = ap (λ t. named.preorder key_of t ++ behind f q) (in_root f q h attached)

-- the nodes before one, and those from it on
pub before_and_from : (f : Forest) (q : ℕ) → IsForest f → is_attached f q ≡ true → preorder f ≡ nodes_before f q ++ from f q
before_and_from f q h attached = stretches f q h attached ∙ ap (λ ks. nodes_before f q ++ ks) (sym (from_is f q h attached))

-- the nodes from one on begin with it
pub from_begins : (f : Forest) (q : ℕ) → is_attached f q ≡ true → (rest : List ℕ) × (from f q ≡ q ∷ rest)
from_begins f q attached =
    let begins = alone_begins key_of (alone 0 f) q (grind (arith, attached)) in
    (begins.0 ++ behind f q, ap (λ ks. ks ++ behind f q) begins.1)

pub first_from : (f : Forest) (q : ℕ) → is_attached f q ≡ true → first_of (from f q) ≡ Some q
first_from f q attached = let begins = from_begins f q attached in ap first_of begins.1

-- what is in front of the nodes from one on is what is before it
pub before_is : (f : Forest) (q : ℕ) (front : List ℕ) → IsForest f → is_attached f q ≡ true → preorder f ≡ front ++ from f q → nodes_before f q ≡ front
before_is f q front h attached e =
    ap (until (Some q)) e ∙ ap (λ o. until o (front ++ from f q)) (sym (first_from f q attached))
    ∙ until_front front (from f q) (subst NoRepeats e (NoRepeats-preorder_of f h))

-- ---- places in numbers

-- how many nodes come before one, and how many its tree has
pub place : Forest → ℕ → ℕ
place f x = place_in (preorder f) x

pub size : Forest → ℕ → ℕ
size f q = length (keys_within f q)

there_in : (f : Forest) (x : ℕ) → is_attached f x ≡ true → is_among x (preorder f) ≡ true
there_in f x attached = is_among-preorder_of f x ∙ attached

-- an attached node is in a front, or after it
pub back_of : (f : Forest) (xs ys : List ℕ) (x : ℕ) → IsForest f → preorder f ≡ xs ++ ys → is_attached f x ≡ true →
    ((is_among x xs ≡ true) × (is_among x ys ≡ false) × (place f x < length xs)) ⊎ ((is_among x xs ≡ false) × (is_among x ys ≡ true) × (length xs ≤ place f x))
unfolding place
back_of f xs ys x h e attached =
    let T : List ℕ → Type 0 =
    λ zs. ((is_among x xs ≡ true) × (is_among x ys ≡ false) × (place_in zs x < length xs))
    ⊎ ((is_among x xs ≡ false) × (is_among x ys ≡ true) × (length xs ≤ place_in zs x)) in
    subst T (sym e) (back_tells xs ys x (subst NoRepeats e (NoRepeats-preorder_of f h)) (subst (λ zs. is_among x zs ≡ true) e (there_in f x attached)))

place_at : (xs ys : List ℕ) (q : ℕ) → is_among q xs ≡ false → place_in (xs ++ q ∷ ys) q ≡ length xs
place_at xs ys q gone = grind (arith, gone, index_in-append xs (q ∷ ys) q, eqb_tells q q)

-- so many nodes come before one, and before what comes after its tree
pub length_before : (f : Forest) (q : ℕ) → IsForest f → is_attached f q ≡ true → length (nodes_before f q) ≡ place f q
unfolding place
length_before f q h attached =
    let begins = from_begins f q attached in
    sym (ap (λ zs. place_in zs q) (before_and_from f q h attached ∙ ap (λ ks. nodes_before f q ++ ks) begins.1)
    ∙ place_at (nodes_before f q) begins.0 q (until_without q (preorder f)))

-- no two nodes have one place
pub same_place : (f : Forest) (x y : ℕ) → is_attached f x ≡ true → is_attached f y ≡ true → place f x ≡ place f y → x ≡ y
unfolding place
same_place f x y there here e =
    let is : Some x ≡ Some y =
    sym (slice_get-place_in (preorder f) x (there_in f x there)) ∙ ap (slice_get (preorder f)) e ∙ slice_get-place_in (preorder f) y (there_in f y here) in
    grind (arith, is)

pub length_through : (f : Forest) (q : ℕ) → IsForest f → is_attached f q ≡ true → length (nodes_before f q ++ keys_within f q) ≡ place f q + size f q
unfolding size
length_through f q h attached = omega (arith, length-append (nodes_before f q) (keys_within f q), length_before f q h attached)

-- preorder, parted after a tree
pub stretches_through : (f : Forest) (q : ℕ) → IsForest f → is_attached f q ≡ true → preorder f ≡ (nodes_before f q ++ keys_within f q) ++ behind f q
stretches_through f q h attached = stretches f q h attached ∙ sym (append_assoc (nodes_before f q) (keys_within f q) (behind f q))

not_first : (x : ℕ) (xs ys : List ℕ) → is_among x (xs ++ ys) ≡ false → is_among x xs ≡ false
not_first x xs ys e = grind (arith, e, is_among-append x xs ys)

not_second : (x : ℕ) (xs ys : List ℕ) → is_among x (xs ++ ys) ≡ false → is_among x ys ≡ false
not_second x xs ys e = grind (arith, e, is_among-append x xs ys)

second : (x : ℕ) (xs ys : List ℕ) → is_among x xs ≡ false → is_among x (xs ++ ys) ≡ true → is_among x ys ≡ true
second x xs ys e among = grind (arith, e, among, is_among-append x xs ys)

-- the tree of a node lies at places one after another
pub within_tells : (f : Forest) (q x : ℕ) → IsForest f → is_attached f q ≡ true → is_attached f x ≡ true →
    ((is_within f q x ≡ true) × (place f q ≤ place f x) × (place f x < place f q + size f q))
    ⊎ ((is_within f q x ≡ false) × ((place f x < place f q) ⊎ (place f q + size f q ≤ place f x)))
within_tells f q x h attached there =
    let as_list : is_among x (keys_within f q) ≡ is_within f q x = is_among-preorder key_of x (alone q f) in
    let start : length (nodes_before f q) ≡ place f q = length_before f q h attached in
    let stop : length (nodes_before f q ++ keys_within f q) ≡ place f q + size f q = length_through f q h attached in
    elim (back_of f (nodes_before f q) (keys_within f q ++ behind f q) x h (stretches f q h attached) there) [
      | inl front ↦ inr (sym as_list ∙ not_first x (keys_within f q) (behind f q) front.1, inl (omega (arith, front.2, start)))
      | inr later ↦ elim (back_of f (nodes_before f q ++ keys_within f q) (behind f q) x h (stretches_through f q h attached) there) [
        | inl inner ↦
            inl (sym as_list ∙ second x (nodes_before f q) (keys_within f q) later.0 inner.0, omega (arith, later.2, start), omega (arith, inner.2, stop))
        | inr outer ↦ inr (sym as_list ∙ not_second x (nodes_before f q) (keys_within f q) outer.0, inr (omega (arith, outer.2, stop)))
      ]
    ]
