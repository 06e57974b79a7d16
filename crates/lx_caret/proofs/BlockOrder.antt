-- Which nodes come before a block, and which after it.
use Rattle.std.proofs.Common.{◌≡◌, ◌∙◌, ℕ, Bool, true, false, not, ◌&&◌, ◌||◌, eqb, List, [], ◌∷◌, ◌++◌, Option, None, Some, refl, sym, ap, subst, inl, inr, arith}
use Rattle.std.specs.Prelude.{find, filter}
use Rattle.std.proofs.lemmas.Bool.{cases_Bool}
use Rattle.std.proofs.lemmas.Bool.Decides.{eqb_tells}
use Rattle.lx_trees.specs.NamedTrees as named
use Rattle.lx_trees.specs.Siblings.{first_of, is_among, NoRepeats}
use Rattle.lx_node.specs.Kinds.{is_element}
use Rattle.lx_trees.proofs.Siblings.{is_among-append}
use Rattle.lx_trees.proofs.NamedTrees.{is_among-preorder, count-without-alone}
use Rattle.lx_trees.proofs.Subtrees.{alone-alone}
use Rattle.lx_trees.proofs.Cuts.{preorder-cut}
use Rattle.lx_forest.specs.Forest.{Forest}
use Rattle.lx_forest.specs.Lookups.{key_of, alone, children_of, is_within, is_attached, preorder, from, behind, IsForest}
use Rattle.lx_forest.proofs.Walks.{tree_distinct, is_among-preorder_of, NoRepeats-preorder_of, from-child, from-leaf}
use Rattle.lx_links.specs.Stands.{Sound}
use Rattle.lx_links.proofs.Up.{in_order_at}
use Rattle.lx_links.proofs.Ordered.{there_within}
use Rattle.lx_blocks.specs.Blocks.{is_at, same_node, block_of}
use Rattle.lx_blocks.specs.Places.{until}
use Rattle.lx_blocks.specs.Walks.{nodes_before}
use Rattle.lx_blocks.proofs.Blocked.{own, first_among, more_among, block_within}
use Rattle.lx_caret.specs.Deleting.{is_leaf_in}

-- ---- lists

-- where no name occurs twice, none is in both parts
pub apart : (xs ys : List ℕ) (k : ℕ) → NoRepeats (xs ++ ys) → is_among k xs ≡ true → is_among k ys ≡ false
apart [] ys k once e = cc
apart (x ∷ xs) ys k once e = grind (arith, once, e, eqb_tells x k, is_among-append x xs ys, apart xs ys k once.1)

once_right : (xs ys : List ℕ) → NoRepeats (xs ++ ys) → NoRepeats ys
once_right [] ys once = once
once_right (x ∷ xs) ys once = once_right xs ys once.1

until_front : (front rest : List ℕ) (b : ℕ) → is_among b front ≡ false → until (Some b) (front ++ b ∷ rest) ≡ front
until_front [] rest b e = rw (own b) refl
until_front (x ∷ xs) rest b e =
    let other : eqb x b ≡ false = grind (arith, e) in
    let later : is_among b xs ≡ false = grind (arith, e) in
    rw other (ap (λ ks. x ∷ ks) (until_front xs rest b later))

pub filter_none : (test : ℕ → Bool) (xs : List ℕ) → ((k : ℕ) → is_among k xs ≡ true → test k ≡ false) → filter test xs ≡ []
filter_none test [] none = refl
filter_none test (x ∷ xs) none = rw (none x (first_among x xs)) (filter_none test xs (λ k e. none k (more_among x k xs e)))

pub find_none : (test : ℕ → Bool) (xs : List ℕ) → ((k : ℕ) → is_among k xs ≡ true → test k ≡ false) → find test xs ≡ None
find_none test [] none = refl
find_none test (x ∷ xs) none = rw (none x (first_among x xs)) (find_none test xs (λ k e. none k (more_among x k xs e)))

-- ---- the root's tree, cut before a node

starts_by : (f : Forest) (b : ℕ) (cs : List ℕ) → IsForest f → is_attached f b ≡ true → children_of f b ≡ cs → (rest : List ℕ) × (from f b ≡ b ∷ rest)
starts_by f b [] h attached e = (behind f b, from-leaf f b h attached e)
starts_by f b (c ∷ cs) h attached e = (from f c, from-child f b c h attached (ap first_of e))

-- it comes first of the nodes from it on
starts : (f : Forest) (b : ℕ) → IsForest f → is_attached f b ≡ true → (rest : List ℕ) × (from f b ≡ b ∷ rest)
starts f b h attached = starts_by f b (children_of f b) h attached refl

front_of : (f : Forest) (b : ℕ) (front : List ℕ) → IsForest f → is_attached f b ≡ true → preorder f ≡ front ++ from f b → front ≡ nodes_before f b
front_of f b front h attached split =
    let first = starts f b h attached in
    let once : NoRepeats (front ++ from f b) = subst NoRepeats split (NoRepeats-preorder_of f h) in
    let absent : is_among b front ≡ false = elim (cases_Bool (is_among b front)) [
      | inl there ↦
          let no : false ≡ true = sym (apart front (from f b) b once there) ∙ ap (is_among b) first.1 ∙ first_among b first.0 in
          cc
      | inr gone ↦ gone
    ] in
    sym (ap (until (Some b)) (split ∙ ap (λ ks. front ++ ks) first.1) ∙ until_front front first.0 b absent)

-- the nodes before one, and those from it on, are all
pub cut_before : (f : Forest) (b : ℕ) → IsForest f → is_attached f b ≡ true → preorder f ≡ nodes_before f b ++ from f b
cut_before f b h attached =
    let cut = preorder-cut key_of (alone 0 f) b (tree_distinct f h) (grind (arith, attached)) in
    cut.1 ∙ ap (λ ks. ks ++ from f b) (front_of f b cut.0 h attached cut.1)

within_own : (f : Forest) (b k : ℕ) → IsForest f → is_attached f b ≡ true → is_within f b k ≡ true
    → is_among k (named.preorder key_of (alone b (alone 0 f))) ≡ true
within_own f b k h attached inside =
    is_among-preorder key_of k (alone b (alone 0 f)) ∙ grind (arith, h.once b, attached, inside, count-without-alone key_of b 0 f, alone-alone key_of b 0 f)

once_cut : (f : Forest) (b : ℕ) → IsForest f → is_attached f b ≡ true → NoRepeats (nodes_before f b ++ from f b)
once_cut f b h attached = subst NoRepeats (cut_before f b h attached) (NoRepeats-preorder_of f h)

-- what comes before a node isn't in its tree
pub before_outside : (f : Forest) (b k : ℕ) → IsForest f → is_attached f b ≡ true → is_among k (nodes_before f b) ≡ true → is_within f b k ≡ false
before_outside f b k h attached before = elim (cases_Bool (is_within f b k)) [
  | inl inside ↦
      let here : is_among k (from f b) ≡ true =
      is_among-append k (named.preorder key_of (alone b (alone 0 f))) (behind f b) ∙ rw (within_own f b k h attached inside) refl in
      let no : true ≡ false = sym here ∙ apart (nodes_before f b) (from f b) k (once_cut f b h attached) before in
      cc
  | inr outside ↦ outside
]

-- and neither is what comes after that
pub behind_outside : (f : Forest) (b k : ℕ) → IsForest f → is_attached f b ≡ true → is_among k (behind f b) ≡ true → is_within f b k ≡ false
behind_outside f b k h attached later = elim (cases_Bool (is_within f b k)) [
  | inl inside ↦
      let once = once_right (nodes_before f b) (from f b) (once_cut f b h attached) in
      let no : true ≡ false = sym later ∙ apart (named.preorder key_of (alone b (alone 0 f))) (behind f b) k once (within_own f b k h attached inside) in
      cc
  | inr outside ↦ outside
]

before_attached : (f : Forest) (b k : ℕ) → IsForest f → is_attached f b ≡ true → is_among k (nodes_before f b) ≡ true → is_attached f k ≡ true
before_attached f b k h attached before =
    sym (is_among-preorder_of f k) ∙ ap (is_among k) (cut_before f b h attached) ∙ is_among-append k (nodes_before f b) (from f b) ∙ rw before refl

behind_attached : (f : Forest) (b k : ℕ) → IsForest f → is_attached f b ≡ true → is_among k (behind f b) ≡ true → is_attached f k ≡ true
behind_attached f b k h attached later =
    sym (is_among-preorder_of f k) ∙ ap (is_among k) (cut_before f b h attached) ∙ is_among-append k (nodes_before f b) (from f b)
    ∙ ap (λ (x : Bool). is_among k (nodes_before f b) || x) (is_among-append k (named.preorder key_of (alone b (alone 0 f))) (behind f b))
    ∙ grind (arith, later)

-- ---- blocks

same_some : (o : Option ℕ) (b : ℕ) → same_node o (Some b) ≡ true → o ≡ Some b
same_some None b e = cc
same_some (Some a) b e = grind (arith, e, eqb_tells a b)

not_leaf : (f : Forest) (b k : ℕ) → IsForest f → is_attached f k ≡ true → is_within f b k ≡ false → is_leaf_in f b k ≡ false
not_leaf f b k h attached outside = elim (cases_Bool (same_node (block_of f k) (Some b))) [
  | inl same ↦
      let no : true ≡ false = sym (block_within f k b h (there_within f 0 k attached) (same_some (block_of f k) b same)) ∙ outside in
      cc
  | inr other ↦ and_not (not (is_at is_element f k)) (same_node (block_of f k) (Some b)) other
] where
  and_not : (a b : Bool) → b ≡ false → (a && b) ≡ false
  and_not a b e = grind (arith, e)

-- no leaf of a block comes before it, or after its tree
pub no_leaf_before : (f : Forest) (b : ℕ) → Sound f → is_attached f b ≡ true → (k : ℕ) → is_among k (nodes_before f b) ≡ true → is_leaf_in f b k ≡ false
no_leaf_before f b s attached k before =
    let h = in_order_at f b s (there_within f 0 b attached) in
    not_leaf f b k h (before_attached f b k h attached before) (before_outside f b k h attached before)

pub no_leaf_behind : (f : Forest) (b : ℕ) → Sound f → is_attached f b ≡ true → (k : ℕ) → is_among k (behind f b) ≡ true → is_leaf_in f b k ≡ false
no_leaf_behind f b s attached k later =
    let h = in_order_at f b s (there_within f 0 b attached) in
    not_leaf f b k h (behind_attached f b k h attached later) (behind_outside f b k h attached later)
