-- The names of the root's tree in preorder after edits, and which of two comes first.
use Rattle.std.proofs.Common.{◌≡◌, ◌≢◌, ℕ, ◌<◌, true, false, cond, not, ◌||◌, List, ◌++◌, Option, None, Some, refl, sym, ap, ◌∙◌, arith, inl, inr}
use Rattle.std.specs.Prelude.{option_map}
use Rattle.std.specs.List.{filter}
use Rattle.std.specs.Option.{option_or}
use Rattle.std.specs.Ordering.{ordering_reverse}
use Rattle.std.specs.declared.cmp.Ordering.TheVariants.{Greater}
use Rattle.std.proofs.lemmas.Bool.{cases_Bool}
use Rattle.lx_trees.specs.Trees.{Trees}
use Rattle.lx_trees.specs.NamedTrees as named
use Rattle.lx_trees.specs.NamedTrees.{count, has, alone, put_below}
use Rattle.lx_trees.specs.Siblings.{is_among, first_of, index_in, names_with, is_place}
use Rattle.lx_trees.proofs.NamedTrees.{is_among-preorder, count-without-alone, alone-absent, without-absent, put_below-absent}
use Rattle.lx_trees.proofs.Preorder.{preorder-without, preorder-put_below}
use Rattle.lx_trees.proofs.Siblings.{is_named_tells}
use Rattle.lx_trees.proofs.Subtrees.{alone-alone}
use Rattle.lx_trees.specs.Lookups.{parent_of, children_of, is_within, is_attached, keys_within, preorder, behind, order_between, order_of, IsOrdered}
use Rattle.lx_trees.specs.Edits.{with_new, take_out, put_in, CanPut, order_from_place}
use Rattle.lx_trees.proofs.Cuts.{preorder-cut}
use Rattle.lx_trees.proofs.Edits.{has-root, parent_of-root, spot-alone_root}
use Rattle.lx_trees.proofs.Firsts.{order-filter, order-names_with, order-names_with_new, order-come_before, order-come_behind, order_between-reversed}
use Rattle.lx_trees.proofs.Lookups.{is_among-children_of}
use Rattle.lx_trees.proofs.Up.{detached_inside}
use Rattle.lx_trees.proofs.Attached.{tree_distinct, is_among-preorder_of, NoRepeats-preorder_of, is_attached-up, is_attached-top}
use Rattle.lx_trees.proofs.Within.{alone-with_new, alone-take_out_outside, alone-put_in_outside, is_within-self, is_within-top, is_within-apart}

module _ {A : Type 0} (name : A → ℕ) where
  -- ---- preorder

  -- new leaves it
  pub preorder-with_new : (l : A) (f : Trees A) → IsOrdered name f → has name (name l) f ≡ false → preorder name (with_new name l f) ≡ preorder name f
  preorder-with_new l f h free = ap (named.preorder name) (alone-with_new name l f 0 (λ e. grind (arith, e, free, has-root name f h)))

  -- the root is in no tree that may be taken out of another or put into one
  root_outside : (k : ℕ) (f : Trees A) → IsOrdered name f → k ≢ 0 → is_within name f k 0 ≡ false
  root_outside k f h other = is_within-top name f k 0 h (parent_of-root name f h) (λ e. other (sym e))

  -- of the root's tree, the same names are in the tree of k
  within_root : (k : ℕ) (f : Trees A) (q : ℕ) → IsOrdered name f → k ≢ 0 → 0 < count name q (alone name 0 f)
      → not (is_within name f k q) ≡ not (has name q (alone name k (alone name 0 f)))
  within_root k f q h other some =
      elim (cases_Bool (is_attached name f k)) [
        | inl inside ↦ grind (arith, inside, h.once k, count-without-alone name k 0 f, alone-alone name k 0 f)
        | inr outside ↦ grind (arith, outside, some, alone-absent name k (alone name 0 f), root_outside k f h other, is_within-apart name f k 0 q h)
      ]

  -- take leaves out the names of the tree
  pub preorder-take_out : (k : ℕ) (f : Trees A) → IsOrdered name f → k ≢ 0
      → preorder name (take_out name k f) ≡ filter (λ q. not (is_within name f k q)) (preorder name f)
  preorder-take_out k f h other =
      ap (named.preorder name) (alone-take_out_outside name 0 k f (root_outside k f h other))
      ∙ preorder-without name (λ q. not (is_within name f k q)) k (alone name 0 f) (tree_distinct name f h) (λ q some. within_root k f q h other some)

  root_put : (p : ℕ) (before : Option ℕ) (k : ℕ) (f : Trees A) → IsOrdered name f → CanPut name p k f
      → alone name 0 (put_in name p before k f) ≡ put_below name p before (alone name k f) (alone name 0 f)
  root_put p before k f h c =
      alone-put_in_outside name 0 p before k f h c (root_outside k f h c.other)
      ∙ ap (put_below name p before (alone name k f)) (without-absent name k (alone name 0 f) (grind (arith, is_attached-top name f k h c.detached c.other)))

  -- below what is detached it leaves them
  pub preorder-put_in_detached : (p : ℕ) (before : Option ℕ) (k : ℕ) (f : Trees A) → IsOrdered name f → CanPut name p k f → is_attached name f p ≡ false
      → preorder name (put_in name p before k f) ≡ preorder name f
  preorder-put_in_detached p before k f h c detached =
      ap (named.preorder name) (root_put p before k f h c ∙ put_below-absent name p before (alone name k f) (alone name 0 f) (grind (arith, detached)))

  -- put brings them in before the child that is named, or else before what comes after the parent
  pub preorder-put_in : (p : ℕ) (before : Option ℕ) (k : ℕ) (f : Trees A) → IsOrdered name f → CanPut name p k f → is_place before (children_of name f p) ≡ true
      → preorder name (put_in name p before k f)
      ≡ cond (is_attached name f p) (names_with (option_or before (first_of (behind name f p))) (keys_within name f k) (preorder name f)) (preorder name f)
  preorder-put_in p before k f h c place =
      elim (cases_Bool (is_attached name f p)) [
        | inl attached ↦
            rw attached (ap (named.preorder name) (root_put p before k f h c)
            ∙ preorder-put_below name p before (alone name k f) (alone name 0 f) (tree_distinct name f h) (grind (arith, attached))
            (rw (spot-alone_root name f p h, attached) place))
        | inr detached ↦ rw detached (preorder-put_in_detached p before k f h c detached)
      ]

  -- ---- which of two names comes first

  pub order_of-with_new : (l : A) (f : Trees A) (a b : ℕ) → IsOrdered name f → has name (name l) f ≡ false
      → order_of name (with_new name l f) a b ≡ order_of name f a b
  order_of-with_new l f a b h free = rw (preorder-with_new l f h free)

  pub order_of-take_out : (k : ℕ) (f : Trees A) (a b : ℕ) → IsOrdered name f → k ≢ 0
      → order_of name (take_out name k f) a b ≡ cond (is_within name f k a || is_within name f k b) None (order_of name f a b)
  order_of-take_out k f a b h other = grind (arith, preorder-take_out k f h other, order-filter (λ q. not (is_within name f k q)) (preorder name f) a b)

  -- put changes the order of no other names
  pub order_of-put_in_outside : (p : ℕ) (before : Option ℕ) (k : ℕ) (f : Trees A) (a b : ℕ) → IsOrdered name f → CanPut name p k f
      → is_place before (children_of name f p) ≡ true → is_within name f k a ≡ false → is_within name f k b ≡ false
      → order_of name (put_in name p before k f) a b ≡ order_of name f a b
  order_of-put_in_outside p before k f a b h c place far_a far_b =
      grind (arith, preorder-put_in p before k f h c place, far_a, far_b, is_among-preorder name a (alone name k f), is_among-preorder name b (alone name k f), order-names_with (option_or before (first_of (behind name f p))) (keys_within name f k) (preorder name f) a b)

  -- those of the tree have among themselves the order of its preorder
  pub order_of-put_in_inside : (p : ℕ) (before : Option ℕ) (k : ℕ) (f : Trees A) (a b : ℕ) → IsOrdered name f → CanPut name p k f
      → is_place before (children_of name f p) ≡ true → is_attached name f p ≡ true → is_within name f k a ≡ true → is_within name f k b ≡ true
      → order_of name (put_in name p before k f) a b ≡ order_between (index_in (keys_within name f k) a) (index_in (keys_within name f k) b)
  order_of-put_in_inside p before k f a b h c place attached in_a in_b =
      grind (arith, attached, in_a, in_b, preorder-put_in p before k f h c place, is_among-preorder name a (alone name k f), is_among-preorder name b (alone name k f), is_among-preorder_of name f a, is_among-preorder_of name f b, detached_inside name f k a h c.other c.detached in_a, detached_inside name f k b h c.other c.detached in_b, order-names_with_new (option_or before (first_of (behind name f p))) (keys_within name f k) (preorder name f) a b)

  -- one of the tree, and one elsewhere: as the place is to that one
  across_before : (p c k : ℕ) (f : Trees A) (a b : ℕ) → IsOrdered name f → CanPut name p k f → is_among c (children_of name f p) ≡ true
      → is_attached name f p ≡ true → is_within name f k a ≡ true → is_within name f k b ≡ false
      → order_of name (put_in name p (Some c) k f) a b ≡ order_from_place name f p (Some c) b
  across_before p c k f a b h can place attached in_a far_b =
      let far_a : is_among a (preorder name f) ≡ false = is_among-preorder_of name f a ∙ detached_inside name f k a h can.other can.detached in_a in
      let up : parent_of name f c ≡ Some p = grind (arith, place, is_among-children_of name f c p h, is_named_tells (parent_of name f c) p) in
      let there : is_among c (preorder name f) ≡ true = is_among-preorder_of name f c ∙ is_attached-up name f c p h up ∙ attached in
      let keys : preorder name (put_in name p (Some c) k f) ≡ names_with (Some c) (keys_within name f k) (preorder name f) =
      preorder-put_in p (Some c) k f h can place ∙ rw attached refl in
      ap (λ ks. order_between (index_in ks a) (index_in ks b)) keys
      ∙ order-come_before (preorder name f) (keys_within name f k) c a b there (is_among-preorder name a (alone name k f) ∙ in_a) far_a
      (is_among-preorder name b (alone name k f) ∙ far_b)

  -- the root's names are some front, then those of the tree of p, and then what comes after
  cut_around : (f : Trees A) (p : ℕ) → IsOrdered name f → is_attached name f p ≡ true
      → (front : List ℕ) × (preorder name f ≡ front ++ (keys_within name f p ++ behind name f p))
  cut_around f p h attached =
      let cut = preorder-cut name (alone name 0 f) p (tree_distinct name f h) (grind (arith, attached)) in
      let own : alone name p (alone name 0 f) ≡ alone name p f = alone-alone name p 0 f (grind (arith, h.once p, attached, count-without-alone name p 0 f)) in
      (cut.0, cut.1 ∙ ap (λ t. cut.0 ++ (named.preorder name t ++ behind name f p)) own)

  across_last : (p k : ℕ) (f : Trees A) (a b : ℕ) → IsOrdered name f → CanPut name p k f → is_attached name f p ≡ true → is_within name f k a ≡ true
      → is_within name f k b ≡ false → order_of name (put_in name p None k f) a b ≡ order_from_place name f p None b
  across_last p k f a b h can attached in_a far_b =
      let far_a : is_among a (preorder name f) ≡ false = is_among-preorder_of name f a ∙ detached_inside name f k a h can.other can.detached in_a in
      let keys : preorder name (put_in name p None k f) ≡ names_with (first_of (behind name f p)) (keys_within name f k) (preorder name f) =
      preorder-put_in p None k f h can refl ∙ rw attached refl in
      let cut = cut_around f p h attached in
      ap (λ ks. order_between (index_in ks a) (index_in ks b)) keys
      ∙ order-come_behind (preorder name f) cut.0 (keys_within name f p) (behind name f p) (keys_within name f k) p a b cut.1
      (NoRepeats-preorder_of name f h) (is_among-preorder name p (alone name p f) ∙ is_within-self name f p ∙ can.parent)
      (is_among-preorder name a (alone name k f) ∙ in_a) far_a (is_among-preorder name b (alone name k f) ∙ far_b)
      ∙ ap (λ t. cond t (Some Greater) (order_of name f p b)) (is_among-preorder name b (alone name p f))

  pub order_of-put_in_across : (p : ℕ) (before : Option ℕ) (k : ℕ) (f : Trees A) (a b : ℕ) → IsOrdered name f → CanPut name p k f
      → is_place before (children_of name f p) ≡ true → is_attached name f p ≡ true → is_within name f k a ≡ true → is_within name f k b ≡ false
      → order_of name (put_in name p before k f) a b ≡ order_from_place name f p before b
  order_of-put_in_across p None k f a b h c place attached in_a far_b = across_last p k f a b h c attached in_a far_b
  order_of-put_in_across p (Some b) k f a q h c place attached in_a far_q = across_before p b k f a q h c place attached in_a far_q

  -- below what is detached, put changes nothing in the root's tree
  pub order_of-put_in_detached : (p : ℕ) (before : Option ℕ) (k : ℕ) (f : Trees A) (a b : ℕ) → IsOrdered name f → CanPut name p k f
      → is_attached name f p ≡ false → order_of name (put_in name p before k f) a b ≡ order_of name f a b
  order_of-put_in_detached p before k f a b h c detached =
      ap (λ ks. order_between (index_in ks a) (index_in ks b)) (preorder-put_in_detached p before k f h c detached)

  pub order_of-reversed : (f : Trees A) (a b : ℕ) → order_of name f b a ≡ option_map ordering_reverse (order_of name f a b)
  order_of-reversed f a b = order_between-reversed (index_in (preorder name f) a) (index_in (preorder name f) b)
