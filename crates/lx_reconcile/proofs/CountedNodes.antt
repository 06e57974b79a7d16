-- Which nodes are found kept, and how many aren't.
use Rattle.std.proofs.Common.{◌≡◌, ◌∙◌, ◌+◌, ◌<◌, ◌≤◌, ℕ, ◌&&◌, ◌^◌, Bool, true, false, cond, ◌∷◌, Option, None, Some, option_map, is_some, refl, sym, ap, arith}
use Rattle.lx_trees.specs.Trees.{nil, tree, joined}
use Rattle.lx_trees.specs.NamedTrees.{total}
use Rattle.lx_trees.specs.Siblings.{is_place, next_in, from_name}
use Rattle.lx_trees.specs.Spots.{Spot, parent_at, children_at}
use Rattle.lx_node.specs.declared.node.Node.{Node}
use Rattle.lx_trees.proofs.NamedTrees.{total-joined, total-without-alone}
use Rattle.lx_trees.proofs.Subtrees.{count-alone-le}
use Rattle.lx_host.specs.declared.tag.Tag.{Tag}
use Rattle.lx_forest.specs.Forest.{Label, Forest}
use Rattle.lx_forest.specs.Lookups.{key_of, has, alone, spot, children_of, trees_of, next_of, is_attached, IsForest}
use Rattle.lx_forest.specs.Records.{record_at}
use Rattle.lx_forest.proofs.Edits.{is_some-spot}
use Rattle.lx_forest.proofs.Lookups.{alone-spot}
use Rattle.lx_forest.proofs.Walks.{spot_in_tree, is_attached-up, total-alone-lt}
use Rattle.lx_links.specs.Stands.{node_of, Sound}
use Rattle.lx_links.proofs.Up.{in_order_at}
use Rattle.lx_render.specs.Render.{tag_of}
use Rattle.lx_reconcile.specs.Allowed.{places_of, is_tag, is_parent, is_only}
use Rattle.lx_reconcile.specs.Counting.{IsInTree, unkept_in}
use Rattle.lx_reconcile.proofs.Attached.{tree_order}
use Rattle.lx_links.proofs.Read.{label_from, is_read, tree_read}
use Rattle.lx_reconcile.proofs.Children.{total_read, child_left, next_place}
use Rattle.lx_reconcile.proofs.Kept.{places_at, places_of-spot}
use Rattle.lx_reconcile.proofs.UnkeptNodes.{same_parent, unkept-joined, unkept-total}

-- ---- a node as it was

unseen : (f : Forest) (key : ℕ) → None ≡ option_map node_of (record_at f key) → spot f key ≡ None
unseen f key e = grind (arith, e)

-- where a node is in the root's tree
module _ (f : Forest) (parent : Option ℕ) (q : ℕ) (s : Sound f) (above : IsInTree f parent q) where
  order : IsForest f
  order = by_parent parent above where
    by_parent : (o : Option ℕ) → IsInTree f o q → IsForest f
    by_parent None there = tree_order f q s there
    by_parent (Some p) there = tree_order f p s there

  places : places_of q None (alone 0 f) ≡ places_at (cond (is_attached f q) (spot f q) None)
  places =
      places_of-spot q None (alone 0 f) (omega (arith, order.once q, count-alone-le key_of q 0 f))
      ∙ ap places_at (spot_in_tree f q order)

  -- below its parent it is in the tree if that one is
  attached : (x : Spot Label) → spot f q ≡ Some x → is_parent x.parent parent ≡ true → is_attached f q ≡ true
  attached x at e = by_parent parent above (same_parent x.parent parent e) where
    by_parent : (o : Option ℕ) → IsInTree f o q → x.parent ≡ o → is_attached f q ≡ true
    by_parent None there up = there
    by_parent (Some p) there up = is_attached-up f q p order (ap parent_at at ∙ up) ∙ there

  pub kept_none : (tag : Tag) → None ≡ option_map node_of (record_at f q) → false ≡ is_only parent tag (places_of q None (alone 0 f))
  kept_none tag e =
      let none = unseen f q e in
      grind (arith, none, places)

  pub kept_some : (tag : Tag) (n : Node) → Some n ≡ option_map node_of (record_at f q)
      → (is_parent n.parent parent && is_tag (tag_of n.kind n.fields) tag) ≡ is_only parent tag (places_of q None (alone 0 f))
  kept_some tag n e =
      let x = is_read f q n s e in
      grind (arith, places, x.at_is, x.parent, x.label, attached x.at x.at_is)

  -- a kept node is in the tree
  pub kept_inside : (tag : Tag) → is_only parent tag (places_of q None (alone 0 f)) ≡ true → is_attached f q ≡ true
  kept_inside tag e = grind (arith, e, places)

-- ---- by what the code knows

-- where the parent is kept
pub and_kept : (kept x only : Bool) → kept ≡ true → x ≡ only → x ≡ (kept && only)
and_kept kept x only e is = is ∙ sym (ap (λ k. k && only) e)

-- ---- how many aren't kept

pub unkept_in-joined : (kept : Bool) (old : Forest) (p : Option ℕ) (f g : Forest)
    → unkept_in kept old p (joined f g) ≡ unkept_in kept old p f + unkept_in kept old p g
unkept_in-joined true old p f g = unkept-joined old p f g
unkept_in-joined false old p f g = total-joined f g

pub unkept_in-total : (kept : Bool) (old : Forest) (p : Option ℕ) (f : Forest) → unkept_in kept old p f ≤ total f
unkept_in-total true old p f = unkept-total old p f
unkept_in-total false old p f = omega arith

-- of one tree: those below it, and itself unless it is kept
kept_tree : (kept only : Bool) (old : Forest) (p : Option ℕ) (l : Label) (b : Forest) → only ≡ is_only p (tag_of l.kind l.fields) (places_of l.key None old)
    → unkept_in kept old p (tree l b nil) ≡ cond (kept && only) 0 1 + unkept_in (kept && only) old (Some l.key) b
kept_tree kept only old p l b is = grind (arith, is)

pub counted_tree : (kept stays : Bool) (old f : Forest) (p : Option ℕ) (q : ℕ) (n : Node) → Sound f → Some n ≡ option_map node_of (record_at f q)
    → stays ≡ (kept && is_only p (tag_of n.kind n.fields) (places_of q None old))
    → unkept_in kept old p (alone q f) ≡ cond stays 0 1 + unkept_in stays old (Some q) (trees_of f (children_of f q))
counted_tree kept stays old f p q n s read is =
    let r = is_read f q n s read in
    let b = trees_of f (children_of f q) in
    ap (unkept_in kept old p) (tree_read f q n r)
    ∙ kept_tree kept (is_only p (tag_of n.kind n.fields) (places_of q None old)) old p (label_from q n) b refl
    ∙ sym (ap (λ k. cond k 0 1 + unkept_in k old (Some q) b) is)

-- what a node adds to those below it
pub record IsCountedNode (stays : Bool) (all below : ℕ) : Type 0 where
  pub kept : stays ≡ true → below ≡ all
  pub other : stays ≡ false → below + 1 ≡ all
  pub fits : below + 1 < 2 ^ 32

pub counted_node : (kept stays : Bool) (old old_now f f_now : Forest) (p : Option ℕ) (q : ℕ) (n : Node) (below : ℕ) → old_now ≡ old → f_now ≡ f → Sound f
    → Some n ≡ option_map node_of (record_at f q)
    → stays ≡ (kept && is_only p (tag_of n.kind n.fields) (places_of q None (alone 0 old)))
    → below ≡ unkept_in stays (alone 0 old_now) (Some q) (trees_of f_now (children_of f_now q))
    → IsCountedNode stays (unkept_in kept (alone 0 old) p (alone q f)) below
counted_node kept stays old old_now f f_now p q n below before after s read is below_is =
    let all = counted_tree kept stays (alone 0 old) f p q n s read is in
    let own : below ≡ unkept_in stays (alone 0 old) (Some q) (trees_of f (children_of f q)) =
    below_is ∙ ap (λ o. unkept_in stays (alone 0 o) (Some q) (trees_of f_now (children_of f_now q))) before
    ∙ ap (λ f. unkept_in stays (alone 0 old) (Some q) (trees_of f (children_of f q))) after in
    record {
      kept = λ so. omega (arith, all, own, ap {B = ℕ} (λ b. cond b 0 1) so);
      other = λ out. omega (arith, all, own, ap {B = ℕ} (λ b. cond b 0 1) out);
      fits =
          omega (
            arith,
            own,
            s.small,
            unkept_in-total stays (alone 0 old) (Some q) (trees_of f (children_of f q)),
            total_read f q n (is_read f q n s read),
            total-without-alone key_of q f,
          );
    }

-- below a node there are no more than in all
pub below_small : (f : Forest) (key : ℕ) → Sound f → total (trees_of f (children_of f key)) ≤ total f
below_small f key s = from_spot (spot f key) refl where
  from_spot : (o : Option (Spot Label)) → spot f key ≡ o → total (trees_of f (children_of f key)) ≤ total f
  from_spot None at = omega (arith, ap (λ o. total (trees_of f (children_at o))) at)
  from_spot (Some x) at =
      let h : IsForest f = in_order_at f key s (sym (is_some-spot f key) ∙ ap is_some at) in
      omega (arith, ap (λ o. total (trees_of f (children_at o))) at, ap total (alone-spot f key x h at), total-without-alone key_of key f)

-- ---- the children one after another

-- those of some of the children are counted, and `at` is the first of the children that are left
pub record IsCountedUpTo (kept : Bool) (old f : Forest) (key : ℕ) (at : Option ℕ) (counted : ℕ) : Type 0 where
  pub place : is_place at (children_of f key) ≡ true
  pub sum : counted + unkept_in kept old (Some key) (trees_of f (from_name at (children_of f key)))
      ≡ unkept_in kept old (Some key) (trees_of f (children_of f key))

-- the next child is there, with a smaller tree
pub record IsChildNext (f f_now : Forest) (key child : ℕ) : Type 0 where
  pub there : has child f_now ≡ true
  pub smaller : total (alone child f_now) < total (alone key f)

pub child_next : (f f_now : Forest) (key child : ℕ) (at : Option ℕ) → f_now ≡ f → Sound f → at ≡ Some child → is_place at (children_of f key) ≡ true
    → IsChildNext f f_now key child
child_next f f_now key child at same s here place =
    let c = child_left f key child s (sym (ap (λ o. is_place o (children_of f key)) here) ∙ place) in
    record {
      there = ap (has child) same ∙ c.there;
      smaller = omega (arith, ap (λ f. total (alone child f)) same, total-alone-lt f child key c.ordered c.up);
    }

-- and its nodes are counted too
pub counted_more : (kept : Bool) (old old_now f f_now : Forest) (key child : ℕ) (at next : Option ℕ) (counted more : ℕ) → old_now ≡ old → f_now ≡ f → Sound f
    → at ≡ Some child → IsCountedUpTo kept old f key at counted
    → more ≡ unkept_in kept old_now (Some key) (alone child f_now) → next ≡ next_of f_now child
    → (counted + more ≤ total f) × IsCountedUpTo kept old f key next (counted + more)
counted_more kept old old_now f f_now key child at next counted more before same s here m more_is next_is =
    let kids = children_of f key in
    let c = child_left f key child s (sym (ap (λ o. is_place o kids) here) ∙ m.place) in
    let rest = from_name (next_in kids child) kids in
    let weigh = λ (t : Forest). unkept_in kept old (Some key) t in
    let left : from_name at kids ≡ child ∷ rest = ap (λ o. from_name o kids) here ∙ c.left in
    let is : next ≡ next_in kids child = next_is ∙ ap (λ f. next_of f child) same ∙ c.next in
    let own : more ≡ weigh (alone child f) =
    more_is ∙ ap (λ o. unkept_in kept o (Some key) (alone child f_now)) before ∙ ap (λ f. weigh (alone child f)) same in
    let parts : weigh (trees_of f (from_name at kids)) ≡ weigh (alone child f) + weigh (trees_of f rest) =
    ap (λ ks. weigh (trees_of f ks)) left ∙ unkept_in-joined kept old (Some key) (alone child f) (trees_of f rest) in
    let then : weigh (trees_of f (from_name next kids)) ≡ weigh (trees_of f rest) = ap (λ o. weigh (trees_of f (from_name o kids))) is in (
      omega (arith, m.sum, own, parts, unkept_in-total kept old (Some key) (trees_of f kids), below_small f key s),
      record {
        place = ap (λ o. is_place o kids) is ∙ next_place kids child;
        sum = omega (arith, m.sum, own, parts, then);
      },
    )
