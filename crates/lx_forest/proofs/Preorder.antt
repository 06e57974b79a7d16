-- The keys of the root's tree in preorder after edits, and which of two comes first.
use Rattle.std.proofs.Common.{◌≡◌, ◌≢◌, ℕ, true, false, cond, not, ◌||◌, Option, None, refl, ap, ◌∙◌}
use Rattle.std.specs.Prelude.{option_map}
use Rattle.std.specs.List.{filter}
use Rattle.std.specs.Option.{option_or}
use Rattle.std.specs.Ordering.{ordering_reverse}
use Rattle.lx_trees.specs.NamedTrees as named
use Rattle.lx_node.specs.declared.fields.Fields.{Fields}
use Rattle.lx_trees.specs.Siblings.{first_of, index_in, names_with, is_place}
use Rattle.lx_trees.proofs.NamedTrees.{preorder-mapped}
use Rattle.lx_forest.specs.Forest.{Label, Forest}
use Rattle.lx_forest.specs.Lookups.{key_of, has, alone, children_of, is_within, is_attached, keys_within, preorder, behind, order_between, order_of, IsForest}
use Rattle.lx_forest.specs.Edits.{with_new, with_fields, fields_at, take_out, put_in, drop_detached, CanPut, order_from_place}
use Rattle.lx_forest.proofs.Edits.{has-root}
use Rattle.lx_forest.proofs.Within.{alone-with_fields, alone-drop_detached, is_within-self}
use Rattle.lx_trees.proofs.InPreorder as rootedPreorder
use Rattle.lx_forest.proofs.Ordered.{ordered}

-- ---- preorder

-- new and set leave it, and so does what drops the others
pub preorder-with_new : (l : Label) (f : Forest) → IsForest f → has l.key f ≡ false → preorder (with_new l f) ≡ preorder f
unfolding with_new
preorder-with_new l f h free = rootedPreorder.preorder-with_new key_of l f (ordered h) free

pub preorder-with_fields : (k : ℕ) (fields : Fields) (f : Forest) → preorder (with_fields k fields f) ≡ preorder f
unfolding with_fields
preorder-with_fields k fields f =
    ap (named.preorder key_of) (alone-with_fields k fields f 0) ∙ preorder-mapped key_of (fields_at k fields) (λ l. refl) (alone 0 f)

pub preorder-drop_detached : (f : Forest) → IsForest f → preorder (drop_detached f) ≡ preorder f
preorder-drop_detached f h = ap (named.preorder key_of) (alone-drop_detached f 0 h (is_within-self f 0 ∙ has-root f h))

-- take leaves out the keys of the tree
pub preorder-take_out : (k : ℕ) (f : Forest) → IsForest f → k ≢ 0 → preorder (take_out k f) ≡ filter (λ q. not (is_within f k q)) (preorder f)
unfolding take_out
preorder-take_out k f h other = rootedPreorder.preorder-take_out key_of k f (ordered h) other

-- put brings them in before the child that is named, or else before what comes after the parent
pub preorder-put_in : (p : ℕ) (before : Option ℕ) (k : ℕ) (f : Forest) → IsForest f → CanPut p k f → is_place before (children_of f p) ≡ true
    → preorder (put_in p before k f)
    ≡ cond (is_attached f p) (names_with (option_or before (first_of (behind f p))) (keys_within f k) (preorder f)) (preorder f)
unfolding put_in
preorder-put_in p before k f h c place = rootedPreorder.preorder-put_in key_of p before k f (ordered h) c place

-- ---- which of two keys comes first

pub order_of-reversed : (f : Forest) (a b : ℕ) → order_of f b a ≡ option_map ordering_reverse (order_of f a b)
order_of-reversed f a b = rootedPreorder.order_of-reversed key_of f a b

pub order_of-with_new : (l : Label) (f : Forest) (a b : ℕ) → IsForest f → has l.key f ≡ false → order_of (with_new l f) a b ≡ order_of f a b
unfolding with_new
order_of-with_new l f a b h free = rootedPreorder.order_of-with_new key_of l f a b (ordered h) free

pub order_of-with_fields : (k : ℕ) (fields : Fields) (f : Forest) (a b : ℕ) → order_of (with_fields k fields f) a b ≡ order_of f a b
order_of-with_fields k fields f a b = rw (preorder-with_fields k fields f)

pub order_of-take_out : (k : ℕ) (f : Forest) (a b : ℕ) → IsForest f → k ≢ 0
    → order_of (take_out k f) a b ≡ cond (is_within f k a || is_within f k b) None (order_of f a b)
unfolding take_out
order_of-take_out k f a b h other = rootedPreorder.order_of-take_out key_of k f a b (ordered h) other

-- put changes the order of no other keys
pub order_of-put_in_outside : (p : ℕ) (before : Option ℕ) (k : ℕ) (f : Forest) (a b : ℕ) → IsForest f → CanPut p k f → is_place before (children_of f p) ≡ true
    → is_within f k a ≡ false → is_within f k b ≡ false → order_of (put_in p before k f) a b ≡ order_of f a b
unfolding put_in
order_of-put_in_outside p before k f a b h c place far_a far_b = rootedPreorder.order_of-put_in_outside key_of p before k f a b (ordered h) c place far_a far_b

-- those of the tree have among themselves the order of its preorder
pub order_of-put_in_inside : (p : ℕ) (before : Option ℕ) (k : ℕ) (f : Forest) (a b : ℕ) → IsForest f → CanPut p k f → is_place before (children_of f p) ≡ true
    → is_attached f p ≡ true → is_within f k a ≡ true → is_within f k b ≡ true
    → order_of (put_in p before k f) a b ≡ order_between (index_in (keys_within f k) a) (index_in (keys_within f k) b)
unfolding put_in
order_of-put_in_inside p before k f a b h c place attached in_a in_b =
    rootedPreorder.order_of-put_in_inside key_of p before k f a b (ordered h) c place attached in_a in_b

-- one of the tree, and one elsewhere: as the place is to that one
pub order_of-put_in_across : (p : ℕ) (before : Option ℕ) (k : ℕ) (f : Forest) (a b : ℕ) → IsForest f → CanPut p k f → is_place before (children_of f p) ≡ true
    → is_attached f p ≡ true → is_within f k a ≡ true → is_within f k b ≡ false → order_of (put_in p before k f) a b ≡ order_from_place f p before b
unfolding put_in
order_of-put_in_across p before k f a b h c place attached in_a far_b =
    rootedPreorder.order_of-put_in_across key_of p before k f a b (ordered h) c place attached in_a far_b

-- below what is detached, put changes nothing in the root's tree
pub order_of-put_in_detached : (p : ℕ) (before : Option ℕ) (k : ℕ) (f : Forest) (a b : ℕ) → IsForest f → CanPut p k f → is_attached f p ≡ false
    → order_of (put_in p before k f) a b ≡ order_of f a b
unfolding put_in
order_of-put_in_detached p before k f a b h c detached = rootedPreorder.order_of-put_in_detached key_of p before k f a b (ordered h) c detached

pub order_of-drop_detached : (f : Forest) (a b : ℕ) → IsForest f → order_of (drop_detached f) a b ≡ order_of f a b
order_of-drop_detached f a b h = rw (preorder-drop_detached f h)
