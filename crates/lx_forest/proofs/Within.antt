-- Which keys are in the tree of which, and of the root, and what edits do to that.
use Rattle.std.proofs.Common.{◌≡◌, ◌≢◌, ℕ, true, false, eqb, ◌&&◌, ◌||◌, not, [], ◌∷◌, Option, None, Some, refl, arith}
use Rattle.lx_trees.specs.NamedTrees.{put_below}
use Rattle.lx_trees.specs.Siblings.{is_among}
use Rattle.lx_node.specs.declared.fields.Fields.{Fields}
use Rattle.lx_trees.proofs.NamedTrees.{alone-absent, alone-mapped, count-without-alone, count-mapped}
use Rattle.lx_trees.proofs.Subtrees.{alone-alone}
use Rattle.lx_forest.specs.Forest.{Label, Forest}
use Rattle.lx_forest.specs.Lookups.{key_of, count, has, alone, without, parent_of, children_of, is_within, is_attached, ancestors, IsForest}
use Rattle.lx_forest.specs.Edits.{among_roots, with_new, fields_at, with_fields, take_out, put_in, drop_detached, CanPut}
use Rattle.lx_forest.proofs.Edits.{has-root}
use Rattle.lx_trees.proofs.Leaves as rootedLeaves
use Rattle.lx_trees.proofs.Within as rootedWithin
use Rattle.lx_trees.proofs.Up as rootedUp
use Rattle.lx_forest.proofs.Ordered.{ordered}

-- ---- trees alone

pub alone-among_roots_outside : (a k : ℕ) (new f : Forest) → count a new ≡ 0 → alone a (among_roots k new f) ≡ alone a f
alone-among_roots_outside a k new f h1 = rootedWithin.alone-among_roots_outside key_of a k new f h1

pub alone-among_roots_inside : (a k : ℕ) (new f : Forest) → count a f ≡ 0 → alone a (among_roots k new f) ≡ alone a new
alone-among_roots_inside a k new f h1 = rootedWithin.alone-among_roots_inside key_of a k new f h1

-- a tree doesn't change with a new node, or where others are dropped
pub alone-with_new : (l : Label) (f : Forest) (a : ℕ) → a ≢ l.key → alone a (with_new l f) ≡ alone a f
unfolding with_new
alone-with_new l f a h1 = rootedWithin.alone-with_new key_of l f a h1

pub alone-with_fields : (k : ℕ) (fields : Fields) (f : Forest) (a : ℕ) → alone a (with_fields k fields f) ≡ with_fields k fields (alone a f)
unfolding with_fields
alone-with_fields k fields f a = alone-mapped key_of (fields_at k fields) (λ l. refl) a f

pub alone-drop_detached : (f : Forest) (a : ℕ) → IsForest f → is_attached f a ≡ true → alone a (drop_detached f) ≡ alone a f
unfolding drop_detached
alone-drop_detached f a h attached = alone-alone key_of a 0 f (grind (arith, h.once a, attached, count-without-alone key_of a 0 f))

-- a tree that is in the one taken out or put in stays as it is
pub alone-take_out_inside : (a k : ℕ) (f : Forest) → IsForest f → is_within f k a ≡ true → alone a (take_out k f) ≡ alone a f
unfolding take_out
alone-take_out_inside a k f h1 h2 = rootedWithin.alone-take_out_inside key_of a k f (ordered h1) h2

pub alone-take_out_outside : (a k : ℕ) (f : Forest) → is_within f k a ≡ false → alone a (take_out k f) ≡ without k (alone a f)
unfolding take_out
alone-take_out_outside a k f h1 = rootedWithin.alone-take_out_outside key_of a k f h1

pub alone-put_in_inside : (a p : ℕ) (before : Option ℕ) (k : ℕ) (f : Forest) → IsForest f → CanPut p k f → is_within f k a ≡ true
    → alone a (put_in p before k f) ≡ alone a f
unfolding put_in
alone-put_in_inside a p before k f h1 h2 h3 = rootedWithin.alone-put_in_inside key_of a p before k f (ordered h1) h2 h3

pub alone-put_in_outside : (a p : ℕ) (before : Option ℕ) (k : ℕ) (f : Forest) → IsForest f → CanPut p k f → is_within f k a ≡ false
    → alone a (put_in p before k f) ≡ put_below key_of p before (alone k f) (without k (alone a f))
unfolding put_in
alone-put_in_outside a p before k f h1 h2 h3 = rootedWithin.alone-put_in_outside key_of a p before k f (ordered h1) h2 h3

-- ---- within

-- q is in the tree of k just where k is q or an ancestor of q
pub is_within-ancestors : (f : Forest) (k q : ℕ) → IsForest f → has q f ≡ true → is_within f k q ≡ is_among k (q ∷ ancestors f q)
is_within-ancestors f k q h there = rootedUp.is_within-ancestors key_of f k q (ordered h) there

-- a key that is there is in its own tree
pub is_within-self : (f : Forest) (k : ℕ) → is_within f k k ≡ has k f
is_within-self f k = rootedWithin.is_within-self key_of f k

-- nothing but itself is in the tree of a leaf
pub is_within-leaf : (f : Forest) (k q : ℕ) → IsForest f → children_of f k ≡ [] → is_within f k q ≡ (eqb q k && has k f)
is_within-leaf f k q h none = rootedLeaves.is_within-leaf key_of f k q (ordered h) none

pub is_within-trans : (f : Forest) (k p q : ℕ) → IsForest f → is_within f k p ≡ true → is_within f p q ≡ true → is_within f k q ≡ true
is_within-trans f k p q h1 h2 h3 = rootedWithin.is_within-trans key_of f k p q (ordered h1) h2 h3

-- the walk up: but for k itself, a key is in the tree of k just where its parent is
pub is_within-up : (f : Forest) (k q p : ℕ) → IsForest f → parent_of f q ≡ Some p → q ≢ k → is_within f k q ≡ is_within f k p
is_within-up f k q p h1 h2 h3 = rootedWithin.is_within-up key_of f k q p (ordered h1) h2 h3

-- a parent isn't in the tree of its child, so nothing is put below itself
pub is_within-parent : (f : Forest) (q p : ℕ) → IsForest f → parent_of f q ≡ Some p → is_within f q p ≡ false
is_within-parent f q p h1 h2 = rootedWithin.is_within-parent key_of f q p (ordered h1) h2

-- a key without a parent is in no other's tree
pub is_within-top : (f : Forest) (k q : ℕ) → IsForest f → parent_of f q ≡ None → q ≢ k → is_within f k q ≡ false
is_within-top f k q h1 h2 h3 = rootedWithin.is_within-top key_of f k q (ordered h1) h2 h3

-- of two trees one is in the other, or they have nothing in common
pub is_within-apart : (f : Forest) (a k q : ℕ) → IsForest f → is_within f k a ≡ false → is_within f a k ≡ false → (is_within f a q && is_within f k q) ≡ false
is_within-apart f a k q h1 h2 h3 = rootedWithin.is_within-apart key_of f a k q (ordered h1) h2 h3

-- ---- within, after edits

pub is_within-with_new : (l : Label) (f : Forest) (a q : ℕ) → has l.key f ≡ false
    → is_within (with_new l f) a q ≡ (is_within f a q || (eqb a l.key && eqb q l.key))
unfolding with_new
is_within-with_new l f a q h1 = rootedWithin.is_within-with_new key_of l f a q h1

pub is_within-with_fields : (k : ℕ) (fields : Fields) (f : Forest) (a q : ℕ) → is_within (with_fields k fields f) a q ≡ is_within f a q
unfolding with_fields
is_within-with_fields k fields f a q =
    rw (alone-mapped key_of (fields_at k fields) (λ l. refl) a f, count-mapped key_of (fields_at k fields) (λ l. refl) q (alone a f))

pub is_within-take_out : (k : ℕ) (f : Forest) (a q : ℕ) → IsForest f
    → is_within (take_out k f) a q ≡ (is_within f a q && (is_within f k a || not (is_within f k q)))
unfolding take_out
is_within-take_out k f a q h1 = rootedWithin.is_within-take_out key_of k f a q (ordered h1)

pub is_within-put_in : (p : ℕ) (before : Option ℕ) (k : ℕ) (f : Forest) (a q : ℕ) → IsForest f → CanPut p k f
    → is_within (put_in p before k f) a q ≡ (is_within f a q || (is_within f k q && is_within f a p))
unfolding put_in
is_within-put_in p before k f a q h1 h2 = rootedWithin.is_within-put_in key_of p before k f a q (ordered h1) h2

pub is_within-drop_detached : (f : Forest) (a q : ℕ) → IsForest f → is_within (drop_detached f) a q ≡ (is_attached f a && is_within f a q)
unfolding drop_detached
is_within-drop_detached f a q h =
    grind (arith, h.once a, count-without-alone key_of a 0 f, alone-alone key_of a 0 f, alone-absent key_of a (alone 0 f))

-- ---- attached, after edits

pub is_attached-with_new : (l : Label) (f : Forest) (q : ℕ) → IsForest f → has l.key f ≡ false → is_attached (with_new l f) q ≡ is_attached f q
unfolding with_new
is_attached-with_new l f q h1 h2 = rootedWithin.is_attached-with_new key_of l f q (ordered h1) h2

pub is_attached-take_out : (k : ℕ) (f : Forest) (q : ℕ) → IsForest f → k ≢ 0 → is_attached (take_out k f) q ≡ (is_attached f q && not (is_within f k q))
unfolding take_out
is_attached-take_out k f q h1 h2 = rootedWithin.is_attached-take_out key_of k f q (ordered h1) h2

pub is_attached-put_in : (p : ℕ) (before : Option ℕ) (k : ℕ) (f : Forest) (q : ℕ) → IsForest f → CanPut p k f
    → is_attached (put_in p before k f) q ≡ (is_attached f q || (is_within f k q && is_attached f p))
unfolding put_in
is_attached-put_in p before k f q h1 h2 = rootedWithin.is_attached-put_in key_of p before k f q (ordered h1) h2

pub is_attached-drop_detached : (f : Forest) (q : ℕ) → IsForest f → is_attached (drop_detached f) q ≡ is_attached f q
is_attached-drop_detached f q h = grind (arith, is_within-drop_detached f 0 q h, is_within-self f 0, has-root f h)
