-- What is read of a key after each edit, and how parents and children agree.
use Rattle.std.proofs.Common.{List, ap, length, ◌≡◌, ℕ, true, false, cond, eqb, [], ◌∷◌, Option, None, Some, refl, sym, ◌∙◌, arith}
use Rattle.std.specs.Prelude.{option_map}
use Rattle.std.proofs.lemmas.Option.{same_Some}
use Rattle.lx_trees.specs.Trees.{nil, tree}
use Rattle.lx_trees.specs.NamedTrees.{total}
use Rattle.lx_trees.specs.Siblings.{is_named, is_among, NoRepeats, names_without, names_with}
use Rattle.lx_trees.specs.Spots.{Spot}
use Rattle.lx_node.specs.declared.fields.Fields.{Fields}
use Rattle.lx_forest.specs.Forest.{Label, Forest}
use Rattle.lx_forest.specs.Lookups.{spot, key_of, alone, roots, trees_of, has, label_of, kind_of, fields_of, parent_of, children_of, is_attached, IsForest}
use Rattle.lx_forest.specs.Edits.{reset, fields_at, with_new, with_fields, take_out, put_in, drop_detached, CanPut}
use Rattle.lx_forest.proofs.Edits.{spot-with_new, spot-with_fields, spot-take_out, spot-put_in, spot-drop_detached, key-spot, option_map-map, option_map-agree}
use Rattle.lx_trees.proofs.Lookups as rootedLookups
use Rattle.lx_forest.proofs.Ordered.{ordered}

-- ---- parents and children

-- q is a child of p just where p is the parent of q
pub is_among-children_of : (f : Forest) (q p : ℕ) → IsForest f → is_among q (children_of f p) ≡ is_named (parent_of f q) p
is_among-children_of f q p h1 = rootedLookups.is_among-children_of key_of f q p (ordered h1)

pub NoRepeats-children_of : (f : Forest) (q : ℕ) → IsForest f → NoRepeats (children_of f q)
NoRepeats-children_of f q h1 = rootedLookups.NoRepeats-children_of key_of f q (ordered h1)

-- a parent is there, and so is a child
pub has-parent_of : (f : Forest) (q p : ℕ) → parent_of f q ≡ Some p → has p f ≡ true
has-parent_of f q p h1 = rootedLookups.has-parent_of key_of f q p h1

pub has-child : (f : Forest) (q p : ℕ) → parent_of f q ≡ Some p → has q f ≡ true
has-child f q p h1 = rootedLookups.has-child key_of f q p h1

-- nothing is its own parent
pub parent_of-self : (f : Forest) (q : ℕ) → IsForest f → is_named (parent_of f q) q ≡ false
parent_of-self f q h1 = rootedLookups.parent_of-self key_of f q (ordered h1)

-- a label has the key at which it is
pub key-label_of : (f : Forest) (q : ℕ) (l : Label) → label_of f q ≡ Some l → l.key ≡ q
key-label_of f q l e = from_spot (spot f q) (λ s at. key-spot f q s at) e where
  from_spot : (o : Option (Spot Label)) → ((s : Spot Label) → o ≡ Some s → s.label.key ≡ q) → option_map (λ (s : Spot Label). s.label) o ≡ Some l → l.key ≡ q
  from_spot None keyed same = absurd (grind arith)
  from_spot (Some s) keyed same = sym (ap (λ (x : Label). x.key) (same_Some s.label l same)) ∙ keyed s refl

-- ---- a tree is its label above the trees of its children

pub alone-spot : (f : Forest) (k : ℕ) (s : Spot Label) → IsForest f → spot f k ≡ Some s → alone k f ≡ tree s.label (trees_of f s.children) nil
alone-spot f k s h1 h2 = rootedLookups.alone-spot key_of f k s (ordered h1) h2

-- the forest is the trees of its first keys
pub trees_of-roots : (f : Forest) → IsForest f → trees_of f (roots f) ≡ f
trees_of-roots f h1 = rootedLookups.trees_of-roots key_of f (ordered h1)

-- ---- how many keys there are

-- as many as a list of them has that names each once
pub length-keys : (f : Forest) (ks : List ℕ) → IsForest f → NoRepeats ks → ((q : ℕ) → is_among q ks ≡ has q f) → length ks ≡ total f
length-keys f ks h1 h2 h3 = rootedLookups.length-keys key_of f ks (ordered h1) h2 h3

-- ---- after new

pub label_of-with_new : (l : Label) (f : Forest) (q : ℕ) → IsForest f → has l.key f ≡ false
    → label_of (with_new l f) q ≡ cond (eqb q l.key) (Some l) (label_of f q)
label_of-with_new l f q h free = grind (arith, spot-with_new l f q h free)

pub kind_of-with_new : (l : Label) (f : Forest) (q : ℕ) → IsForest f → has l.key f ≡ false
    → kind_of (with_new l f) q ≡ cond (eqb q l.key) (Some l.kind) (kind_of f q)
kind_of-with_new l f q h free = grind (arith, spot-with_new l f q h free)

pub parent_of-with_new : (l : Label) (f : Forest) (q : ℕ) → IsForest f → has l.key f ≡ false → parent_of (with_new l f) q ≡ parent_of f q
unfolding with_new
parent_of-with_new l f q h1 h2 = rootedLookups.parent_of-with_new key_of l f q (ordered h1) h2

pub children_of-with_new : (l : Label) (f : Forest) (q : ℕ) → IsForest f → has l.key f ≡ false → children_of (with_new l f) q ≡ children_of f q
unfolding with_new
children_of-with_new l f q h1 h2 = rootedLookups.children_of-with_new key_of l f q (ordered h1) h2

-- ---- after set

pub label_of-with_fields : (k : ℕ) (fields : Fields) (f : Forest) (q : ℕ) → label_of (with_fields k fields f) q ≡ option_map (fields_at k fields) (label_of f q)
label_of-with_fields k fields f q =
    ap (option_map (λ (s : Spot Label). s.label)) (spot-with_fields k fields f q)
    ∙ option_map-map (λ (s : Spot Label). s.label) (reset k fields q) (spot f q)
    ∙ option_map-agree (λ (s : Spot Label). (reset k fields q s).label) (λ (s : Spot Label). fields_at k fields s.label) (spot f q)
    (λ s e. rw (key-spot f q s e))
    ∙ sym (option_map-map (fields_at k fields) (λ (s : Spot Label). s.label) (spot f q))

pub kind_of-with_fields : (k : ℕ) (fields : Fields) (f : Forest) (q : ℕ) → kind_of (with_fields k fields f) q ≡ kind_of f q
kind_of-with_fields k fields f q = grind (arith, spot-with_fields k fields f q)

pub fields_of-with_fields : (k : ℕ) (fields : Fields) (f : Forest) (q : ℕ)
    → fields_of (with_fields k fields f) q ≡ option_map (λ old. cond (eqb q k) fields old) (fields_of f q)
fields_of-with_fields k fields f q = grind (arith, spot-with_fields k fields f q)

pub parent_of-with_fields : (k : ℕ) (fields : Fields) (f : Forest) (q : ℕ) → parent_of (with_fields k fields f) q ≡ parent_of f q
parent_of-with_fields k fields f q = grind (arith, spot-with_fields k fields f q)

pub children_of-with_fields : (k : ℕ) (fields : Fields) (f : Forest) (q : ℕ) → children_of (with_fields k fields f) q ≡ children_of f q
children_of-with_fields k fields f q = grind (arith, spot-with_fields k fields f q)

-- ---- after take

pub label_of-take_out : (k : ℕ) (f : Forest) (q : ℕ) → IsForest f → label_of (take_out k f) q ≡ label_of f q
label_of-take_out k f q h = grind (arith, spot-take_out k f q h)

pub kind_of-take_out : (k : ℕ) (f : Forest) (q : ℕ) → IsForest f → kind_of (take_out k f) q ≡ kind_of f q
kind_of-take_out k f q h = grind (arith, spot-take_out k f q h)

pub parent_of-take_out : (k : ℕ) (f : Forest) (q : ℕ) → IsForest f → parent_of (take_out k f) q ≡ cond (eqb q k) None (parent_of f q)
unfolding take_out
parent_of-take_out k f q h1 = rootedLookups.parent_of-take_out key_of k f q (ordered h1)

pub children_of-take_out : (k : ℕ) (f : Forest) (q : ℕ) → IsForest f → children_of (take_out k f) q ≡ names_without k (children_of f q)
unfolding take_out
children_of-take_out k f q h1 = rootedLookups.children_of-take_out key_of k f q (ordered h1)

-- ---- after put

pub label_of-put_in : (p : ℕ) (before : Option ℕ) (k : ℕ) (f : Forest) (q : ℕ) → IsForest f → CanPut p k f → label_of (put_in p before k f) q ≡ label_of f q
label_of-put_in p before k f q h c = grind (arith, spot-put_in p before k f q h c)

pub kind_of-put_in : (p : ℕ) (before : Option ℕ) (k : ℕ) (f : Forest) (q : ℕ) → IsForest f → CanPut p k f → kind_of (put_in p before k f) q ≡ kind_of f q
kind_of-put_in p before k f q h c = grind (arith, spot-put_in p before k f q h c)

pub parent_of-put_in : (p : ℕ) (before : Option ℕ) (k : ℕ) (f : Forest) (q : ℕ) → IsForest f → CanPut p k f
    → parent_of (put_in p before k f) q ≡ cond (eqb q k) (Some p) (parent_of f q)
unfolding put_in
parent_of-put_in p before k f q h1 h2 = rootedLookups.parent_of-put_in key_of p before k f q (ordered h1) h2

pub children_of-put_in : (p : ℕ) (before : Option ℕ) (k : ℕ) (f : Forest) (q : ℕ) → IsForest f → CanPut p k f
    → children_of (put_in p before k f) q ≡ cond (eqb q p) (names_with before (k ∷ []) (children_of f q)) (children_of f q)
unfolding put_in
children_of-put_in p before k f q h1 h2 = rootedLookups.children_of-put_in key_of p before k f q (ordered h1) h2

-- ---- after the detached trees are dropped

pub parent_of-drop_detached : (f : Forest) (q : ℕ) → IsForest f → parent_of (drop_detached f) q ≡ cond (is_attached f q) (parent_of f q) None
parent_of-drop_detached f q h = grind (arith, spot-drop_detached f q h)

pub children_of-drop_detached : (f : Forest) (q : ℕ) → IsForest f → children_of (drop_detached f) q ≡ cond (is_attached f q) (children_of f q) []
children_of-drop_detached f q h = grind (arith, spot-drop_detached f q h)

pub label_of-drop_detached : (f : Forest) (q : ℕ) → IsForest f → label_of (drop_detached f) q ≡ cond (is_attached f q) (label_of f q) None
label_of-drop_detached f q h = grind (arith, spot-drop_detached f q h)

pub kind_of-drop_detached : (f : Forest) (q : ℕ) → IsForest f → kind_of (drop_detached f) q ≡ cond (is_attached f q) (kind_of f q) None
kind_of-drop_detached f q h = grind (arith, spot-drop_detached f q h)
