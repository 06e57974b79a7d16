-- The laws of siblings: neighbours have one parent, and what edits do to the list in which a key is.
use Rattle.std.proofs.Common.{◌≡◌, ℕ, true, false, cond, eqb, [], ◌∷◌, Option, Some, sym, ◌∙◌}
use Rattle.lx_trees.specs.Siblings.{is_named, NoRepeats, names_without, names_with, place_behind}
use Rattle.lx_node.specs.declared.fields.Fields.{Fields}
use Rattle.lx_forest.specs.Forest.{Label, Forest}
use Rattle.lx_forest.specs.Lookups.{key_of, has, parent_of, children_of, siblings, previous_of, next_of, is_attached, IsForest}
use Rattle.lx_forest.specs.Edits.{with_new, with_fields, take_out, put_in, drop_detached, CanPut}
use Rattle.lx_forest.proofs.Lookups.{parent_of-with_fields, parent_of-drop_detached, children_of-with_fields, children_of-drop_detached}
use Rattle.lx_forest.proofs.Walks.{is_attached-up}
use Rattle.lx_trees.proofs.Neighbours as rootedSiblings
use Rattle.lx_forest.proofs.Ordered.{ordered}

-- ---- neighbours have one parent

pub parent_of-next : (f : Forest) (q n p : ℕ) → IsForest f → parent_of f q ≡ Some p → next_of f q ≡ Some n → parent_of f n ≡ Some p
parent_of-next f q n p h1 h2 h3 = rootedSiblings.parent_of-next key_of f q n p (ordered h1) h2 h3

pub parent_of-previous : (f : Forest) (q n p : ℕ) → IsForest f → parent_of f q ≡ Some p → previous_of f q ≡ Some n → parent_of f n ≡ Some p
parent_of-previous f q n p h1 h2 h3 = rootedSiblings.parent_of-previous key_of f q n p (ordered h1) h2 h3

-- ---- siblings

pub NoRepeats-siblings : (f : Forest) (q : ℕ) → IsForest f → NoRepeats (siblings f q)
NoRepeats-siblings f q h1 = rootedSiblings.NoRepeats-siblings key_of f q (ordered h1)

pub siblings-agree : (f g : Forest) (q : ℕ) → parent_of g q ≡ parent_of f q → ((p : ℕ) → parent_of f q ≡ Some p → children_of g p ≡ children_of f p)
    → siblings g q ≡ siblings f q
siblings-agree f g q h1 h2 = rootedSiblings.siblings-agree key_of f g q h1 h2

-- the name after which one comes that comes before a child
pub place_behind-previous_of : (f : Forest) (p b : ℕ) → parent_of f b ≡ Some p → place_behind (Some b) (children_of f p) ≡ previous_of f b
place_behind-previous_of f p b h1 = rootedSiblings.place_behind-previous_of key_of f p b h1

-- ---- siblings after edits

pub siblings-with_new : (l : Label) (f : Forest) (q : ℕ) → IsForest f → has l.key f ≡ false → siblings (with_new l f) q ≡ siblings f q
unfolding with_new
siblings-with_new l f q h1 h2 = rootedSiblings.siblings-with_new key_of l f q (ordered h1) h2

pub siblings-with_fields : (k : ℕ) (fields : Fields) (f : Forest) (q : ℕ) → siblings (with_fields k fields f) q ≡ siblings f q
siblings-with_fields k fields f q =
    siblings-agree f (with_fields k fields f) q (parent_of-with_fields k fields f q) (λ p up. children_of-with_fields k fields f p)

pub siblings-take_out : (k : ℕ) (f : Forest) (q : ℕ) → IsForest f → eqb q k ≡ false → siblings (take_out k f) q ≡ names_without k (siblings f q)
unfolding take_out
siblings-take_out k f q h1 h2 = rootedSiblings.siblings-take_out key_of k f q (ordered h1) h2

pub siblings-take_out_self : (k : ℕ) (f : Forest) → IsForest f → siblings (take_out k f) k ≡ []
unfolding take_out
siblings-take_out_self k f h1 = rootedSiblings.siblings-take_out_self key_of k f (ordered h1)

pub siblings-put_in_self : (p : ℕ) (before : Option ℕ) (k : ℕ) (f : Forest) → IsForest f → CanPut p k f
    → siblings (put_in p before k f) k ≡ names_with before (k ∷ []) (children_of f p)
unfolding put_in
siblings-put_in_self p before k f h1 h2 = rootedSiblings.siblings-put_in_self key_of p before k f (ordered h1) h2

pub siblings-put_in : (p : ℕ) (before : Option ℕ) (k : ℕ) (f : Forest) (q : ℕ) → IsForest f → CanPut p k f → eqb q k ≡ false
    → siblings (put_in p before k f) q ≡ cond (is_named (parent_of f q) p) (names_with before (k ∷ []) (siblings f q)) (siblings f q)
unfolding put_in
siblings-put_in p before k f q h1 h2 h3 = rootedSiblings.siblings-put_in key_of p before k f q (ordered h1) h2 h3

pub siblings-drop_detached : (f : Forest) (q : ℕ) → IsForest f → is_attached f q ≡ true → siblings (drop_detached f) q ≡ siblings f q
siblings-drop_detached f q h attached =
    siblings-agree f (drop_detached f) q (parent_of-drop_detached f q h ∙ rw attached)
    (λ p up. children_of-drop_detached f p h ∙ rw (sym (is_attached-up f q p h up) ∙ attached))
