-- Ways up after edits: the ancestors of a key, and its depth.
use Rattle.std.proofs.Common.{◌≡◌, ◌≢◌, ℕ, ◌+◌, true, false, cond, [], ◌∷◌, ◌++◌, length, Option, None, refl, ◌∙◌, arith, inl, inr}
use Rattle.std.specs.Prelude.{option_map}
use Rattle.std.proofs.lemmas.Bool.{cases_Bool}
use Rattle.lx_node.specs.declared.fields.Fields.{Fields}
use Rattle.lx_trees.specs.Siblings.{is_among}
use Rattle.lx_forest.specs.Forest.{Label, Forest}
use Rattle.lx_trees.proofs.Subtrees.{count-alone-le}
use Rattle.lx_forest.specs.Lookups.{key_of, has, parent_of, is_within, is_attached, ancestors, depth, IsForest}
use Rattle.lx_forest.specs.Edits.{with_new, with_fields, take_out, put_in, drop_detached, CanPut}
use Rattle.lx_forest.proofs.Lookups.{parent_of-with_fields, parent_of-drop_detached}
use Rattle.lx_forest.proofs.Order.{IsForest-with_fields, IsForest-drop_detached}
use Rattle.lx_forest.proofs.Walks.{ancestors-top}
use Rattle.lx_forest.proofs.Within.{is_within-ancestors, is_within-with_fields, is_attached-drop_detached}
use Rattle.lx_trees.proofs.Up as rootedUp
use Rattle.lx_forest.proofs.Ordered.{ordered}

-- where the parents are the same from q on, so are the ancestors
pub ancestors-agree : (f g : Forest) (q : ℕ) → IsForest f → IsForest g → ((x : ℕ) → is_among x (q ∷ ancestors f q) ≡ true → parent_of g x ≡ parent_of f x)
    → ancestors g q ≡ ancestors f q
ancestors-agree f g q h i same = rootedUp.ancestors-agree key_of f g q (ordered h) (ordered i) same

-- ---- new and set change no ancestors

pub ancestors-with_new : (l : Label) (f : Forest) (q : ℕ) → IsForest f → has l.key f ≡ false → ancestors (with_new l f) q ≡ ancestors f q
unfolding with_new
ancestors-with_new l f q h free = rootedUp.ancestors-with_new key_of l f q (ordered h) free

pub ancestors-with_fields : (k : ℕ) (fields : Fields) (f : Forest) (q : ℕ) → IsForest f → ancestors (with_fields k fields f) q ≡ ancestors f q
ancestors-with_fields k fields f q h =
    ancestors-agree f (with_fields k fields f) q h (IsForest-with_fields k fields f h) (λ x among. parent_of-with_fields k fields f x)

-- ---- take and put

-- the ancestors of a key outside the tree that is taken out or put in stay
pub ancestors-take_out_outside : (k : ℕ) (f : Forest) (q : ℕ) → IsForest f → is_within f k q ≡ false → ancestors (take_out k f) q ≡ ancestors f q
unfolding take_out
ancestors-take_out_outside k f q h outside = rootedUp.ancestors-take_out_outside key_of k f q (ordered h) outside

pub ancestors-put_in_outside : (p : ℕ) (before : Option ℕ) (k : ℕ) (f : Forest) (q : ℕ) → IsForest f → CanPut p k f → is_within f k q ≡ false
    → ancestors (put_in p before k f) q ≡ ancestors f q
unfolding put_in
ancestors-put_in_outside p before k f q h c outside = rootedUp.ancestors-put_in_outside key_of p before k f q (ordered h) c outside

-- inside it, the place and its ancestors come on top
pub ancestors-put_in_inside : (p : ℕ) (before : Option ℕ) (k : ℕ) (f : Forest) (q : ℕ) → IsForest f → CanPut p k f → is_within f k q ≡ true
    → ancestors (put_in p before k f) q ≡ ancestors f q ++ p ∷ ancestors f p
unfolding put_in
ancestors-put_in_inside p before k f q h c inside = rootedUp.ancestors-put_in_inside key_of p before k f q (ordered h) c inside

-- the ancestors of a key in a tree that is taken out end with the tree's own key
pub ancestors-take_out_inside : (k : ℕ) (f : Forest) (q : ℕ) → IsForest f → is_within f k q ≡ true → ancestors f q ≡ ancestors (take_out k f) q ++ ancestors f k
unfolding take_out
ancestors-take_out_inside k f q h inside = rootedUp.ancestors-take_out_inside key_of k f q (ordered h) inside

pub ancestors-take_out : (k : ℕ) (f : Forest) (q : ℕ) → IsForest f → ancestors f q ≡ ancestors (take_out k f) q ++ cond (is_within f k q) (ancestors f k) []
unfolding take_out
ancestors-take_out k f q h = rootedUp.ancestors-take_out key_of k f q (ordered h)

pub ancestors-put_in : (p : ℕ) (before : Option ℕ) (k : ℕ) (f : Forest) (q : ℕ) → IsForest f → CanPut p k f
    → ancestors (put_in p before k f) q ≡ ancestors f q ++ cond (is_within f k q) (p ∷ ancestors f p) []
unfolding put_in
ancestors-put_in p before k f q h c = rootedUp.ancestors-put_in key_of p before k f q (ordered h) c

-- ---- what drops the detached trees leaves the attached keys' ancestors

-- each key whose tree has an attached one in it is attached
pub attached_above : (f : Forest) (x q : ℕ) → IsForest f → is_attached f q ≡ true → is_within f x q ≡ true → is_attached f x ≡ true
attached_above f x q h attached inside = rootedUp.attached_above key_of f x q (ordered h) attached inside

pub ancestors-drop_detached : (f : Forest) (q : ℕ) → IsForest f → ancestors (drop_detached f) q ≡ cond (is_attached f q) (ancestors f q) []
ancestors-drop_detached f q h =
    elim (cases_Bool (is_attached f q)) [
      | inl attached ↦
          let there : has q f ≡ true = grind (arith, attached, count-alone-le key_of q 0 f) in
          rw attached
          (ancestors-agree f (drop_detached f) q h (IsForest-drop_detached f h)
          (λ x among. parent_of-drop_detached f x h ∙ rw (attached_above f x q h attached (is_within-ancestors f x q h there ∙ among)) refl))
      | inr detached ↦ rw detached (ancestors-top (drop_detached f) q (parent_of-drop_detached f q h ∙ rw detached refl))
    ]

-- ---- depth

pub depth-with_new : (l : Label) (f : Forest) (q : ℕ) → IsForest f → has l.key f ≡ false → depth (with_new l f) q ≡ depth f q
unfolding with_new
depth-with_new l f q h free = rootedUp.depth-with_new key_of l f q (ordered h) free

pub depth-with_fields : (k : ℕ) (fields : Fields) (f : Forest) (q : ℕ) → IsForest f → depth (with_fields k fields f) q ≡ depth f q
depth-with_fields k fields f q h = rw (is_within-with_fields k fields f 0 q, ancestors-with_fields k fields f q h)

pub depth-take_out : (k : ℕ) (f : Forest) (q : ℕ) → IsForest f → k ≢ 0 → depth (take_out k f) q ≡ cond (is_within f k q) None (depth f q)
unfolding take_out
depth-take_out k f q h other = rootedUp.depth-take_out key_of k f q (ordered h) other

-- a detached tree has no attached key
pub detached_inside : (f : Forest) (k q : ℕ) → IsForest f → k ≢ 0 → parent_of f k ≡ None → is_within f k q ≡ true → is_attached f q ≡ false
detached_inside f k q h other detached inside = rootedUp.detached_inside key_of f k q (ordered h) other detached inside

pub depth-put_in : (p : ℕ) (before : Option ℕ) (k : ℕ) (f : Forest) (q : ℕ) → IsForest f → CanPut p k f
    → depth (put_in p before k f) q ≡ cond (is_within f k q) (option_map (λ d. length (ancestors f q) + 1 + d) (depth f p)) (depth f q)
unfolding put_in
depth-put_in p before k f q h c = rootedUp.depth-put_in key_of p before k f q (ordered h) c

pub depth-drop_detached : (f : Forest) (q : ℕ) → IsForest f → depth (drop_detached f) q ≡ depth f q
depth-drop_detached f q h = grind (arith, is_attached-drop_detached f q h, ancestors-drop_detached f q h)
