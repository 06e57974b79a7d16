-- The laws of forests on which all else rests.
use Rattle.std.specs.Prelude.{ℕ, ◌+◌, ◌≡◌, ◌≢◌, ◌==◌, ◌&&◌, ◌||◌, not, true, false, if◌then◌else◌, [], ◌∷◌, ◌++◌, length, Option, None, Some, option_map}
use Rattle.std.specs.List.{filter}
use Rattle.std.specs.Option.{option_or}
use Rattle.std.specs.Ordering.{ordering_reverse}
use Rattle.lx_trees.specs.Trees.{nil, tree, joined}
use Rattle.lx_trees.specs.Siblings.{first_of, index_in, names_with, is_place, place_behind}
use Rattle.lx_node.specs.declared.fields.Fields.{Fields}
use Rattle.lx_forest.specs.Forest.{Label, Forest}
use Rattle.lx_forest.specs.Lookups.{has, spot, children_of, is_within, is_attached, ancestors, depth, keys_within, preorder, behind, order_between, order_of, IsForest}
use Rattle.lx_forest.specs.Edits.{with_new, with_fields, take_out, put_in, last_below, drop_detached, CanPut, reset, taken, placed, order_from_place}
use Rattle.lx_forest.specs.Records.{Record, record_at, StandsFor, lone, refielded, unlinked, linked_in}

-- where each key is after each edit
pub record SpotsFollow : Type 0 where
  pub new : (l : Label) (f : Forest) (q : ℕ) → IsForest f → has l.key f ≡ false →
      spot (with_new l f) q ≡ (if q == l.key then Some (record { label = l; parent = None; children = [] }) else spot f q)
  pub set : (k : ℕ) (fields : Fields) (f : Forest) (q : ℕ) → spot (with_fields k fields f) q ≡ option_map (reset k fields q) (spot f q)
  pub take : (k : ℕ) (f : Forest) (q : ℕ) → IsForest f → spot (take_out k f) q ≡ option_map (taken k q) (spot f q)
  pub put : (p : ℕ) (before : Option ℕ) (k : ℕ) (f : Forest) (q : ℕ) → IsForest f → CanPut p k f →
      spot (put_in p before k f) q ≡ option_map (placed p before k q) (spot f q)
  pub drop : (f : Forest) (q : ℕ) → IsForest f → spot (drop_detached f) q ≡ (if is_attached f q then spot f q else None)

-- each edit leaves a forest in order
pub record OrderIsKept : Type 0 where
  pub new : (l : Label) (f : Forest) → IsForest f → has l.key f ≡ false → IsForest (with_new l f)
  pub set : (k : ℕ) (fields : Fields) (f : Forest) → IsForest f → IsForest (with_fields k fields f)
  pub take : (k : ℕ) (f : Forest) → IsForest f → IsForest (take_out k f)
  pub put : (p : ℕ) (before : Option ℕ) (k : ℕ) (f : Forest) → IsForest f → CanPut p k f → IsForest (put_in p before k f)
  pub drop : (f : Forest) → IsForest f → IsForest (drop_detached f)

-- which keys are in whose tree after an edit, and so which are attached
pub record TreesFollow : Type 0 where
  pub new : (l : Label) (f : Forest) (a q : ℕ) → has l.key f ≡ false →
      is_within (with_new l f) a q ≡ (is_within f a q || (a == l.key && q == l.key))
  pub set : (k : ℕ) (fields : Fields) (f : Forest) (a q : ℕ) → is_within (with_fields k fields f) a q ≡ is_within f a q
  pub take : (k : ℕ) (f : Forest) (a q : ℕ) → IsForest f →
      is_within (take_out k f) a q ≡ (is_within f a q && (is_within f k a || not (is_within f k q)))
  pub put : (p : ℕ) (before : Option ℕ) (k : ℕ) (f : Forest) (a q : ℕ) → IsForest f → CanPut p k f →
      is_within (put_in p before k f) a q ≡ (is_within f a q || (is_within f k q && is_within f a p))
  pub drop : (f : Forest) (a q : ℕ) → IsForest f → is_within (drop_detached f) a q ≡ (is_attached f a && is_within f a q)

-- the keys above each one, from the nearest, after an edit
pub record AncestorsFollow : Type 0 where
  pub new : (l : Label) (f : Forest) (q : ℕ) → IsForest f → has l.key f ≡ false → ancestors (with_new l f) q ≡ ancestors f q
  pub set : (k : ℕ) (fields : Fields) (f : Forest) (q : ℕ) → IsForest f → ancestors (with_fields k fields f) q ≡ ancestors f q
  pub take : (k : ℕ) (f : Forest) (q : ℕ) → IsForest f →
      ancestors f q ≡ ancestors (take_out k f) q ++ (if is_within f k q then ancestors f k else [])
  pub put : (p : ℕ) (before : Option ℕ) (k : ℕ) (f : Forest) (q : ℕ) → IsForest f → CanPut p k f →
      ancestors (put_in p before k f) q ≡ ancestors f q ++ (if is_within f k q then p ∷ ancestors f p else [])
  pub drop : (f : Forest) (q : ℕ) → IsForest f → ancestors (drop_detached f) q ≡ (if is_attached f q then ancestors f q else [])

-- how deep each key is in the root's tree: the root at 0, and each after an edit
pub record DepthsFollow : Type 0 where
  pub root : (f : Forest) → IsForest f → depth f 0 ≡ Some 0
  pub new : (l : Label) (f : Forest) (q : ℕ) → IsForest f → has l.key f ≡ false → depth (with_new l f) q ≡ depth f q
  pub set : (k : ℕ) (fields : Fields) (f : Forest) (q : ℕ) → IsForest f → depth (with_fields k fields f) q ≡ depth f q
  pub take : (k : ℕ) (f : Forest) (q : ℕ) → IsForest f → k ≢ 0 → depth (take_out k f) q ≡ (if is_within f k q then None else depth f q)
  pub put : (p : ℕ) (before : Option ℕ) (k : ℕ) (f : Forest) (q : ℕ) → IsForest f → CanPut p k f →
      depth (put_in p before k f) q ≡
      (if is_within f k q then option_map (λ d. length (ancestors f q) + 1 + d) (depth f p) else depth f q)
  pub drop : (f : Forest) (q : ℕ) → IsForest f → depth (drop_detached f) q ≡ depth f q

-- the keys of the root's tree in preorder after an edit
pub record PreorderFollows : Type 0 where
  pub new : (l : Label) (f : Forest) → IsForest f → has l.key f ≡ false → preorder (with_new l f) ≡ preorder f
  pub set : (k : ℕ) (fields : Fields) (f : Forest) → preorder (with_fields k fields f) ≡ preorder f
  pub take : (k : ℕ) (f : Forest) → IsForest f → k ≢ 0 → preorder (take_out k f) ≡ filter (λ q. not (is_within f k q)) (preorder f)
  pub put : (p : ℕ) (before : Option ℕ) (k : ℕ) (f : Forest) → IsForest f → CanPut p k f → is_place before (children_of f p) ≡ true →
      preorder (put_in p before k f) ≡
      (if is_attached f p then names_with (option_or before (first_of (behind f p))) (keys_within f k) (preorder f) else preorder f)
  pub drop : (f : Forest) → IsForest f → preorder (drop_detached f) ≡ preorder f

-- which of two keys comes first after an edit
pub record OrderFollows : Type 0 where
  pub turned : (f : Forest) (a b : ℕ) → order_of f b a ≡ option_map ordering_reverse (order_of f a b)
  pub new : (l : Label) (f : Forest) (a b : ℕ) → IsForest f → has l.key f ≡ false → order_of (with_new l f) a b ≡ order_of f a b
  pub set : (k : ℕ) (fields : Fields) (f : Forest) (a b : ℕ) → order_of (with_fields k fields f) a b ≡ order_of f a b
  pub take : (k : ℕ) (f : Forest) (a b : ℕ) → IsForest f → k ≢ 0 →
      order_of (take_out k f) a b ≡ (if is_within f k a || is_within f k b then None else order_of f a b)
  pub put_outside : (p : ℕ) (before : Option ℕ) (k : ℕ) (f : Forest) (a b : ℕ) → IsForest f → CanPut p k f → is_place before (children_of f p) ≡ true →
      is_within f k a ≡ false → is_within f k b ≡ false → order_of (put_in p before k f) a b ≡ order_of f a b
  pub put_inside : (p : ℕ) (before : Option ℕ) (k : ℕ) (f : Forest) (a b : ℕ) → IsForest f → CanPut p k f → is_place before (children_of f p) ≡ true →
      is_attached f p ≡ true → is_within f k a ≡ true → is_within f k b ≡ true →
      order_of (put_in p before k f) a b ≡ order_between (index_in (keys_within f k) a) (index_in (keys_within f k) b)
  pub put_across : (p : ℕ) (before : Option ℕ) (k : ℕ) (f : Forest) (a b : ℕ) → IsForest f → CanPut p k f → is_place before (children_of f p) ≡ true →
      is_attached f p ≡ true → is_within f k a ≡ true → is_within f k b ≡ false → order_of (put_in p before k f) a b ≡ order_from_place f p before b
  pub put_detached : (p : ℕ) (before : Option ℕ) (k : ℕ) (f : Forest) (a b : ℕ) → IsForest f → CanPut p k f →
      is_attached f p ≡ false → order_of (put_in p before k f) a b ≡ order_of f a b
  pub drop : (f : Forest) (a b : ℕ) → IsForest f → order_of (drop_detached f) a b ≡ order_of f a b

-- a forest in order is determined by where its keys are, and by the records that stand for it
pub record ForestsAreTold : Type 0 where
  pub by_spots : (f g : Forest) → IsForest f → IsForest g → ((q : ℕ) → spot f q ≡ spot g q) → f ≡ g
  pub by_records : (get : ℕ → Option Record) (f g : Forest) → StandsFor get f → StandsFor get g → f ≡ g

-- the links at each key after each edit
pub record RecordsFollow : Type 0 where
  pub new : (l : Label) (f : Forest) (q : ℕ) → IsForest f → has l.key f ≡ false →
      record_at (with_new l f) q ≡ (if q == l.key then Some (lone l) else record_at f q)
  pub set : (k : ℕ) (fields : Fields) (f : Forest) (q : ℕ) → record_at (with_fields k fields f) q ≡ option_map (refielded k fields q) (record_at f q)
  pub take : (k : ℕ) (f : Forest) (n : Record) (q : ℕ) → IsForest f → record_at f k ≡ Some n →
      record_at (take_out k f) q ≡ option_map (unlinked k n q) (record_at f q)
  pub put : (p : ℕ) (before : Option ℕ) (k : ℕ) (f : Forest) (q : ℕ) → IsForest f → CanPut p k f → is_place before (children_of f p) ≡ true →
      record_at (put_in p before k f) q ≡ option_map (linked_in p (place_behind before (children_of f p)) before k q) (record_at f q)
  pub drop : (f : Forest) (q : ℕ) → IsForest f → record_at (drop_detached f) q ≡ (if is_attached f q then record_at f q else None)

-- trees after the children of a node come by primitive edits: a new node, then the trees below it, and more after it
pub record BuildingFollows : Type 0 where
  pub new : (p : ℕ) (l : Label) (f : Forest) → has l.key f ≡ false → put_in p None l.key (with_new l f) ≡ last_below p (tree l nil nil) f
  pub below : (p : ℕ) (l : Label) (s f : Forest) → has l.key f ≡ false → p ≢ l.key → last_below l.key s (last_below p (tree l nil nil) f) ≡ last_below p (tree l s nil) f
  pub behind : (p : ℕ) (new more f : Forest) → has p new ≡ false → last_below p more (last_below p new f) ≡ last_below p (joined new more) f
