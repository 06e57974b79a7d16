-- The laws of trees in order, over any label that has a name.
use Rattle.std.specs.Prelude.{ℕ, ◌+◌, ◌≡◌, ◌≢◌, ◌==◌, ◌&&◌, ◌||◌, not, true, false, if◌then◌else◌, [], ◌∷◌, ◌++◌, length, Option, None, Some, option_map}
use Rattle.std.specs.List.{filter}
use Rattle.std.specs.Option.{option_or}
use Rattle.std.specs.Ordering.{ordering_reverse}
use Rattle.lx_trees.specs.Trees.{Trees, nil, tree, joined}
use Rattle.lx_trees.specs.NamedTrees.{has, without, mapped}
use Rattle.lx_trees.specs.Siblings.{first_of, index_in, names_with, is_place, place_behind}
use Rattle.lx_trees.specs.Spots.{spot}
use Rattle.lx_trees.specs.Walks.{ancestors}
use Rattle.lx_trees.specs.Lookups.{parent_of, children_of, is_within, is_attached, depth, keys_within, preorder, behind, order_between, order_of, IsOrdered}
use Rattle.lx_trees.specs.Edits.{with_new, take_out, put_in, last_below, CanPut, taken, placed, order_from_place}
use Rattle.lx_trees.specs.Records.{Record, record_at, StandsFor, lone, relabelled, unlinked, linked_in}

module _ {A : Type 0} (name : A → ℕ) where
  -- where each name is after each edit
  pub record SpotsFollow : Type 0 where
    pub new : (l : A) (f : Trees A) (q : ℕ) → IsOrdered name f → has name (name l) f ≡ false →
        spot name (with_new name l f) q ≡ (if q == name l then Some (record { label = l; parent = None; children = [] }) else spot name f q)
    pub relabel : (change : A → A) → ((l : A) → name (change l) ≡ name l) → (f : Trees A) (q : ℕ) →
        spot name (mapped change f) q ≡ option_map (λ s. record { label = change s.label; parent = s.parent; children = s.children }) (spot name f q)
    pub take : (k : ℕ) (f : Trees A) (q : ℕ) → IsOrdered name f → spot name (take_out name k f) q ≡ option_map (taken k q) (spot name f q)
    pub put : (p : ℕ) (before : Option ℕ) (k : ℕ) (f : Trees A) (q : ℕ) → IsOrdered name f → CanPut name p k f →
        spot name (put_in name p before k f) q ≡ option_map (placed p before k q) (spot name f q)
    pub gone : (k : ℕ) (f : Trees A) (q : ℕ) → IsOrdered name f → parent_of name f k ≡ None →
        spot name (without name k f) q ≡ (if is_within name f k q then None else spot name f q)

  -- each edit leaves trees in order
  pub record OrderIsKept : Type 0 where
    pub new : (l : A) (f : Trees A) → IsOrdered name f → has name (name l) f ≡ false → IsOrdered name (with_new name l f)
    pub relabel : (change : A → A) → ((l : A) → name (change l) ≡ name l) → (f : Trees A) → IsOrdered name f → IsOrdered name (mapped change f)
    pub take : (k : ℕ) (f : Trees A) → IsOrdered name f → IsOrdered name (take_out name k f)
    pub put : (p : ℕ) (before : Option ℕ) (k : ℕ) (f : Trees A) → IsOrdered name f → CanPut name p k f → IsOrdered name (put_in name p before k f)
    pub gone : (k : ℕ) (f : Trees A) → IsOrdered name f → k ≢ 0 → IsOrdered name (without name k f)

  -- which names are in whose tree after an edit, and so which are attached
  pub record TreesFollow : Type 0 where
    pub new : (l : A) (f : Trees A) (a q : ℕ) → has name (name l) f ≡ false →
        is_within name (with_new name l f) a q ≡ (is_within name f a q || (a == name l && q == name l))
    pub take : (k : ℕ) (f : Trees A) (a q : ℕ) → IsOrdered name f →
        is_within name (take_out name k f) a q ≡ (is_within name f a q && (is_within name f k a || not (is_within name f k q)))
    pub put : (p : ℕ) (before : Option ℕ) (k : ℕ) (f : Trees A) (a q : ℕ) → IsOrdered name f → CanPut name p k f →
        is_within name (put_in name p before k f) a q ≡ (is_within name f a q || (is_within name f k q && is_within name f a p))

  -- the names above each one, from the nearest, after an edit
  pub record AncestorsFollow : Type 0 where
    pub new : (l : A) (f : Trees A) (q : ℕ) → IsOrdered name f → has name (name l) f ≡ false → ancestors name (with_new name l f) q ≡ ancestors name f q
    pub take : (k : ℕ) (f : Trees A) (q : ℕ) → IsOrdered name f →
        ancestors name f q ≡ ancestors name (take_out name k f) q ++ (if is_within name f k q then ancestors name f k else [])
    pub put : (p : ℕ) (before : Option ℕ) (k : ℕ) (f : Trees A) (q : ℕ) → IsOrdered name f → CanPut name p k f →
        ancestors name (put_in name p before k f) q ≡ ancestors name f q ++ (if is_within name f k q then p ∷ ancestors name f p else [])

  -- how deep each name is in the root's tree: the root at 0, and each after an edit
  pub record DepthsFollow : Type 0 where
    pub root : (f : Trees A) → IsOrdered name f → depth name f 0 ≡ Some 0
    pub new : (l : A) (f : Trees A) (q : ℕ) → IsOrdered name f → has name (name l) f ≡ false → depth name (with_new name l f) q ≡ depth name f q
    pub take : (k : ℕ) (f : Trees A) (q : ℕ) → IsOrdered name f → k ≢ 0 → depth name (take_out name k f) q ≡ (if is_within name f k q then None else depth name f q)
    pub put : (p : ℕ) (before : Option ℕ) (k : ℕ) (f : Trees A) (q : ℕ) → IsOrdered name f → CanPut name p k f →
        depth name (put_in name p before k f) q ≡
        (if is_within name f k q then option_map (λ d. length (ancestors name f q) + 1 + d) (depth name f p) else depth name f q)

  -- the names of the root's tree in preorder after an edit
  pub record PreorderFollows : Type 0 where
    pub new : (l : A) (f : Trees A) → IsOrdered name f → has name (name l) f ≡ false → preorder name (with_new name l f) ≡ preorder name f
    pub take : (k : ℕ) (f : Trees A) → IsOrdered name f → k ≢ 0 → preorder name (take_out name k f) ≡ filter (λ q. not (is_within name f k q)) (preorder name f)
    pub put : (p : ℕ) (before : Option ℕ) (k : ℕ) (f : Trees A) → IsOrdered name f → CanPut name p k f → is_place before (children_of name f p) ≡ true →
        preorder name (put_in name p before k f) ≡
        (if is_attached name f p then names_with (option_or before (first_of (behind name f p))) (keys_within name f k) (preorder name f) else preorder name f)

  -- which of two names comes first after an edit
  pub record OrderFollows : Type 0 where
    pub turned : (f : Trees A) (a b : ℕ) → order_of name f b a ≡ option_map ordering_reverse (order_of name f a b)
    pub new : (l : A) (f : Trees A) (a b : ℕ) → IsOrdered name f → has name (name l) f ≡ false → order_of name (with_new name l f) a b ≡ order_of name f a b
    pub take : (k : ℕ) (f : Trees A) (a b : ℕ) → IsOrdered name f → k ≢ 0 →
        order_of name (take_out name k f) a b ≡ (if is_within name f k a || is_within name f k b then None else order_of name f a b)
    pub put_outside : (p : ℕ) (before : Option ℕ) (k : ℕ) (f : Trees A) (a b : ℕ) → IsOrdered name f → CanPut name p k f → is_place before (children_of name f p) ≡ true →
        is_within name f k a ≡ false → is_within name f k b ≡ false → order_of name (put_in name p before k f) a b ≡ order_of name f a b
    pub put_inside : (p : ℕ) (before : Option ℕ) (k : ℕ) (f : Trees A) (a b : ℕ) → IsOrdered name f → CanPut name p k f → is_place before (children_of name f p) ≡ true →
        is_attached name f p ≡ true → is_within name f k a ≡ true → is_within name f k b ≡ true →
        order_of name (put_in name p before k f) a b ≡ order_between (index_in (keys_within name f k) a) (index_in (keys_within name f k) b)
    pub put_across : (p : ℕ) (before : Option ℕ) (k : ℕ) (f : Trees A) (a b : ℕ) → IsOrdered name f → CanPut name p k f → is_place before (children_of name f p) ≡ true →
        is_attached name f p ≡ true → is_within name f k a ≡ true → is_within name f k b ≡ false → order_of name (put_in name p before k f) a b ≡ order_from_place name f p before b
    pub put_detached : (p : ℕ) (before : Option ℕ) (k : ℕ) (f : Trees A) (a b : ℕ) → IsOrdered name f → CanPut name p k f →
        is_attached name f p ≡ false → order_of name (put_in name p before k f) a b ≡ order_of name f a b

  -- trees in order are determined by where their names are, and by the records that stand for them
  pub record TreesAreTold : Type 0 where
    pub by_spots : (f g : Trees A) → IsOrdered name f → IsOrdered name g → ((q : ℕ) → spot name f q ≡ spot name g q) → f ≡ g
    pub by_records : (get : ℕ → Option (Record A)) (f g : Trees A) → StandsFor name get f → StandsFor name get g → f ≡ g

  -- the links at each name after each edit
  pub record RecordsFollow : Type 0 where
    pub new : (l : A) (f : Trees A) (q : ℕ) → IsOrdered name f → has name (name l) f ≡ false →
        record_at name (with_new name l f) q ≡ (if q == name l then Some (lone l) else record_at name f q)
    pub relabel : (change : A → A) → ((l : A) → name (change l) ≡ name l) → (f : Trees A) (q : ℕ) →
        record_at name (mapped change f) q ≡ option_map (relabelled change) (record_at name f q)
    pub take : (k : ℕ) (f : Trees A) (n : Record A) (q : ℕ) → IsOrdered name f → record_at name f k ≡ Some n →
        record_at name (take_out name k f) q ≡ option_map (unlinked k n q) (record_at name f q)
    pub put : (p : ℕ) (before : Option ℕ) (k : ℕ) (f : Trees A) (q : ℕ) → IsOrdered name f → CanPut name p k f → is_place before (children_of name f p) ≡ true →
        record_at name (put_in name p before k f) q ≡ option_map (linked_in p (place_behind before (children_of name f p)) before k q) (record_at name f q)
    pub gone : (k : ℕ) (f : Trees A) (q : ℕ) → IsOrdered name f → parent_of name f k ≡ None →
        record_at name (without name k f) q ≡ (if is_within name f k q then None else record_at name f q)

  -- trees after the children of a name come by primitive edits: a new label, then the trees below it, and more after it
  pub record BuildingFollows : Type 0 where
    pub new : (p : ℕ) (l : A) (f : Trees A) → has name (name l) f ≡ false → put_in name p None (name l) (with_new name l f) ≡ last_below name p (tree l nil nil) f
    pub below : (p : ℕ) (l : A) (s f : Trees A) → has name (name l) f ≡ false → p ≢ name l → last_below name (name l) s (last_below name p (tree l nil nil) f) ≡ last_below name p (tree l s nil) f
    pub behind : (p : ℕ) (new more f : Trees A) → has name p new ≡ false → last_below name p more (last_below name p new f) ≡ last_below name p (joined new more) f
