-- A node as a reader sees it, and the operations for its children, one after another.
use Rattle.std.proofs.Common.{◌≡◌, ◌∙◌, ◌+◌, ◌<◌, ◌≤◌, ℕ, true, false, List, [], ◌∷◌, ◌++◌, length, Option, None, Some, option_map, is_some, refl, sym, ap, subst, arith, append_assoc}
use Rattle.std.proofs.lemmas.Bool.Decides.{eqb_tells}
use Rattle.lx_node.specs.Limits.{last_u32}
use Rattle.lx_trees.specs.Trees.{nil, tree, joined}
use Rattle.lx_trees.specs.NamedTrees.{total}
use Rattle.lx_trees.specs.Siblings.{is_among, is_place, first_of, last_of, next_in, from_name}
use Rattle.lx_trees.specs.Spots.{Spot, children_at}
use Rattle.lx_node.specs.declared.node.Node.{Node}
use Rattle.lx_trees.proofs.NamedTrees.{total-joined}
use Rattle.lx_trees.proofs.Positions.{from_name-step}
use Rattle.lx_trees.proofs.Siblings.{next_in-among}
use Rattle.lx_host.specs.declared.op.Op.{Op}
use Rattle.lx_host.specs.declared.op.Op.TheVariants.{Place}
use Rattle.lx_forest.specs.Forest.{Label, Forest}
use Rattle.lx_forest.specs.Lookups.{spot, has, alone, trees_of, label_of, kind_of, parent_of, children_of, children_below, first_child, next_of, IsForest}
use Rattle.lx_forest.specs.Records.{record_at}
use Rattle.lx_forest.specs.Views.{kind_at}
use Rattle.lx_forest.proofs.Edits.{is_some-spot, key-spot}
use Rattle.lx_forest.proofs.Lookups.{alone-spot, has-child, NoRepeats-children_of}
use Rattle.lx_forest.proofs.Walks.{total-alone-lt}
use Rattle.lx_links.specs.Stands.{node_of, Sound}
use Rattle.lx_links.proofs.Placed.{parent_of-child}
use Rattle.lx_links.proofs.Read.{label_from, IsRead, is_read, tree_read}
use Rattle.lx_links.proofs.Up.{in_order}
use Rattle.lx_render.specs.Render.{last_kind}
use Rattle.lx_reconcile.specs.Created.{create_op, creation, creations, creation_of}
use Rattle.lx_reconcile.proofs.Lists.{last_of-among}

-- ---- the tree of a key that is there

pub record StandsThere (f : Forest) (k : ℕ) : Type 0 where
  pub label : Label
  pub below : Forest
  pub tree_is : alone k f ≡ tree label below nil
  pub key : label.key ≡ k
  pub kind : kind_of f k ≡ Some label.kind
  pub label_is : label_of f k ≡ Some label
  pub below_is : below ≡ trees_of f (children_of f k)

pub stands_there : (f : Forest) (key : ℕ) → IsForest f → has key f ≡ true → StandsThere f key
stands_there f key h there = from_spot (spot f key) refl where
  from_spot : (o : Option (Spot Label)) → spot f key ≡ o → StandsThere f key
  from_spot None at = absurd (let e : is_some (spot f key) ≡ false = ap is_some at in let g = is_some-spot f key in cc)
  from_spot (Some x) at = record {
    label = x.label;
    below = trees_of f x.children;
    tree_is = alone-spot f key x h at;
    key = key-spot f key x at;
    kind = ap (λ o. option_map (λ (l : Label). l.kind) (option_map (λ (s : Spot Label). s.label) o)) at;
    label_is = ap (option_map (λ (s : Spot Label). s.label)) at;
    below_is = sym (ap (λ o. trees_of f (children_at o)) at);
  }

last_kind-trees_of : (f : Forest) (ks : List ℕ) → IsForest f → ((q : ℕ) → is_among q ks ≡ true → has q f ≡ true)
    → last_kind (trees_of f ks) ≡ kind_at f (last_of ks)
last_kind-trees_of f [] h there = refl
last_kind-trees_of f (k ∷ []) h there =
    let s = stands_there f k h (there k (grind (arith, eqb_tells k k))) in
    ap (λ t. last_kind (joined t nil)) s.tree_is ∙ sym s.kind
last_kind-trees_of f (k ∷ j ∷ ks) h there =
    let s = stands_there f k h (there k (grind (arith, eqb_tells k k))) in
    let r = stands_there f j h (there j (grind (arith, eqb_tells j j))) in
    (λ i. last_kind (joined (s.tree_is i) (joined (r.tree_is i) (trees_of f ks))))
    ∙ sym (ap (λ t. last_kind (joined t (trees_of f ks))) r.tree_is)
    ∙ last_kind-trees_of f (j ∷ ks) h (λ q e. there q (grind (arith, e)))

pub child_there : (f : Forest) (p q : ℕ) → Sound f → is_among q (children_of f p) ≡ true → has q f ≡ true
child_there f p q s e = has-child f q p (parent_of-child f q p s e)

-- the last child of a node that was read is there
pub last_there : (f : Forest) (key : ℕ) (n : Node) → Sound f → Some n ≡ option_map node_of (record_at f key) → (k : ℕ) → n.last ≡ Some k → has k f ≡ true
last_there f key n s e k is =
    let r = is_read f key n s e in
    child_there f key k s (last_of-among (children_of f key) k (sym r.last ∙ is))

pub last_still : (f g : Forest) (key : ℕ) (n : Node) → g ≡ f → Sound f → Some n ≡ option_map node_of (record_at f key) → (k : ℕ) → n.last ≡ Some k
    → has k g ≡ true
last_still f g key n same s e k is = ap (has k) same ∙ last_there f key n s e k is

pub last_kind_read : (f : Forest) (key : ℕ) (n : Node) → Sound f → IsRead f key n → last_kind (trees_of f (children_of f key)) ≡ kind_at f n.last
last_kind_read f key n s r =
    last_kind-trees_of f (children_of f key) r.ordered (λ q e. child_there f key q s e) ∙ sym (ap (kind_at f) r.last)

pub total_read : (f : Forest) (key : ℕ) (n : Node) → IsRead f key n → total (alone key f) ≡ 1 + total (trees_of f (children_of f key))
total_read f key n r = ap total (tree_read f key n r) ∙ omega arith

-- ---- what was read stays the same

pub sound_still : (f g : Forest) → g ≡ f → Sound f → Sound g
sound_still f g same s = subst Sound (sym same) s

-- a key that is there is found
pub is_found : (f : Forest) (key : ℕ) → has key f ≡ true → None ≡ option_map node_of (record_at f key) → ⊥
is_found f key there none = grind (arith, there, none, is_some-spot f key)

-- ---- the operations for a node

-- its host is made, then those of its children
pub made_tree : (f g : Forest) (key id : ℕ) (n : Node) (old mid new : List Op) → g ≡ f → Sound f → Some n ≡ option_map node_of (record_at f key)
    → mid ≡ old ++ create_op id (label_from key n) (kind_at f n.last) ∷ []
    → new ≡ mid ++ creations id (id + 1) (trees_of g (children_of g key))
    → new ≡ old ++ creation_of id (alone key f)
made_tree f g key id n old mid new same s read first then =
    let r = is_read f key n s read in
    let below = trees_of f (children_of f key) in
    then
    ∙ ap (λ f. mid ++ creations id (id + 1) (trees_of f (children_of f key))) same
    ∙ ap (λ ops. ops ++ creations id (id + 1) below) first
    ∙ append_assoc old (create_op id (label_from key n) (kind_at f n.last) ∷ []) (creations id (id + 1) below)
    ∙ sym (ap (λ last. old ++ create_op id (label_from key n) last ∷ creations id (id + 1) below) (last_kind_read f key n s r))
    ∙ sym (ap (λ t. old ++ creation_of id t) (tree_read f key n r))

-- what the call for its children needs
pub record ChildrenFit (f g : Forest) (key id : ℕ) (n : Node) : Type 0 where
  pub sound : Sound g
  pub first : n.first ≡ first_child g key
  pub room : id + 1 + total (trees_of g (children_of g key)) ≤ last_u32
  pub all : id + 1 + total (trees_of g (children_of g key)) ≡ id + total (alone key f)
  pub still : total (alone key g) ≡ total (alone key f)

pub children_fit : (f g : Forest) (key id : ℕ) (n : Node) → g ≡ f → Sound f → Some n ≡ option_map node_of (record_at f key)
    → id + total (alone key f) ≤ last_u32 → ChildrenFit f g key id n
children_fit f g key id n same s read room =
    let r = is_read f key n s read in
    let all = total_read f key n r in
    let below : total (trees_of g (children_of g key)) ≡ total (trees_of f (children_of f key)) = ap (λ f. total (trees_of f (children_of f key))) same in
    record {
      sound = sound_still f g same s;
      first = r.first ∙ sym (ap (λ f. first_child f key) same);
      room = omega (arith, room, all, below);
      all = omega (arith, all, below);
      still = ap (λ f. total (alone key f)) same;
    }

-- ---- the children one after another

-- The operations for some of the children are made, and `at` is the first of those that are left: with the operations for
-- these after them they are those for all.
pub record IsMadeUpTo (f : Forest) (key host : ℕ) (start : List Op) (at : Option ℕ) (id : ℕ) (ops : List Op) : Type 0 where
  pub place : is_place at (children_of f key) ≡ true
  pub made : ops ++ creations host id (trees_of f (from_name at (children_of f key))) ≡ start ++ creations host (host + 1) (trees_of f (children_of f key))
  pub next : id + total (trees_of f (from_name at (children_of f key))) ≡ host + 1 + total (trees_of f (children_of f key))

pub first_place : (xs : List ℕ) → is_place (first_of xs) xs ≡ true
first_place [] = refl
first_place (x ∷ xs) = grind (arith, eqb_tells x x)

pub next_place : (xs : List ℕ) (k : ℕ) → is_place (next_in xs k) xs ≡ true
next_place xs k = grind (arith, next_in-among xs k)

pub record IsChildLeft (f : Forest) (key child : ℕ) : Type 0 where
  pub ordered : IsForest f
  pub there : has child f ≡ true
  pub up : parent_of f child ≡ Some key
  pub next : next_of f child ≡ next_in (children_of f key) child
  pub left : from_name (Some child) (children_of f key) ≡ child ∷ from_name (next_in (children_of f key) child) (children_of f key)

pub child_left : (f : Forest) (key child : ℕ) → Sound f → is_place (Some child) (children_of f key) ≡ true → IsChildLeft f key child
child_left f key child s among =
    let up : parent_of f child ≡ Some key = parent_of-child f child key s among in
    let h : IsForest f = in_order f child key s up in
    record {
      ordered = h;
      there = has-child f child key up;
      up = up;
      next = ap (λ o. next_in (children_below f o) child) up;
      left = from_name-step (children_of f key) child (NoRepeats-children_of f key h) among;
    }

-- one tree more
one_more : (host id : ℕ) (label : Label) (below rest : Forest) (ops : List Op)
    → ((ops ++ creation_of id (tree label below nil)) ++ Place host id None ∷ []) ++ creations host (id + total (tree label below nil)) rest
    ≡ ops ++ creations host id (joined (tree label below nil) rest)
one_more host id label below rest ops =
    let behind : id + total (tree label below nil) ≡ id + 1 + total below = omega arith in
    append_assoc (ops ++ creation id label below) (Place host id None ∷ []) (creations host (id + total (tree label below nil)) rest)
    ∙ append_assoc ops (creation id label below) (Place host id None ∷ creations host (id + total (tree label below nil)) rest)
    ∙ ap (λ n. ops ++ (creation id label below ++ Place host id None ∷ creations host n rest)) behind

made_one : (f : Forest) (host id child : ℕ) (ks : List ℕ) (ops : List Op) → IsForest f → has child f ≡ true
    → ((ops ++ creation_of id (alone child f)) ++ Place host id None ∷ []) ++ creations host (id + total (alone child f)) (trees_of f ks)
    ≡ ops ++ creations host id (trees_of f (child ∷ ks))
made_one f host id child ks ops h there =
    let s = stands_there f child h there in
    let P : Forest → Type 0 =
    λ t. ((ops ++ creation_of id t) ++ Place host id None ∷ []) ++ creations host (id + total t) (trees_of f ks)
    ≡ ops ++ creations host id (joined t (trees_of f ks)) in
    subst P (sym s.tree_is) (one_more host id s.label s.below (trees_of f ks) ops)

pub made_child : (f g : Forest) (key host : ℕ) (start : List Op) (child id : ℕ) (at next : Option ℕ) (next_id : ℕ) (ops new : List Op) → g ≡ f → Sound f
    → at ≡ Some child
    → IsMadeUpTo f key host start at id ops
    → next ≡ next_of g child
    → next_id ≡ id + total (alone child g)
    → new ≡ ops ++ creation_of id (alone child g) ++ Place host id None ∷ []
    → IsMadeUpTo f key host start next next_id new
made_child f g key host start child id at next next_id ops new same s here m next_is id_is new_is =
    let kids = children_of f key in
    let c = child_left f key child s (sym (ap (λ o. is_place o kids) here) ∙ m.place) in
    let rest = from_name (next_in kids child) kids in
    let left : from_name at kids ≡ child ∷ rest = ap (λ o. from_name o kids) here ∙ c.left in
    let is : next ≡ next_in kids child = next_is ∙ ap (λ f. next_of f child) same ∙ c.next in
    let then : from_name next kids ≡ rest = ap (λ o. from_name o kids) is in
    let id_after : next_id ≡ id + total (alone child f) = id_is ∙ ap (λ f. id + total (alone child f)) same in
    record {
      place = ap (λ o. is_place o kids) is ∙ next_place kids child;
      made =
          ap (λ ks. new ++ creations host next_id (trees_of f ks)) then
          ∙ ap (λ ops. ops ++ creations host next_id (trees_of f rest))
          (new_is ∙ ap (λ f. ops ++ creation_of id (alone child f) ++ Place host id None ∷ []) same)
          ∙ ap (λ n. (ops ++ creation_of id (alone child f) ++ Place host id None ∷ []) ++ creations host n (trees_of f rest)) id_after
          ∙ made_one f host id child rest ops c.ordered c.there
          ∙ sym (ap (λ ks. ops ++ creations host id (trees_of f ks)) left)
          ∙ m.made;
      next = omega (
        arith,
        m.next,
        id_after,
        ap (λ ks. total (trees_of f ks)) then,
        ap (λ ks. total (trees_of f ks)) left,
        total-joined (alone child f) (trees_of f rest),
      );
    }

-- what the call for a child needs
pub record ChildFits (f g : Forest) (key child id : ℕ) (at : Option ℕ) : Type 0 where
  pub sound : Sound g
  pub there : has child g ≡ true
  pub room : id + total (alone child g) ≤ last_u32
  pub smaller : total (alone child g) < total (alone key f)
  pub part : total (alone child g) ≤ total (trees_of f (from_name at (children_of f key)))

pub child_fits : (f g : Forest) (key host : ℕ) (start : List Op) (child id : ℕ) (at : Option ℕ) (ops : List Op) → g ≡ f → Sound f → at ≡ Some child
    → host + 1 + total (trees_of f (children_of f key)) ≤ last_u32
    → IsMadeUpTo f key host start at id ops → ChildFits f g key child id at
child_fits f g key host start child id at ops same s here room m =
    let kids = children_of f key in
    let c = child_left f key child s (sym (ap (λ o. is_place o kids) here) ∙ m.place) in
    let rest = from_name (next_in kids child) kids in
    let left : from_name at kids ≡ child ∷ rest = ap (λ o. from_name o kids) here ∙ c.left in
    let of_child : total (alone child g) ≡ total (alone child f) = ap (λ f. total (alone child f)) same in
    record {
      sound = sound_still f g same s;
      there = ap (has child) same ∙ c.there;
      room = omega (arith, room, m.next, of_child, ap (λ ks. total (trees_of f ks)) left, total-joined (alone child f) (trees_of f rest));
      smaller = omega (arith, of_child, total-alone-lt f child key c.ordered c.up);
      part = omega (arith, of_child, ap (λ ks. total (trees_of f ks)) left, total-joined (alone child f) (trees_of f rest));
    }

pub fewer_left : (f g : Forest) (key child : ℕ) (at next : Option ℕ) → g ≡ f → Sound f → at ≡ Some child → is_place at (children_of f key) ≡ true
    → next ≡ next_of g child
    → length (from_name next (children_of f key)) < length (from_name at (children_of f key))
fewer_left f g key child at next same s here place next_is =
    let kids = children_of f key in
    let c = child_left f key child s (sym (ap (λ o. is_place o kids) here) ∙ place) in
    omega (
      arith,
      ap length (ap (λ o. from_name o kids) (next_is ∙ ap (λ f. next_of f child) same ∙ c.next)),
      ap length (ap (λ o. from_name o kids) here ∙ c.left),
    )

-- how much is left, before a child and after it
pub left_with : (f g : Forest) (key child : ℕ) (at next : Option ℕ) → g ≡ f → Sound f → at ≡ Some child → is_place at (children_of f key) ≡ true
    → next ≡ next_of g child
    → total (trees_of f (from_name at (children_of f key))) ≡ total (alone child g) + total (trees_of f (from_name next (children_of f key)))
left_with f g key child at next same s here place next_is =
    let kids = children_of f key in
    let c = child_left f key child s (sym (ap (λ o. is_place o kids) here) ∙ place) in
    let rest = from_name (next_in kids child) kids in
    let left : from_name at kids ≡ child ∷ rest = ap (λ o. from_name o kids) here ∙ c.left in
    let then : from_name next kids ≡ rest = ap (λ o. from_name o kids) (next_is ∙ ap (λ f. next_of f child) same ∙ c.next) in
    omega (
      arith,
      ap (λ f. total (alone child f)) same,
      ap (λ ks. total (trees_of f ks)) left,
      ap (λ ks. total (trees_of f ks)) then,
      total-joined (alone child f) (trees_of f rest),
    )
