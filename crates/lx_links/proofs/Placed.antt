-- What a place without a fault is, and what placing leaves.
use Rattle.std.proofs.Common.{ℕ, ◌≡◌, ◌<◌, ◌+◌, ◌^◌, Bool, true, false, cond, ◌||◌, Option, None, Some, option_map, is_some, refl, sym, ap, ◌∙◌, arith}
use Rattle.std.specs.Option.{option_or}
use Rattle.std.specs.FinMap.{get}
use Rattle.std.proofs.lemmas.Bool.Decides.{eqb_tells}
use Rattle.lx_trees.specs.Trees.{nil, tree}
use Rattle.lx_trees.specs.Siblings.{is_named, is_among, is_place, place_behind, previous_in}
use Rattle.lx_trees.proofs.Siblings.{is_named_tells}
use Rattle.lx_node.specs.declared.node.Node.{Node}
use Rattle.lx_node.specs.declared.cause.Cause.TheVariants.{UnknownNode, WrongKind, BadPlace}
use Rattle.lx_node.specs.declared.cause.Named.TheVariants.{Key}
use Rattle.lx_forest.specs.Forest.{Forest}
use Rattle.lx_forest.specs.Lookups.{key_of, has, kind_of, parent_of, children_of, children_below, previous_of, holds}
use Rattle.lx_forest.specs.Edits.{put_in, CanPut}
use Rattle.lx_forest.specs.Records.{StandsFor}
use Rattle.lx_forest.proofs.Lookups.{is_among-children_of}
use Rattle.lx_forest.proofs.Order.{IsForest-put_in}
use Rattle.lx_joints.specs.Changes.{Differs, on_links, linked_in}
use Rattle.lx_joints.proofs.Stands as joints
use Rattle.lx_links.specs.Changes.{links_of, with_links}
use Rattle.lx_links.specs.Faults.{misfit, no_child, place_fault}
use Rattle.lx_node.specs.Kinds.{may_hold}
use Rattle.lx_node.specs.declared.kind.Kind.{Kind}
use Rattle.lx_forest.proofs.Suited.{IsSuited-put_in}
use Rattle.lx_forest.proofs.Held.{IsHeld-put_in}
use Rattle.lx_links.specs.Stands.{Nodes, Holds, Sound, record_of, node_of, records}
use Rattle.lx_links.proofs.Stood.{are, rooted}

-- a child of a parent is a node whose parent that is
pub child_named : (f : Forest) (q p : ℕ) → Sound f → is_among q (children_of f p) ≡ is_named (parent_of f q) p
child_named nil q p s = refl
child_named (tree a below rest) q p s = is_among-children_of (tree a below rest) q p (s.in_order (λ e. cc))

above_of : (o : Option ℕ) (p : ℕ) → is_named o p ≡ true → o ≡ Some p
above_of o p e = grind (arith, e, is_named_tells o p)

pub parent_of-child : (f : Forest) (q p : ℕ) → Sound f → is_among q (children_of f p) ≡ true → parent_of f q ≡ Some p
parent_of-child f q p s e = above_of (parent_of f q) p (sym (child_named f q p s) ∙ e)

behind_child : (f : Forest) (p b : ℕ) → Sound f → is_among b (children_of f p) ≡ true → previous_of f b ≡ previous_in (children_of f p) b
behind_child f p b s e = ap (λ o. previous_in (children_below f o) b) (parent_of-child f b p s e)

-- the child after which the gap before another one is
pub behind_of : (f : Forest) (p b : ℕ) (before : Option ℕ) → Sound f → before ≡ Some b → is_place before (children_of f p) ≡ true
    → previous_of f b ≡ place_behind before (children_of f p)
behind_of f p b before s is place =
    behind_child f p b s (sym (ap (λ o. is_place o (children_of f p)) is) ∙ place) ∙ sym (ap (λ o. place_behind o (children_of f p)) is)

-- ---- no cause holds

none_both : {X : Type 0} (o r : Option X) → option_or o r ≡ None → (o ≡ None) × (r ≡ None)
none_both None r e = (refl, e)
none_both (Some x) r e = cc

known : (f : Forest) (k : ℕ) (b : Bool) → cond b None (Some (UnknownNode (Key k))) ≡ None → b ≡ true
known f k true e = refl
known f k false e = cc

unbound : (k p : ℕ) (f : Forest) (a : Bool) (o : Option ℕ) (c : Bool) → cond (a || (is_some o || c)) (Some (BadPlace k)) None ≡ None
    → (a ≡ false) × (o ≡ None) × (c ≡ false)
unbound k p f true o c e = cc
unbound k p f false (Some x) c e = cc
unbound k p f false None true e = cc
unbound k p f false None false e = (refl, refl, refl)

a_place : (f : Forest) (p : ℕ) (before : Option ℕ) → no_child f p before ≡ None → is_place before (children_of f p) ≡ true
a_place f p None e = refl
a_place f p (Some b) e = among (is_among b (children_of f p)) e where
  among : (t : Bool) → cond t None (Some (BadPlace b)) ≡ None → t ≡ true
  among true e = refl
  among false e = cc

pub record Placing (p : ℕ) (before : Option ℕ) (k : ℕ) (f : Forest) : Type 0 where
  pub can : CanPut p k f
  pub place : is_place before (children_of f p) ≡ true
  pub fits : misfit (kind_of f p) (kind_of f k) ≡ None

pub placing : (p : ℕ) (before : Option ℕ) (k : ℕ) (f : Forest) → place_fault p before k f ≡ None → Placing p before k f
placing p before k f e =
    let one = none_both _ _ e in
    let two = none_both _ _ one.1 in
    let three = none_both _ _ two.1 in
    let four = none_both _ _ three.1 in
    let five = none_both _ _ four.1 in
    let free = unbound k p f _ _ _ five.0 in
    record {
      can = record {
        other = grind (arith, free.0, eqb_tells k 0);
        there = known f k (has k f) three.0;
        detached = free.1;
        parent = known f p (has p f) one.0;
        outside = free.2;
      };
      place = a_place f p before five.1;
      fits = four.0;
    }

-- ---- what placing leaves

pub room_below : (m : Nodes) (f : Forest) (p : ℕ) (before : Option ℕ) (k : ℕ) (n : Node) → StandsFor (records m) f → place_fault p before k f ≡ None
    → get m p ≡ Some n → n.size + 1 < 2 ^ 32
room_below m f p before k n s none there =
    joints.room_below key_of record_of links_of with_links node_of are (get m) f p k n (rooted m f s) (placing p before k f none).can there

pub placed_records : (old new : Nodes) (f : Forest) (p k : ℕ) (before prev next : Option ℕ) → StandsFor (records old) f → place_fault p before k f ≡ None
    → prev ≡ place_behind before (children_of f p) → next ≡ before
    → Differs (on_links links_of with_links (linked_in k p prev next)) (get old) (get new) → StandsFor (records new) (put_in p before k f)
unfolding put_in
placed_records old new f p k before prev next s none behind is d =
    let h = placing p before k f none in
    let made = joints.placed_stands key_of record_of links_of with_links node_of are (get old) (get new) f p k before prev next (rooted old f s) h.can h.place
    behind is d in
    record { in_order = IsForest-put_in p before k f s.in_order h.can; same = made.same; small = made.small }

fitting : (o r : Option Kind) → misfit o r ≡ None → holds may_hold o r ≡ true
fitting None r e = refl
fitting (Some outer) None e = refl
fitting (Some outer) (Some inner) e = held (may_hold outer inner) e where
  held : (b : Bool) → cond b None (Some (WrongKind inner)) ≡ None → b ≡ true
  held true e = refl
  held false e = cc

pub place_room : (m : Nodes) (f : Forest) (p : ℕ) (before : Option ℕ) (k : ℕ) (n : Node) → Holds m f → place_fault p before k f ≡ None → get m p ≡ Some n
    → n.size + 1 < 2 ^ 32
place_room m f p before k n h none e = room_below m f p before k n h.stands none e

pub placed_stands : (old new : Nodes) (f : Forest) (p k : ℕ) (before prev next : Option ℕ) → Holds old f → place_fault p before k f ≡ None
    → prev ≡ place_behind before (children_of f p) → next ≡ before
    → Differs (on_links links_of with_links (linked_in k p prev next)) (get old) (get new) → Holds new (put_in p before k f)
placed_stands old new f p k before prev next h none behind is d =
    let free = placing p before k f none in
    record {
      stands = placed_records old new f p k before prev next h.stands none behind is d;
      held = IsHeld-put_in may_hold f h.stands.in_order h.held p before k free.can (fitting (kind_of f p) (kind_of f k) free.fits);
      suited = IsSuited-put_in f p before k h.stands.in_order free.can h.suited;
    }
