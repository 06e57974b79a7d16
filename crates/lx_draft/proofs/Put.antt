-- Where nothing refuses a put, the place is one for the links too.
use Rattle.std.proofs.Common.{◌≡◌, ◌≤◌, ℕ, true, length, Option, None, Some, refl, sym, subst, arith}
use Rattle.std.specs.Option.{option_or}
use Rattle.std.specs.Prelude.{slice_get}
use Rattle.std.proofs.lemmas.Bool.Decides.{eqb_tells}
use Rattle.lx_node.specs.Kinds.{may_hold}
use Rattle.lx_node.specs.declared.kind.Kind.{Kind}
use Rattle.lx_trees.specs.Siblings.{is_among}
use Rattle.lx_trees.proofs.Siblings.{is_named_tells}
use Rattle.lx_trees.proofs.Positions.{is_among-slice_get}
use Rattle.lx_forest.specs.Forest.{Forest}
use Rattle.lx_forest.specs.Lookups.{has, kind_of, parent_of, children_of, holds, IsForest}
use Rattle.lx_forest.specs.Edits.{CanPut}
use Rattle.lx_forest.proofs.Lookups.{is_among-children_of}
use Rattle.lx_forest.proofs.Walks.{no_parent}
use Rattle.lx_links.specs.Faults.{unknown, unknown_before, misfit, bound_to, no_child, place_fault}
use Rattle.lx_draft.specs.Faults.{put_fault, beyond}
use Rattle.lx_draft.specs.Working.{Working}

pub both_none : {A : Type 0} (a b : Option A) → option_or a b ≡ None → (a ≡ None) × (b ≡ None)
both_none None b e = (refl, e)
both_none (Some x) b e = absurd (grind (arith, e))

-- the causes of a put one by one
pub record NoneOf (f : Forest) (k p index : ℕ) : Type 0 where
  pub key : unknown f k ≡ None
  pub parent : unknown f p ≡ None
  pub free : bound_to f p k ≡ None
  pub fit : misfit (kind_of f p) (kind_of f k) ≡ None
  pub within : beyond f p index ≡ None

pub none_of : (f : Forest) (k p index : ℕ) → put_fault k p index f ≡ None → NoneOf f k p index
none_of f k p index e =
    let a = both_none (unknown f k) (option_or (unknown f p) (option_or (bound_to f p k) (option_or (misfit (kind_of f p) (kind_of f k)) (beyond f p index))))
    e in
    let b = both_none (unknown f p) (option_or (bound_to f p k) (option_or (misfit (kind_of f p) (kind_of f k)) (beyond f p index))) a.1 in
    let c = both_none (bound_to f p k) (option_or (misfit (kind_of f p) (kind_of f k)) (beyond f p index)) b.1 in
    let d = both_none (misfit (kind_of f p) (kind_of f k)) (beyond f p index) c.1 in
    record { key = a.0; parent = b.0; free = c.0; fit = d.0; within = d.1 }

misfit_holds : (outer inner : Option Kind) → misfit outer inner ≡ None → holds may_hold outer inner ≡ true
misfit_holds (Some a) (Some b) e = grind (arith, e)
misfit_holds outer inner e = refl

-- a node may hold one that is put below it
pub put_fits : (f : Forest) (k p index : ℕ) → put_fault k p index f ≡ None → holds may_hold (kind_of f p) (kind_of f k) ≡ true
put_fits f k p index e = misfit_holds (kind_of f p) (kind_of f k) (none_of f k p index e).fit

pub can_put : (f : Forest) (k p index : ℕ) → put_fault k p index f ≡ None → CanPut p k f
can_put f k p index e =
    let n = none_of f k p index e in
    record {
      other = λ same. grind (arith, n.free, same, eqb_tells k 0);
      there = grind (arith, n.key);
      detached = grind (arith, n.free);
      parent = grind (arith, n.parent);
      outside = grind (arith, n.free);
    }

-- and the index is one of a place among the children
pub put_within : (f : Forest) (k p index : ℕ) → put_fault k p index f ≡ None → index ≤ length (children_of f p)
put_within f k p index e = grind (arith, (none_of f k p index e).within)

child_there : (f : Forest) (p b : ℕ) → IsForest f → is_among b (children_of f p) ≡ true → has b f ≡ true
child_there f p b h among = grind (arith, among, is_among-children_of f b p h, is_named_tells (parent_of f b) p, no_parent f b)

before_fits : (f : Forest) (p : ℕ) (before : Option ℕ) → IsForest f → ((b : ℕ) → before ≡ Some b → is_among b (children_of f p) ≡ true)
    → (unknown_before f before ≡ None) × (no_child f p before ≡ None)
before_fits f p None h child = (refl, refl)
before_fits f p (Some b) h child = (grind (arith, child_there f p b h (child b refl)), grind (arith, child b refl))

pub may_place : (f : Forest) (k p index : ℕ) → IsForest f → put_fault k p index f ≡ None → place_fault p (slice_get (children_of f p) index) k f ≡ None
may_place f k p index h e =
    let n = none_of f k p index e in
    let b = before_fits f p (slice_get (children_of f p) index) h (λ x at. is_among-slice_get (children_of f p) x index at) in
    rw (n.parent, b.0, n.key, n.fit, n.free) b.1

-- what a draft knows of a place at which nothing refuses a put
pub record MayPlace (f : Forest) (k p : ℕ) (before : Option ℕ) : Type 0 where
  pub order : IsForest f
  pub can : CanPut p k f
  pub free : place_fault p before k f ≡ None

-- said of the draft from without, and known of its links within
pub may_place_in : (w v : Working) (k p index : ℕ) (before : Option ℕ)
    → w ≡ v → IsForest v.forest → put_fault k p index v.forest ≡ None → before ≡ slice_get (children_of v.forest p) index → MayPlace w.forest k p before
may_place_in w v k p index before same h e here =
    let free : place_fault p before k v.forest ≡ None = subst (λ b. place_fault p b k v.forest ≡ None) (sym here) (may_place v.forest k p index h e) in
    subst (λ u. MayPlace u.forest k p before) (sym same) (record { order = h; can = can_put v.forest k p index e; free = free })
