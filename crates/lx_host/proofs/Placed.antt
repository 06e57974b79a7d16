-- When a host may be placed.
use Rattle.std.proofs.Common.{ℕ, ◌≡◌, true, eqb, not, ◌&&◌, List, Option, None, Some, refl, sym, ap, ◌∙◌, arith}
use Rattle.lx_trees.specs.Trees.{Trees}
use Rattle.lx_trees.specs.Siblings.{is_place, is_among, is_named, names_without, place_behind, previous_in}
use Rattle.lx_trees.proofs.Siblings.{is_among-names_without, is_named_tells}
use Rattle.lx_trees.proofs.Spots.{children_at-spot_below}
use Rattle.lx_host.specs.Hosts.{Host, id_of, fits_before, put_below, alone, without}
use Rattle.lx_host.specs.Hosts as hosts
use Rattle.lx_trees.specs.Lookups.{IsOrdered, children_of, children_below, parent_of, previous_of}
use Rattle.lx_trees.specs.Edits.{take_out, put_in, CanPut}
use Rattle.lx_trees.proofs.Lookups.{children_of-take_out, is_among-children_of}
use Rattle.lx_trees.proofs.Places.{CanPut-take_out}
use Rattle.lx_trees.proofs.Within.{put_in-take_out}
use Rattle.lx_host.specs.Stands.{FitsPlace}

-- the children of a host, by its spot
pub children-same : (f : Trees Host) (q : ℕ) → IsOrdered id_of f → children_of id_of f q ≡ hosts.children_of q f
children-same f q h = children_at-spot_below id_of None f q h.once

place_after : (child : ℕ) (before : Option ℕ) (ids : List ℕ) → fits_before child before ids ≡ true → is_place before (names_without child ids) ≡ true
place_after child None ids e = refl
place_after child (Some b) ids e = grind (arith, e, is_among-names_without child b ids)

pub can_place : (p k : ℕ) (before : Option ℕ) (f : Trees Host) → IsOrdered id_of f → FitsPlace p k before f → CanPut id_of p k (take_out id_of k f)
can_place p k before f h c = CanPut-take_out id_of p k f h c.other c.child_in c.parent_in c.apart

pub place_in : (p k : ℕ) (before : Option ℕ) (f : Trees Host) → IsOrdered id_of f → FitsPlace p k before f
    → is_place before (children_of id_of (take_out id_of k f) p) ≡ true
place_in p k before f h c =
    ap (is_place before) (children_of-take_out id_of k f p h ∙ ap (names_without k) (children-same f p h))
    ∙ place_after k before (hosts.children_of p f) c.before_in

pub placed : (p k : ℕ) (before : Option ℕ) (f : Trees Host) → IsOrdered id_of f
    → put_in id_of p before k (take_out id_of k f) ≡ put_below p before (alone k f) (without k f)
unfolding put_in
placed p k before f h = let e : put_in id_of p before k (take_out id_of k f) ≡ put_in id_of p before k f = put_in-take_out id_of p before k f h in e

above_of : (o : Option ℕ) (p : ℕ) → is_named o p ≡ true → o ≡ Some p
above_of o p e = grind (arith, e, is_named_tells o p)

-- the child after which the gap before another one is
pub behind_of : (f : Trees Host) (p b : ℕ) (before : Option ℕ) → IsOrdered id_of f → before ≡ Some b → is_place before (children_of id_of f p) ≡ true
    → previous_of id_of f b ≡ place_behind before (children_of id_of f p)
behind_of f p b before h is place =
    let among : is_among b (children_of id_of f p) ≡ true = sym (ap (λ o. is_place o (children_of id_of f p)) is) ∙ place in
    let up : parent_of id_of f b ≡ Some p = above_of (parent_of id_of f b) p (sym (is_among-children_of id_of f b p h) ∙ among) in
    ap (λ o. previous_in (children_below id_of f o) b) up ∙ sym (ap (λ o. place_behind o (children_of id_of f p)) is)

-- whether a host may be put before another, by the parent of that one
pub fits_before_is : (f : Trees Host) (p k b : ℕ) (before : Option ℕ) → IsOrdered id_of f → before ≡ Some b
    → (is_named (parent_of id_of f b) p && not (eqb b k)) ≡ fits_before k before (hosts.children_of p f)
fits_before_is f p k b before h is =
    ap (λ t. t && not (eqb b k)) (sym (is_among-children_of id_of f b p h) ∙ ap (is_among b) (children-same f p h))
    ∙ sym (ap (λ o. fits_before k o (hosts.children_of p f)) is)
