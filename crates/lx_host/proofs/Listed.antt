-- The HTML of what is below a host, child by child.
use Rattle.std.proofs.Common.{ℕ, ◌≡◌, ◌<◌, true, List, ◌∷◌, ◌++◌, length, Option, None, Some, option_map, Bor, refl, sym, ap, ◌∙◌, subst, arith, append_assoc}
use Rattle.std.specs.Option.{option_copied}
use Rattle.std.proofs.lemmas.List.{append-nil}
use Rattle.std.proofs.lemmas.Option.{same_Some}
use Rattle.lx_trees.specs.Trees.{Trees, nil, tree}
use Rattle.lx_trees.specs.NamedTrees.{total, gathered}
use Rattle.lx_trees.specs.Siblings.{next_in, from_name, is_among}
use Rattle.lx_trees.specs.Spots.{Spot, spot, children_at}
use Rattle.lx_trees.proofs.Positions.{from_name-first, from_name-step}
use Rattle.lx_trees.proofs.Siblings.{is_named_tells}
use Rattle.lx_trees.proofs.Subtrees.{total-alone_child-lt}
use Rattle.lx_host.specs.Hosts.{Host, id_of, has, alone, shape_of}
use Rattle.lx_host.specs.Below.{below_of}
use Rattle.lx_host.specs.Html.{html_of}
use Rattle.lx_host.specs.Stands.{linked_of}
use Rattle.lx_host.specs.declared.linked.Linked.{Linked}
use Rattle.lx_host.proofs.Printed.{html_of-joined, IsOne}
use Rattle.lx_trees.specs.Lookups.{IsOrdered, parent_of, children_of, children_below, siblings, first_child, next_of}
use Rattle.lx_trees.specs.Records.{linked, record_at}
use Rattle.lx_trees.proofs.Lookups.{alone-spot, is_among-children_of, NoRepeats-children_of, has-child}
use Rattle.lx_trees.proofs.Neighbours.{parent_of-next}
use Rattle.lx_host.proofs.Changed.{child_up}

-- what is still to be written from a child on
abbrev pub left_from : Trees Host → ℕ → Option ℕ → List ℕ
left_from f q at = html_of (shape_of (gathered id_of f (from_name at (children_of id_of f q))))

-- the child is one of q, or there is none left
abbrev pub IsChild : Trees Host → ℕ → Option ℕ → Type 0
IsChild f q None = Unit {0}
IsChild f q (Some c) = parent_of id_of f c ≡ Some q

-- What the loop over the children of q knows at one of them, or after the last: what is written, with what is left from
-- there on, is all.
pub record IsListing (f : Trees Host) (q : ℕ) (at : Option ℕ) (page all : List ℕ) : Type 0 where
  pub ordered : IsOrdered id_of f
  pub child : IsChild f q at
  pub written : page ++ left_from f q at ≡ all

first_is_child : (f : Trees Host) (q : ℕ) (at : Option ℕ) → IsOrdered id_of f → at ≡ first_child id_of f q → IsChild f q at
first_is_child f q None h e = tt
first_is_child f q (Some c) h e = child_up f q c h (sym e)

pub listing_starts : (f : Trees Host) (q : ℕ) (at : Option ℕ) (page : List ℕ) → IsOrdered id_of f → at ≡ first_child id_of f q
    → IsListing f q at page (page ++ html_of (shape_of (below_of f q)))
listing_starts f q at page h e = record {
  ordered = h;
  child = first_is_child f q at h e;
  written = ap (λ o. page ++ left_from f q o) e ∙ ap (λ ks. page ++ html_of (shape_of (gathered id_of f ks))) (from_name-first (children_of id_of f q));
}

-- the child at which the loop is, and the one to which it goes on
pub record IsPassed (f : Trees Host) (q c : ℕ) (at next : Option ℕ) : Type 0 where
  pub there : has c f ≡ true
  pub smaller : total (alone c f) < total (alone q f)
  pub child : IsChild f q next
  pub fewer : length (from_name next (children_of id_of f q)) < length (from_name at (children_of id_of f q))
  pub left : left_from f q at ≡ html_of (shape_of (alone c f)) ++ left_from f q next

next_is_child : (f : Trees Host) (q c : ℕ) (next : Option ℕ) → IsOrdered id_of f → parent_of id_of f c ≡ Some q → next ≡ next_of id_of f c → IsChild f q next
next_is_child f q c None h up e = tt
next_is_child f q c (Some n) h up e = parent_of-next id_of f c n q h up (sym e)

pub passed : {f : Trees Host} {q c : ℕ} {at next : Option ℕ} {page all : List ℕ} → IsListing f q at page all → at ≡ Some c → next ≡ next_of id_of f c
    → IsPassed f q c at next
passed {f = f} {q = q} {c = c} {at = at} {next = next} listing is e =
    let h = listing.ordered in
    let up : parent_of id_of f c ≡ Some q = subst (IsChild f q) is listing.child in
    let among : is_among c (children_of id_of f q) ≡ true = is_among-children_of id_of f c q h ∙ grind (arith, up, is_named_tells (parent_of id_of f c) q) in
    let behind : next ≡ next_in (children_of id_of f q) c = e ∙ ap (λ o. next_in (children_below id_of f o) c) up in
    let step : from_name at (children_of id_of f q) ≡ c ∷ from_name next (children_of id_of f q) =
    ap (λ o. from_name o (children_of id_of f q)) is
    ∙ from_name-step (children_of id_of f q) c (NoRepeats-children_of id_of f q h) among
    ∙ ap (λ o. c ∷ from_name o (children_of id_of f q)) (sym behind)
    in
    record {
      there = has-child id_of f c q up;
      smaller = total-alone_child-lt id_of f c q h.once up;
      child = next_is_child f q c next h up e;
      fewer = omega (arith, ap length step);
      left = ap (λ ks. html_of (shape_of (gathered id_of f ks))) step ∙ html_of-joined (alone c f) (gathered id_of f (from_name next (children_of id_of f q)));
    }

pub listing_goes_on : {f : Trees Host} {q c : ℕ} {at next : Option ℕ} {page all : List ℕ} (new : List ℕ) → IsListing f q at page all → IsPassed f q c at next
    → new ≡ page ++ html_of (shape_of (alone c f)) → IsListing f q next new all
listing_goes_on {f = f} {q = q} {c = c} {next = next} {page = page} new listing step more = record {
  ordered = listing.ordered;
  child = step.child;
  written =
      ap (λ xs. xs ++ left_from f q next) more ∙ append_assoc page (html_of (shape_of (alone c f))) (left_from f q next) ∙ ap (λ xs. page ++ xs) (sym step.left)
      ∙ listing.written;
}

pub listing_ends : {f : Trees Host} {q : ℕ} {at : Option ℕ} {page all : List ℕ} → IsListing f q at page all → at ≡ None → page ≡ all
unfolding html_of
listing_ends {f = f} {q = q} {page = page} listing is = sym (append-nil page) ∙ sym (ap (λ o. page ++ left_from f q o) is) ∙ listing.written

-- ---- a host by its record

-- what the host of a record shows, over what is below it
shape_found : (f : Trees Host) (q : ℕ) (n : Linked) → IsOrdered id_of f → Some n ≡ option_map linked_of (record_at id_of f q)
    → shape_of (alone q f) ≡ tree (record { key = n.key; tag = n.tag; attrs = n.attrs; text = n.text; ending = n.ending }) (shape_of (below_of f q)) nil
shape_found f q n h e = by (spot id_of f q) refl where
  by : (o : Option (Spot Host)) → spot id_of f q ≡ o
      → shape_of (alone q f) ≡ tree (record { key = n.key; tag = n.tag; attrs = n.attrs; text = n.text; ending = n.ending }) (shape_of (below_of f q)) nil
  by None at = let none : Some n ≡ None = e ∙ ap (λ o. option_map linked_of (option_map (linked (siblings id_of f q) q) o)) at in absurd (cc)
  by (Some s) at =
      let same : Some n ≡ Some (linked_of (linked (siblings id_of f q) q s)) =
      e ∙ ap (λ o. option_map linked_of (option_map (linked (siblings id_of f q) q) o)) at in
      let is : n ≡ linked_of (linked (siblings id_of f q) q s) = same_Some _ _ same in
      ap shape_of (alone-spot id_of f q s h at)
      ∙ ap (λ ks. tree s.label.face (shape_of (gathered id_of f ks)) nil) (sym (ap children_at at))
      ∙ sym (ap (λ (m : Linked). tree (record { key = m.key; tag = m.tag; attrs = m.attrs; text = m.text; ending = m.ending }) (shape_of (below_of f q)) nil)
      is)

-- the host that was found under an id
pub one_found : {f : Trees Host} {o : Option (Bor Linked)} {n : Bor Linked} (q : ℕ) → IsOrdered id_of f
    → option_copied o ≡ option_map linked_of (record_at id_of f q) → o ≡ Some n
    → IsOne (record { key = n.now.key; tag = n.now.tag; attrs = n.now.attrs; text = n.now.text; ending = n.now.ending }) (below_of f q) (alone q f)
one_found {f = f} {n = n} q h found is = record { shape = shape_found f q n.now h (sym (ap option_copied is) ∙ found) }
