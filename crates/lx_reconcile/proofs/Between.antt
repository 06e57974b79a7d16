-- The keys of a run of a node's children, as they are read one after another.
use Rattle.std.proofs.Common.{◌≡◌, ◌∙◌, ◌-◌, ◌<◌, ◌≤◌, Bor, get_or, ℕ, Bool, true, false, cond, List, [], ◌∷◌, ◌++◌, length, length-append, Option, None, Some, refl, sym, ap, subst, arith, append_assoc, inl, inr}
use Rattle.std.specs.Option.{option_copied}
use Rattle.std.specs.Slice.{IsGetResult}
use Rattle.std.proofs.lemmas.Bool.Decides.{eqb_tells}
use Rattle.std.proofs.lemmas.Bool.{false_from_ne_true, false≢true}
use Rattle.lx_trees.specs.Siblings.{is_among, is_named, is_place, NoRepeats, last_of, next_in, from_name, up_to_name}
use Rattle.lx_trees.proofs.Positions.{from_name-step}
use Rattle.lx_reconcile.specs.Windows.{up_to_end, between_names}
use Rattle.lx_reconcile.proofs.Children.{next_place}
use Rattle.lx_reconcile.proofs.Shared.{split}
use Rattle.lx_reconcile.proofs.Lists.{NoRepeats-right}

-- these keys of the run are found, and `at` is the next one
pub record AreFound (kids : List ℕ) (first last at : Option ℕ) (keys : List ℕ) : Type 0 where
  pub place : is_place at kids ≡ true
  pub list : keys ++ between_names at last kids ≡ between_names first last kids

pub found_none : (kids : List ℕ) (first last at : Option ℕ) (keys : List ℕ) → is_place first kids ≡ true → at ≡ first → keys ≡ []
    → AreFound kids first last at keys
found_none kids first last at keys place here none = record {
  place = ap (λ o. is_place o kids) here ∙ place;
  list = ap (λ ks. ks ++ between_names at last kids) none ∙ ap (λ o. between_names o last kids) here;
}

-- the next one and those after it
between-step : (kids : List ℕ) (child : ℕ) (last next : Option ℕ) → NoRepeats kids → is_among child kids ≡ true
    → next ≡ cond (is_named last child) None (next_in kids child)
    → between_names (Some child) last kids ≡ child ∷ between_names next last kids
between-step kids child None next once among is = from_name-step kids child once among ∙ ap (λ o. child ∷ from_name o kids) (sym is)
between-step kids child (Some l) next once among is = grind (arith, is, eqb_tells child l, eqb_tells l child, from_name-step kids child once among)

next_is_place : (kids : List ℕ) (child : ℕ) (b : Bool) → is_place (cond b None (next_in kids child)) kids ≡ true
next_is_place kids child true = refl
next_is_place kids child false = next_place kids child

pub found_more : (kids : List ℕ) (first last at next : Option ℕ) (child : ℕ) (keys more : List ℕ) → NoRepeats kids → at ≡ Some child
    → AreFound kids first last at keys
    → next ≡ cond (is_named last child) None (next_in kids child) → more ≡ keys ++ child ∷ [] → AreFound kids first last next more
found_more kids first last at next child keys more once here f is more_is =
    let among : is_among child kids ≡ true = sym (ap (λ o. is_place o kids) here) ∙ f.place in
    record {
      place = ap (λ o. is_place o kids) is ∙ next_is_place kids child (is_named last child);
      list =
          ap (λ ks. ks ++ between_names next last kids) more_is
          ∙ append_assoc keys (child ∷ []) (between_names next last kids)
          ∙ sym (ap (λ ks. keys ++ ks) (ap (λ o. between_names o last kids) here ∙ between-step kids child last next once among is))
          ∙ f.list;
    }

-- fewer are left after the next one
pub found_fewer : (kids : List ℕ) (last at next : Option ℕ) (child : ℕ) → NoRepeats kids → at ≡ Some child → is_place at kids ≡ true
    → next ≡ cond (is_named last child) None (next_in kids child)
    → length (from_name next kids) < length (from_name at kids)
found_fewer kids last at next child once here place is =
    let among : is_among child kids ≡ true = sym (ap (λ o. is_place o kids) here) ∙ place in
    let size = ap length (ap (λ o. from_name o kids) here ∙ from_name-step kids child once among) in
    grind (arith, is, size)

-- ---- a run of names is no longer than all of them, and has none twice

up_to-short : (last : Option ℕ) (xs : List ℕ) → length (up_to_end last xs) ≤ length xs
up_to-short None xs = omega arith
up_to-short (Some l) [] = omega arith
up_to-short (Some l) (x ∷ xs) = grind (arith, eqb_tells x l, up_to-short (Some l) xs)

from-short : (first : Option ℕ) (xs : List ℕ) → length (from_name first xs) ≤ length xs
from-short first xs = omega (arith, ap length (split first xs).1, length-append (split first xs).0 (from_name first xs))

between-short : (first last : Option ℕ) (kids : List ℕ) → length (between_names first last kids) ≤ length kids
between-short first last kids = omega (arith, up_to-short last (from_name first kids), from-short first kids)

pub found_within : (kids : List ℕ) (first last at : Option ℕ) (keys : List ℕ) → AreFound kids first last at keys → length keys ≤ length kids
found_within kids first last at keys f =
    omega (arith, ap length f.list, length-append keys (between_names at last kids), between-short first last kids)

up_to-among : (last : Option ℕ) (xs : List ℕ) (q : ℕ) → is_among q (up_to_end last xs) ≡ true → is_among q xs ≡ true
up_to-among None xs q e = e
up_to-among (Some l) [] q e = e
up_to-among (Some l) (x ∷ xs) q e = grind (arith, e, eqb_tells x l, up_to-among (Some l) xs q)

not_among : (x : ℕ) (xs : List ℕ) (l : ℕ) → is_among x xs ≡ false → is_among x (up_to_name (Some l) xs) ≡ false
not_among x xs l out = false_from_ne_true (is_among x (up_to_name (Some l) xs)) (λ e. false≢true (sym out ∙ up_to-among (Some l) xs x e))

up_to-once : (last : Option ℕ) (xs : List ℕ) → NoRepeats xs → NoRepeats (up_to_end last xs)
up_to-once None xs once = once
up_to-once (Some l) [] once = tt
up_to-once (Some l) (x ∷ xs) once = elim (eqb_tells x l) [
  | inl own ↦ rw own.0 (refl, tt)
  | inr other ↦ rw other.0 (not_among x xs l once.0, up_to-once (Some l) xs once.1)
]

pub between-once : (first last : Option ℕ) (kids : List ℕ) → NoRepeats kids → NoRepeats (between_names first last kids)
between-once first last kids once =
    up_to-once last (from_name first kids) (NoRepeats-right (split first kids).0 (from_name first kids) (subst NoRepeats (split first kids).1 once))

-- ---- the last of a queue

last_item : (x : ℕ) (xs : List ℕ) (d : ℕ) → last_of (x ∷ xs) ≡ Some (get_or (x ∷ xs) (length xs) d)
last_item x [] d = refl
last_item x (y ∷ ys) d = last_item y ys d

pub last_read : (xs : List ℕ) (n : ℕ) (r : Option (Bor ℕ)) → n ≡ length xs → IsGetResult xs 0 (n - 1) r → option_copied r ≡ last_of xs
last_read [] n None len item = refl
last_read [] n (Some x) len item = absurd (let e = item.0 in cc)
last_read (y ∷ ys) n None len item = absurd (let e = item.0 in grind (arith, e))
last_read (y ∷ ys) n (Some x) len item =
    let at : n - 1 ≡ length ys = omega (arith, len) in
    ap (λ z. Some z) (item.1 ∙ ap (λ i. get_or (y ∷ ys) i x.now) at) ∙ sym (last_item y ys x.now)
