-- What is found in a value lies less deep, and members that are walked for a name are looked up.
use Rattle.std.proofs.lemmas.Slice.Eq.{bytes_eq-Decides}
use Rattle.std.proofs.Common.{Decides, ◌≡◌, ◌∙◌, ◌≤◌, ◌<◌, ℕ, zero, suc, Bool, true, false, max, List, [], ◌∷◌, length, Option, None, Some, option_and_then, refl, arith, ap, if◌then◌else◌, slice_index_or}
use Rattle.std.specs.List.{slice_get}
use Rattle.std.proofs.lemmas.Option.{slice_get_read}
use Rattle.std.specs.Ordering.{nat_cmp, match_ordering, is_eq}
use Rattle.std.specs.declared.cmp.Ordering.{Ordering}
use Rattle.std.specs.declared.cmp.Ordering.TheVariants.{Less, Equal, Greater}
use Rattle.std.specs.Str.{bytes_eq}
use Rattle.std.specs.Cmp.Lexicographic.{slice_cmp}
use Rattle.std.proofs.lemmas.Map.Text.{is_eq-slice_cmp}
use Rattle.serde_json.specs.declared.value.Value.{Value}
use Rattle.serde_json.specs.View.{view, items_view}
use Rattle.serde_json.specs.Data.{Data, array, object, Items, Members, no_members, member, depth, items_depth, members_depth}
use Rattle.serde_json.specs.Find.{get, get_member, as_array}

-- texts of different lengths differ
pub apart_by_length : (a b : List ℕ) → (length a ≡ length b → ⊥) → bytes_eq a b ≡ false
apart_by_length a b apart =
    elim (bytes_eq a b) as (λ same. Decides same (a ≡ b) → same ≡ false)
    [ true ↦ λ is. absurd (apart (ap length (is.0 refl))) | false ↦ λ is. refl ] (bytes_eq-Decides a b)

-- ---- depths

depth_by : (o : Ordering) (k : List ℕ) (d e : Data) (ms : Members) → (get_member k ms ≡ Some e → depth e ≤ members_depth ms)
    → match_ordering o (get_member k ms) (Some d) (get_member k ms) ≡ Some e
    → depth e ≤ max (depth d) (members_depth ms)
depth_by Less k d e ms deeper is = omega (arith, deeper is)
depth_by Equal k d e ms deeper is = let same : d ≡ e = cc in omega (arith, ap depth same)
depth_by Greater k d e ms deeper is = omega (arith, deeper is)

depth-get_member : (k : List ℕ) (ms : Members) (e : Data) → get_member k ms ≡ Some e → depth e ≤ members_depth ms
depth-get_member k no_members e is = absurd (cc)
depth-get_member k (member l d ms) e is = depth_by (slice_cmp nat_cmp k l) k d e ms (depth-get_member k ms e) is

depth-get : (k : List ℕ) (d e : Data) → get k d ≡ Some e → depth e < depth d
depth-get k (object ms) e is = omega (arith, depth-get_member k ms e is)
depth-get k _ e is = absurd (cc)

depth-as_array : (d : Data) (ds : Items) → as_array d ≡ Some ds → items_depth ds < depth d
depth-as_array (array es) ds is = let same : es ≡ ds = cc in omega (arith, ap items_depth same)
depth-as_array _ ds is = absurd (cc)

depth-found : (k : List ℕ) (d : Data) (o : Option Data) (ds : Items) → get k d ≡ o → option_and_then as_array o ≡ Some ds → items_depth ds < depth d
depth-found k d None ds found is = absurd (cc)
depth-found k d (Some e) ds found is = omega (arith, depth-get k d e found, depth-as_array e ds is)

-- the items of a member's list lie less deep than the object
pub depth-listed : (k : List ℕ) (d : Data) (ds : Items) → option_and_then as_array (get k d) ≡ Some ds → items_depth ds < depth d
depth-listed k d ds is = depth-found k d (get k d) ds refl is

depth-at : (vs : List Value) (i : ℕ) (v : Value) → slice_get vs i ≡ Some v → depth (view v) ≤ items_depth (items_view vs)
depth-at [] zero v is = absurd (cc)
depth-at [] (suc i) v is = absurd (cc)
depth-at (x ∷ vs) zero v is = let same : x ≡ v = cc in omega (arith, ap (λ v. depth (view v)) same)
depth-at (x ∷ vs) (suc i) v is = omega (arith, depth-at vs i v is)

pub item_at : {A : Type 0} (all : List A) (i : ℕ) (a : A) → i < length all → a ≡ slice_index_or all i a → slice_get all i ≡ Some a
item_at all i a within is = slice_get_read all (length all) i a refl within is

-- an item of a list lies no deeper than all of them
pub depth-item : (vs : List Value) (i : ℕ) (v : Value) → i < length vs → v ≡ slice_index_or vs i v → depth (view v) ≤ items_depth (items_view vs)
depth-item vs i v within is = depth-at vs i v (item_at vs i v within is)

-- ---- look-ups

module _ {A : Type 0} (k : List ℕ) (f : Option Data → A) where
  looked_by : (o : Ordering) (d : Data) (ms : Members) (rest : A) → rest ≡ f (get_member k ms) → (b : Bool) → is_eq o ≡ b
      → (if b then f (Some d) else rest) ≡ f (match_ordering o (get_member k ms) (Some d) (get_member k ms))
  looked_by Less d ms rest same true e = absurd (cc)
  looked_by Less d ms rest same false e = same
  looked_by Equal d ms rest same true e = refl
  looked_by Equal d ms rest same false e = absurd (cc)
  looked_by Greater d ms rest same true e = absurd (cc)
  looked_by Greater d ms rest same false e = same

  -- what stops at the first member of a name looks that member up
  pub looked_up : (walk : Members → A) → walk no_members ≡ f None
      → ((name : List ℕ) (d : Data) (ms : Members) → walk (member name d ms) ≡ (if bytes_eq k name then f (Some d) else walk ms)) → (ms : Members)
      → walk ms ≡ f (get_member k ms)
  looked_up walk none step no_members = none
  looked_up walk none step (member name d ms) =
      step name d ms ∙ looked_by (slice_cmp nat_cmp k name) d ms (walk ms) (looked_up walk none step ms) (bytes_eq k name) (is_eq-slice_cmp k name)
