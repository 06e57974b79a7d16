-- What is read of a value, against what lines about views ask for.
use Rattle.std.proofs.Common.{◌≡◌, refl, subst, ℕ, List, [], ◌∷◌, length, slice_get, string_bytes, arith, if◌then◌else◌, Some, None}
use Rattle.std.specs.Str.{bytes_eq}
use Rattle.serde_json.proofs.Views.{Entry}
use Rattle.serde_json.specs.Data.{Data, null, boolean, number, string, array, object}
use Rattle.serde_json.specs.Find.{as_object}
use Rattle.serde_json.specs.View.{view, items_view, members_view}
use Rattle.serde_json.specs.declared.value.Value.{Value}
use Rattle.lx_serving.specs.Asked.{sole_member, about_one}

-- ---- an object's only member

-- an object of no members, or of more than one, has no only one
sole_member-members : (name : List ℕ) (es : List Entry) → (length es ≡ 1 → ⊥) → None ≡ sole_member name (object (members_view es))
sole_member-members name [] other = refl
sole_member-members name (e ∷ []) other = absurd (other refl)
sole_member-members name (e ∷ f ∷ es) other = refl

pub sole_member-others : (name : List ℕ) (d : Data) (es : List Entry) → Some (members_view es) ≡ as_object d → (length es ≡ 1 → ⊥) → None ≡ sole_member name d
sole_member-others name (object ms) es is other = let same : members_view es ≡ ms = cc in rw (← same) (sole_member-members name es other)
sole_member-others name null es is other = refl
sole_member-others name (boolean b) es is other = refl
sole_member-others name (number n) es is other = refl
sole_member-others name (string s) es is other = refl
sole_member-others name (array ds) es is other = refl

sole_member-member : (name : List ℕ) (es : List Entry) (e : Entry) → length es ≡ 1 → slice_get es 0 ≡ Some e
    → (if bytes_eq (string_bytes e.0) name then Some (view e.1) else None) ≡ sole_member name (object (members_view es))
sole_member-member name [] e one first = absurd (cc)
sole_member-member name (f ∷ []) e one first =
    let same : f ≡ e = cc in
    let P : Entry → Type 0 = λ x. (if bytes_eq (string_bytes x.0) name then Some (view x.1) else None) ≡ sole_member name (object (members_view (f ∷ []))) in
    subst P same refl
sole_member-member name (f ∷ g ∷ es) e one first = absurd (omega arith)

-- the only member of an object of one is there where it has the name
pub sole_member-one : (name : List ℕ) (d : Data) (es : List Entry) (e : Entry) → Some (members_view es) ≡ as_object d → length es ≡ 1 → slice_get es 0 ≡ Some e
    → (if bytes_eq (string_bytes e.0) name then Some (view e.1) else None) ≡ sole_member name d
sole_member-one name (object ms) es e is one first = let same : members_view es ≡ ms = cc in rw (← same) (sole_member-member name es e one first)
sole_member-one name null es e is one first = absurd (cc)
sole_member-one name (boolean b) es e is one first = absurd (cc)
sole_member-one name (number n) es e is one first = absurd (cc)
sole_member-one name (string s) es e is one first = absurd (cc)
sole_member-one name (array ds) es e is one first = absurd (cc)

-- ---- two items

pub about_one-others : (vs : List Value) → (length vs ≡ 2 → ⊥) → None ≡ about_one (items_view vs)
about_one-others [] other = refl
about_one-others (v ∷ []) other = refl
about_one-others (v ∷ w ∷ []) other = absurd (other refl)
about_one-others (v ∷ w ∷ x ∷ vs) other = refl
