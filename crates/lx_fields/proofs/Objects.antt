-- From what an object says of itself to what is asked of it.
use Rattle.std.proofs.Common.{◌≡◌, Option, refl, subst, ℕ, List, [], ◌∷◌, length, slice_get, string_bytes, arith, Some, None, option_map, ◌==◌}
use Rattle.serde_json.proofs.Views.{Entry, members_len-members_view}
use Rattle.serde_json.specs.Data.{Data, object}
use Rattle.serde_json.specs.Find.{as_object}
use Rattle.serde_json.specs.View.{view, members_view}
use Rattle.lx_fields.specs.Values.{has_only, only_member, present, word_in}

pub has_only-object : (names : List (List ℕ)) (d : Data) (es : List Entry) → Some (members_view es) ≡ as_object d
    → has_only names d ≡ (length es == present names d)
has_only-object names (object ms) es is = let same : members_view es ≡ ms = cc in rw (← same, members_len-members_view es) refl
has_only-object names _ es is = absurd (cc)

-- an object of no members, or of more than one, has no only member
only_member-members : {A : Type 0} (rows : List (List ℕ × A)) (es : List Entry) → (length es ≡ 1 → ⊥) → None ≡ only_member rows (object (members_view es))
only_member-members rows [] other = refl
only_member-members rows (e ∷ []) other = absurd (other refl)
only_member-members rows (e ∷ f ∷ es) other = refl

pub only_member-others : {A : Type 0} (rows : List (List ℕ × A)) (d : Data) (es : List Entry) → Some (members_view es) ≡ as_object d → (length es ≡ 1 → ⊥)
    → None ≡ only_member rows d
only_member-others rows (object ms) es is other = let same : members_view es ≡ ms = cc in rw (← same) (only_member-members rows es other)
only_member-others rows _ es is other = refl

-- an object of one member is read by that member's name
only_member-member : {A : Type 0} (rows : List (List ℕ × A)) (es : List Entry) (e : Entry) → length es ≡ 1 → slice_get es 0 ≡ Some e
    → option_map (λ word. (word, view e.1)) (word_in rows (string_bytes e.0)) ≡ only_member rows (object (members_view es))
only_member-member rows [] e one first = absurd (cc)
only_member-member rows (f ∷ []) e one first =
    let same : f ≡ e = cc in
    let P : Entry → Type 0 = λ x. option_map (λ word. (word, view x.1)) (word_in rows (string_bytes x.0)) ≡ only_member rows (object (members_view (f ∷ []))) in
    subst P same refl
only_member-member rows (f ∷ g ∷ es) e one first = absurd (omega arith)

pub only_member-one : {A : Type 0} (rows : List (List ℕ × A)) (d : Data) (es : List Entry) (e : Entry) (text : List ℕ) (word : Option A)
    → Some (members_view es) ≡ as_object d → length es ≡ 1 → slice_get es 0 ≡ Some e
    → word ≡ word_in rows text → text ≡ string_bytes e.0 → option_map (λ word. (word, view e.1)) word ≡ only_member rows d
only_member-one rows (object ms) es e text word is one first found named =
    let same : members_view es ≡ ms = cc in rw (← same, found, named) (only_member-member rows es e one first)
only_member-one rows _ es e text word is one first found named = absurd (cc)
