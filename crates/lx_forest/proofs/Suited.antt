-- Fields are of their kinds after each edit that gives no others.
use Rattle.std.proofs.Common.{◌≡◌, ◌∙◌, ℕ, Bool, true, false, cond, Option, None, Some, option_map, refl, sym, ap, subst, inl, inr}
use Rattle.std.proofs.lemmas.Bool.Decides.{eqb_tells}
use Rattle.lx_trees.specs.Trees.{nil}
use Rattle.lx_node.specs.Kinds.{is_possible}
use Rattle.lx_node.specs.OfKind.{IsOfKind, is_of_kind, fits_kind, is_element_of, is_extra_of, is_plain}
use Rattle.lx_node.specs.declared.fields.Fields.{Fields}
use Rattle.lx_forest.specs.Forest.{Forest, Label, root_alone}
use Rattle.lx_forest.specs.Lookups.{has, label_of, is_attached, IsForest}
use Rattle.lx_forest.specs.Edits.{with_new, with_fields, fields_at, take_out, put_in, drop_detached, CanPut}
use Rattle.lx_forest.specs.Suited.{is_suited, IsSuited}
use Rattle.lx_forest.proofs.Lookups.{key-label_of, label_of-with_new, label_of-with_fields, label_of-take_out, label_of-put_in, label_of-drop_detached}
use Rattle.lx_forest.proofs.Walks.{cases_option}

pub IsSuited-nil : IsSuited nil
IsSuited-nil = record { each = λ q. refl }

root_suited : (q : ℕ) → is_suited (label_of root_alone q) ≡ true
unfolding is_of_kind fits_kind is_element_of is_extra_of is_plain is_possible
root_suited q = elim (eqb_tells 0 q) [
  | inl same ↦ rw same.0 refl
  | inr apart ↦ rw apart.0 refl
]

pub IsSuited-root_alone : IsSuited root_alone
IsSuited-root_alone = record { each = root_suited }

-- a look-up that answers the same label, or none
same_suited : (o r : Option Label) → r ≡ o → is_suited o ≡ true → is_suited r ≡ true
same_suited o r same h = ap is_suited same ∙ h

none_or : (b : Bool) (o : Option Label) → is_suited o ≡ true → is_suited (cond b o None) ≡ true
none_or true o h = h
none_or false o h = refl

one_or : (b : Bool) (l : Label) (o : Option Label) → IsOfKind l.kind l.fields → is_suited o ≡ true → is_suited (cond b (Some l) o) ≡ true
one_or true l o of_kind h = of_kind
one_or false l o of_kind h = h

pub IsSuited-with_new : (f : Forest) (l : Label) → IsForest f → has l.key f ≡ false → IsOfKind l.kind l.fields → IsSuited f → IsSuited (with_new l f)
IsSuited-with_new f l i free of_kind h = record {
  each = λ q. ap is_suited (label_of-with_new l f q i free) ∙ one_or _ l (label_of f q) of_kind (h.each q);
}

pub IsSuited-take_out : (f : Forest) (k : ℕ) → IsForest f → IsSuited f → IsSuited (take_out k f)
IsSuited-take_out f k i h = record { each = λ q. same_suited (label_of f q) _ (label_of-take_out k f q i) (h.each q) }

pub IsSuited-put_in : (f : Forest) (p : ℕ) (before : Option ℕ) (k : ℕ) → IsForest f → CanPut p k f → IsSuited f → IsSuited (put_in p before k f)
IsSuited-put_in f p before k i can h = record { each = λ q. same_suited (label_of f q) _ (label_of-put_in p before k f q i can) (h.each q) }

pub IsSuited-drop_detached : (f : Forest) → IsForest f → IsSuited f → IsSuited (drop_detached f)
IsSuited-drop_detached f i h = record {
  each = λ q. ap is_suited (label_of-drop_detached f q i) ∙ none_or (is_attached f q) (label_of f q) (h.each q);
}

-- ---- other fields, which are of the kind of the node that gets them

fields_suited : (k : ℕ) (fields : Fields) (l : Label) → IsOfKind l.kind l.fields → (l.key ≡ k → IsOfKind l.kind fields)
    → is_suited (Some (fields_at k fields l)) ≡ true
fields_suited k fields l own other =
    elim (eqb_tells l.key k) [
      | inl same ↦ subst (λ f. IsOfKind l.kind f) (sym (ap (λ t. cond t fields l.fields) same.0)) (other same.1)
      | inr apart ↦ subst (λ f. IsOfKind l.kind f) (sym (ap (λ t. cond t fields l.fields) apart.0)) own
    ]

pub IsSuited-with_fields : (f : Forest) (k : ℕ) (fields : Fields) → ((l : Label) → label_of f k ≡ Some l → IsOfKind l.kind fields) → IsSuited f
    → IsSuited (with_fields k fields f)
IsSuited-with_fields f k fields of_kind h = record { each = each } where
  each : (q : ℕ) → is_suited (label_of (with_fields k fields f) q) ≡ true
  each q =
      elim (cases_option (label_of f q)) [
        | inl absent ↦ ap is_suited (label_of-with_fields k fields f q ∙ ap (λ o. option_map (fields_at k fields) o) absent)
        | inr (l, there) ↦
            ap is_suited (label_of-with_fields k fields f q ∙ ap (λ o. option_map (fields_at k fields) o) there)
            ∙ fields_suited k fields l (sym (ap is_suited there) ∙ h.each q)
            (λ same. of_kind l (ap (λ x. label_of f x) (sym same ∙ key-label_of f q l there) ∙ there))
      ]
