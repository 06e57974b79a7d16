-- A node that gets the fields that it has leaves its forest as it is.
use Rattle.std.proofs.Common.{◌≡◌, ◌∙◌, ℕ, eqb, true, false, Bool, cond, Option, None, Some, not, refl, sym, ap, arith, option_map}
use Rattle.std.proofs.lemmas.Bool.Decides.{eqb_tells}
use Rattle.lx_trees.specs.Spots.{Spot}
use Rattle.lx_node.specs.Same.{same_fields}
use Rattle.lx_node.specs.Same.{same_fields}
use Rattle.lx_node.specs.declared.fields.Fields.{Fields}
use Rattle.lx_node.proofs.Same.{same_fields-Decides}
use Rattle.lx_trees.proofs.Spots.{option_map-same}
use Rattle.lx_trees.proofs.Edits.{option_map-agree}
use Rattle.lx_forest.specs.Forest.{Forest, Label}
use Rattle.lx_forest.specs.Lookups.{has, spot, fields_of, IsForest}
use Rattle.lx_forest.specs.Edits.{with_fields, reset}
use Rattle.lx_forest.proofs.Edits.{is_some-spot, spot-with_fields}
use Rattle.lx_forest.proofs.Order.{same_forest, IsForest-with_fields}
use Rattle.lx_links.specs.Faults.{set_fault}
use Rattle.lx_draft.specs.Working.{Working}
use Rattle.lx_draft.specs.Steps.{differ, wrote, fields_written}

-- the spot of a key whose fields are these
reset_same : (k : ℕ) (fields : Fields) (f : Forest) (q : ℕ) (s : Spot Label) → fields_of f k ≡ Some fields → spot f q ≡ Some s → reset k fields q s ≡ s
reset_same k fields f q s is e = by_test (eqb q k) refl where
  with_own : Fields → Spot Label
  with_own own = record { label = record { key = s.label.key; kind = s.label.kind; fields = own }; parent = s.parent; children = s.children }

  by_test : (same : Bool) → eqb q k ≡ same → reset k fields q s ≡ s
  by_test true at =
      let found : Some s.label.fields ≡ Some fields = grind (arith, at, eqb_tells q k, e, is) in
      let own : s.label.fields ≡ fields = cc in
      ap (λ (b : Bool). with_own (cond b fields s.label.fields)) at ∙ ap with_own (sym own)
  by_test false at = ap (λ (b : Bool). with_own (cond b fields s.label.fields)) at

pub with_fields-same : (k : ℕ) (fields : Fields) (f : Forest) → IsForest f → fields_of f k ≡ Some fields → with_fields k fields f ≡ f
with_fields-same k fields f h is =
    same_forest (with_fields k fields f) f (IsForest-with_fields k fields f h) h
    (λ q. spot-with_fields k fields f q
    ∙ option_map-agree (reset k fields q) (λ s. s) (spot f q) (λ s e. reset_same k fields f q s is e)
    ∙ option_map-same (λ (s : Spot Label). s) (λ s. refl) (spot f q))

-- fields are written only to a node that is there
not_gone : (k : ℕ) (fields : Fields) (f : Forest) → set_fault k fields f ≡ None → has k f ≡ true
not_gone k fields f e = by_test (has k f) refl where
  by_test : (there : Bool) → has k f ≡ there → has k f ≡ true
  by_test true is = is
  by_test false is = absurd (cc)

by_not : (b : Bool) → not b ≡ false → b ≡ true
by_not true e = refl
by_not false e = absurd (cc)

-- a write of equal fields takes its count, and what it writes, and nothing else
pub written_again : (k : ℕ) (fields : Fields) (more : ℕ) (w : Working) → IsForest w.forest → set_fault k fields w.forest ≡ None
    → differ (fields_of w.forest k) fields ≡ false
    → fields_written k fields more (λ s. s) w ≡ wrote more w
written_again k fields more w h fine e = by_spot (spot w.forest k) refl where
  by_spot : (o : Option (Spot Label)) → spot w.forest k ≡ o → fields_written k fields more (λ s. s) w ≡ wrote more w
  by_spot None is = absurd (grind (arith, is, is_some-spot w.forest k, not_gone k fields w.forest fine))
  by_spot (Some s) is =
      let found : fields_of w.forest k ≡ Some s.label.fields =
      ap (λ (o : Option (Spot Label)). option_map (λ (l : Label). l.fields) (option_map (λ (t : Spot Label). t.label) o)) is in
      let same : s.label.fields ≡ fields =
      (same_fields-Decides s.label.fields fields).0 (by_not (same_fields s.label.fields fields) (ap (λ o. differ o fields) (sym found) ∙ e)) in
      let stays : with_fields k fields w.forest ≡ w.forest = with_fields-same k fields w.forest h (found ∙ ap Some same) in cc
