-- Where each node is after a join, and with which label.
use Rattle.lx_draft.specs.Faults.{text_in}
use Rattle.lx_draft.specs.Steps.{text_replaced}
use Rattle.lx_draft.specs.Working.{Working}
use Rattle.lx_edit.specs.Texts.{text_or_none}
use Rattle.lx_forest.proofs.Lookups.{children_of-take_out, children_of-with_fields, key-label_of, label_of-take_out, label_of-with_fields, parent_of-take_out, parent_of-with_fields}
use Rattle.lx_forest.proofs.Order.{IsForest-with_fields}
use Rattle.lx_forest.specs.Edits.{fields_at, with_fields}
use Rattle.lx_forest.specs.Forest.{Forest, Label}
use Rattle.lx_forest.specs.Lookups.{IsForest, children_of, label_of, parent_of, spot}
use Rattle.lx_edit_laws.proofs.JoinSteps.{AreJoined, with_behind}
use Rattle.lx_edit_laws.proofs.SplitCuts.{label_is, text_label}
use Rattle.lx_edit_laws.proofs.WrapTrees.{not_child, same_spot_by}
use Rattle.lx_edit_laws.specs.Reading.{text_at}
use Rattle.lx_trees.proofs.Siblings.{names_without-absent_list}
use Rattle.lx_trees.specs.Siblings.{is_among, names_without}
use Rattle.lx_node.specs.declared.fields.Fields.{Fields}
use Rattle.lx_node.specs.declared.fields.TextFields.{TextFields}
use Rattle.std.proofs.Common.{None, Option, Some, [], ap, ap₂, arith, cond, eqb, false, option_map, refl, sym, true, ℕ, ◌++◌, ◌∙◌, ◌∷◌, ◌≡◌, ◌≢◌}
use Rattle.std.proofs.lemmas.Bool.Decides.{eqb_tells}
use Rattle.lx_node.specs.declared.kind.Kind.TheVariants as kinds

-- a key that isn't one of two
pub neither : (q a b : ℕ) → is_among q (a ∷ b ∷ []) ≢ true → (q ≢ a) × (q ≢ b)
neither q a b apart = (λ e. apart (grind (arith, e, eqb_tells a q)), λ e. apart (grind (arith, e, eqb_tells b q, eqb_tells a q)))

-- ---- after a join

-- a label of another key stays as fields are written
unwritten : (k : ℕ) (fields : Fields) (f : Forest) (q : ℕ) (o : Option Label) → label_of f q ≡ o → q ≢ k → option_map (fields_at k fields) o ≡ o
unwritten k fields f q None is other = refl
unwritten k fields f q (Some l) is other = let off : eqb l.key k ≡ false = grind (arith, key-label_of f q l is, other, eqb_tells l.key k) in rw off refl

module _ (first second : ℕ) (w v : Working) (h : IsForest w.forest) (j : AreJoined first second w v) where
  abbrev both : Fields
  both = with_behind j.own (text_at w.forest second)

  abbrev written : Forest
  written = with_fields first both w.forest

  order : IsForest written
  order = IsForest-with_fields first both w.forest h

  label_after : (q : ℕ) → label_of v.forest q ≡ option_map (fields_at first both) (label_of w.forest q)
  label_after q = ap (λ f. label_of f q) j.forest ∙ label_of-take_out second written q order ∙ label_of-with_fields first both w.forest q

  -- the first has both texts ..
  pub label_first : label_of v.forest first ≡ Some (record { key = first; kind = kinds.Text; fields = both })
  label_first =
      let own : eqb first first ≡ true = grind (arith, eqb_tells first first) in
      label_after first ∙ ap (option_map (fields_at first both)) (label_is w.forest first j.own j.own_is)
      ∙ ap (λ b. let made : Label = record { key = first; kind = kinds.Text; fields = cond b both (text_label first j.own).fields } in Some made) own

  pub text_first : text_at v.forest first ≡ text_at w.forest first ++ text_at w.forest second
  text_first =
      ap (λ l. text_or_none (text_in l)) label_first
      ∙ ap (λ o. text_or_none o ++ text_at w.forest second) (sym j.own_is)

  -- .. and is as it was but for that
  pub label_like : (text : TextFields) → text_in (label_of w.forest first) ≡ Some text
      → label_of v.forest first ≡ Some (record { key = first; kind = kinds.Text; fields = text_replaced text (text_at v.forest first) })
  label_like text is =
      let was : Some j.own ≡ Some text = sym j.own_is ∙ is in
      let same : j.own ≡ text = cc in
      let now : text_at v.forest first ≡ j.own.text ++ text_at w.forest second = ap (λ l. text_or_none (text_in l)) label_first in
      label_first
      ∙ ap₂ (λ t x. let made : Label = record { key = first; kind = kinds.Text; fields = text_replaced t x } in Some made) same (sym now)

  -- all other labels stay, all parents but the second's, and all children but the second
  pub label_other : (q : ℕ) → q ≢ first → label_of v.forest q ≡ label_of w.forest q
  label_other q other = label_after q ∙ unwritten first both w.forest q (label_of w.forest q) refl other

  pub parent_other : (q : ℕ) → q ≢ second → parent_of v.forest q ≡ parent_of w.forest q
  parent_other q other =
      ap (λ f. parent_of f q) j.forest
      ∙ grind (arith, other, parent_of-take_out second written q order, parent_of-with_fields first both w.forest q, eqb_tells q second)

  pub children_left : (q : ℕ) → children_of v.forest q ≡ names_without second (children_of w.forest q)
  children_left q =
      ap (λ f. children_of f q) j.forest ∙ children_of-take_out second written q order
      ∙ ap (names_without second) (children_of-with_fields first both w.forest q)

  -- but for their parent, nodes have the children that they had
  pub children_other : (q : ℕ) → parent_of w.forest first ≢ Some q → children_of v.forest q ≡ children_of w.forest q
  children_other q above =
      children_left q
      ∙ names_without-absent_list second (children_of w.forest q)
      (not_child w.forest second j.place.parent q h j.place.below (λ same. above (j.place.up ∙ ap (λ x. Some x) same)))

  -- so every node stays as it was that is neither of the two, nor their parent
  pub spot_other : (q : ℕ) → is_among q (first ∷ second ∷ []) ≢ true → parent_of w.forest first ≢ Some q → spot v.forest q ≡ spot w.forest q
  spot_other q apart above =
      let far = neither q first second apart in
      same_spot_by (spot v.forest q) (spot w.forest q) (label_other q far.0) (parent_other q far.1) (children_other q above)
