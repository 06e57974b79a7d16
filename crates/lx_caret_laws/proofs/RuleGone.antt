-- A rule that is removed goes alone, and nothing that is read goes with it.
use Rattle.lx_blocks.specs.Blocks.{passes}
use Rattle.lx_caret.proofs.Fit.{after_tells}
use Rattle.lx_caret.proofs.Parents.{no_children}
use Rattle.lx_caret_laws.proofs.ReadLevels.{read-leaf, reads_by}
use Rattle.lx_caret_laws.proofs.TypedNew.{said_label}
use Rattle.lx_caret_laws.specs.Carets.{IsSound}
use Rattle.lx_caret_laws.specs.Joining.{IsRuleGone}
use Rattle.lx_caret_laws.specs.Reading.{read_in, reads_in}
use Rattle.lx_draft.proofs.Gaps.{parent_here}
use Rattle.lx_draft.specs.Selecting.{text_of}
use Rattle.lx_draft.specs.Steps.{take_step}
use Rattle.lx_draft.specs.Working.{Working}
use Rattle.lx_edit.proofs.Climbed.{sent_away-forest, taken-forest}
use Rattle.lx_edit.specs.Edits.{goes_too, may_not_be_left, remove_step, removed, sent_away}
use Rattle.lx_edit_laws.proofs.Reading.{kind_known}
use Rattle.lx_edit_laws.proofs.WrapSteps.{was_same}
use Rattle.lx_forest.proofs.Lookups.{children_of-take_out, has-parent_of, kind_of-take_out, label_of-take_out}
use Rattle.lx_forest.proofs.Order.{IsForest-take_out}
use Rattle.lx_forest.proofs.Walks.{ancestors-step, ancestors-top}
use Rattle.lx_forest.specs.Edits.{take_out}
use Rattle.lx_forest.specs.Forest.{Forest, Label}
use Rattle.lx_forest.specs.Lookups.{IsForest, ancestors, children_of, holds, kind_of, label_of, parent_of, size_of}
use Rattle.lx_forest.specs.Suited.{IsSuited, is_suited}
use Rattle.lx_node.specs.Kinds.{is_block, is_cell, is_element, is_heading, is_inline, is_paragraph, is_item, is_list, is_row, may_be_empty, may_hold}
use Rattle.lx_node.specs.OfKind.{are_bare, fits_kind, is_of_kind}
use Rattle.lx_node.specs.declared.fields.Fields.TheVariants as fields
use Rattle.lx_node.specs.declared.fields.Fields.{Fields}
use Rattle.lx_node.specs.declared.kind.Kind.TheVariants as kinds
use Rattle.lx_node.specs.declared.kind.Kind.{Kind}
use Rattle.lx_trees.specs.Siblings.{is_among, names_without}
use Rattle.std.proofs.Common.{Bool, List, None, Ok, Option, Some, [], ap, ap₂, arith, cond, eqb, false, inl, inr, option_map, refl, sym, true, ℕ, ◌&&◌, ◌++◌, ◌∙◌, ◌∷◌, ◌≡◌}
use Rattle.std.proofs.lemmas.Bool.Decides.{eqb_tells}
use Rattle.std.specs.Prelude.{is_some}

-- ---- it goes alone

-- what holds a rule may be left empty
left_empty : (outer : Kind) → may_hold outer kinds.Rule ≡ true → may_not_be_left (Some outer) (Some kinds.Rule) ≡ false
unfolding may_hold is_block is_inline is_item is_row is_cell is_list is_paragraph is_heading may_be_empty
left_empty kinds.Root e = refl
left_empty kinds.Cell e = refl
left_empty outer e = absurd (cc)

and_last : (a b c : Bool) → c ≡ false → (a && (b && c)) ≡ false
and_last a b c e = grind (arith, e)

taken_forest : (k : ℕ) (w v : Working) → take_step k (sent_away k w) ≡ Ok v → v.forest ≡ take_out k w.forest
taken_forest k w v e = taken-forest k (sent_away k w) v e ∙ ap (take_out k) (sent_away-forest k w)

rule_out : (k : ℕ) (w v : Working) → IsSound w → kind_of w.forest k ≡ Some kinds.Rule → remove_step k w ≡ Ok v → v.forest ≡ take_out k w.forest
unfolding remove_step
rule_out k w v sound kind e = by_parent (parent_of w.forest k) refl where
  f : Forest
  f = w.forest

  h : IsForest f
  h = sound.ready.in_order

  by_parent : (o : Option ℕ) → parent_of f k ≡ o → v.forest ≡ take_out k f
  by_parent None top = taken_forest k w v (ap (λ ks. removed k ks w) (sym (ancestors-top f k top)) ∙ e)
  by_parent (Some p) up =
      let above : removed k (p ∷ ancestors f p) w ≡ Ok v = ap (λ ks. removed k ks w) (sym (ancestors-step f k p h up)) ∙ e in
      let a = after_tells (take_step k (sent_away k w)) (λ u. cond (goes_too (kind_of f k) u.forest p) (removed p (ancestors f p) u) (Ok u)) v
      above in
      let u : Working = a.0 in
      let forest : u.forest ≡ take_out k f = taken_forest k w u a.1.0 in
      let outer = kind_known f p (has-parent_of f k p up) in
      let may : may_hold outer.0 kinds.Rule ≡ true = sym (ap₂ (holds may_hold) outer.1 kind) ∙ sound.held.each k p up in
      let kept : kind_of u.forest p ≡ Some outer.0 = ap (λ g. kind_of g p) forest ∙ kind_of-take_out k f p h ∙ outer.1 in
      let may_stay : may_not_be_left (kind_of u.forest p) (kind_of f k) ≡ false = ap₂ may_not_be_left kept kind ∙ left_empty outer.0 may in
      let stays : goes_too (kind_of f k) u.forest p ≡ false =
      and_last (eqb (size_of u.forest p) 0) (is_some (parent_of u.forest p)) (may_not_be_left (kind_of u.forest p) (kind_of f k)) may_stay in
      let same : u ≡ v = was_same u v (sym (ap (λ b. cond b (removed p (ancestors f p) u) (Ok u)) stays) ∙ a.1.1) in
      ap (λ (x : Working). x.forest) (sym same) ∙ forest

-- ---- nothing is read in it

bare_said : (x : Fields) → is_of_kind kinds.Rule x ≡ true → text_of (Some x) ≡ []
unfolding is_of_kind fits_kind are_bare
bare_said (fields.Text text) e = absurd (grind (arith, e))
bare_said x e = refl

rule_said : (o : Option Label) → is_suited o ≡ true → option_map (λ (l : Label). l.kind) o ≡ Some kinds.Rule
    → text_of (option_map (λ (l : Label). l.fields) o) ≡ []
rule_said None suited kind = refl
rule_said (Some l) suited kind =
    let is : l.kind ≡ kinds.Rule = cc in bare_said l.fields (ap (λ k. is_of_kind k l.fields) (sym is) ∙ suited)

rule_leaf : is_element kinds.Rule ≡ false
unfolding is_element
rule_leaf = refl

reads_without : (f : Forest) (k : ℕ) (cs : List ℕ) → read_in f k ≡ [] → reads_in f (names_without k cs) ≡ reads_in f cs
reads_without f k [] none = refl
reads_without f k (c ∷ cs) none = elim (eqb_tells c k) [
  | inl own ↦
      ap (λ t. reads_in f (cond t (names_without k cs) (c ∷ names_without k cs))) own.0 ∙ reads_without f k cs none
      ∙ ap (λ t. t ++ reads_in f cs) (sym (ap (read_in f) own.1 ∙ none))
  | inr other ↦
      ap (λ t. reads_in f (cond t (names_without k cs) (c ∷ names_without k cs))) other.0
      ∙ ap (λ t. read_in f c ++ t) (reads_without f k cs none)
]

reads_each : (f g : Forest) (cs : List ℕ) → ((c : ℕ) → is_among c cs ≡ true → read_in g c ≡ read_in f c) → reads_in g cs ≡ reads_in f cs
reads_each f g [] each = refl
reads_each f g (c ∷ cs) each =
    ap₂ (λ a b. a ++ b) (each c (grind (arith, eqb_tells c c))) (reads_each f g cs (λ x among. each x (grind (arith, among))))

still_among : (k : ℕ) (cs : List ℕ) (c : ℕ) → is_among c (names_without k cs) ≡ true → is_among c cs ≡ true
still_among k [] c among = absurd (cc)
still_among k (x ∷ cs) c among = elim (eqb_tells x k) [
  | inl own ↦ grind (arith, still_among k cs c (ap (λ t. is_among c (cond t (names_without k cs) (x ∷ names_without k cs))) (sym own.0) ∙ among))
  | inr other ↦ elim (eqb_tells x c) [
    | inl here ↦ grind (arith, here)
    | inr far ↦ grind (arith, far, other, among, still_among k cs c)
  ]
]

-- where a node goes in which nothing is read, the same is read in each
pub read_without : (k : ℕ) (f : Forest) → IsForest f → read_in f k ≡ [] → (b : ℕ) → read_in (take_out k f) b ≡ read_in f b
read_without k f h none b =
    let g : Forest = take_out k f in
    reads_by f g (λ q. false) h (IsForest-take_out k f h) (λ b clear known. record {
      own = said_label f g b (label_of-take_out k f b h);
      below = ap (reads_in g) (children_of-take_out k f b h)
          ∙ reads_each f g (names_without k (children_of f b)) (λ c among.
          known c (parent_here f b c h (still_among k (children_of f b) c among)) refl)
          ∙ reads_without f k (children_of f b) none;
    }) b refl

pub rule_gone : (k : ℕ) (w v : Working) → IsSound w → IsSuited w.forest → kind_of w.forest k ≡ Some kinds.Rule → remove_step k w ≡ Ok v
    → IsRuleGone k w v
rule_gone k w v sound suited kind e =
    let f : Forest = w.forest in
    let g : Forest = take_out k f in
    let h : IsForest f = sound.ready.in_order in
    let forest : v.forest ≡ g = rule_out k w v sound kind e in
    let leaf : children_of f k ≡ [] = no_children f k h sound.held (ap (passes is_element) kind ∙ rule_leaf) in
    let none : read_in f k ≡ [] = read-leaf f k h leaf ∙ rule_said (label_of f k) (suited.each k) kind in
    record {
      children = λ q. ap (λ x. children_of x q) forest ∙ children_of-take_out k f q h;
      labels = λ q. ap (λ x. label_of x q) forest ∙ label_of-take_out k f q h;
      read = λ b. ap (λ x. read_in x b) forest ∙ read_without k f h none b;
    }
