-- What is covered is given back by what is written for it.
use Rattle.std.proofs.Common.{◌≡◌, ◌∙◌, ℕ, List, [], Option, None, Some, Result, Ok, Err, sym, ap, subst}
use Rattle.std.specs.Prelude.{IfOk}
use Rattle.serde_json.specs.declared.value.Value.{Value}
use Rattle.serde_json.specs.Data.{Data, no_items}
use Rattle.serde_json.specs.View.{view, items_view}
use Rattle.lx_trees.specs.Trees.{nil, tree, joined}
use Rattle.lx_node.specs.OfKind.{IsOfKind}
use Rattle.lx_node.specs.declared.fields.Fields.{Fields}
use Rattle.lx_node.specs.declared.fields.TextFields.{TextFields}
use Rattle.lx_node.specs.declared.node.Node.{Node}
use Rattle.lx_forest.specs.Forest.{Forest, Label}
use Rattle.lx_draft.specs.Faults.{text_fields}
use Rattle.lx_blocks.specs.Ranges.{if_normal}
use Rattle.lx_fields.specs.Documents.{document_fields}
use Rattle.lx_fields.specs.Exporting.{node_data}
use Rattle.lx_json.specs.Exporting.{trees_data}
use Rattle.lx_json.specs.GivenBack.{AreGivenBack}
use Rattle.lx_clip.specs.Covers.{Extent, cut_to, part_cover, element_cover, label_for}
use Rattle.lx_clip.proofs.Cut.{left_of}

-- ---- trees

pub joined_given : (s t : Forest) → AreGivenBack s → AreGivenBack t → AreGivenBack (joined s t)
joined_given nil t given more = more
joined_given (tree l below rest) t given more = (given.0, given.1, joined_given rest t given.2 more)

-- no tree
pub none_given : (f : Forest) → trees_data f ≡ no_items → AreGivenBack f
unfolding trees_data
none_given nil e = tt
none_given (tree l below rest) e = absurd (cc)

-- a node, by what is written for it
given_node : (l : Label) (below : Forest) (d : Data) → IsOfKind l.kind l.fields → d ≡ node_data l.kind l.fields (trees_data below)
    → document_fields l.kind d ≡ Ok l.fields → AreGivenBack below → AreGivenBack (tree l below nil)
given_node l below d of is back given = (record { of_kind = of; fields = ap (document_fields l.kind) (sym is) ∙ back }, given, tt)

-- ---- a text

given_piece : (o : Option TextFields) (from to : ℕ) (l : Label) (now : Fields) (d : Data) → now ≡ left_of l.fields o from to → IsOfKind l.kind now
    → d ≡ node_data l.kind now no_items → document_fields l.kind d ≡ Ok now → AreGivenBack (tree (cut_to o from to l) nil nil)
unfolding trees_data
given_piece None from to l now d left of is back =
    given_node l nil d (subst (IsOfKind l.kind) left of) (is ∙ ap (λ x. node_data l.kind x no_items) left) (back ∙ ap (λ x. Ok x) left) tt
given_piece (Some text) from to l now d left of is back =
    given_node (cut_to (Some text) from to l) nil d (subst (IsOfKind l.kind) left of) (is ∙ ap (λ x. node_data l.kind x no_items) left)
    (back ∙ ap (λ x. Ok x) left) tt

pub piece_given : {E : Type 0} (r : Result Value E) (from to : ℕ) (n : Node) (o : Option TextFields) (now : Fields) (below : List Value)
    → o ≡ if_normal (text_fields n.kind n.fields) → now ≡ left_of n.fields o from to → below ≡ [] → IsOfKind n.kind now
    → IfOk r (λ v. view v ≡ node_data n.kind now (items_view below)) → IfOk r (λ v. document_fields n.kind (view v) ≡ Ok now)
    → IfOk r (λ v. (key : ℕ) → AreGivenBack (part_cover from to (label_for key n)))
piece_given (Err e) from to n o now below is left none of written back = tt
piece_given (Ok v) from to n o now below is left none of written back = λ key.
    subst (λ x. AreGivenBack (tree (cut_to x from to (label_for key n)) nil nil)) is
    (given_piece o from to (label_for key n) now (view v) left of (written ∙ ap (λ vs. node_data n.kind now (items_view vs)) none) back)

-- ---- what calls answer

pub as_given : {E : Type 0} (r : Result (Option Value) E) (c d : Forest) → c ≡ d → IfOk r (λ v. AreGivenBack d) → IfOk r (λ v. AreGivenBack c)
as_given (Ok v) c d same given = subst AreGivenBack (sym same) given
as_given (Err e) c d same given = tt

pub as_element_given : {E : Type 0} (r : Result (Option Value) E) (e : Extent) (l : Label) (vs : List Value) (below : Forest)
    → items_view vs ≡ trees_data below → AreGivenBack below
    → IfOk r (λ v. (f : Forest) → items_view vs ≡ trees_data f → AreGivenBack f → AreGivenBack (element_cover e l f))
    → IfOk r (λ v. AreGivenBack (element_cover e l below))
as_element_given (Ok v) e l vs below same given all = all below same given
as_element_given (Err x) e l vs below same given all = tt

-- what is the same is given back too
pub given_as : {A E : Type 0} (r : Result A E) (c d : Forest) → c ≡ d → IfOk r (λ a. AreGivenBack c) → IfOk r (λ a. AreGivenBack d)
given_as (Ok a) c d same given = subst AreGivenBack same given
given_as (Err e) c d same given = tt
