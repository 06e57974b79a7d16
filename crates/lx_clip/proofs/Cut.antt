-- The cover of a text: what is written for a piece of it, and when there is none.
use Rattle.std.proofs.Common.{◌≡◌, ◌∙◌, ◌≤◌, ◌⊎◌, inl, inr, ℕ, ◌&&◌, Bool, true, false, cond, List, [], Option, None, Some, Result, Ok, Err, refl, sym, ap, subst, arith}
use Rattle.std.specs.Prelude.{IfOk, nat_lt}
use Rattle.std.proofs.lemmas.Bool.Decides.{nat_tests}
use Rattle.serde_json.specs.declared.value.Value.{Value}
use Rattle.serde_json.specs.Data.{Items, no_items, item}
use Rattle.serde_json.specs.View.{view, items_view}
use Rattle.lx_trees.specs.Trees.{nil, tree}
use Rattle.lx_node.specs.OfKind.{IsOfKind, is_of_kind, fits_kind, is_text_of, are_text_fields, is_normal}
use Rattle.lx_node.specs.Kinds.{is_possible}
use Rattle.lx_node.specs.declared.kind.Kind.{Kind}
use Rattle.lx_node.specs.declared.kind.Kind.TheVariants.{Text}
use Rattle.lx_node.specs.declared.fields.Fields.{Fields}
use Rattle.lx_node.specs.declared.fields.Fields.TheVariants as fields
use Rattle.lx_node.specs.declared.fields.TextFields.{TextFields}
use Rattle.lx_node.specs.declared.node.Node.{Node}
use Rattle.lx_text.specs.Texts.{slice_of}
use Rattle.lx_forest.specs.Forest.{Label}
use Rattle.lx_draft.specs.Faults.{text_fields}
use Rattle.lx_draft.specs.Selecting.{length_told}
use Rattle.lx_draft.specs.Steps.{text_replaced}
use Rattle.lx_blocks.specs.Ranges.{if_normal}
use Rattle.lx_fields.specs.Exporting.{node_data}
use Rattle.lx_json.specs.Exporting.{trees_data}
use Rattle.lx_clip.specs.Covers.{Extent, from_in, to_in, is_met, is_covered_text, cut_to, part_cover, text_cover, label_for}

-- another text is all that changes
pub piece_suits : (kind : Kind) (f : Fields) (text : TextFields) (piece : List ℕ) → IsOfKind kind f → if_normal (text_fields kind f) ≡ Some text
    → IsOfKind kind (text_replaced text piece)
unfolding is_of_kind fits_kind is_text_of are_text_fields is_possible
piece_suits Text (fields.Text old) text piece suits is = by_mode (is_normal old.mode) is where
  by_mode : (b : Bool) → cond b (Some old) None ≡ Some text → IsOfKind Text (text_replaced text piece)
  by_mode true same = subst (λ t. IsOfKind Text (text_replaced t piece)) (let h : old ≡ text = cc in h) suits
  by_mode false same = absurd (cc)
piece_suits kind f text piece suits is = absurd (cc)

-- ---- what is written for a piece

-- the fields that are left of a node: another text where it is a normal one
abbrev pub left_of : Fields → Option TextFields → ℕ → ℕ → Fields
left_of old None from to = old
left_of old (Some text) from to = text_replaced text (slice_of from to text.text)

piece_data : (o : Option TextFields) (from to : ℕ) (l : Label) (ds : Items)
    → node_data (cut_to o from to l).kind (cut_to o from to l).fields ds ≡ node_data l.kind (left_of l.fields o from to) ds
piece_data None from to l ds = refl
piece_data (Some text) from to l ds = refl

pub piece_written : {E : Type 0} (r : Result Value E) (from to : ℕ) (n : Node) (o : Option TextFields) (now : Fields) (below : List Value)
    → o ≡ if_normal (text_fields n.kind n.fields) → now ≡ left_of n.fields o from to → below ≡ []
    → IfOk r (λ v. view v ≡ node_data n.kind now (items_view below))
    → IfOk r (λ v. (key : ℕ) → trees_data (part_cover from to (label_for key n)) ≡ item (view v) no_items)
unfolding trees_data
piece_written (Err e) from to n o now below is left none written = tt
piece_written (Ok v) from to n o now below is left none written = λ key.
    ap (λ (x : Option TextFields). trees_data (tree (cut_to x from to (label_for key n)) nil nil)) (sym is)
    ∙ ap (λ d. item d no_items)
    (piece_data o from to (label_for key n) no_items ∙ ap (λ x. node_data n.kind x no_items) (sym left)
    ∙ ap (λ vs. node_data n.kind now (items_view vs)) (sym none) ∙ sym written)

-- ---- when there is none

no_part : (from to : ℕ) → to ≤ from → nat_lt from to ≡ false
no_part from to past = grind (arith, nat_tests)

second_false : (a b : Bool) → b ≡ false → (a && b) ≡ false
second_false true b off = off
second_false false b off = refl

pub uncovered : (e : Extent) (text : TextFields) (l : Label) (met : Bool) (from to : ℕ) → met ≡ is_met e l.key → from ≡ from_in e l.key
    → to ≡ to_in e l.key (length_told text.text) → ((met ≡ true) × (to ≤ from)) ⊎ (met ≡ false)
    → trees_data (text_cover e text l) ≡ no_items
unfolding trees_data
uncovered e text l met from to is start end out =
    let length : ℕ = length_told text.text in
    let part : nat_lt (from_in e l.key) (to_in e l.key length) ≡ nat_lt from to = rw (start, end) refl in
    let none : is_covered_text e l.key length ≡ false =
    ap (λ b. b && nat_lt (from_in e l.key) (to_in e l.key length)) (sym is)
    ∙ ap (λ b. met && b) part
    ∙ elim out [
      | inl h ↦ second_false met (nat_lt from to) (no_part from to h.1)
      | inr h ↦ ap (λ b. b && nat_lt from to) h
    ] in
    ap (λ b. trees_data (cond b (part_cover (from_in e l.key) (to_in e l.key length) l) nil)) none
