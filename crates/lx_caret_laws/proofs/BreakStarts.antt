-- The start of a new block, in which nothing is read before the caret.
use Rattle.lx_blocks.specs.Blocks.{is_at}
use Rattle.lx_caret.specs.Paragraphs.{item_like, next_of_kind, start_of_first}
use Rattle.lx_caret_laws.proofs.InPlace.{below_parent, keys-level, place-here, place-level}
use Rattle.lx_caret_laws.specs.Reading.{place_along, place_in, reads_in, said}
use Rattle.lx_draft.proofs.Gaps.{parent_here}
use Rattle.lx_draft.specs.Selecting.{text_of}
use Rattle.lx_edit.specs.Edits.{element_point, text_point}
use Rattle.lx_edit_laws.proofs.Reading.{spread}
use Rattle.lx_forest.proofs.Lookups.{has-child, parent_of-self}
use Rattle.lx_forest.proofs.Within.{is_within-self}
use Rattle.lx_forest.specs.Forest.{Forest, Label}
use Rattle.lx_forest.specs.Lookups.{IsForest, children_of, has, is_within, keys_within, parent_of}
use Rattle.lx_node.specs.Kinds.{has_characters}
use Rattle.lx_node.specs.declared.cause.Point.{Point}
use Rattle.lx_node.specs.declared.fields.Fields.TheVariants as fields
use Rattle.lx_node.specs.declared.fields.Fields.{Fields}
use Rattle.lx_node.specs.declared.kind.Kind.TheVariants as kinds
use Rattle.lx_node.specs.declared.kind.Kind.{Kind}
use Rattle.lx_text.proofs.Places.{length-none}
use Rattle.lx_text.specs.Texts.{text_length}
use Rattle.lx_trees.specs.Siblings.{is_among}
use Rattle.std.proofs.Common.{Bool, List, None, Option, Some, [], ap, arith, cond, eqb, false, refl, true, ℕ, ◌++◌, ◌+◌, ◌∙◌, ◌∷◌, ◌≡◌, ◌≢◌}
use Rattle.std.proofs.lemmas.Bool.Decides.{eqb_tells}
use Rattle.std.specs.Prelude.{take}

-- ---- places at the start of a node

pub at_itself : (f : Forest) (k at : ℕ) → IsForest f → has k f ≡ true → place_in f k (text_point k at) ≡ at
at_itself f k at h there =
    let own : eqb k k ≡ true = grind (arith, eqb_tells k k) in
    ap (place_along f (text_point k at)) (keys-level f k h there)
    ∙ ap (λ t. cond t at (text_length (said f k) + place_along f (text_point k at) (spread (keys_within f) (children_of f k)))) own

pub at_element : (f : Forest) (k at : ℕ) → IsForest f → has k f ≡ true
    → place_in f k (element_point k at) ≡ text_length (said f k ++ reads_in f (take at (children_of f k)))
at_element f k at h there =
    let own : eqb k k ≡ true = grind (arith, eqb_tells k k) in
    let p : Point = element_point k at in
    ap (place_along f p) (keys-level f k h there)
    ∙ ap (λ t. cond t (text_length (said f k ++ reads_in f (take at (children_of f k))))
    (text_length (said f k) + place_along f p (spread (keys_within f) (children_of f k)))) own

-- the start of a node that says nothing itself
pub record IsStart (f : Forest) (k : ℕ) (p : Point) : Type 0 where
  pub inside : is_within f k p.key ≡ true
  pub place : place_in f k p ≡ 0

on_it : (f : Forest) (k : ℕ) → IsForest f → has k f ≡ true → said f k ≡ [] → IsStart f k (element_point k 0)
on_it f k h there silent = record {
  inside = is_within-self f k ∙ there;
  place = at_element f k 0 h there ∙ ap (λ t. text_length (t ++ [])) silent ∙ length-none;
}

in_first : (f : Forest) (k c : ℕ) (cs : List ℕ) → IsForest f → has k f ≡ true → said f k ≡ [] → children_of f k ≡ c ∷ cs
    → IsStart f k (text_point c 0)
in_first f k c cs h there silent are =
    let p : Point = text_point c 0 in
    let up : parent_of f c ≡ Some k = parent_here f k c h (ap (is_among c) are ∙ grind (arith, eqb_tells c c)) in
    let apart : c ≢ k = λ e. absurd (grind (arith, e, up, parent_of-self f c h, eqb_tells c c)) in
    let so : has c f ≡ true = has-child f c k up in
    let first : place_along f p (spread (keys_within f) (children_of f k)) ≡ 0 =
    ap (λ xs. place_along f p (spread (keys_within f) xs)) are
    ∙ place-here f p c (spread (keys_within f) cs) (is_within-self f c ∙ so) ∙ at_itself f c 0 h so in
    let none : text_length (said f k) ≡ 0 = ap text_length silent ∙ length-none in
    record { inside = below_parent f c k h up; place = omega (arith, place-level f p k h there apart, first, none) }

pub starts : (f : Forest) (k : ℕ) (cs : List ℕ) → IsForest f → has k f ≡ true → said f k ≡ [] → children_of f k ≡ cs
    → IsStart f k (start_of_first f k cs)
starts f k [] h there silent are = on_it f k h there silent
starts f k (c ∷ cs) h there silent are = by_test (is_at has_characters f c) where
  by_test : (b : Bool) → IsStart f k (cond b (text_point c 0) (element_point k 0))
  by_test true = in_first f k c cs h there silent are
  by_test false = on_it f k h there silent

-- ---- the new block says nothing where the old one says nothing

silent_item : (o : Option Fields) → text_of (Some (item_like o)) ≡ []
silent_item None = refl
silent_item (Some (fields.Element element)) = refl
silent_item (Some x) = refl

pub silent_next : (f : Forest) (l : Label) (moved : List ℕ) (kind : Kind) → text_of (Some l.fields) ≡ []
    → text_of (Some (next_of_kind f l moved kind).fields) ≡ []
silent_next f l [] (kinds.Heading level) e = refl
silent_next f l [] kinds.Quote e = refl
silent_next f l [] kinds.Item e = silent_item (Some l.fields)
silent_next f l [] kind e = e
silent_next f l (k ∷ ks) kinds.Quote e = refl
silent_next f l (k ∷ ks) kinds.Item e = silent_item (Some l.fields)
silent_next f l (k ∷ ks) kind e = e
