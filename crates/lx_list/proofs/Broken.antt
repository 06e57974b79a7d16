-- The item that an inserted paragraph leaves to its list is in the tree.
use Rattle.std.proofs.Common.{◌≡◌, ◌∙◌, ℕ, Bool, true, false, cond, eqb, ◌&&◌, Option, None, Some, Result, Ok, refl, sym, ap}
use Rattle.lx_node.specs.Kinds.{is_item}
use Rattle.lx_node.specs.declared.cause.Cause.{Cause}
use Rattle.lx_node.specs.declared.cause.Point.{Point}
use Rattle.lx_select.specs.declared.selection.Selection.{Selection}
use Rattle.lx_select.specs.declared.selection.Selection.TheVariants.{Range}
use Rattle.lx_forest.specs.Forest.{Forest}
use Rattle.lx_forest.specs.Lookups.{size_of, is_attached, IsForest}
use Rattle.lx_draft.specs.Working.{Working}
use Rattle.lx_draft.specs.Selecting.{lies_in}
use Rattle.lx_draft.specs.Faults.{after}
use Rattle.lx_blocks.specs.Blocks.{is_at, block_of}
use Rattle.lx_blocks.specs.Ranges.{lies, at_anchor_of, at_anchor}
use Rattle.lx_caret.specs.Lying.{EachPoint}
use Rattle.lx_caret.specs.Removing.{remove_text_step}
use Rattle.lx_caret.specs.Paragraphs.{if_empty_item, block_in, empty_item, paragraph_at, Broken, insert_paragraph_step}
use Rattle.lx_caret.proofs.Lies.{both}
use Rattle.lx_caret.proofs.Fit.{after_tells}
use Rattle.lx_caret.proofs.Breaks.{block_place}
use Rattle.lx_list.specs.Laws.{EmptyItemsAreThere}

block_there : (f : Forest) (q k : ℕ) (block : Option ℕ) → IsForest f → is_attached f q ≡ true → block_of f q ≡ block → if_empty_item f block ≡ Some k
    → is_attached f k ≡ true
block_there f q k None h place is e = absurd (cc)
block_there f q k (Some b) h place is e = by_test (is_at is_item f b && eqb (size_of f b) 0) e where
  by_test : (t : Bool) → cond t (Some b) None ≡ Some k → is_attached f k ≡ true
  by_test true e = let same : b ≡ k = cc in ap (is_attached f) (sym same) ∙ block_place f q b h place is
  by_test false e = absurd (cc)

item_there : (f : Forest) (s : Selection) (k : ℕ) → IsForest f → EachPoint (λ p. lies f p ≡ true) s → if_empty_item f (block_in f s) ≡ Some k
    → is_attached f k ≡ true
item_there f (Range a b format) k h lying e =
    block_there f a.key k (block_of f a.key) h (both (is_attached f a.key) (lies_in f a) lying.0).0 refl e
item_there f s k h lying e = absurd (cc)

left_alone : (item block : Option ℕ) (k : ℕ) (p : Point) (w v : Working) → item ≡ Some k → paragraph_at item block p w ≡ Ok v → w ≡ v
left_alone (Some item) block k p w v is e = cc
left_alone None block k p w v is e = absurd (cc)

at_range : (s : Selection) (step : Point → ℕ → Working → Result Working Cause) (w v : Working)
    → ((p : Point) (format : ℕ) → step p format w ≡ Ok v → w ≡ v) → at_anchor_of s step w ≡ Ok v → w ≡ v
at_range (Range a b format) step w v each e = each a format e
at_range other step w v each e = absurd (cc)

abbrev step_at : Working → Point → ℕ → Working → Result Working Cause
step_at u p format w = paragraph_at (empty_item u) (block_of u.forest p.key) p w

pub empty_items : EmptyItemsAreThere
unfolding insert_paragraph_step
empty_items w b k h lying e is =
    let one = after_tells (remove_text_step w) (λ u. after (at_anchor (step_at u) u) (λ x. Ok (record { draft = x; item = empty_item u }))) b e in
    let u : Working = one.0 in
    let two = after_tells (at_anchor (step_at u) u) (λ x. Ok (record { draft = x; item = empty_item u })) b one.1.1 in
    let last : ◌≡◌ {A = Result Broken Cause} (Ok (record { draft = two.0; item = empty_item u })) (Ok b) = two.1.1 in
    let draft : two.0 ≡ b.draft = cc in
    let item : empty_item u ≡ b.item = cc in
    let found : empty_item u ≡ Some k = item ∙ is in
    let same : u ≡ b.draft =
    at_range u.selection (step_at u) u two.0 (λ p format so. left_alone (empty_item u) (block_of u.forest p.key) k p u two.0 found so) two.1.0 ∙ draft in
    item_there b.draft.forest b.draft.selection k h lying (ap empty_item (sym same) ∙ found)
