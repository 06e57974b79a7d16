-- What a broken paragraph leaves to a list is an item of the draft that is left.
use Rattle.std.proofs.Common.{◌≡◌, ◌∙◌, ℕ, Bool, true, false, cond, eqb, ◌&&◌, Option, None, Some, Result, Ok, Err, refl, sym, ap}
use Rattle.std.specs.Prelude.{IfOk, IfSome}
use Rattle.lx_node.specs.Kinds.{is_item}
use Rattle.lx_node.specs.declared.cause.Cause.{Cause}
use Rattle.lx_node.specs.declared.cause.Fault.{Fault}
use Rattle.lx_node.specs.declared.cause.Point.{Point}
use Rattle.lx_select.specs.declared.selection.Selection.{Selection}
use Rattle.lx_select.specs.declared.selection.Selection.TheVariants.{Range}
use Rattle.lx_forest.specs.Forest.{Forest}
use Rattle.lx_forest.specs.Lookups.{size_of}
use Rattle.lx_draft.specs.Working.{Working}
use Rattle.lx_draft.specs.Faults.{after}
use Rattle.lx_edit.specs.Standing.{Gives}
use Rattle.lx_blocks.specs.Blocks.{is_at, block_of}
use Rattle.lx_blocks.specs.Ranges.{at_anchor_of, at_anchor}
use Rattle.lx_caret.specs.Removing.{remove_text_step}
use Rattle.lx_caret.specs.Paragraphs.{if_empty_item, block_in, empty_item, paragraph_at, Broken, insert_paragraph_step}
use Rattle.lx_caret.proofs.Fit.{after_tells}

empty_is_item : (f : Forest) (block : Option ℕ) (k : ℕ) → if_empty_item f block ≡ Some k → is_at is_item f k ≡ true
empty_is_item f None k e = absurd (cc)
empty_is_item f (Some b) k e = by_test (is_at is_item f b) (eqb (size_of f b) 0) refl e where
  by_test : (item none : Bool) → is_at is_item f b ≡ item → cond (item && none) (Some b) None ≡ Some k → is_at is_item f k ≡ true
  by_test true true is e = let same : b ≡ k = cc in ap (is_at is_item f) (sym same) ∙ is
  by_test true false is e = absurd (cc)
  by_test false none is e = absurd (cc)

left_alone : (item block : Option ℕ) (k : ℕ) (p : Point) (w v : Working) → item ≡ Some k → paragraph_at item block p w ≡ Ok v → w ≡ v
left_alone (Some item) block k p w v is e = cc
left_alone None block k p w v is e = absurd (cc)

at_range : (s : Selection) (step : Point → ℕ → Working → Result Working Cause) (w v : Working)
    → ((p : Point) (format : ℕ) → step p format w ≡ Ok v → w ≡ v) → at_anchor_of s step w ≡ Ok v → w ≡ v
at_range (Range a b format) step w v each e = each a format e
at_range other step w v each e = absurd (cc)

abbrev step_at : Working → Point → ℕ → Working → Result Working Cause
step_at u p format w = paragraph_at (empty_item u) (block_of u.forest p.key) p w

item_left : (w : Working) (b : Broken) (k : ℕ) → insert_paragraph_step w ≡ Ok b → b.item ≡ Some k → is_at is_item b.draft.forest k ≡ true
unfolding insert_paragraph_step
item_left w b k e is =
    let one = after_tells (remove_text_step w) (λ u. after (at_anchor (step_at u) u) (λ x. Ok (record { draft = x; item = empty_item u }))) b e in
    let u : Working = one.0 in
    let two = after_tells (at_anchor (step_at u) u) (λ x. Ok (record { draft = x; item = empty_item u })) b one.1.1 in
    let last : ◌≡◌ {A = Result Broken Cause} (Ok (record { draft = two.0; item = empty_item u })) (Ok b) = two.1.1 in
    let draft : two.0 ≡ b.draft = cc in
    let item : empty_item u ≡ b.item = cc in
    let found : empty_item u ≡ Some k = item ∙ is in
    let same : u ≡ two.0 =
    at_range u.selection (step_at u) u two.0 (λ p format so. left_alone (empty_item u) (block_of u.forest p.key) k p u two.0 found so) two.1.0 in
    ap (λ x. is_at is_item x.forest k) (sym (same ∙ draft)) ∙ empty_is_item u.forest (block_in u.forest u.selection) k found

-- so is what the command answers
pub items_left : (w v : Working) (r : Result (Option ℕ) Fault)
    → Gives (insert_paragraph_step w) (λ item. record { draft = v; item = item }) v r
    → IfOk r (λ item. IfSome item (λ k. is_at is_item v.forest k ≡ true))
items_left w v (Ok None) e = tt
items_left w v (Ok (Some k)) e = item_left w (record { draft = v; item = Some k }) k e refl
items_left w v (Err fault) e = tt
