-- The commands that make lists and remove them, line by line.
use Rattle.std.proofs.Common.{◌≡◌, ◌∙◌, ℕ, Bool, true, false, cond, List, [], ◌∷◌, Result, Ok, Err, refl, sym, ap, arith}
use Rattle.std.proofs.lemmas.Bool.Decides.{eqb_tells}
use Rattle.lx_trees.specs.Siblings.{is_among}
use Rattle.lx_node.specs.Kinds.{is_text_block}
use Rattle.lx_node.specs.declared.cause.Point.{Point}
use Rattle.lx_node.specs.declared.kind.ListType.{ListType}
use Rattle.lx_node.specs.declared.cause.Cause.{Cause}
use Rattle.lx_forest.specs.Forest.{Forest}
use Rattle.lx_forest.specs.Lookups.{is_attached}
use Rattle.lx_links.proofs.Detached.{is_among-filter}
use Rattle.lx_draft.specs.Working.{Working}
use Rattle.lx_draft.specs.Covering.{KindsStay}
use Rattle.lx_draft.specs.Faults.{after}
use Rattle.lx_edit.specs.InTurn.{in_turn}
use Rattle.lx_edit.proofs.Climbed.{first_part}
use Rattle.lx_blocks.specs.declared.ranges.Ranged.{Ranged}
use Rattle.lx_blocks.specs.Blocks.{passes, is_at, block_of}
use Rattle.lx_blocks.specs.Lines.{is_line_beside, up_to, behind_block, from_block, selected_lines}
use Rattle.lx_blocks.specs.Ranges.{range_of, start_of, end_of}
use Rattle.lx_list.specs.Lines.{step_if_there, each_line}
use Rattle.lx_list.specs.Listing.{listed, make_list_step}
use Rattle.lx_list.specs.Dissolving.{dissolved_around, remove_list_step}
use Rattle.lx_list_laws.specs.Reading.{InlinesFirst, IsSoundDraft, ListsComeAndGo}
use Rattle.lx_list_laws.proofs.ReadSound.{stays_then, stays_selected}
use Rattle.lx_edit_laws.proofs.Reading.{kind_known}
use Rattle.lx_list.proofs.Itemless.{there_at}
use Rattle.lx_list_laws.proofs.ReadListing.{Keeps, keeps_then, keeps_same, keeps_either, keeps_listed}
use Rattle.lx_list_laws.proofs.ReadDissolved.{KeepsFirst, first_same, block_apart, keeps_dissolved_around}

-- ---- made

block_stays : (f g : Forest) (q : ℕ) → KindsStay f g → is_at is_text_block f q ≡ true → is_at is_text_block g q ≡ true
block_stays f g q stay block =
    let kind = kind_known f q (there_at is_text_block f q block) in ap (passes is_text_block) (stay.each q kind.0 kind.1 ∙ sym kind.1) ∙ block

-- the lines are text blocks
keeps_lines : (type : ListType) (ks : List ℕ) (w v : Working) → IsSoundDraft w → ((q : ℕ) → is_among q ks ≡ true → is_at is_text_block w.forest q ≡ true)
    → in_turn (step_if_there (listed type)) ks w ≡ Ok v → Keeps w v
unfolding in_turn
keeps_lines type [] w v s block e = keeps_same w v s e
keeps_lines type (k ∷ ks) w v s block e =
    let a = first_part (step_if_there (listed type) k w) (in_turn (step_if_there (listed type)) ks) v e in
    let one =
    keeps_either (is_attached w.forest k) (listed type k w) (Ok w) w a.0
    (λ is e. keeps_listed type k w a.0 s (block_apart w.forest k (block k (grind (arith, eqb_tells k k)))) e) (λ is e. keeps_same w a.0 s e) a.1 in
    let rest = keeps_lines type ks a.0 v one.stays.sound (λ q among. block_stays w.forest a.0.forest q one.stays.kinds (block q (grind (arith, among)))) a.2 in
    keeps_then w a.0 v one rest

-- what is selected are lines, and so text blocks
selected_blocks : (f : Forest) (r : Ranged) (q : ℕ) → is_among q (selected_lines f r) ≡ true → is_at is_text_block f q ≡ true
unfolding selected_lines
selected_blocks f r q among =
    let start : Point = start_of f r in
    let end : Point = end_of f r in
    let keys : List ℕ = up_to (behind_block f end (block_of f end.key)) (from_block f start (block_of f start.key)) in
    grind (arith, is_among-filter (is_line_beside f start.key) q keys, among)

keeps_made : (type : ListType) (w v : Working) → IsSoundDraft w → make_list_step type w ≡ Ok v → Keeps w v
unfolding make_list_step each_line
keeps_made type w v s e = by_range (range_of w) e where
  by_range : (r : Result Ranged Cause) → after r (λ range. in_turn (step_if_there (listed type)) (selected_lines w.forest range) w) ≡ Ok v → Keeps w v
  by_range (Ok range) e = keeps_lines type (selected_lines w.forest range) w v s (λ q among. selected_blocks w.forest range q among) e
  by_range (Err cause) e = absurd (cc)

-- ---- removed

removed_there : (k : ℕ) (w v : Working) → IsSoundDraft w → InlinesFirst w.forest → (there : Bool) → cond there (dissolved_around k w) (Ok w) ≡ Ok v → KeepsFirst w v
removed_there k w v s inlines true e = keeps_dissolved_around k w v s inlines e
removed_there k w v s inlines false e = first_same w v s inlines e

removed_lines : (ks : List ℕ) (w v : Working) → IsSoundDraft w → InlinesFirst w.forest → in_turn (step_if_there dissolved_around) ks w ≡ Ok v → KeepsFirst w v
unfolding in_turn
removed_lines [] w v s inlines e = first_same w v s inlines e
removed_lines (k ∷ ks) w v s inlines e =
    let a = first_part (step_if_there dissolved_around k w) (in_turn (step_if_there dissolved_around) ks) v e in
    let one = removed_there k w a.0 s inlines (is_attached w.forest k) a.1 in
    let rest = removed_lines ks a.0 v one.stays.sound one.first a.2 in
    record { stays = stays_then w a.0 v one.stays rest.stays; first = rest.first; read = rest.read ∙ one.read }

keeps_removed : (w v : Working) → IsSoundDraft w → InlinesFirst w.forest → remove_list_step w ≡ Ok v → KeepsFirst w v
unfolding remove_list_step each_line
keeps_removed w v s inlines e = by_range (range_of w) e where
  by_range : (r : Result Ranged Cause) → after r (λ range. in_turn (step_if_there dissolved_around) (selected_lines w.forest range) w) ≡ Ok v → KeepsFirst w v
  by_range (Ok range) e = removed_lines (selected_lines w.forest range) w v s inlines e
  by_range (Err cause) e = absurd (cc)

-- ---- both

pub told-lists : ListsComeAndGo
told-lists = record {
  made = λ type w v s e. (keeps_made type w v s e).read;
  removed = λ w v s inlines e. (keeps_removed w v s inlines e).read;
  made_first = λ type w v s inlines e. (keeps_made type w v s e).first inlines;
  removed_first = λ w v s inlines e. (keeps_removed w v s inlines e).first;
  again = λ type w v u selection s inlines e f.
      let made = keeps_made type w v s e in
      let there : Working = record v { selection = selection } in
      let sound = (stays_selected v there made.stays.sound refl refl).sound in
      (keeps_removed there u sound (made.first inlines) f).read ∙ made.read;
}
