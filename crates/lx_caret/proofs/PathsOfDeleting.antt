-- The same of what deletes a character or a word, and of what joins lines.
use Rattle.std.proofs.Common.{ℕ, ◌+◌, Bool, true, false, cond, ◌==◌, List, [], ◌∷◌, Option, None, Some, Result}
use Rattle.lx_node.specs.declared.kind.Kind.{Kind}
use Rattle.lx_node.specs.declared.kind.Kind.TheVariants.{Table, Rule}
use Rattle.lx_node.specs.declared.fields.TextFields.{TextFields}
use Rattle.lx_node.specs.declared.cause.Cause.{Cause}
use Rattle.lx_node.specs.declared.cause.Point.{Point}
use Rattle.lx_select.specs.Rules.{moved_to}
use Rattle.lx_forest.specs.Lookups.{kind_of}
use Rattle.lx_draft.specs.Working.{Working}
use Rattle.lx_draft.specs.Faults.{after}
use Rattle.lx_draft.specs.Steps.{take_step, put_step}
use Rattle.lx_edit.specs.Edits.{pointed, element_point, remove_step}
use Rattle.lx_edit.proofs.Paths.{Leads, then, from_, points, remove_path}
use Rattle.lx_blocks.specs.declared.ranges.Ranged.{Ranged}
use Rattle.lx_blocks.specs.Blocks.{block_of, leading}
use Rattle.lx_blocks.specs.Ranges.{range_of, is_collapsed, normal_at, characters_at}
use Rattle.lx_caret.specs.Removing.{removed_in, removed_empty}
use Rattle.lx_caret.specs.Deleting.{Reach, erased, erase_step, has_more, leaf_beside, edge, leaf_step, stop_before, stop_behind, moved_in, inline_place, line_joined, joined_with, back_to, join_back_step, met, on_to, join_step, leaf_or_line, deleted_in, delete_step, cluster_reach, word_reach, delete_character_step, delete_word_step}
use Rattle.lx_blocks.proofs.Paths.{IsWay, stays, either, chained, by_read}
use Rattle.lx_caret.proofs.PathsOfTexts.{removed_empty_path, removed_in_path}

module _ {D : Working → Type 0} {R : Working → Working → Type 0} (way : IsWay D R) where
  -- ---- in a text

  pub erased_path : (back : Bool) (reach : Reach) (k at : ℕ) (text : Option TextFields) → Leads D R (erased back reach k at text)
  erased_path back reach k at None w v r e = remove_path way k w v r e
  erased_path true reach k at (Some text) w v r e = way.splice k (reach text.text at) at [] w v r e
  erased_path false reach k at (Some text) w v r e = way.splice k at (reach text.text at) [] w v r e

  pub erase_path : (back : Bool) (reach : Reach) (k at : ℕ) → Leads D R (erase_step back reach k at)
  unfolding erase_step
  erase_path back reach k at w v r e = erased_path back reach k at (normal_at w.forest k) w v r e

  pub leaf_path : (back : Bool) (reach : Reach) (k : ℕ) → Leads D R (leaf_step back reach k)
  unfolding leaf_step
  leaf_path back reach k w v r e =
      let at : ℕ = edge back (characters_at w.forest k) in
      either way (characters_at w.forest k == 0) (remove_step k) (erase_step back reach k at) (remove_path way k) (erase_path back reach k at) w v r e

  -- ---- joining lines

  pub moved_in_path : (p index : ℕ) (ks : List ℕ) → Leads D R (moved_in p index ks)
  unfolding moved_in
  moved_in_path p index [] w v r e = stays way w v r e
  moved_in_path p index (k ∷ ks) w v r e =
      chained way (take_step k) (λ u x. after (put_step k p index x) (moved_in p (index + 1) ks)) (way.take k)
      (λ u. chained way (put_step k p index) (λ x. moved_in p (index + 1) ks) (λ x y s f. way.put k p index x y tt s f) (λ x. moved_in_path p (index + 1) ks)) w
      v r e

  pub line_joined_path : (line block : ℕ) → Leads D R (line_joined line block)
  unfolding line_joined
  line_joined_path line block w v r e =
      let index : ℕ = inline_place w.forest line block in
      let there : Point → Point = moved_to block (element_point line index) in
      then way w v (moved_in line index (leading w.forest block) w) (λ u. removed_empty block (pointed there u))
      (λ u f. moved_in_path line index (leading w.forest block) w u r f)
      (λ u c f. from_ way u (pointed there u) v (removed_empty block) (points way there u (way.ready w u c)) (removed_empty_path way block) f) e

  pub joined_with_path : (kind : Option Kind) (found block : ℕ) → Leads D R (joined_with kind found block)
  joined_with_path (Some Table) found block w v r e = stays way w v r e
  joined_with_path (Some Rule) found block w v r e = remove_path way found w v r e
  joined_with_path _ found block w v r e = line_joined_path found block w v r e

  pub back_to_path : (found : Option ℕ) (block : ℕ) → Leads D R (back_to found block)
  back_to_path None block w v r e = stays way w v r e
  back_to_path (Some found) block w v r e = joined_with_path (kind_of w.forest found) found block w v r e

  pub join_back_path : (block : ℕ) → Leads D R (join_back_step block)
  unfolding join_back_step
  join_back_path block w v r e = back_to_path (stop_before w.forest block) block w v r e

  pub met_path : (kind : Option Kind) (found : ℕ) → Leads D R (met kind found)
  met_path (Some Table) found w v r e = stays way w v r e
  met_path (Some Rule) found w v r e = remove_path way found w v r e
  met_path _ found w v r e = join_back_path found w v r e

  pub on_to_path : (found : Option ℕ) → Leads D R (on_to found)
  on_to_path None w v r e = stays way w v r e
  on_to_path (Some found) w v r e = met_path (kind_of w.forest found) found w v r e

  pub join_path : (back : Bool) (block : ℕ) → Leads D R (join_step back block)
  unfolding join_step
  join_path true block w v r e = join_back_path block w v r e
  join_path false block w v r e = on_to_path (stop_behind w.forest block) w v r e

  -- ---- the commands

  pub leaf_or_line_path : (back : Bool) (reach : Reach) (block : ℕ) (leaf : Option ℕ) → Leads D R (leaf_or_line back reach block leaf)
  leaf_or_line_path back reach block None w v r e = join_path back block w v r e
  leaf_or_line_path back reach block (Some leaf) w v r e = leaf_path back reach leaf w v r e

  pub deleted_in_path : (back : Bool) (reach : Reach) (p : Point) (block : Option ℕ) → Leads D R (deleted_in back reach p block)
  deleted_in_path back reach p None w v r e = stays way w v r e
  deleted_in_path back reach p (Some block) w v r e =
      let leaf : Option ℕ = leaf_beside back w.forest block p in
      either way (has_more back w.forest p p.kind) (erase_step back reach p.key p.offset) (leaf_or_line back reach block leaf)
      (erase_path back reach p.key p.offset) (leaf_or_line_path back reach block leaf) w v r e

  pub delete_path : (back : Bool) (reach : Reach) → Leads D R (delete_step back reach)
  unfolding delete_step
  delete_path back reach w v d e =
      let deleted : Ranged → Working → Result Working Cause = λ r. deleted_in back reach r.anchor (block_of w.forest r.anchor.key) in
      by_read way w v (range_of w) (λ r u. cond (is_collapsed r) (deleted r u) (removed_in r u))
      (λ r f. either way (is_collapsed r) (deleted r) (removed_in r) (deleted_in_path back reach r.anchor (block_of w.forest r.anchor.key))
      (removed_in_path way r) w v d f) e

  pub delete_character_path : (back : Bool) → Leads D R (delete_character_step back)
  unfolding delete_character_step
  delete_character_path back w v r e = delete_path back (cluster_reach back) w v r e

  pub delete_word_path : (back : Bool) → Leads D R (delete_word_step back)
  unfolding delete_word_step
  delete_word_path back w v r e = delete_path back (word_reach back) w v r e
