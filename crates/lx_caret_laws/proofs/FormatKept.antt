-- The selection stays a range of its format where a node is added at a point.
use Rattle.lx_blocks.specs.Ranges.{caret_at, normal_at}
use Rattle.lx_caret.proofs.Fit.{after_tells}
use Rattle.lx_caret.specs.Paragraphs.{cut_open}
use Rattle.lx_caret.specs.Adding.{add_step, is_inside, kind_around, no_room, opened, put_by}
use Rattle.lx_caret_laws.proofs.Spliced.{text_few, text_of_normal}
use Rattle.lx_caret_laws.specs.Carets.{IsSound}
use Rattle.lx_draft.proofs.Covered.{answered}
use Rattle.lx_draft.specs.Beside.{before_at, behind_at, put_before_step, put_behind_step}
use Rattle.lx_draft.specs.Faults.{after, answer, over_counts, over_limits, put_fault, text_in}
use Rattle.lx_draft.specs.Steps.{made, new_step, node_placed, node_taken, put_step, take_points, take_step}
use Rattle.lx_draft.specs.Working.{Working}
use Rattle.lx_edit.specs.Conditions.{bad_offset}
use Rattle.lx_edit.specs.Edits.{moved_to_end, text_point}
use Rattle.lx_edit.specs.InTurn.{in_turn}
use Rattle.lx_edit.specs.Texts.{split_step, text_or_none}
use Rattle.lx_edit_laws.proofs.SplitLaws.{IsLeft, cut_up, left, no_offset}
use Rattle.lx_edit_laws.proofs.WrapSteps.{was_same}
use Rattle.lx_edit_laws.specs.Reading as told
use Rattle.lx_edit_laws.specs.Splits.{IsSplit}
use Rattle.lx_forest.specs.Lookups.{index_of, label_of, parent_of, size_of}
use Rattle.lx_links.specs.Faults.{detach_fault}
use Rattle.lx_node.specs.Limits.{last_u32}
use Rattle.lx_node.specs.Strings.{characters_of}
use Rattle.lx_node.specs.declared.cause.Cause.{Cause}
use Rattle.lx_node.specs.declared.cause.Point.{Point}
use Rattle.lx_node.specs.declared.cause.PointKind.TheVariants as point
use Rattle.lx_node.specs.declared.cause.PointKind.{PointKind}
use Rattle.lx_node.specs.declared.fields.Fields.{Fields}
use Rattle.lx_node.specs.declared.fields.TextFields.{TextFields}
use Rattle.lx_node.specs.declared.kind.Kind.{Kind}
use Rattle.lx_select.specs.Rules.{put_moves, take_moves}
use Rattle.lx_select.specs.Selection.{each_point}
use Rattle.lx_select.specs.declared.selection.Selection.TheVariants.{Range}
use Rattle.lx_select.specs.declared.selection.Selection.{Selection}
use Rattle.lx_text.specs.Texts.{text_length}
use Rattle.std.proofs.Common.{Bool, List, None, Ok, Option, Result, Some, [], ap, cond, eqb, false, refl, subst, sym, true, ℕ, ◌&&◌, ◌+◌, ◌∙◌, ◌∷◌, ◌≡◌, ◌≤◌}
use Rattle.std.specs.Option.{option_or}
use Rattle.std.specs.Prelude.{is_some}

-- a range of this format is selected
pub record InFormat (format : ℕ) (s : Selection) : Type 0 where
  pub anchor : Point
  pub focus : Point
  pub is : s ≡ Range anchor focus format

moved_in : (format : ℕ) (moved : Point → Point) (s : Selection) → InFormat format s → InFormat format (each_point moved s)
moved_in format moved s i = record { anchor = moved i.anchor; focus = moved i.focus; is = ap (each_point moved) i.is }

-- the caret is set
pub caret_set : (format : ℕ) (q : Point) (u v : Working) → InFormat format u.selection → ◌≡◌ {A = Result Working Cause} (Ok (caret_at q u)) (Ok v)
    → v.selection ≡ Range q q format
caret_set format q u v i e = sym (ap (λ (x : Working). x.selection) (was_same (caret_at q u) v e)) ∙ ap (each_point (λ p. q)) i.is

-- ---- the steps

module _ (format : ℕ) where
  put_kept : (k p index : ℕ) (w v : Working) → put_step k p index w ≡ Ok v → InFormat format w.selection → InFormat format v.selection
  unfolding put_step
  put_kept k p index w v e i =
      let told = answered (option_or (put_fault k p index w.forest) (over_counts w)) (node_placed k p index w) v e in
      subst (InFormat format) (ap (λ (x : Working). x.selection) told.1) (moved_in format (put_moves p index) w.selection i)

  pub new_kept : (kind : Kind) (x : Fields) (w v : Working) → new_step kind x w ≡ Ok v → InFormat format w.selection → InFormat format v.selection
  unfolding new_step
  new_kept kind x w v e i =
      let told = answered (over_limits (characters_of x) w) (made kind x w) v e in
      subst (InFormat format) (ap (λ (x : Working). x.selection) told.1) i

  put_before_kept : (k other : ℕ) (w v : Working) → put_before_step k other w ≡ Ok v → InFormat format w.selection → InFormat format v.selection
  unfolding put_before_step
  put_before_kept k other w v e i = by_place (parent_of w.forest other) (index_of w.forest other) e where
    by_place : (o at : Option ℕ) → before_at k other o at w ≡ Ok v → InFormat format v.selection
    by_place (Some p) (Some index) e = put_kept k p index w v e i
    by_place o at e = absurd (cc)

  pub put_behind_kept : (k other : ℕ) (w v : Working) → put_behind_step k other w ≡ Ok v → InFormat format w.selection → InFormat format v.selection
  unfolding put_behind_step
  put_behind_kept k other w v e i = by_place (parent_of w.forest other) (index_of w.forest other) e where
    by_place : (o at : Option ℕ) → behind_at k other o at w ≡ Ok v → InFormat format v.selection
    by_place (Some p) (Some index) e = put_kept k p (index + 1) w v e i
    by_place o at e = absurd (cc)

  put_by_kept : (k : ℕ) (p : Point) (kind : PointKind) (w v : Working) → put_by k p kind w ≡ Ok v → InFormat format w.selection
      → InFormat format v.selection
  put_by_kept k p point.Text w v e i = by_test (eqb p.offset 0) e where
    by_test : (b : Bool) → cond b (put_before_step k p.key w) (put_behind_step k p.key w) ≡ Ok v → InFormat format v.selection
    by_test true e = put_before_kept k p.key w v e i
    by_test false e = put_behind_kept k p.key w v e i
  put_by_kept k p point.Element w v e i = put_kept k p.key p.offset w v e i

  pub split_kept : (k at : ℕ) (t : TextFields) (w v : Working) → IsSound w → text_in (label_of w.forest k) ≡ Some t → split_step k (at ∷ []) w ≡ Ok v
      → InFormat format w.selection → InFormat format v.selection
  split_kept k at t w v sound here e i =
      let new : List ℕ = w.next_key ∷ [] in
      let few : text_length (told.text_at w.forest k) ≤ last_u32 =
      subst (λ s. text_length s ≤ last_u32) (sym (ap text_or_none here)) (text_few w k t sound here) in
      let is : IsSplit k (at ∷ []) (k ∷ new) w v = record { ready = sound.ready; split = e; pieces_are = refl; fits = few } in
      let a : IsLeft k (at ∷ []) new w v = left k (at ∷ []) (k ∷ new) w v is in
      subst (InFormat format) (sym a.points.selection) (moved_in format a.points.moved w.selection i)

  opened_kept : (p : Point) (w v : Working) → IsSound w → opened p w ≡ Ok v → InFormat format w.selection → InFormat format v.selection
  opened_kept p w v sound e i = by_test (is_inside w.forest p p.kind) (normal_at w.forest p.key) refl e where
    by_test : (b : Bool) (o : Option TextFields) → normal_at w.forest p.key ≡ o
        → cond (b && is_some o) (split_step p.key (p.offset ∷ []) w) (Ok w) ≡ Ok v → InFormat format v.selection
    by_test false o is e = subst (InFormat format) (ap (λ (x : Working). x.selection) (was_same w v e)) i
    by_test true None is e = subst (InFormat format) (ap (λ (x : Working). x.selection) (was_same w v e)) i
    by_test true (Some t) is e = split_kept p.key p.offset t w v sound (text_of_normal w.forest p.key t is) e i

  pub add_kept : (p : Point) (kind : Kind) (x : Fields) (w v : Working) → IsSound w → add_step p kind x w ≡ Ok v → InFormat format w.selection
      → InFormat format v.selection
  unfolding add_step
  add_kept p kind x w v sound e i = by_fault (no_room kind (kind_around w.forest p.key p.kind)) e where
    by_fault : (c : Option Cause) → after (answer c w) (λ u. after (opened p u)
        (λ split. after (new_step kind x split) (put_by split.next_key p p.kind))) ≡ Ok v → InFormat format v.selection
    by_fault (Some cause) e = absurd (cc)
    by_fault None e =
        let one = after_tells (opened p w) (λ split. after (new_step kind x split) (put_by split.next_key p p.kind)) v e in
        let two = after_tells (new_step kind x one.0) (put_by one.0.next_key p p.kind) v one.1.1 in
        put_by_kept one.0.next_key p p.kind two.0 v two.1.1
        (new_kept kind x one.0 two.0 two.1.0 (opened_kept p w one.0 sound one.1.0 i))

  -- ---- a block that is cut in two

  pub cut_kept : (k at : ℕ) (w v : Working) → IsSound w → cut_open (text_point k at) w ≡ Ok v → InFormat format w.selection
      → InFormat format v.selection
  cut_kept k at w v sound e i = by_inside (is_inside w.forest (text_point k at) point.Text) e where
    by_inside : (b : Bool) → cond b (split_step k (at ∷ []) w) (Ok w) ≡ Ok v → InFormat format v.selection
    by_inside false e = subst (InFormat format) (ap (λ (x : Working). x.selection) (was_same w v e)) i
    by_inside true e = by_text (text_in (label_of w.forest k)) refl where
      by_text : (o : Option TextFields) → text_in (label_of w.forest k) ≡ o → InFormat format v.selection
      by_text None none =
          let c = cut_up k (at ∷ []) w v e in
          absurd (no_offset at [] (ap (λ t. bad_offset 0 t (at ∷ [])) (sym (ap text_or_none none)) ∙ c.allowed))
      by_text (Some t) here = split_kept k at t w v sound here e i

  take_kept : (k : ℕ) (w v : Working) → take_step k w ≡ Ok v → InFormat format w.selection → InFormat format v.selection
  unfolding take_step
  take_kept k w v e i =
      let told = answered (option_or (detach_fault k w.forest) (over_counts w)) (node_taken k w) v e in
      subst (InFormat format) (ap (λ (x : Working). x.selection) told.1) (by_place (parent_of w.forest k) (index_of w.forest k)) where
        by_place : (o at : Option ℕ) → InFormat format (take_points o at w.selection)
        by_place None at = i
        by_place (Some p) None = i
        by_place (Some p) (Some index) = moved_in format (take_moves p index) w.selection i

  moved_kept : (parent k : ℕ) (w v : Working) → moved_to_end parent k w ≡ Ok v → InFormat format w.selection → InFormat format v.selection
  unfolding moved_to_end
  moved_kept parent k w v e i =
      let one = after_tells (take_step k w) (λ u. put_step k parent (size_of u.forest parent) u) v e in
      put_kept k parent (size_of one.0.forest parent) one.0 v one.1.1 (take_kept k w one.0 one.1.0 i)

  pub turns_kept : (parent : ℕ) (ks : List ℕ) (w v : Working) → in_turn (moved_to_end parent) ks w ≡ Ok v → InFormat format w.selection
      → InFormat format v.selection
  unfolding in_turn
  turns_kept parent [] w v e i = subst (InFormat format) (ap (λ (x : Working). x.selection) (was_same w v e)) i
  turns_kept parent (k ∷ ks) w v e i =
      let one = after_tells (moved_to_end parent k w) (in_turn (moved_to_end parent) ks) v e in
      turns_kept parent ks one.0 v one.1.1 (moved_kept parent k w one.0 one.1.0 i)
