-- The same of what formats texts, and of what selects all.
use Rattle.std.proofs.Common.{◌≡◌, ℕ, Bool, not, is_some, List, [], ◌∷◌, Option, Some, Result, Ok}
use Rattle.lx_node.specs.declared.fields.Fields.{Fields}
use Rattle.lx_node.specs.declared.fields.Fields.TheVariants as fields
use Rattle.lx_node.specs.declared.cause.Cause.{Cause}
use Rattle.lx_select.specs.Selection.{with_format}
use Rattle.lx_select.specs.declared.selection.Selection.TheVariants.{Range}
use Rattle.lx_forest.specs.Lookups.{fields_of}
use Rattle.lx_draft.specs.Working.{Working}
use Rattle.lx_draft.specs.Faults.{after}
use Rattle.lx_edit.specs.InTurn.{in_turn}
use Rattle.lx_edit.specs.Texts.{split_step}
use Rattle.lx_edit.proofs.Paths.{Leads, self, then, ok, if_, every}
use Rattle.lx_blocks.specs.Ranges.{range_of, start_of, end_of, normal_at}
use Rattle.lx_caret.specs.declared.pieces.Piece.{Piece}
use Rattle.lx_caret.specs.Formatting.{has_bit, switched, pieces, edges, isolate_step, isolated_key, Isolated, and_before, isolated, format_at, switched_in, switch_step, selection_format, switched_all, formatted, format_text_step}
use Rattle.lx_caret.specs.SelectAll.{first_leaf, last_leaf, start_at, end_at, select_all_step}
use Rattle.lx_blocks.proofs.Paths.{IsWay, stays, by_read, LeadsTo, then_to, ok_to, select_path, splits}

module _ {D : Working → Type 0} {R : Working → Working → Type 0} (way : IsWay D R) where
  -- ---- pieces by themselves

  pub isolate_path : (p : Piece) → Leads D R (isolate_step p)
  unfolding isolate_step
  isolate_path p w v r e = if_ way (is_some (normal_at w.forest p.key)) (split_step p.key (edges w.forest p)) w v r (splits way p.key (edges w.forest p)) e

  pub isolated_path : (ps : List Piece) → LeadsTo Isolated D R (λ a. a.draft) (isolated ps)
  unfolding isolated
  isolated_path [] w a r e = ok_to way {A = Isolated} (λ x. x.draft) w (record { draft = w; texts = [] }) a (self way w r) e
  isolated_path (p ∷ ps) w a r e =
      let key : ℕ = isolated_key p w in
      then_to way {A = Working} {B = Isolated} (λ u. u) (λ x. x.draft) w a (isolate_step p w) (λ u. after (isolated ps u) (and_before key))
      (λ u f. isolate_path p w u r f)
      (λ u s f. then_to way {A = Isolated} {B = Isolated} (λ x. x.draft) (λ x. x.draft) u a (isolated ps u) (and_before key) (λ x g. isolated_path ps u x s g)
      (λ x t g. ok_to way {A = Isolated} (λ y. y.draft) x.draft (record { draft = x.draft; texts = key ∷ x.texts }) a (self way x.draft t) g) f) e

  -- ---- the command

  pub switched_in_path : (on : Bool) (bit : ℕ) (found : Option Fields) (k : ℕ) → Leads D R (switched_in on bit found k)
  switched_in_path on bit (Some (fields.Text text)) k w v r e = way.set k (fields.Text (record text { format = switched on bit text.format })) w v r e
  switched_in_path on bit _ k w v r e = stays way w v r e

  pub switch_path : (on : Bool) (bit k : ℕ) → Leads D R (switch_step on bit k)
  unfolding switch_step
  switch_path on bit k w v r e = switched_in_path on bit (fields_of w.forest k) k w v r e

  -- the selection gets a format
  given : (format : ℕ) (w v : Working) → D w → ◌≡◌ {A = Result Working Cause} (Ok (selection_format format w)) (Ok v) → R w v
  given format w v r e = ok R w (selection_format format w) v (way.selected w (with_format format w.selection) r) e

  pub switched_all_path : (bit : ℕ) (ks : List ℕ) → Leads D R (switched_all bit ks)
  switched_all_path bit [] w v r e = stays way w v r e
  switched_all_path bit (k ∷ ks) w v r e =
      let on : Bool = not (has_bit bit (format_at w.forest k)) in
      then way w v (in_turn (switch_step on bit) (k ∷ ks) w) (λ u. Ok (selection_format (format_at u.forest k) u))
      (λ u f. every way (switch_step on bit) (k ∷ ks) (switch_path on bit) w u r f)
      (λ u c f. given (format_at u.forest k) u v (way.ready w u c) f) e

  pub formatted_path : (bit : ℕ) (ps : List Piece) (format : ℕ) → Leads D R (formatted bit ps format)
  formatted_path bit [] format w v r e = given (switched (not (has_bit bit format)) bit format) w v r e
  formatted_path bit (p ∷ ps) format w v r e =
      then_to way {A = Isolated} {B = Working} (λ x. x.draft) (λ x. x) w v (isolated (p ∷ ps) w) (λ made. switched_all bit made.texts made.draft)
      (λ a f. isolated_path (p ∷ ps) w a r f)
      (λ a s f. switched_all_path bit a.texts a.draft v s f) e

  pub format_text_path : (bit : ℕ) → Leads D R (format_text_step bit)
  unfolding format_text_step
  format_text_path bit w v d e =
      by_read way w v (range_of w) (λ r u. formatted bit (pieces w.forest (start_of w.forest r) (end_of w.forest r)) r.format u)
      (λ r f. formatted_path bit (pieces w.forest (start_of w.forest r) (end_of w.forest r)) r.format w v d f) e

  -- ---- all selected

  pub select_all_path : Leads D R select_all_step
  unfolding select_all_step
  select_all_path w v r e = select_path way (Range (start_at w.forest (first_leaf w.forest 0)) (end_at w.forest (last_leaf w.forest 0)) 0) w v r e
