-- Texts that are formatted leave a selection in the tree.
use Rattle.std.proofs.Common.{◌≡◌, ℕ, Bool, not, List, [], ◌∷◌, Option, Some, Result, Ok, subst}
use Rattle.std.specs.Prelude.{is_some}
use Rattle.lx_node.specs.declared.fields.Fields.{Fields}
use Rattle.lx_node.specs.declared.fields.Fields.TheVariants as fields
use Rattle.lx_node.specs.declared.cause.Cause.{Cause}
use Rattle.lx_node.specs.declared.cause.Point.{Point}
use Rattle.lx_select.specs.declared.selection.Selection.{Selection}
use Rattle.lx_select.specs.declared.selection.Selection.TheVariants.{Nothing, Range, Nodes, Cells}
use Rattle.lx_select.specs.Selection.{with_format}
use Rattle.lx_forest.specs.Lookups.{fields_of}
use Rattle.lx_draft.specs.Working.{Working}
use Rattle.lx_draft.specs.Faults.{after}
use Rattle.lx_edit.specs.InTurn.{in_turn}
use Rattle.lx_edit.specs.Texts.{split_step}
use Rattle.lx_blocks.specs.Ranges.{range_of, start_of, end_of, normal_at}
use Rattle.lx_caret.specs.Lying.{EachPoint, LeavesLying}
use Rattle.lx_caret.specs.declared.pieces.Piece.{Piece}
use Rattle.lx_caret.specs.Formatting.{edges, isolate_step, isolated_key, Isolated, and_before, isolated, has_bit, switched, switched_in, switch_step, format_at, selection_format, switched_all, pieces, formatted, format_text_step}
use Rattle.lx_caret.proofs.Fit.{after_tells, Fit, Stays, Staying, stays_self, stays_ok, stays_after, stays_if, stays_set}
use Rattle.lx_caret.proofs.Splits.{stays_split}
use Rattle.lx_caret.proofs.Cleared.{range_lies, fit_of}

-- a step for each of a list
pub stays_each : {A : Type 0} (step : A → Working → Result Working Cause) (list : List A) → ((a : A) → Staying (step a)) → Staying (in_turn step list)
unfolding in_turn
stays_each step [] each w v fit e = stays_ok w w v (stays_self w fit) e
stays_each step (a ∷ rest) each w v fit e =
    stays_after w v (step a w) (in_turn step rest) (λ u so. each a w u fit so) (λ u so kept f. stays_each step rest each u v kept.fit f) e

-- ---- the format

each_formatted : (P : Point → Type 0) (format : ℕ) (s : Selection) → EachPoint P s → EachPoint P (with_format format s)
each_formatted P format (Range a b old) e = e
each_formatted P format Nothing e = tt
each_formatted P format (Nodes keys) e = tt
each_formatted P format (Cells t a b) e = tt

format_fits : (format : ℕ) (w v : Working) → Fit w → ◌≡◌ {A = Result Working Cause} (Ok (selection_format format w)) (Ok v) → Fit v
format_fits format w v fit e =
    let is : selection_format format w ≡ v = cc in
    let now : Fit (selection_format format w) = record {
      ready = record { in_order = fit.ready.in_order; free = fit.ready.free };
      held = fit.held;
      short = fit.short;
      lying = each_formatted _ format w.selection fit.lying;
    } in
    subst Fit is now

-- ---- pieces

stays_isolate : (p : Piece) → Staying (isolate_step p)
unfolding isolate_step
stays_isolate p w v fit e =
    stays_if (is_some (normal_at w.forest p.key)) (split_step p.key (edges w.forest p)) w v fit (λ a b f g. stays_split p.key (edges w.forest p) a b f g) e

isolated_fits : (ps : List Piece) (w : Working) (made : Isolated) → Fit w → isolated ps w ≡ Ok made → Fit made.draft
unfolding isolated
isolated_fits [] w made fit e = let is : w ≡ made.draft = cc in subst Fit is fit
isolated_fits (p ∷ ps) w made fit e =
    let first = after_tells (isolate_step p w) (λ v. after (isolated ps v) (and_before (isolated_key p w))) made e in
    let second = after_tells (isolated ps first.0) (and_before (isolated_key p w)) made first.1.1 in
    let last : ◌≡◌ {A = Result Isolated Cause} (and_before (isolated_key p w) second.0) (Ok made) = second.1.1 in
    let is : second.0.draft ≡ made.draft = cc in
    subst Fit is (isolated_fits ps first.0 second.0 (stays_isolate p w first.0 fit first.1.0).fit second.1.0)

-- ---- switched

stays_switched : (on : Bool) (bit : ℕ) (x : Option Fields) (k : ℕ) (w v : Working) → Fit w → switched_in on bit x k w ≡ Ok v → Stays w v
stays_switched on bit (Some (fields.Text text)) k w v fit e = stays_set k (record text { format = switched on bit text.format }) w v fit e
stays_switched on bit x k w v fit e = stays_ok w w v (stays_self w fit) e

stays_switch : (on : Bool) (bit k : ℕ) → Staying (switch_step on bit k)
unfolding switch_step
stays_switch on bit k w v fit e = stays_switched on bit (fields_of w.forest k) k w v fit e

switched_all_fits : (bit : ℕ) (ks : List ℕ) (w v : Working) → Fit w → switched_all bit ks w ≡ Ok v → Fit v
switched_all_fits bit [] w v fit e = let is : w ≡ v = cc in subst Fit is fit
switched_all_fits bit (k ∷ ks) w v fit e =
    let on : Bool = not (has_bit bit (format_at w.forest k)) in
    let first = after_tells (in_turn (switch_step on bit) (k ∷ ks) w) (λ u. Ok (selection_format (format_at u.forest k) u)) v e in
    format_fits (format_at first.0.forest k) first.0 v (stays_each (switch_step on bit) (k ∷ ks) (stays_switch on bit) w first.0 fit first.1.0).fit first.1.1

formatted_fits : (bit : ℕ) (ps : List Piece) (format : ℕ) (w v : Working) → Fit w → formatted bit ps format w ≡ Ok v → Fit v
formatted_fits bit [] format w v fit e = format_fits (switched (not (has_bit bit format)) bit format) w v fit e
formatted_fits bit (p ∷ ps) format w v fit e =
    let first = after_tells (isolated (p ∷ ps) w) (λ made. switched_all bit made.texts made.draft) v e in
    switched_all_fits bit first.0.texts first.0.draft v (isolated_fits (p ∷ ps) w first.0 fit first.1.0) first.1.1

pub lies-format_text : (bit : ℕ) → LeavesLying (format_text_step bit)
unfolding format_text_step
lies-format_text bit w v ready held short e =
    let first = after_tells (range_of w) (λ r. formatted bit (pieces w.forest (start_of w.forest r) (end_of w.forest r)) r.format w) v e in
    let is = range_lies w first.0 first.1.0 in
    (formatted_fits bit (pieces w.forest (start_of w.forest first.0) (end_of w.forest first.0)) first.0.format w v (fit_of w first.0 ready held short is)
    first.1.1).lying
