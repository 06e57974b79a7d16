-- Typing over what is selected in a text: it is removed, and then one types at the caret.
use Rattle.lx_blocks.specs.Blocks.{frame_of, same_node}
use Rattle.lx_blocks.specs.Ranges.{at_anchor, caret_at, end_of, if_normal, is_fit, lies, normal_at, range_in, range_of, start_of}
use Rattle.lx_blocks.specs.declared.ranges.Ranged.{Ranged}
use Rattle.lx_caret.proofs.Cleared.{remove_text_fits}
use Rattle.lx_caret.proofs.Fit.{Fit, after_tells}
use Rattle.lx_caret.proofs.Short.{written-allowed}
use Rattle.lx_caret.specs.Inserting.{insert_text_step, typed}
use Rattle.lx_caret.specs.Lying.{EachPoint}
use Rattle.lx_caret.specs.Removing.{remove_between, remove_text_step, removed_in}
use Rattle.lx_caret_laws.proofs.AtCaret.{collapsed, ranged}
use Rattle.lx_caret_laws.proofs.EditedIn.{edited_around}
use Rattle.lx_caret_laws.proofs.Gone.{caret_sound, cut_gone, removed_cut}
use Rattle.lx_caret_laws.proofs.Spliced.{text_of_normal, was_spliced}
use Rattle.lx_caret_laws.proofs.TypedIn.{is_read}
use Rattle.lx_caret_laws.specs.Carets.{OnlyReads}
use Rattle.lx_caret_laws.specs.Deleting.{IsGone, IsSelectedIn}
use Rattle.lx_caret_laws.specs.Typing.{IsTyped, IsTypedOver}
use Rattle.lx_draft.proofs.Covered.{answered}
use Rattle.lx_draft.proofs.Put.{both_none}
use Rattle.lx_draft.specs.Faults.{after, over_limits, splice_fault, text_in}
use Rattle.lx_draft.specs.Steps.{differ, fields_written, label_with_piece, marked_if, splice_points, splice_step, wrote}
use Rattle.lx_draft.specs.Working.{Working}
use Rattle.lx_edit.specs.Edits.{text_point}
use Rattle.lx_edit.specs.Texts.{has_no_text}
use Rattle.lx_forest.specs.Forest.{Forest}
use Rattle.lx_forest.specs.Lookups.{fields_of, label_of}
use Rattle.lx_node.specs.Limits.{most_written}
use Rattle.lx_node.specs.OfKind.{is_normal}
use Rattle.lx_node.specs.declared.cause.Cause.TheVariants.{NoSelection}
use Rattle.lx_node.specs.declared.cause.Cause.{Cause}
use Rattle.lx_node.specs.declared.cause.Point.{Point}
use Rattle.lx_node.specs.declared.cause.SelectionKind.TheVariants as selected
use Rattle.lx_node.specs.declared.fields.Fields.{Fields}
use Rattle.lx_node.specs.declared.fields.TextFields.{TextFields}
use Rattle.lx_select.specs.declared.selection.Selection.TheVariants.{Range}
use Rattle.lx_text.proofs.Told.{front_at, rest_at}
use Rattle.lx_text.specs.Texts.{front_of, rest_of}
use Rattle.std.proofs.Common.{Bool, Err, List, None, Ok, Option, Result, Some, [], ap, ap₂, arith, cond, false, length, refl, subst, sym, true, ℕ, ◌&&◌, ◌++◌, ◌+◌, ◌∙◌, ◌≡◌, ◌≤◌}
use Rattle.std.proofs.lemmas.Bool.Decides.{eqb_tells}
use Rattle.std.specs.Option.{option_or}

-- ---- the draft between

marked_written : (b : Bool) (f : Forest) (k more : ℕ) (w : Working) → (marked_if b f k (wrote more w)).written ≡ w.written + more
marked_written true f k more w = refl
marked_written false f k more w = refl

-- a splice that isn't refused writes no more than may be written
splice_allowed : (k from to : ℕ) (new : List ℕ) (w v : Working) → splice_step k from to new w ≡ Ok v → v.written ≤ most_written
unfolding splice_step
splice_allowed k from to new w v e =
    let x : Fields = label_with_piece (label_of w.forest k) from to new in
    let told = answered (option_or (splice_fault k from to w.forest) (over_limits (length new) w))
    (fields_written k x (length new) (splice_points k from to new) w) v e in
    let none = both_none (splice_fault k from to w.forest) (over_limits (length new) w) told.0 in
    let is : v.written ≡ w.written + length new =
    ap (λ (u : Working). u.written) (sym told.1) ∙ marked_written (differ (fields_of w.forest k) x) w.forest k (length new) w in
    omega (arith, is, written-allowed (length new) w none.1)

pub normal_mode : (o : Option TextFields) (t : TextFields) → if_normal o ≡ Some t → is_normal t.mode ≡ true
normal_mode None t e = absurd (cc)
normal_mode (Some u) t e = by_test (is_normal u.mode) refl e where
  by_test : (b : Bool) → is_normal u.mode ≡ b → cond b (Some u) None ≡ Some t → is_normal t.mode ≡ true
  by_test true is e = let same : u ≡ t = cc in ap (λ (x : TextFields). is_normal x.mode) (sym same) ∙ is
  by_test false is e = absurd (cc)

-- the text is still a normal one, with other characters
normal_still : (f g : Forest) (k : ℕ) (t : TextFields) (now : List ℕ) → normal_at f k ≡ Some t → OnlyReads k now f g
    → normal_at g k ≡ Some (record t { text = now })
normal_still f g k t now normal only =
    let u : TextFields = record t { text = now } in
    let label = only.text t (text_of_normal f k t normal) in
    ap (λ l. if_normal (text_in l)) label ∙ ap (λ b. cond b (Some u) None) (normal_mode (text_in (label_of f k)) t normal)

same_self : (o : Option ℕ) → same_node o o ≡ true
same_self None = refl
same_self (Some a) = grind (arith, eqb_tells a a)

-- at a caret in the tree nothing is removed
pub removes_nothing : (p : Point) (format : ℕ) (u : Working) → u.selection ≡ Range p p format → lies u.forest p ≡ true → remove_text_step u ≡ Ok u
unfolding remove_text_step range_of
removes_nothing p format u caret place =
    let r : Ranged = ranged p p format in
    let fits : is_fit u.forest p p ≡ true = ap₂ ◌&&◌ (ap₂ ◌&&◌ place place) (same_self (frame_of u.forest p.key)) in
    let range : range_in u.forest u.selection ≡ Ok r =
    ap (range_in u.forest) caret ∙ ap (λ b. cond b (Ok r) (Err (NoSelection selected.Range))) fits in
    ap (λ x. after x (λ r. removed_in r u)) range
    ∙ ap (λ b. cond b (Ok u) (remove_between (start_of u.forest r) (end_of u.forest r) u)) (collapsed p format)

-- ---- one change of a text after another

reads_then : (f g j : Forest) (k : ℕ) (t : TextFields) (one two : List ℕ) → text_in (label_of f k) ≡ Some t → OnlyReads k one f g
    → OnlyReads k two g j
    → OnlyReads k two f j
reads_then f g j k t one two here a b = record {
  text = λ u is.
      let middle : text_in (label_of g k) ≡ Some (record u { text = one }) = ap text_in (a.text u is) in
      b.text (record u { text = one }) middle;
  parent = b.parent ∙ a.parent;
  children = b.children ∙ a.children;
  others = λ q other. b.others q other ∙ a.others q other;
}

-- ---- typed over

pub typed_over : (new : List ℕ) (k from to : ℕ) (t : TextFields) (w v : Working) → IsSelectedIn k from to t.format t w
    → insert_text_step new w ≡ Ok v → IsTypedOver new k from to t.format t.text w v
unfolding insert_text_step
typed_over new k from to t w v is e =
    let next : Working → Result Working Cause = λ u. cond (has_no_text new) (Ok u) (at_anchor (typed new) u) in
    let first = after_tells (remove_text_step w) next v e in
    let u : Working = first.0 in
    let c = removed_cut k from to t.format t w u is first.1.0 in
    let gone : IsGone k from to t.format t.text w u = cut_gone k from to t.format t w u is c in
    let here : text_in (label_of w.forest k) ≡ Some t = text_of_normal w.forest k t is.normal in
    let s = was_spliced k from to [] t (caret_at (text_point k from) w) u (caret_sound k from w is.sound).short here c.cut in
    let fit : Fit u = remove_text_fits w u is.sound.ready is.sound.held is.sound.short first.1.0 in
    let left : List ℕ = front_of from t.text ++ rest_of to t.text in
    let place : lies u.forest (text_point k from) ≡ true = (subst (EachPoint (λ p. lies u.forest p ≡ true)) gone.caret fit.lying).0 in
    let again : after (remove_text_step u) next ≡ Ok v =
    ap (λ x. after x next) (removes_nothing (text_point k from) t.format u gone.caret place) ∙ first.1.1 in
    let in_it : IsTyped new k from (record t { text = left }) u v = record {
      sound = record {
        ready = fit.ready;
        held = fit.held;
        short = fit.short;
        written = splice_allowed k from to [] (caret_at (text_point k from) w) u c.cut;
      };
      normal = normal_still w.forest u.forest k t left is.normal gone.out.read;
      caret = gone.caret;
      done = again;
    } in
    let into = (is_read new k from (record t { text = left }) u v in_it).into in
    let front : front_of from left ≡ front_of from t.text = front_at from (front_of from t.text) (rest_of to t.text) left refl gone.out.length in
    let rest : rest_of from left ≡ rest_of to t.text = rest_at from (front_of from t.text) (rest_of to t.text) left refl gone.out.length in
    let second : OnlyReads k (front_of from t.text ++ new ++ rest_of to t.text) u.forest v.forest =
    subst (λ now. OnlyReads k now u.forest v.forest) (ap₂ (λ a b. a ++ new ++ b) front rest) into.read in
    let read = reads_then w.forest u.forest v.forest k t left (front_of from t.text ++ new ++ rest_of to t.text) here gone.out.read second in
    record {
      read = read;
      around = edited_around w.forest v.forest k from to new t is.sound.ready.in_order into.ordered is.sound.held here s.piece read;
      caret = into.caret;
    }
