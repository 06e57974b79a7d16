-- Each step of a draft is covered by what it marks.
use Rattle.std.proofs.Common.{◌≡◌, ◌∙◌, ℕ, ◌+◌, ◌≤◌, Bool, true, false, cond, ltb, List, [], ◌∷◌, length, Option, None, Some, refl, sym, ap, subst, arith, inl, inr, ◌⊎◌}
use Rattle.std.specs.Prelude.{slice_get}
use Rattle.std.specs.Option.{option_or}
use Rattle.std.proofs.lemmas.Bool.Decides.{eqb_tells}
use Rattle.lx_node.specs.Strings.{characters_of}
use Rattle.lx_node.specs.declared.kind.Kind.{Kind}
use Rattle.lx_node.specs.declared.fields.Fields.{Fields}
use Rattle.lx_node.specs.declared.cause.Cause.{Cause}
use Rattle.lx_select.specs.declared.selection.Selection.{Selection}
use Rattle.lx_forest.specs.Forest.{Forest, Label}
use Rattle.lx_forest.specs.Lookups.{has, count, label_of, kind_of, fields_of, children_of, IsForest}
use Rattle.lx_forest.specs.Edits.{with_new, with_fields, take_out, put_in}
use Rattle.lx_forest.proofs.Edits.{count-with_new, count-with_fields, count-take_out, count-put_in}
use Rattle.lx_forest.proofs.Order.{IsForest-with_new, IsForest-with_fields, IsForest-take_out, IsForest-put_in}
use Rattle.lx_forest.proofs.Lookups.{kind_of-with_new, kind_of-with_fields, kind_of-take_out, kind_of-put_in}
use Rattle.lx_draft.proofs.Touched.{is_some-kind_of}
use Rattle.lx_links.specs.Faults.{unknown, wrong_fields, set_fault, not_below, detach_fault}
use Rattle.lx_draft.specs.Working.{Working}
use Rattle.lx_draft.specs.Marking.{near, mark_nodes, marked_in}
use Rattle.lx_draft.specs.Selecting.{select_fault}
use Rattle.lx_draft.specs.Faults.{over_counts, over_limits, put_fault, label_fault, splice_fault}
use Rattle.lx_draft.specs.Steps.{counted_up, count_step, edited, wrote, made, new_step, differ, marked_if, fields_written, set_points, set_step, label_with_piece, splice_points, splice_step, node_taken, take_step, node_placed, put_step, mark_step, mark_uncounted_step, select_step}
use Rattle.lx_draft.specs.Covering.{KindsStay, IsReady, AreCovered, IsCovering}
use Rattle.lx_draft.specs.Laws.{DraftsAreCovered}
use Rattle.lx_draft.proofs.Put.{both_none, can_put}
use Rattle.lx_draft.proofs.Covered.{IsTold, noted_up, covered, same_keys, kinds_at, covered-same, covered-self, covered-then, covered-answer}
use Rattle.lx_draft.proofs.CoveredEdits.{told_new, told_set, told_equal, told_take, told_put, index_place}

known : (f : Forest) (k : ℕ) → unknown f k ≡ None → has k f ≡ true
known f k e = grind (arith, e)

known_first : (f : Forest) (k : ℕ) (rest : Option Cause) → option_or (unknown f k) rest ≡ None → has k f ≡ true
known_first f k rest e = known f k ((both_none (unknown f k) rest e).0)

-- the same keys are free
free_still : (w : Working) (g : Forest) (q : ℕ) → IsReady w → w.next_key ≤ q → count q g ≡ count q w.forest → has q g ≡ false
free_still w g q r e same = ap (λ n. ltb 0 n) same ∙ r.free q e

-- ---- the forest stays

pub covered-pointed : (w : Working) (selection : Selection) → IsReady w → AreCovered w (record w { selection = selection })
covered-pointed w selection r = covered-same w (record w { selection = selection }) r refl refl refl refl

pub covered-count : IsCovering count_step
unfolding count_step
covered-count w v r e = covered-answer w v (counted_up w) (over_counts w) e (λ none. covered-same w (counted_up w) r refl refl refl refl)

pub covered-select : (selection : Selection) → IsCovering (select_step selection)
unfolding select_step
covered-select selection w v r e =
    covered-answer w v (record w { selection = selection }) (select_fault selection w.forest) e (λ none. covered-pointed w selection r)

-- ---- mark

told_mark : (k : ℕ) (f : Forest) → IsForest f → IsTold f f f (k ∷ [])
told_mark k f h = record {
  seen = λ q. inl (refl, refl);
  above = λ m up. noted_up f (k ∷ []) m h (λ q p was over. inl (up q p was over));
}

covered-marked : (w u : Working) (k : ℕ) → IsReady w → u.forest ≡ w.forest → u.next_key ≡ w.next_key → u.marks ≡ w.marks → u.fresh ≡ w.fresh
    → AreCovered w (marked_in w.forest (k ∷ []) u)
covered-marked w u k r forest next marks fresh =
    covered w (marked_in w.forest (k ∷ []) u) w.forest (k ∷ []) r.in_order
    (subst (λ g. IsTold w.forest g w.forest (k ∷ [])) (sym forest) (told_mark k w.forest r.in_order)) (kinds_at w.forest u.forest forest)
    (kinds_at w.forest u.forest forest)
    (ap (λ m. mark_nodes w.forest (k ∷ []) m) marks) (ap (λ m. mark_nodes w.forest (k ∷ []) m) fresh) (record {
      in_order = subst IsForest (sym forest) r.in_order;
      free = λ q e. ap (has q) forest ∙ r.free q (subst (λ n. n ≤ q) next e);
    })
    (same_keys w (marked_in w.forest (k ∷ []) u) next (λ q. ap (has q) forest))

pub covered-mark : (k : ℕ) → IsCovering (mark_step k)
unfolding mark_step
covered-mark k w v r e =
    covered-answer w v (marked_in w.forest (k ∷ []) (edited w)) (option_or (unknown w.forest k) (over_counts w)) e
    (λ none. covered-marked w (edited w) k r refl refl refl refl)

pub covered-mark_uncounted : (k : ℕ) → IsCovering (mark_uncounted_step k)
unfolding mark_uncounted_step
covered-mark_uncounted k w v r e =
    covered-answer w v (marked_in w.forest (k ∷ []) w) (unknown w.forest k) e (λ none. covered-marked w w k r refl refl refl refl)

-- ---- new

new_free : (w : Working) (l : Label) (q : ℕ) → IsReady w → l.key ≡ w.next_key → w.next_key + 1 ≤ q → has q (with_new l w.forest) ≡ false
new_free w l q r own e =
    ap (λ n. ltb 0 n) (count-with_new q l w.forest) ∙ grind (arith, own, e, r.free q (omega (arith, e)), eqb_tells l.key q)

kinds_new : (l : Label) (f : Forest) → IsForest f → has l.key f ≡ false → KindsStay f (with_new l f)
kinds_new l f h free = record {
  each = λ q kind e. kind_of-with_new l f q h free ∙ elim (eqb_tells q l.key) [
    | inl own ↦ absurd (grind (arith, own.0, own.1, free, e, is_some-kind_of f q))
    | inr other ↦ ap (λ b. cond b (Some l.kind) (kind_of f q)) other.0 ∙ e
  ];
}

new_keys : (l : Label) (w : Working) (q : ℕ) → l.key ≡ w.next_key → has q (with_new l w.forest) ≡ true → (has q w.forest ≡ true) ⊎ (w.next_key ≤ q)
new_keys l w q own e =
    elim (eqb_tells l.key q) [
      | inl same ↦ inr (omega (arith, own, same.1))
      | inr other ↦ inl (grind (arith, e, other.0, count-with_new q l w.forest))
    ]

covered-made : (kind : Kind) (fields : Fields) (w : Working) → IsReady w → AreCovered w (made kind fields w)
covered-made kind fields w r =
    let l : Label = record { key = w.next_key; kind = kind; fields = fields } in
    let free : has l.key w.forest ≡ false = r.free w.next_key (omega arith) in
    covered w (made kind fields w) (with_new l w.forest) (w.next_key ∷ []) (IsForest-with_new l w.forest r.in_order free) (told_new l w.forest r.in_order free)
    (kinds_new l w.forest r.in_order free) (kinds_at (with_new l w.forest) (with_new l w.forest) refl) refl refl (record {
      in_order = IsForest-with_new l w.forest r.in_order free;
      free = λ q e. new_free w l q r refl e;
    })
    (record { next = omega arith; each = λ q e. new_keys l w q refl e })

pub covered-new : (kind : Kind) (fields : Fields) → IsCovering (new_step kind fields)
unfolding new_step
covered-new kind fields w v r e =
    covered-answer w v (made kind fields w) (over_limits (characters_of fields) w) e (λ none. covered-made kind fields w r)

-- ---- set and splice

set_ready : (k : ℕ) (fields : Fields) (w v : Working) → IsReady w → v.forest ≡ with_fields k fields w.forest → v.next_key ≡ w.next_key → IsReady v
set_ready k fields w v r forest next = record {
  in_order = subst IsForest (sym forest) (IsForest-with_fields k fields w.forest r.in_order);
  free = λ q e. ap (has q) forest ∙ free_still w (with_fields k fields w.forest) q r (subst (λ n. n ≤ q) next e) (count-with_fields q k fields w.forest);
}

kinds_set : (k : ℕ) (fields : Fields) (f : Forest) → KindsStay f (with_fields k fields f)
kinds_set k fields f = record { each = λ q kind e. kind_of-with_fields k fields f q ∙ e }

covered-refielded_if : (differs : Bool) (k : ℕ) (fields : Fields) (more : ℕ) (selection : Selection) (w : Working) → IsReady w → has k w.forest ≡ true
    → differ (fields_of w.forest k) fields ≡ differs
    → AreCovered w (record (marked_if differs w.forest k (wrote more w)) { forest = with_fields k fields w.forest; selection = selection })
covered-refielded_if true k fields more selection w r there e =
    let v : Working = record (marked_in w.forest (k ∷ []) (wrote more w)) { forest = with_fields k fields w.forest; selection = selection } in
    covered w v w.forest (k ∷ []) r.in_order (told_set k fields w.forest r.in_order there) (kinds_set k fields w.forest) (kinds_set k fields w.forest) refl refl
    (set_ready k fields w v r refl refl) (same_keys w v refl (λ q. ap (λ n. ltb 0 n) (count-with_fields q k fields w.forest)))
covered-refielded_if false k fields more selection w r there e =
    let v : Working = record (wrote more w) { forest = with_fields k fields w.forest; selection = selection } in
    covered w v w.forest [] r.in_order (told_equal k fields w.forest e) (kinds_set k fields w.forest) (kinds_set k fields w.forest) refl refl
    (set_ready k fields w v r refl refl) (same_keys w v refl (λ q. ap (λ n. ltb 0 n) (count-with_fields q k fields w.forest)))

covered-refielded : (k : ℕ) (fields : Fields) (more : ℕ) (moved : Selection → Selection) (w : Working) → IsReady w → has k w.forest ≡ true
    → AreCovered w (fields_written k fields more moved w)
covered-refielded k fields more moved w r there =
    covered-refielded_if (differ (fields_of w.forest k) fields) k fields more (moved w.selection) w r there refl

pub covered-set : (k : ℕ) (fields : Fields) → IsCovering (set_step k fields)
unfolding set_step
covered-set k fields w v r e =
    covered-answer w v (fields_written k fields (characters_of fields) (set_points k fields) w)
    (option_or (set_fault k fields w.forest) (over_limits (characters_of fields) w)) e (λ none.
    covered-refielded k fields (characters_of fields) (set_points k fields) w r
    (known_first w.forest k (wrong_fields (kind_of w.forest k) fields)
    ((both_none (set_fault k fields w.forest) (over_limits (characters_of fields) w) none).0)))

pub covered-splice : (k from to : ℕ) (new : List ℕ) → IsCovering (splice_step k from to new)
unfolding splice_step
covered-splice k from to new w v r e =
    let fields : Fields = label_with_piece (label_of w.forest k) from to new in
    covered-answer w v (fields_written k fields (length new) (splice_points k from to new) w)
    (option_or (splice_fault k from to w.forest) (over_limits (length new) w)) e (λ none.
    covered-refielded k fields (length new) (splice_points k from to new) w r
    (known_first w.forest k (label_fault (label_of w.forest k) from to) ((both_none (splice_fault k from to w.forest) (over_limits (length new) w) none).0)))

-- ---- take and put

kinds_take : (k : ℕ) (f : Forest) → IsForest f → KindsStay f (take_out k f)
kinds_take k f h = record { each = λ q kind e. kind_of-take_out k f q h ∙ e }

covered-taken : (k : ℕ) (w : Working) → IsReady w → has k w.forest ≡ true → AreCovered w (node_taken k w)
covered-taken k w r there =
    covered w (node_taken k w) w.forest (near w.forest k) r.in_order (told_take k w.forest r.in_order there) (kinds_take k w.forest r.in_order)
    (kinds_take k w.forest r.in_order) refl refl (record {
      in_order = IsForest-take_out k w.forest r.in_order;
      free = λ q e. free_still w (take_out k w.forest) q r e (count-take_out q k w.forest);
    })
    (same_keys w (node_taken k w) refl (λ q. ap (λ n. ltb 0 n) (count-take_out q k w.forest)))

pub covered-take : (k : ℕ) → IsCovering (take_step k)
unfolding take_step
covered-take k w v r e =
    covered-answer w v (node_taken k w) (option_or (detach_fault k w.forest) (over_counts w)) e (λ none.
    covered-taken k w r (known_first w.forest k (not_below w.forest k) ((both_none (detach_fault k w.forest) (over_counts w) none).0)))

covered-placed : (k p index : ℕ) (w : Working) → IsReady w → put_fault k p index w.forest ≡ None → AreCovered w (node_placed k p index w)
covered-placed k p index w r none =
    let before : Option ℕ = slice_get (children_of w.forest p) index in
    let can = can_put w.forest k p index none in
    covered w (node_placed k p index w) (put_in p before k w.forest) (near (put_in p before k w.forest) k) (IsForest-put_in p before k w.forest r.in_order can)
    (told_put p before k w.forest r.in_order can (index_place (children_of w.forest p) before index refl))
    (record { each = λ q kind e. kind_of-put_in p before k w.forest q r.in_order can ∙ e })
    (kinds_at (put_in p before k w.forest) (put_in p before k w.forest) refl) refl refl (record {
      in_order = IsForest-put_in p before k w.forest r.in_order can;
      free = λ q e. free_still w (put_in p before k w.forest) q r e (count-put_in q p before k w.forest r.in_order can.parent can.outside);
    })
    (same_keys w (node_placed k p index w) refl (λ q. ap (λ n. ltb 0 n) (count-put_in q p before k w.forest r.in_order can.parent can.outside)))

pub covered-put : (k p index : ℕ) → IsCovering (put_step k p index)
unfolding put_step
covered-put k p index w v r e =
    covered-answer w v (node_placed k p index w) (option_or (put_fault k p index w.forest) (over_counts w)) e (λ none.
    covered-placed k p index w r ((both_none (put_fault k p index w.forest) (over_counts w) none).0))

-- ---- all of them

pub covered-steps : DraftsAreCovered
covered-steps = record {
  same = covered-self;
  composed = covered-then;
  pointed = covered-pointed;
  count = covered-count;
  new = covered-new;
  set = covered-set;
  splice = covered-splice;
  take = covered-take;
  put = covered-put;
  mark = covered-mark;
  mark_uncounted = covered-mark_uncounted;
  select = covered-select;
}
