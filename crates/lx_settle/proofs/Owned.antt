-- An edit of a rule that isn't idle changes its own node, or takes it out of the root's tree.
use Rattle.std.proofs.Common.{◌≡◌, ◌≢◌, ◌∙◌, ℕ, zero, suc, ◌+◌, Bool, true, false, cond, eqb, List, [], ◌∷◌, length, Option, None, Some, option_map, Result, Ok, Err, refl, sym, ap, subst, arith, inl, inr}
use Rattle.std.specs.Prelude.{slice_get}
use Rattle.std.specs.Option.{option_or}
use Rattle.std.proofs.lemmas.Bool.Decides.{eqb_tells}
use Rattle.lx_trees.specs.Siblings.{is_among, is_named, next_in, index_in, place_behind, last_from, NoRepeats}
use Rattle.lx_trees.specs.Spots.{Spot, parent_at, children_at}
use Rattle.lx_node.specs.Strings.{characters_of}
use Rattle.lx_node.specs.declared.kind.Kind.{Kind}
use Rattle.lx_node.specs.declared.kind.Kind.TheVariants as kind
use Rattle.lx_node.specs.declared.fields.Fields.{Fields}
use Rattle.lx_node.specs.declared.cause.Cause.{Cause}
use Rattle.lx_node.specs.declared.cause.Point.{Point}
use Rattle.lx_node.specs.declared.node.View.{View}
use Rattle.lx_trees.proofs.Positions.{slice_get-index_in, previous_in-slice_get}
use Rattle.lx_step.specs.declared.rule.SelfEdit.{SelfEdit}
use Rattle.lx_forest.specs.Forest.{Forest, Label}
use Rattle.lx_forest.specs.Lookups.{has, spot, label_of, kind_of, parent_of, children_of, children_below, previous_of, next_of, size_of, index_of, ancestors, is_attached, IsForest}
use Rattle.lx_forest.specs.Edits.{put_in}
use Rattle.lx_forest.specs.Records.{Record, record_at, linked_in}
use Rattle.lx_forest.specs.Views.{viewed, view_of}
use Rattle.lx_forest.proofs.Within.{is_within-top}
use Rattle.lx_forest.proofs.Walks.{cases_option}
use Rattle.lx_forest.proofs.Lookups.{parent_of-with_new, parent_of-with_fields, parent_of-take_out, parent_of-put_in, is_among-children_of, has-parent_of, has-child, NoRepeats-children_of}
use Rattle.lx_forest.proofs.Siblings.{parent_of-next}
use Rattle.lx_forest.proofs.Records.{IsRecordOf-record_at, record_at-put_in, is_some-record_at}
use Rattle.lx_links.specs.Faults.{set_fault, detach_fault}
use Rattle.lx_draft.specs.Working.{Working}
use Rattle.lx_draft.specs.Faults.{answer, after, over_counts, over_limits, put_fault, splice_fault}
use Rattle.lx_draft.specs.Steps.{made, new_step, fields_written, set_points, set_step, label_with_piece, splice_points, splice_step, node_taken, take_step, node_placed, put_step}
use Rattle.lx_draft.specs.Beside.{before_at, put_before_step, behind_at, put_behind_step}
use Rattle.lx_draft.specs.Covering.{IsReady}
use Rattle.lx_draft.proofs.Put.{both_none, can_put}
use Rattle.lx_draft.proofs.Covered.{answered}
use Rattle.lx_draft.proofs.CoveredSteps.{covered-pointed, covered-new, covered-set, covered-splice, covered-take, covered-put}
use Rattle.lx_draft.proofs.CoveredEdits.{index_place}
use Rattle.lx_select.specs.Selection.{ends_of}
use Rattle.lx_edit.specs.InTurn.{in_turn}
use Rattle.lx_edit.specs.Conditions.{replace_fault, wrap_fault, unwrap_fault}
use Rattle.lx_edit.specs.Edits.{moved_before, brought_up, sent_away, goes_too, removed, remove_step, moved_to_end, children_step, kept, replace_step, wrap_step, unwrapped, unwrap_step, texts_pointed}
use Rattle.lx_rules.specs.Idle.{has_work, is_root}
use Rattle.lx_settle.specs.Acting.{has_work_at}
use Rattle.lx_settle.proofs.Seen.{has-previous, has-next, previous_stays, next_stays}
use Rattle.lx_trees.proofs.Siblings.{is_named_tells}
use Rattle.lx_edit.proofs.Paths.{IsPath, if_, turns, removed_path, sent_from_path, put_before_path, moved_before_path, children_path, texts_pointed_path}

-- ---- a draft that an edit can rely on stays such a one

pub ready_path : IsPath IsReady (λ w v. IsReady v) (λ k. Unit {0})
ready_path = record {
  ready = λ w v a. a;
  selected = λ w s r. (covered-pointed w s r).ready;
  composed = λ u v w a b. b;
  new = λ kind fields w v r e. (covered-new kind fields w v r e).ready;
  set = λ j fields w v r e. (covered-set j fields w v r e).ready;
  splice = λ j from to new w v r e. (covered-splice j from to new w v r e).ready;
  take = λ j w v r e. (covered-take j w v r e).ready;
  put = λ j p index w v may r e. (covered-put j p index w v r e).ready;
}

-- ---- a node below nothing

none_both : (b : Bool) → cond b (let o : Option ℕ = None in o) None ≡ None
none_both true = refl
none_both false = refl

pub record StaysTop (k : ℕ) (w v : Working) : Type 0 where
  pub ready : IsReady v
  pub top : parent_of w.forest k ≡ None → parent_of v.forest k ≡ None

pub top_path : (k : ℕ) → IsPath IsReady (StaysTop k) (λ j. ⊥)
unfolding new_step set_step splice_step take_step
top_path k = record {
  ready = λ w v a. a.ready;
  selected = λ w s r. record { ready = (covered-pointed w s r).ready; top = λ e. e };
  composed = λ u v w a b. record { ready = b.ready; top = λ e. b.top (a.top e) };
  new = λ kind fields w v r e. record { ready = (covered-new kind fields w v r e).ready; top = λ t. top_new kind fields w v r e t };
  set = λ j fields w v r e. record { ready = (covered-set j fields w v r e).ready; top = λ t. top_set j fields w v r e t };
  splice = λ j from to new w v r e. record { ready = (covered-splice j from to new w v r e).ready; top = λ t. top_splice j from to new w v r e t };
  take = λ j w v r e. record { ready = (covered-take j w v r e).ready; top = λ t. top_take j w v r e t };
  put = λ j p index w v may r e. absurd may;
} where
  top_new : (kind : Kind) (fields : Fields) (w v : Working) → IsReady w → new_step kind fields w ≡ Ok v → parent_of w.forest k ≡ None
      → parent_of v.forest k ≡ None
  top_new kind fields w v r e t =
      let l : Label = record { key = w.next_key; kind = kind; fields = fields } in
      ap (λ (x : Working). parent_of x.forest k) (sym ((answered (over_limits (characters_of fields) w) (made kind fields w) v e).1))
      ∙ parent_of-with_new l w.forest k r.in_order (r.free w.next_key (omega arith)) ∙ t

  top_set : (j : ℕ) (fields : Fields) (w v : Working) → IsReady w → set_step j fields w ≡ Ok v → parent_of w.forest k ≡ None → parent_of v.forest k ≡ None
  top_set j fields w v r e t =
      ap (λ (x : Working). parent_of x.forest k)
      (sym ((answered (option_or (set_fault j fields w.forest) (over_limits (characters_of fields) w))
      (fields_written j fields (characters_of fields) (set_points j fields) w) v e).1))
      ∙ parent_of-with_fields j fields w.forest k ∙ t

  top_splice : (j from to : ℕ) (new : List ℕ) (w v : Working) → IsReady w → splice_step j from to new w ≡ Ok v → parent_of w.forest k ≡ None
      → parent_of v.forest k ≡ None
  top_splice j from to new w v r e t =
      let fields : Fields = label_with_piece (label_of w.forest j) from to new in
      ap (λ (x : Working). parent_of x.forest k)
      (sym ((answered (option_or (splice_fault j from to w.forest) (over_limits (length new) w))
      (fields_written j fields (length new) (splice_points j from to new) w) v e).1))
      ∙ parent_of-with_fields j fields w.forest k ∙ t

  top_take : (j : ℕ) (w v : Working) → IsReady w → take_step j w ≡ Ok v → parent_of w.forest k ≡ None → parent_of v.forest k ≡ None
  top_take j w v r e t =
      ap (λ (x : Working). parent_of x.forest k) (sym ((answered (option_or (detach_fault j w.forest) (over_counts w)) (node_taken j w) v e).1))
      ∙ parent_of-take_out j w.forest k r.in_order ∙ ap (λ o. cond (eqb k j) None o) t ∙ none_both (eqb k j)

-- ---- a node that was taken

pub taken_top : (k : ℕ) (w v : Working) → IsReady w → take_step k w ≡ Ok v → parent_of v.forest k ≡ None
unfolding take_step
taken_top k w v r e =
    ap (λ (x : Working). parent_of x.forest k) (sym ((answered (option_or (detach_fault k w.forest) (over_counts w)) (node_taken k w) v e).1))
    ∙ parent_of-take_out k w.forest k r.in_order ∙ grind (arith, eqb_tells k k)

sent_ready : (k : ℕ) (w : Working) → IsReady w → IsReady (sent_away k w)
unfolding sent_away
sent_ready k w r = sent_from_path ready_path k (parent_of w.forest k) (index_of w.forest k) w r

-- where a chain of steps ends, the last one shows it
pub ends : {Q : Type 0} (w v : Working) (r : Result Working Cause) (next : Working → Result Working Cause) → ((u : Working) → r ≡ Ok u → IsReady u)
    → ((u : Working) → IsReady u → next u ≡ Ok v → Q) → after r next ≡ Ok v → Q
ends w v (Ok u) next first second e = second u (first u refl) e
ends w v (Err cause) next first second e = absurd (cc)

pub allowed_by : {Q : Type 0} (w v : Working) (o : Option Cause) (next : Working → Result Working Cause) → (next w ≡ Ok v → Q) → after (answer o w) next ≡ Ok v
    → Q
allowed_by w v None next c e = c e
allowed_by w v (Some cause) next c e = absurd (cc)

removed_top : (k : ℕ) (above : List ℕ) (w v : Working) → IsReady w → removed k above w ≡ Ok v → parent_of v.forest k ≡ None
removed_top k [] w v r e = taken_top k (sent_away k w) v (sent_ready k w r) e
removed_top k (p ∷ above) w v r e = rest (take_step k (sent_away k w)) refl e where
  rest : (s : Result Working Cause) → take_step k (sent_away k w) ≡ s
      → after s (λ u. cond (goes_too (kind_of w.forest k) u.forest p) (removed p above u) (Ok u)) ≡ Ok v → parent_of v.forest k ≡ None
  rest (Ok u) is f =
      let ready : IsReady u = (covered-take k (sent_away k w) u (sent_ready k w r) is).ready in
      (if_ (top_path k) (goes_too (kind_of w.forest k) u.forest p) (removed p above) u v ready (removed_path (top_path k) p above) f).top
      (taken_top k (sent_away k w) u (sent_ready k w r) is)
  rest (Err cause) is f = absurd (cc)

pub remove_top : (k : ℕ) (w v : Working) → IsReady w → remove_step k w ≡ Ok v → parent_of v.forest k ≡ None
unfolding remove_step
remove_top k w v r e = removed_top k (ancestors w.forest k) w v r e

-- ---- who is idle at the root

pub work_at : (o : Option View) (edit : SelfEdit) → has_work_at o edit ≡ true → (v : View) × (o ≡ Some v) × (has_work v edit ≡ true)
work_at None edit e = absurd (cc)
work_at (Some v) edit e = (v, refl, e)

viewed_kind : (f : Forest) (q : ℕ) (o : Option (Spot Label)) (v : View) → option_map (viewed f q) o ≡ Some v
    → option_map (λ (l : Label). l.kind) (option_map (λ (s : Spot Label). s.label) o) ≡ Some v.kind
viewed_kind f q None v e = absurd (cc)
viewed_kind f q (Some s) v e = cc

pub view_kind : (f : Forest) (q : ℕ) (v : View) → view_of f q ≡ Some v → kind_of f q ≡ Some v.kind
view_kind f q v e = viewed_kind f q (spot f q) v e

pub root_at : (f : Forest) (k : ℕ) (v : View) → IsForest f → k ≡ 0 → view_of f k ≡ Some v → is_root v.kind ≡ true
unfolding is_root
root_at f k v h root e =
    let same : v.kind ≡ kind.Root = let both : Some v.kind ≡ Some kind.Root = sym (view_kind f k v e) ∙ ap (kind_of f) root ∙ h.root in cc in
    ap is_root same

-- a node below nothing that is in the root's tree is the root
pub top_root : (f : Forest) (k : ℕ) → IsForest f → parent_of f k ≡ None → is_attached f k ≡ true → k ≡ 0
top_root f k h top there =
    elim (eqb_tells k 0) [ inl root ↦ root.1 | inr other ↦ absurd (grind (arith, there, is_within-top f 0 k h top other.1)) ]

-- ---- what a put shows

pub put_parent : (k p index : ℕ) (w v : Working) → IsReady w → put_step k p index w ≡ Ok v → parent_of v.forest k ≡ Some p
unfolding put_step
put_parent k p index w v r e =
    let a = answered (option_or (put_fault k p index w.forest) (over_counts w)) (node_placed k p index w) v e in
    let can = can_put w.forest k p index ((both_none (put_fault k p index w.forest) (over_counts w) a.0).0) in
    ap (λ (x : Working). parent_of x.forest k) (sym a.1) ∙ parent_of-put_in p (slice_get (children_of w.forest p) index) k w.forest k r.in_order can
    ∙ grind (arith, eqb_tells k k)

record_there : (f : Forest) (k : ℕ) → has k f ≡ true → (r : Record) × (record_at f k ≡ Some r)
record_there f k e =
    elim (cases_option (record_at f k)) [
      | inl none ↦ absurd (grind (arith, e, none, is_some-record_at f k))
      | inr (r, here) ↦ (r, here)
    ]

-- one that is put right before k is the one before it
put_previous : (made p index k : ℕ) (w v : Working) → IsReady w → has k w.forest ≡ true → k ≢ made → slice_get (children_of w.forest p) index ≡ Some k
    → put_step made p index w ≡ Ok v → previous_of v.forest k ≡ Some made
unfolding put_step
put_previous made p index k w v r there other at e =
    let a = answered (option_or (put_fault made p index w.forest) (over_counts w)) (node_placed made p index w) v e in
    let can = can_put w.forest made p index ((both_none (put_fault made p index w.forest) (over_counts w) a.0).0) in
    let before : Option ℕ = slice_get (children_of w.forest p) index in
    let old = record_there w.forest k there in
    let new : record_at (put_in p before made w.forest) k ≡ Some (linked_in p (place_behind before (children_of w.forest p)) before made k old.0) =
    record_at-put_in p before made w.forest k r.in_order can (index_place (children_of w.forest p) before index refl)
    ∙ ap (option_map (linked_in p (place_behind before (children_of w.forest p)) before made k)) old.1 in
    ap (λ (x : Working). previous_of x.forest k) (sym a.1)
    ∙ (IsRecordOf-record_at (put_in p before made w.forest) k (linked_in p (place_behind before (children_of w.forest p)) before made k old.0) new).prev
    ∙ linked_before (eqb k made) (is_named before k) (place_behind before (children_of w.forest p)) made old.0.prev (grind (arith, other, eqb_tells k made))
    (ap (λ o. is_named o k) at ∙ grind (arith, eqb_tells k k)) where
      linked_before : (own before : Bool) (behind : Option ℕ) (made : ℕ) (prev : Option ℕ) → own ≡ false → before ≡ true
          → cond own behind (cond before (Some made) prev) ≡ Some made
      linked_before own before behind made prev e f = rw (e, f) refl

-- one that is put right after k is the one after it
put_next : (made p index k : ℕ) (w v : Working) → IsReady w → has k w.forest ≡ true → k ≢ made
    → place_behind (slice_get (children_of w.forest p) index) (children_of w.forest p) ≡ Some k → put_step made p index w ≡ Ok v
    → next_of v.forest k ≡ Some made
unfolding put_step
put_next made p index k w v r there other at e =
    let a = answered (option_or (put_fault made p index w.forest) (over_counts w)) (node_placed made p index w) v e in
    let can = can_put w.forest made p index ((both_none (put_fault made p index w.forest) (over_counts w) a.0).0) in
    let before : Option ℕ = slice_get (children_of w.forest p) index in
    let behind : Option ℕ = place_behind before (children_of w.forest p) in
    let old = record_there w.forest k there in
    let new : record_at (put_in p before made w.forest) k ≡ Some (linked_in p behind before made k old.0) =
    record_at-put_in p before made w.forest k r.in_order can (index_place (children_of w.forest p) before index refl)
    ∙ ap (option_map (linked_in p behind before made k)) old.1 in
    ap (λ (x : Working). next_of x.forest k) (sym a.1)
    ∙ (IsRecordOf-record_at (put_in p before made w.forest) k (linked_in p behind before made k old.0) new).next
    ∙ linked_behind (eqb k made) (is_named behind k) before made old.0.next (grind (arith, other, eqb_tells k made))
    (ap (λ o. is_named o k) at ∙ grind (arith, eqb_tells k k)) where
      linked_behind : (own behind : Bool) (before : Option ℕ) (made : ℕ) (next : Option ℕ) → own ≡ false → behind ≡ true
          → cond own before (cond behind (Some made) next) ≡ Some made
      linked_behind own behind before made next e f = rw (e, f) refl

last_index : (b : Option ℕ) (xs : List ℕ) (i k : ℕ) → slice_get xs i ≡ Some k → slice_get xs (suc i) ≡ None → last_from b xs ≡ Some k
last_index b [] i k at none = absurd (cc)
last_index b (x ∷ []) zero k at none = at
last_index b (x ∷ y ∷ ys) zero k at none = absurd (cc)
last_index b (x ∷ xs) (suc i) k at none = last_index (Some x) xs i k at none

-- the place right after an index
behind_index : (xs : List ℕ) (i k : ℕ) → NoRepeats xs → slice_get xs i ≡ Some k → place_behind (slice_get xs (i + 1)) xs ≡ Some k
behind_index xs i k once at =
    let step : slice_get xs (i + 1) ≡ slice_get xs (suc i) = ap (slice_get xs) (omega arith) in
    ap (λ o. place_behind o xs) step ∙ by_next (slice_get xs (suc i)) refl where
      by_next : (o : Option ℕ) → slice_get xs (suc i) ≡ o → place_behind o xs ≡ Some k
      by_next (Some b) is = previous_in-slice_get xs b i once is ∙ at
      by_next None is = last_index None xs i k at is

-- ---- what each edit changes

-- it changed its own node
Changes : ℕ → Working → Working → Type 0
Changes k w v = spot v.forest k ≡ spot w.forest k → record_at v.forest k ≡ record_at w.forest k → is_attached v.forest k ≡ true → ⊥

-- a node that is below nothing now
pub gone : (k : ℕ) (w v : Working) (x : View) → IsReady w → IsReady v → view_of w.forest k ≡ Some x → is_root x.kind ≡ false → parent_of v.forest k ≡ None
    → is_attached v.forest k ≡ true → ⊥
gone k w v x r s seen other top there = grind (arith, root_at w.forest k x r.in_order (top_root v.forest k s.in_order top there) seen, other)

-- a node that is below a new one now
pub below_new : (k : ℕ) (w v : Working) → IsReady w → parent_of v.forest k ≡ Some w.next_key → spot v.forest k ≡ spot w.forest k → ⊥
below_new k w v r up same =
    let was : parent_of w.forest k ≡ Some w.next_key = ap parent_at (sym same) ∙ up in
    grind (arith, has-parent_of w.forest k w.next_key was, r.free w.next_key (omega arith))

pub above_new : (k : ℕ) (w v : Working) → IsReady w → IsReady v → parent_of v.forest w.next_key ≡ Some k → spot v.forest k ≡ spot w.forest k → ⊥
above_new k w v r s up same =
    let among : is_among w.next_key (children_of v.forest k) ≡ true =
    is_among-children_of v.forest w.next_key k s.in_order ∙ ap (λ o. is_named o k) up ∙ grind (arith, eqb_tells k k) in
    let was : is_among w.next_key (children_of w.forest k) ≡ true = ap (λ o. is_among w.next_key (children_at o)) (sym same) ∙ among in
    new_child w.forest k w.next_key r.in_order (r.free w.next_key (omega arith)) was where
      new_child : (f : Forest) (k made : ℕ) → IsForest f → has made f ≡ false → is_among made (children_of f k) ≡ true → ⊥
      new_child f k made h free among =
          elim (is_named_tells (parent_of f made) k) [
            | inl named ↦ grind (arith, has-child f made k named.1, free)
            | inr other ↦ grind (arith, among, other.0, is_among-children_of f made k h)
          ]

pub behind_new : (k : ℕ) (w v : Working) → IsReady w → previous_of v.forest k ≡ Some w.next_key → record_at v.forest k ≡ record_at w.forest k → ⊥
behind_new k w v r prev same =
    grind (arith, has-previous w.forest k w.next_key r.in_order (sym (previous_stays w.forest v.forest k same) ∙ prev), r.free w.next_key (omega arith))

pub before_new : (k : ℕ) (w v : Working) → IsReady w → next_of v.forest k ≡ Some w.next_key → record_at v.forest k ≡ record_at w.forest k → ⊥
before_new k w v r next same =
    grind (arith, has-next w.forest k w.next_key r.in_order (sym (next_stays w.forest v.forest k same) ∙ next), r.free w.next_key (omega arith))

-- ---- chains of steps

kept_ready : (keep : Bool) (k made : ℕ) (w v : Working) → IsReady w → kept keep k made w ≡ Ok v → IsReady v
kept_ready false k made w v r e = let same : w ≡ v = cc in subst IsReady same r
kept_ready true k made w v r e = children_path ready_path k made w v r (λ c among. tt) e

pub replace_top : (k made : ℕ) (keep : Bool) (w v : Working) → IsReady w → replace_step k made keep w ≡ Ok v → parent_of v.forest k ≡ None
unfolding replace_step
replace_top k made keep w v r e =
    allowed_by w v (replace_fault k made keep w.forest)
    (λ a. after (put_before_step made k a) (λ b. after (kept keep k made b) (λ c. remove_step k (texts_pointed k made c)))) (λ f.
    ends w v (put_before_step made k w) (λ b. after (kept keep k made b) (λ c. remove_step k (texts_pointed k made c)))
    (λ b g. put_before_path ready_path made k tt w b r g)
    (λ b s g. ends b v (kept keep k made b) (λ c. remove_step k (texts_pointed k made c)) (λ c h. kept_ready keep k made b c s h)
    (λ c t h. remove_top k (texts_pointed k made c) v (texts_pointed_path ready_path k made c t) h) g) f) e

brought_ready : (k : ℕ) (p index : Option ℕ) (before : Option (Point × Point)) (w : Working) → IsReady w → IsReady (brought_up k p index before w)
brought_ready k (Some p) (Some index) before w r = record { in_order = r.in_order; free = r.free }
brought_ready k _ _ before w r = r

pub unwrap_top : (k : ℕ) (w v : Working) → IsReady w → unwrap_step k w ≡ Ok v → parent_of v.forest k ≡ None
unfolding unwrap_step
unwrap_top k w v r e =
    allowed_by w v (unwrap_fault k w.forest) (unwrapped k) (λ f.
    ends w v (in_turn (moved_before k) (children_of w.forest k) w)
    (λ u. remove_step k (brought_up k (parent_of w.forest k) (index_of w.forest k) (ends_of w.selection) u))
    (λ u g. turns ready_path (moved_before k) (children_of w.forest k) (λ c among. moved_before_path ready_path k c tt) w u r g)
    (λ u s g. remove_top k (brought_up k (parent_of w.forest k) (index_of w.forest k) (ends_of w.selection) u) v
    (brought_ready k (parent_of w.forest k) (index_of w.forest k) (ends_of w.selection) u s) g) f) e

end_parent : (parent k : ℕ) (w v : Working) → IsReady w → moved_to_end parent k w ≡ Ok v → parent_of v.forest k ≡ Some parent
unfolding moved_to_end
end_parent parent k w v r e =
    ends w v (take_step k w) (λ u. put_step k parent (size_of u.forest parent) u) (λ u f. (covered-take k w u r f).ready)
    (λ u s f. put_parent k parent (size_of u.forest parent) u v s f) e

pub wrap_parent : (k made : ℕ) (w v : Working) → IsReady w → wrap_step k made w ≡ Ok v → parent_of v.forest k ≡ Some made
unfolding wrap_step
wrap_parent k made w v r e =
    allowed_by w v (wrap_fault k made w.forest) (λ a. after (put_before_step made k a) (moved_to_end made k)) (λ f.
    ends w v (put_before_step made k w) (moved_to_end made k) (λ u g. put_before_path ready_path made k tt w u r g) (λ u s g. end_parent made k u v s g) f) e

new_before : (made k : ℕ) (p index : Option ℕ) (w v : Working) → IsReady w → has k w.forest ≡ true → k ≢ made → parent_of w.forest k ≡ p
    → index_of w.forest k ≡ index → before_at made k p index w ≡ Ok v → previous_of v.forest k ≡ Some made
new_before made k (Some p) (Some index) w v r there other up at e =
    put_previous made p index k w v r there other
    (slice_get-index_in (children_of w.forest p) k index (ap (λ o. index_in (children_below w.forest o) k) (sym up) ∙ at)) e
new_before made k _ _ w v r there other up at e = absurd (cc)

pub put_before_previous : (k made : ℕ) (w v : Working) → IsReady w → has k w.forest ≡ true → k ≢ made → put_before_step made k w ≡ Ok v
    → previous_of v.forest k ≡ Some made
unfolding put_before_step
put_before_previous k made w v r there other e = new_before made k (parent_of w.forest k) (index_of w.forest k) w v r there other refl refl e

new_behind : (made k : ℕ) (p index : Option ℕ) (w v : Working) → IsReady w → has k w.forest ≡ true → k ≢ made → parent_of w.forest k ≡ p
    → index_of w.forest k ≡ index → behind_at made k p index w ≡ Ok v → next_of v.forest k ≡ Some made
new_behind made k (Some p) (Some index) w v r there other up at e =
    put_next made p (index + 1) k w v r there other
    (behind_index (children_of w.forest p) index k (NoRepeats-children_of w.forest p r.in_order)
    (slice_get-index_in (children_of w.forest p) k index (ap (λ o. index_in (children_below w.forest o) k) (sym up) ∙ at))) e
new_behind made k _ _ w v r there other up at e = absurd (cc)

pub put_behind_next : (k made : ℕ) (w v : Working) → IsReady w → has k w.forest ≡ true → k ≢ made → put_behind_step made k w ≡ Ok v
    → next_of v.forest k ≡ Some made
unfolding put_behind_step
put_behind_next k made w v r there other e = new_behind made k (parent_of w.forest k) (index_of w.forest k) w v r there other refl refl e

-- ---- a sibling that is merged

pub next_of_none : (f : Forest) (o : Option ℕ) (k n : ℕ) → IsForest f → parent_of f k ≡ o → next_of f k ≡ Some n → parent_of f n ≡ None → ⊥
next_of_none f None k n h up e top =
    let none : next_of f k ≡ None = ap (λ o. next_in (children_below f o) k) up in
    cc_of none e where
      cc_of : {A : Type 0} {o : Option A} {a : A} → o ≡ None → o ≡ Some a → ⊥
      cc_of e f = cc
next_of_none f (Some p) k n h up e top = grind (arith, parent_of-next f k n p h up e, top)

pub merge_changes : (k n : ℕ) (w v : Working) → IsReady w → IsReady v → next_of w.forest k ≡ Some n → after (children_step n k w) (remove_step n) ≡ Ok v
    → record_at v.forest k ≡ record_at w.forest k → ⊥
merge_changes k n w v r s is e same =
    next_of_none v.forest (parent_of v.forest k) k n s.in_order refl (next_stays w.forest v.forest k same ∙ is)
    (ends w v (children_step n k w) (remove_step n) (λ u f. children_path ready_path n k w u r (λ c among. tt) f) (λ u t f. remove_top n u v t f) e)
