-- A node that is added at a point of the tree is in it, and leaves a selection in the tree; so does what is typed there.
use Rattle.std.proofs.Common.{◌≡◌, ◌∙◌, ℕ, ◌+◌, ◌-◌, ◌≤◌, Bool, true, false, cond, eqb, leb, ◌&&◌, List, [], ◌∷◌, length, Option, None, Some, Result, Ok, refl, sym, ap, ap₂, subst, arith}
use Rattle.std.specs.Prelude.{is_some, option_map}
use Rattle.std.specs.Option.{option_or}
use Rattle.std.proofs.lemmas.Bool.Decides.{eqb_tells, nat_tests}
use Rattle.lx_node.specs.Kinds.{may_hold, is_element, has_characters}
use Rattle.lx_node.specs.Strings.{characters_of}
use Rattle.lx_node.specs.declared.kind.Kind.{Kind}
use Rattle.lx_node.specs.declared.kind.Kind.TheVariants as kinds
use Rattle.lx_node.specs.declared.fields.Fields.{Fields}
use Rattle.lx_node.specs.declared.fields.Fields.TheVariants as fields
use Rattle.lx_node.specs.declared.fields.TextFields.{TextFields}
use Rattle.lx_node.specs.declared.cause.Cause.{Cause}
use Rattle.lx_node.specs.declared.cause.Point.{Point}
use Rattle.lx_node.specs.declared.cause.PointKind.{PointKind}
use Rattle.lx_node.specs.declared.cause.PointKind.TheVariants as point
use Rattle.lx_node.specs.Limits.{last_u32}
use Rattle.lx_node.specs.Units.{units_of, units}
use Rattle.lx_text.specs.Texts.{text_length, front_of, within, is_offset, spliced_text, slice_fault}
use Rattle.lx_text.proofs.Told.{piece_of}
use Rattle.lx_select.specs.declared.selection.Selection.{Selection}
use Rattle.lx_select.specs.declared.selection.Selection.TheVariants.{Range}
use Rattle.lx_select.specs.Rules.{offset_sum}
use Rattle.lx_forest.specs.Forest.{Forest, Label}
use Rattle.lx_forest.specs.Lookups.{label_of, kind_of, fields_of, parent_of, index_of, size_of, is_attached, IsForest, IsHeld}
use Rattle.lx_forest.specs.Edits.{with_fields}
use Rattle.lx_forest.proofs.Lookups.{label_of-with_new, kind_of-with_fields}
use Rattle.lx_forest.proofs.Walks.{is_attached-up}
use Rattle.lx_draft.specs.Working.{Working}
use Rattle.lx_draft.specs.Selecting.{lies_in, is_counted_in, length_told}
use Rattle.lx_draft.specs.Faults.{answer, after, over_limits, splice_fault}
use Rattle.lx_draft.specs.Steps.{made, new_step, with_piece, fields_written, splice_points, label_with_piece, text_replaced, splice_step}
use Rattle.lx_draft.specs.Beside.{before_at, put_before_step, put_behind_step}
use Rattle.lx_draft.proofs.Covered.{answered}
use Rattle.lx_draft.proofs.Put.{both_none}
use Rattle.lx_edit.specs.Edits.{text_point, element_point}
use Rattle.lx_edit.specs.Texts.{split_step, has_no_text}
use Rattle.lx_edit.proofs.Keyed.{new-next_key, put-next_key, behind-next_key}
use Rattle.lx_blocks.specs.Ranges.{lies, caret_at, at_anchor_of, at_anchor, normal_at}
use Rattle.lx_caret.specs.Lying.{EachPoint, LeavesLying}
use Rattle.lx_caret.specs.Adding.{kind_around, no_room, is_inside, opened, put_by, newest, add_step}
use Rattle.lx_caret.specs.Removing.{remove_text_step}
use Rattle.lx_caret.specs.Inserting.{is_of_format, typed_fields, style_in, typed_into, typed_new, typed, insert_text_step, behind_at as place_at, place_behind, broken, insert_line_break_step, tab_fields, tabbed, insert_tab_step}
use Rattle.lx_caret.proofs.Offsets.{IsPlace, place_of, end_place, new_end_place}
use Rattle.lx_caret.proofs.Lies.{both, least, is_place_in, place_in, IsText, text_at, fields_now, index_within}
use Rattle.lx_caret.proofs.Fit.{after_tells, Fit, Stays, Staying, stays_then, stays_if, caret_fits, stays_new, stays_splice, stays_put, spliced, spliced_few}
use Rattle.lx_caret.proofs.Moves.{was_put, IsBesideIn, stays_before, stays_behind, put_before_in, put_behind_in, stands}
use Rattle.lx_caret.proofs.Parents.{parents_are}
use Rattle.lx_caret.proofs.Splits.{stays_split}
use Rattle.lx_caret.proofs.Cleared.{remove_text_fits}

-- ---- a new node

new_label : (kind : Kind) (fields : Fields) (w v : Working) → Fit w → new_step kind fields w ≡ Ok v
    → label_of v.forest w.next_key ≡ Some (record { key = w.next_key; kind = kind; fields = fields })
unfolding new_step
new_label kind fields w v fit e =
    let told = answered (over_limits (characters_of fields) w) (made kind fields w) v e in
    let l : Label = record { key = w.next_key; kind = kind; fields = fields } in
    let own : eqb w.next_key w.next_key ≡ true = grind (arith, eqb_tells w.next_key w.next_key) in
    subst (λ u. label_of u.forest w.next_key ≡ Some l) told.1
    (label_of-with_new l w.forest w.next_key fit.ready.in_order (fit.ready.free w.next_key (omega arith))
    ∙ ap (λ b. cond b (Some l) (label_of w.forest w.next_key)) own)

pub new_kind : (kind : Kind) (fields : Fields) (w v : Working) → Fit w → new_step kind fields w ≡ Ok v → kind_of v.forest w.next_key ≡ Some kind
new_kind kind fields w v fit e = ap (option_map (λ l. l.kind)) (new_label kind fields w v fit e)

-- ---- put at a point

before_at-next_key : (k other : ℕ) (p index : Option ℕ) (w v : Working) → before_at k other p index w ≡ Ok v → v.next_key ≡ w.next_key
before_at-next_key k other None index w v e = absurd (cc)
before_at-next_key k other (Some p) None w v e = absurd (cc)
before_at-next_key k other (Some p) (Some index) w v e = put-next_key k p index w v e

before-next_key : (k other : ℕ) (w v : Working) → put_before_step k other w ≡ Ok v → v.next_key ≡ w.next_key
unfolding put_before_step
before-next_key k other w v e = before_at-next_key k other (parent_of w.forest other) (index_of w.forest other) w v e

-- what a put at a point leaves
pub record IsPutBy (w v : Working) (k : ℕ) : Type 0 where
  pub stays : Stays w v
  pub beside : IsBesideIn w v k
  pub next : v.next_key ≡ w.next_key

pub put_by_tells : (k : ℕ) (p : Point) (kind : PointKind) (w v : Working) → Fit w → is_attached w.forest p.key ≡ true → put_by k p kind w ≡ Ok v → IsPutBy w v k
put_by_tells k p point.Text w v fit place e = by_test (eqb p.offset 0) e where
  by_test : (b : Bool) → cond b (put_before_step k p.key w) (put_behind_step k p.key w) ≡ Ok v → IsPutBy w v k
  by_test true e = record { stays = stays_before k p.key w v fit e; beside = put_before_in k p.key w v fit place e; next = before-next_key k p.key w v e }
  by_test false e = record { stays = stays_behind k p.key w v fit e; beside = put_behind_in k p.key w v fit place e; next = behind-next_key k p.key w v e }
put_by_tells k p point.Element w v fit place e =
    let was = was_put k p.key p.offset w v fit.ready.in_order e in
    record {
      stays = stays_put k p.key p.offset w v fit e;
      beside = record { parent = p.key; up = was.up; attached = was.attached place; label = was.label };
      next = put-next_key k p.key p.offset w v e;
    }

-- ---- added

pub record IsAdded (w v : Working) (kind : Kind) (x : Fields) : Type 0 where
  pub stays : Stays w v
  pub attached : is_attached v.forest (newest v) ≡ true
  pub parent : ℕ
  pub up : parent_of v.forest (newest v) ≡ Some parent
  pub kind_is : kind_of v.forest (newest v) ≡ Some kind
  pub fields_are : fields_of v.forest (newest v) ≡ Some x

pub stays_opened : (p : Point) → Staying (opened p)
stays_opened p w v fit e =
    stays_if (is_inside w.forest p p.kind && is_some (normal_at w.forest p.key)) (split_step p.key (p.offset ∷ [])) w v fit
    (λ a b f g. stays_split p.key (p.offset ∷ []) a b f g) e

is_newest : (a b c : ℕ) → a ≡ b → b ≡ c + 1 → a - 1 ≡ c
is_newest a b c e f = omega arith

put_added : (p : Point) (kind : Kind) (x : Fields) (w s m v : Working) → Stays w s → is_attached w.forest p.key ≡ true → new_step kind x s ≡ Ok m
    → put_by s.next_key p p.kind m ≡ Ok v → IsAdded w v kind x
put_added p kind x w s m v opened place second third =
    let new = stays_new kind x s m opened.fit second in
    let put = put_by_tells s.next_key p p.kind m v new.fit (new.attached p.key (opened.attached p.key place)) third in
    let key : newest v ≡ s.next_key = is_newest v.next_key m.next_key s.next_key put.next (new-next_key kind x s m second) in
    let l : Label = record { key = s.next_key; kind = kind; fields = x } in
    let label : label_of v.forest (newest v) ≡ Some l = ap (label_of v.forest) key ∙ put.beside.label s.next_key ∙ new_label kind x s m opened.fit second in
    record {
      stays = stays_then w s v opened (stays_then s m v new put.stays);
      attached = ap (is_attached v.forest) key ∙ put.beside.attached;
      parent = put.beside.parent;
      up = ap (parent_of v.forest) key ∙ put.beside.up;
      kind_is = ap (option_map (λ y. y.kind)) label;
      fields_are = ap (option_map (λ y. y.fields)) label;
    }

pub added : (p : Point) (kind : Kind) (x : Fields) (w v : Working) → Fit w → is_attached w.forest p.key ≡ true → add_step p kind x w ≡ Ok v → IsAdded w v kind x
unfolding add_step
added p kind x w v fit place e = by_fault (no_room kind (kind_around w.forest p.key p.kind)) e where
  by_fault : (o : Option Cause) → after (answer o w) (λ u. after (opened p u) (λ split. after (new_step kind x split) (put_by split.next_key p p.kind))) ≡ Ok v
      → IsAdded w v kind x
  by_fault (Some cause) e = absurd (cc)
  by_fault None e =
      let one = after_tells (opened p w) (λ split. after (new_step kind x split) (put_by split.next_key p p.kind)) v e in
      let two = after_tells (new_step kind x one.0) (put_by one.0.next_key p p.kind) v one.1.1 in
      put_added p kind x w one.0 two.0 v (stays_opened p w one.0 fit one.1.0) place two.1.0 two.1.1

-- ---- the caret in it

-- a point at a place of a text that was added
pub added_text : (w v : Working) (kind : Kind) (t : TextFields) (o : ℕ) → IsAdded w v kind (fields.Text t) → has_characters kind ≡ true
    → IsPlace o t.text → lies v.forest (text_point (newest v) o) ≡ true
added_text w v kind t o a counts place =
    ap₂ ◌&&◌ a.attached (ap₂ (λ k x. is_counted_in point.Text k && is_place_in o x) a.kind_is a.fields_are ∙ ap₂ ◌&&◌ counts (place_in o t.text place))

pub added_element : (w v : Working) (kind : Kind) (x : Fields) → IsAdded w v kind x → is_element kind ≡ true → lies v.forest (element_point (newest v) 0) ≡ true
added_element w v kind x a element =
    ap₂ ◌&&◌ a.attached (ap₂ ◌&&◌ (ap (is_counted_in point.Element) a.kind_is ∙ element) (least (size_of v.forest (newest v))))

-- the place after a node in the tree
pub behind_lies : (f : Forest) (k p : ℕ) → IsForest f → IsHeld may_hold f → parent_of f k ≡ Some p → is_attached f k ≡ true → lies f (place_behind f k) ≡ true
behind_lies f k p h held up place =
    let at = stands f k p h up in
    let within : leb (at.0 + 1) (size_of f p) ≡ true = grind (arith, nat_tests, index_within f k p at.0 up at.1) in
    ap₂ (λ a b. lies f (place_at k a b)) up at.1 ∙ ap₂ ◌&&◌ (sym (is_attached-up f k p h up) ∙ place) (ap₂ ◌&&◌ (parents_are f k p held up) within)

-- ---- typed

typed_point : (f : Forest) (k o : ℕ) (text : List ℕ) (t : TextFields) → IsText f k t → slice_fault t.text o o ≡ None
    → text_length (spliced_text o o text t.text) ≤ last_u32 → (g : Forest)
    → g ≡ with_fields k (text_replaced t (spliced_text o o text t.text)) f → is_attached g k ≡ true
    → lies g (text_point k (offset_sum o (length_told text))) ≡ true
unfolding has_characters
typed_point f k o text t is piece few g same there =
    let x : Fields = text_replaced t (spliced_text o o text t.text) in
    let kind_is : kind_of g k ≡ Some kinds.Text = ap (λ h. kind_of h k) same ∙ kind_of-with_fields k x f k ∙ is.kind_is in
    let fields_are : fields_of g k ≡ Some x = ap (λ h. fields_of h k) same ∙ fields_now k x (fields.Text t) f is.fields_are in
    ap₂ ◌&&◌ there (ap₂ (λ kind y. is_counted_in point.Text kind && is_place_in (offset_sum o (length_told text)) y) kind_is fields_are
    ∙ place_in (offset_sum o (length_told text)) (spliced_text o o text t.text) (new_end_place o o text t.text (piece_of o o t.text piece) few))

splice_point : (k o : ℕ) (text : List ℕ) (w v : Working) → Fit w → is_attached w.forest k ≡ true → splice_step k o o text w ≡ Ok v
    → lies v.forest (text_point k (offset_sum o (length_told text))) ≡ true
unfolding splice_step
splice_point k o text w v fit place e =
    let x : Fields = label_with_piece (label_of w.forest k) o o text in
    let after_it : Working = fields_written k x (length text) (splice_points k o o text) w in
    let told = answered (option_or (splice_fault k o o w.forest) (over_limits (length text) w)) after_it v e in
    let none = both_none (splice_fault k o o w.forest) (over_limits (length text) w) told.0 in
    let s = spliced w.forest k o o none.0 in
    let same : x ≡ text_replaced s.text (spliced_text o o text s.text.text) = ap (λ t. with_piece t o o text) s.text_is in
    let stays = stays_splice k o o text w v fit e in
    let forest : v.forest ≡ with_fields k (text_replaced s.text (spliced_text o o text s.text.text)) w.forest =
    ap (λ u. u.forest) (sym told.1) ∙ ap (λ y. with_fields k y w.forest) same in
    typed_point w.forest k o text s.text (text_at w.forest k s.text s.text_is) s.piece (spliced_few k o o text w s fit.short none.1) v.forest forest
    (stays.attached k place)

typed_into_fits : (text : List ℕ) (p : Point) (w v : Working) → Fit w → is_attached w.forest p.key ≡ true → typed_into text p w ≡ Ok v → Fit v
unfolding typed_into
typed_into_fits text p w v fit place e =
    let first =
    after_tells (splice_step p.key p.offset p.offset text w) (λ u. Ok (caret_at (text_point p.key (offset_sum p.offset (length_told text))) u)) v e in
    caret_fits first.0 v (text_point p.key (offset_sum p.offset (length_told text))) (stays_splice p.key p.offset p.offset text w first.0 fit first.1.0).fit
    (splice_point p.key p.offset text w first.0 fit place first.1.0) first.1.1

typed_new_fits : (text : List ℕ) (format : ℕ) (p : Point) (w v : Working) → Fit w → is_attached w.forest p.key ≡ true → typed_new text format p w ≡ Ok v → Fit v
unfolding typed_new has_characters
typed_new_fits text format p w v fit place e =
    let x : Fields = typed_fields text format (style_in (normal_at w.forest p.key)) in
    let first = after_tells (add_step p kinds.Text x w) (λ u. Ok (caret_at (text_point (newest u) (length_told text)) u)) v e in
    let a = added p kinds.Text x w first.0 fit place first.1.0 in
    caret_fits first.0 v (text_point (newest first.0) (length_told text)) a.stays.fit
    (added_text w first.0 kinds.Text _ (length_told text) a refl (end_place text)) first.1.1

typed_fits : (text : List ℕ) (p : Point) (format : ℕ) (w v : Working) → Fit w → is_attached w.forest p.key ≡ true → typed text p format w ≡ Ok v → Fit v
unfolding typed
typed_fits text p format w v fit place e = by_test (is_of_format format (normal_at w.forest p.key)) e where
  by_test : (b : Bool) → cond b (typed_into text p w) (typed_new text format p w) ≡ Ok v → Fit v
  by_test true e = typed_into_fits text p w v fit place e
  by_test false e = typed_new_fits text format p w v fit place e

broken_fits : (p : Point) (format : ℕ) (w v : Working) → Fit w → is_attached w.forest p.key ≡ true → broken p format w ≡ Ok v → Fit v
unfolding broken
broken_fits p format w v fit place e =
    let first = after_tells (add_step p kinds.Break fields.Bare w) (λ u. Ok (caret_at (place_behind u.forest (newest u)) u)) v e in
    let a = added p kinds.Break fields.Bare w first.0 fit place first.1.0 in
    caret_fits first.0 v (place_behind first.0.forest (newest first.0)) a.stays.fit
    (behind_lies first.0.forest (newest first.0) a.parent a.stays.fit.ready.in_order a.stays.fit.held a.up a.attached) first.1.1

tab_end : IsPlace 1 (9 ∷ [])
unfolding is_offset within text_length front_of units units_of
tab_end = place_of 1 (9 ∷ []) refl (omega arith)

tabbed_fits : (p : Point) (format : ℕ) (w v : Working) → Fit w → is_attached w.forest p.key ≡ true → tabbed p format w ≡ Ok v → Fit v
unfolding tabbed has_characters
tabbed_fits p format w v fit place e =
    let first = after_tells (add_step p kinds.Tab (tab_fields format) w) (λ u. Ok (caret_at (text_point (newest u) 1) u)) v e in
    let a = added p kinds.Tab (tab_fields format) w first.0 fit place first.1.0 in
    caret_fits first.0 v (text_point (newest first.0) 1) a.stays.fit (added_text w first.0 kinds.Tab _ 1 a refl tab_end) first.1.1

-- ---- the commands

-- a step that goes on from a point in the tree
pub at_anchor_fits : (step : Point → ℕ → Working → Result Working Cause) (w v : Working) → Fit w
    → ((p : Point) (format : ℕ) → is_attached w.forest p.key ≡ true → step p format w ≡ Ok v → Fit v) → at_anchor step w ≡ Ok v → Fit v
at_anchor_fits step w v fit each e = by_selection w.selection fit.lying e where
  by_selection : (s : Selection) → EachPoint (λ p. lies w.forest p ≡ true) s → at_anchor_of s step w ≡ Ok v → Fit v
  by_selection (Range a b format) lying e = each a format (both (is_attached w.forest a.key) (lies_in w.forest a) lying.0).0 e
  by_selection other lying e = absurd (cc)

pub lies-insert_text : (text : List ℕ) → LeavesLying (insert_text_step text)
unfolding insert_text_step
lies-insert_text text w v ready held short e =
    let first = after_tells (remove_text_step w) (λ u. cond (has_no_text text) (Ok u) (at_anchor (typed text) u)) v e in
    let fit = remove_text_fits w first.0 ready held short first.1.0 in
    (by_test first.0 fit (has_no_text text) first.1.1).lying where
      by_test : (u : Working) → Fit u → (b : Bool) → cond b (Ok u) (at_anchor (typed text) u) ≡ Ok v → Fit v
      by_test u fit true e = let is : u ≡ v = cc in subst Fit is fit
      by_test u fit false e = at_anchor_fits (typed text) u v fit (λ p format place so. typed_fits text p format u v fit place so) e

-- a step at the anchor of the range, once what is selected is removed
anchored_lies : (step : Point → ℕ → Working → Result Working Cause)
    → ((p : Point) (format : ℕ) (w v : Working) → Fit w → is_attached w.forest p.key ≡ true → step p format w ≡ Ok v → Fit v)
    → LeavesLying (λ w. after (remove_text_step w) (at_anchor step))
anchored_lies step fits w v ready held short e =
    let first = after_tells (remove_text_step w) (at_anchor step) v e in
    let fit = remove_text_fits w first.0 ready held short first.1.0 in
    (at_anchor_fits step first.0 v fit (λ p format place so. fits p format first.0 v fit place so) first.1.1).lying

pub lies-insert_line_break : LeavesLying insert_line_break_step
unfolding insert_line_break_step
lies-insert_line_break w v ready held short e = anchored_lies broken broken_fits w v ready held short e

pub lies-insert_tab : LeavesLying insert_tab_step
unfolding insert_tab_step
lies-insert_tab w v ready held short e = anchored_lies tabbed tabbed_fits w v ready held short e
