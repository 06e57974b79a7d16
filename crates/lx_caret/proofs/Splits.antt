-- A text that is split leaves a selection in the tree: its points go along with what is cut off.
use Rattle.std.proofs.Common.{◌≡◌, ◌∙◌, ℕ, ◌+◌, ◌-◌, ◌≤◌, Bool, true, false, cond, eqb, leb, ltb, ◌&&◌, ◌||◌, List, [], ◌∷◌, length, Option, None, Some, Result, Ok, refl, sym, ap, ap₂, subst, arith}
use Rattle.std.specs.Prelude.{option_map, slice_get}
use Rattle.std.specs.Option.{option_or}
use Rattle.std.proofs.lemmas.Bool.Decides.{eqb_tells, nat_tests}
use Rattle.lx_node.specs.Kinds.{may_hold, is_element, has_characters}
use Rattle.lx_node.specs.Strings.{characters_of}
use Rattle.lx_node.specs.declared.kind.Kind.TheVariants as kinds
use Rattle.lx_node.specs.declared.fields.Fields.{Fields}
use Rattle.lx_node.specs.declared.fields.TextFields.{TextFields}
use Rattle.lx_node.specs.declared.cause.Cause.{Cause}
use Rattle.lx_node.specs.declared.cause.Point.{Point}
use Rattle.lx_node.specs.declared.cause.PointKind.{PointKind}
use Rattle.lx_node.specs.declared.cause.PointKind.TheVariants as point
use Rattle.lx_text.specs.Texts.{is_offset, slice_of, spliced_text, slice_fault}
use Rattle.lx_text.proofs.Told.{piece_of}
use Rattle.lx_select.specs.Rules.{put_moves, splice_moves, split_moves}
use Rattle.lx_forest.specs.Forest.{Forest, Label}
use Rattle.lx_forest.specs.Lookups.{has, label_of, fields_of, parent_of, index_of, children_of, is_within, is_attached, IsForest, IsHeld}
use Rattle.lx_forest.specs.Edits.{with_new, with_fields, put_in, CanPut}
use Rattle.lx_forest.proofs.Held.{IsHeld-with_new, IsHeld-with_fields, IsHeld-put_in}
use Rattle.lx_forest.proofs.Lookups.{label_of-with_new, label_of-put_in}
use Rattle.lx_forest.proofs.Walks.{is_attached-up}
use Rattle.lx_forest.proofs.Within.{is_within-self, is_within-with_fields, is_attached-with_new, is_attached-put_in}
use Rattle.lx_draft.specs.Working.{Working, TextsAreShort}
use Rattle.lx_draft.specs.Covering.{IsReady, KindsStay}
use Rattle.lx_draft.specs.Selecting.{lies_in, is_counted_in, text_of, length_of, length_told}
use Rattle.lx_draft.specs.Faults.{answer, after, over_counts, over_limits, put_fault, splice_fault}
use Rattle.lx_draft.specs.Steps.{made, with_piece, new_step, fields_written, splice_points, label_with_piece, text_replaced, splice_step, node_placed, put_step}
use Rattle.lx_draft.specs.Beside.{behind_at, put_behind_step}
use Rattle.lx_draft.proofs.Covered.{answered}
use Rattle.lx_draft.proofs.CoveredSteps.{covered-new, covered-splice, covered-put}
use Rattle.lx_draft.proofs.Put.{both_none}
use Rattle.lx_edit.specs.Conditions.{length_at, length_in, split_fault}
use Rattle.lx_edit.specs.Edits.{pointed}
use Rattle.lx_edit.specs.Texts.{tail_in, tail_of, tail_made, cut_in_two, cut_at, split_step}
use Rattle.lx_blocks.specs.Ranges.{lies}
use Rattle.lx_caret.specs.Lying.{EachPoint}
use Rattle.lx_caret.proofs.Offsets.{tail_place}
use Rattle.lx_caret.proofs.Lies.{both, spot_point, IsText, text_at, no_element, is_place_in, place_in, place_small, point_in, lies_new, lies_spliced, lies_put}
use Rattle.lx_caret.proofs.Fit.{each_moved, after_tells, Fit, Stays, Staying, stays_self, stays_ok, stays_after, stays_allowed, spliced, spliced_few, splice_written, key_of_splice, puts, key_of_put, attached_put}
use Rattle.lx_draft.proofs.Short.{same-short}
use Rattle.lx_caret.proofs.Short.{made-short}

-- in the tree, or on the new node that comes beside one in the tree
abbrev IsNear : Forest → ℕ → ℕ → ℕ → Type 0
IsNear f n k q = (is_attached f q || (eqb q n && is_attached f k)) ≡ true

abbrev HalfLies : Forest → ℕ → ℕ → Point → Type 0
HalfLies f n k x = (lies_in f x ≡ true) × IsNear f n k x.key

-- a draft in which points are on a new node that isn't in the tree yet
record Halfway (n k : ℕ) (w b : Working) : Type 0 where
  pub ready : IsReady b
  pub held : IsHeld may_hold b.forest
  pub short : TextsAreShort b
  pub half : EachPoint (HalfLies b.forest n k) b.selection
  pub attached : (q : ℕ) → is_attached w.forest q ≡ true → is_attached b.forest q ≡ true
  pub kept : KindsStay w.forest b.forest

-- ---- the tail

tail_point : (f : Forest) (n k offset : ℕ) (t : TextFields) (q o : ℕ) (kind : PointKind) → IsForest f → has n f ≡ false → IsText f k t
    → slice_fault t.text offset (length_told t.text) ≡ None
    → lies f (spot_point q o kind) ≡ true
    → HalfLies (with_new (record { key = n; kind = kinds.Text; fields = text_replaced t (slice_of offset (length_told t.text) t.text) }) f) n k
    (split_moves k offset n (spot_point q o kind))
unfolding split_moves has_characters is_element
tail_point f n k offset t q o kind h free is piece e = by_place (eqb q k) refl (ltb offset o) refl kind parts where
  parts : (is_attached f q ≡ true) × (lies_in f (spot_point q o kind) ≡ true)
  parts = both (is_attached f q) (lies_in f (spot_point q o kind)) e

  x : Fields
  x = text_replaced t (slice_of offset (length_told t.text) t.text)

  l : Label
  l = record { key = n; kind = kinds.Text; fields = x }

  g : Forest
  g = with_new l f

  stays : (kind : PointKind) → is_attached f q ≡ true → lies_in f (spot_point q o kind) ≡ true → HalfLies g n k (spot_point q o kind)
  stays kind place e = (lies_new l f q o kind h free e, ap (λ b. b || (eqb q n && is_attached g k)) (is_attached-with_new l f q h free ∙ place))

  by_place : (same : Bool) → eqb q k ≡ same → (behind : Bool) → ltb offset o ≡ behind → (kind : PointKind)
      → (is_attached f q ≡ true) × (lies_in f (spot_point q o kind) ≡ true)
      → HalfLies g n k (cond (same && behind) (spot_point n (o - offset) kind) (spot_point q o kind))
  by_place false other behind order kind parts = stays kind parts.0 parts.1
  by_place true own false order kind parts = stays kind parts.0 parts.1
  by_place true own true order point.Element parts =
      let same : q ≡ k = grind (arith, own, eqb_tells q k) in
      absurd (no_element f k kinds.Text o is.kind_is refl (ap (λ m. lies_in f (spot_point m o point.Element)) (sym same) ∙ parts.1))
  by_place true own true order point.Text parts =
      let same : q ≡ k = grind (arith, own, eqb_tells q k) in
      let at = point_in f k o (ap (λ m. lies_in f (spot_point m o point.Text)) (sym same) ∙ parts.1) in
      let old : is_offset o t.text ≡ true = ap (λ y. is_offset o (text_of y)) (sym is.fields_are) ∙ at.place in
      let within : o ≤ length_told t.text = grind (arith, nat_tests, ap (λ y. leb o (length_of y)) (sym is.fields_are) ∙ at.within) in
      let behind : offset ≤ o = grind (arith, nat_tests, order) in
      let first : is_offset offset t.text ≡ true = (piece_of offset (length_told t.text) t.text piece).first in
      let self : eqb n n ≡ true = grind (arith, eqb_tells n n) in
      let label : label_of g n ≡ Some l = label_of-with_new l f n h free ∙ ap (λ b. cond b (Some l) (label_of f n)) self in
      let attached_k : is_attached g k ≡ true = is_attached-with_new l f k h free ∙ ap (is_attached f) (sym same) ∙ parts.0 in
      let near : IsNear g n k n = grind (arith, self, attached_k) in (
        ap (λ y. is_counted_in point.Text (option_map (λ z. z.kind) y) && is_place_in (o - offset) (option_map (λ z. z.fields) y)) label
            ∙ place_in (o - offset) (slice_of offset (length_told t.text) t.text) (tail_place o offset (length_told t.text) t.text first old behind within
            (place_small o (fields_of f k) at.within)),
        near,
      )

half_ok : (n k : ℕ) (w u v : Working) → Halfway n k w u → ◌≡◌ {A = Result Working Cause} (Ok u) (Ok v) → Halfway n k w v
half_ok n k w u v a e = let is : u ≡ v = cc in subst (Halfway n k w) is a

tail_done : (k offset : ℕ) (w a b : Working) → Fit w → splice_fault k offset (length_at w.forest k) w.forest ≡ None
    → new_step kinds.Text (tail_of w.forest k offset) w ≡ Ok a
    → ◌≡◌ {A = Result Working Cause} (Ok (pointed (split_moves k offset w.next_key) a)) (Ok b) → Halfway w.next_key k w b
unfolding new_step
tail_done k offset w a b fit none first second =
    let f : Forest = w.forest in
    let h = fit.ready.in_order in
    let n : ℕ = w.next_key in
    let s = spliced f k offset (length_at f k) none in
    let length_is : length_at f k ≡ length_told s.text.text = ap length_in s.text_is in
    let piece : slice_fault s.text.text offset (length_told s.text.text) ≡ None = ap (slice_fault s.text.text offset) (sym length_is) ∙ s.piece in
    let x : Fields = tail_of f k offset in
    let x_is : x ≡ text_replaced s.text (slice_of offset (length_told s.text.text) s.text.text) = ap (λ t. tail_in t offset) s.text_is in
    let l : Label = record { key = n; kind = kinds.Text; fields = x } in
    let free : has n f ≡ false = fit.ready.free n (omega arith) in
    let told = answered (over_limits (characters_of x) w) (made kinds.Text x w) a first in
    let all = covered-new kinds.Text x w (made kinds.Text x w) fit.ready (ap (λ o. answer o (made kinds.Text x w)) told.0) in
    let moved : Point → Point = split_moves k offset n in
    let result : Halfway n k w (pointed moved (made kinds.Text x w)) = record {
      ready = record { in_order = all.ready.in_order; free = all.ready.free };
      held = IsHeld-with_new may_hold f h fit.held l free;
      short = made-short kinds.Text x w fit.ready fit.short;
      half = each_moved (λ p. lies f p ≡ true) (HalfLies (with_new l f) n k) moved w.selection
          (λ p so. subst (λ y. HalfLies (with_new (record { key = n; kind = kinds.Text; fields = y }) f) n k (moved p)) (sym x_is)
          (tail_point f n k offset s.text p.key p.offset p.kind h free (text_at f k s.text s.text_is) piece so)) fit.lying;
      attached = λ q so. is_attached-with_new l f q h free ∙ so;
      kept = all.kinds;
    } in
    half_ok n k w (pointed moved a) b (subst (λ u. Halfway n k w (pointed moved u)) told.1 result) second

half_tail : (k offset : ℕ) (w b : Working) → Fit w → tail_made k offset w ≡ Ok b → Halfway w.next_key k w b
unfolding tail_made
half_tail k offset w b fit e = by_fault (splice_fault k offset (length_at w.forest k) w.forest) refl e where
  by_fault : (o : Option Cause) → splice_fault k offset (length_at w.forest k) w.forest ≡ o
      → after (answer o w) (λ v. after (new_step kinds.Text (tail_of v.forest k offset) v) (λ made. Ok (pointed (split_moves k offset v.next_key) made))) ≡ Ok b
      → Halfway w.next_key k w b
  by_fault (Some c) is e = absurd (cc)
  by_fault None is e =
      let first = after_tells (new_step kinds.Text (tail_of w.forest k offset) w) (λ made. Ok (pointed (split_moves k offset w.next_key) made)) b e in
      tail_done k offset w first.0 b fit is first.1.0 first.1.1

-- ---- what is left

half_splice : (n k from to : ℕ) (new : List ℕ) (w b c : Working) → Halfway n k w b → splice_step k from to new b ≡ Ok c → Halfway n k w c
unfolding splice_step
half_splice n k from to new w b c half e =
    let f : Forest = b.forest in
    let x : Fields = label_with_piece (label_of f k) from to new in
    let g : Forest = with_fields k x f in
    let after_it : Working = fields_written k x (length new) (splice_points k from to new) b in
    let told = answered (option_or (splice_fault k from to f) (over_limits (length new) b)) after_it c e in
    let all = covered-splice k from to new b after_it half.ready (ap (λ o. answer o after_it) told.0) in
    let none = both_none (splice_fault k from to f) (over_limits (length new) b) told.0 in
    let s = spliced f k from to none.0 in
    let same : x ≡ text_replaced s.text (spliced_text from to new s.text.text) = ap (λ t. with_piece t from to new) s.text_is in
    let moved : Point → Point = splice_moves k from to (length_told new) in
    let still : (q : ℕ) → is_attached g q ≡ is_attached f q = λ q. is_within-with_fields k x f 0 q in
    subst (Halfway n k w) told.1 (record {
      ready = all.ready;
      held = IsHeld-with_fields may_hold f half.ready.in_order half.held k x;
      short = splice_written k from to new b s x same half.short;
      half = each_moved (HalfLies f n k) (HalfLies g n k) moved b.selection
          (λ p so. (
            ap (λ y. lies_in (with_fields k y f) (moved p)) same ∙ lies_spliced f k from to new s.text p.key p.offset p.kind (text_at f k s.text
                s.text_is) s.piece (spliced_few k from to new b s half.short none.1) so.0,
            ap (λ q. is_attached g q || (eqb q n && is_attached g k)) (key_of_splice k from to (length_told new) p) ∙ ap₂ (λ y z. y
                || (eqb p.key n && z)) (still p.key) (still k) ∙ so.1,
          )) half.half;
      attached = λ q so. still q ∙ half.attached q so;
      kept = record { each = λ q kind so. all.kinds.each q kind (half.kept.each q kind so) };
    })

-- ---- put right after

near_put : (f : Forest) (n k p : ℕ) (before : Option ℕ) (q : ℕ) → IsForest f → CanPut p n f → parent_of f k ≡ Some p → IsNear f n k q
    → is_attached (put_in p before n f) q ≡ true
near_put f n k p before q h can up near =
    is_attached-put_in p before n f q h can ∙ by_key (eqb q n) refl near where
      by_key : (same : Bool) → eqb q n ≡ same → (is_attached f q || (same && is_attached f k)) ≡ true
          → (is_attached f q || (is_within f n q && is_attached f p)) ≡ true
      by_key true own near =
          let is : q ≡ n = grind (arith, own, eqb_tells q n) in
          let inside : is_within f n q ≡ true = ap (is_within f n) is ∙ is_within-self f n ∙ can.there in
          ap₂ (λ a b. is_attached f q || (a && b)) inside (sym (is_attached-up f k p h up)) ∙ near
      by_key false other near = grind (arith, near)

half_put : (n k p index : ℕ) (w c d : Working) → Halfway n k w c → parent_of c.forest k ≡ Some p → put_step n p index c ≡ Ok d → Stays w d
unfolding put_step
half_put n k p index w c d half up e =
    let f : Forest = c.forest in
    let h = half.ready.in_order in
    let told = answered (option_or (put_fault n p index f) (over_counts c)) (node_placed n p index c) d e in
    let all = covered-put n p index c (node_placed n p index c) half.ready (ap (λ o. answer o (node_placed n p index c)) told.0) in
    let is = puts f n p index (both_none (put_fault n p index f) (over_counts c) told.0).0 in
    let before : Option ℕ = slice_get (children_of f p) index in
    let g : Forest = put_in p before n f in
    subst (Stays w) told.1 (record {
      fit = record {
        ready = all.ready;
        held = IsHeld-put_in may_hold f h half.held p before n is.may is.fits;
        short = same-short f g c.written (λ q. label_of-put_in p before n f q h is.may) half.short;
        lying = each_moved (HalfLies f n k) (λ x. lies g x ≡ true) (put_moves p index) c.selection (λ x so.
            ap₂ ◌&&◌ (ap (is_attached g) (key_of_put p index x) ∙ near_put f n k p before x.key h is.may up so.1)
            (lies_put f n p index x.key x.offset x.kind before h is.may so.0)) half.half;
      };
      attached = λ q so. attached_put f n p before q h is.may (half.attached q so);
      kept = record { each = λ q kind so. all.kinds.each q kind (half.kept.each q kind so) };
    })

half_behind_at : (n k : ℕ) (p index : Option ℕ) (w c d : Working) → Halfway n k w c → parent_of c.forest k ≡ p → behind_at n k p index c ≡ Ok d → Stays w d
half_behind_at n k (Some p) (Some index) w c d half up e = half_put n k p (index + 1) w c d half up e
half_behind_at n k None index w c d half up e = absurd (cc)
half_behind_at n k (Some p) None w c d half up e = absurd (cc)

half_behind : (n k : ℕ) (w c d : Working) → Halfway n k w c → put_behind_step n k c ≡ Ok d → Stays w d
unfolding put_behind_step
half_behind n k w c d half e = half_behind_at n k (parent_of c.forest k) (index_of c.forest k) w c d half refl e

-- ---- the whole

stays_cut : (k offset : ℕ) → Staying (cut_in_two k offset)
unfolding cut_in_two
stays_cut k offset w v fit e =
    let first = after_tells (tail_made k offset w) (λ made. after (splice_step k offset (length_at w.forest k) [] made) (put_behind_step w.next_key k)) v e in
    let second = after_tells (splice_step k offset (length_at w.forest k) [] first.0) (put_behind_step w.next_key k) v first.1.1 in
    half_behind w.next_key k w second.0 v
    (half_splice w.next_key k offset (length_at w.forest k) [] w first.0 second.0 (half_tail k offset w first.0 fit first.1.0) second.1.0) second.1.1

stays_cuts : (piece start : ℕ) (offsets : List ℕ) → Staying (cut_at piece start offsets)
stays_cuts piece start [] w v fit e = stays_ok w w v (stays_self w fit) e
stays_cuts piece start (o ∷ rest) w v fit e =
    stays_after w v (cut_in_two piece (o - start) w) (cut_at w.next_key o rest) (λ u so. stays_cut piece (o - start) w u fit so)
    (λ u so a g. stays_cuts w.next_key o rest u v a.fit g) e

pub stays_split : (k : ℕ) (offsets : List ℕ) → Staying (split_step k offsets)
unfolding split_step
stays_split k offsets w v fit e = stays_allowed w v (split_fault k offsets w.forest) (cut_at k 0 offsets) (λ g. stays_cuts k 0 offsets w v fit g) e
