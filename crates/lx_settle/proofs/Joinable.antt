-- The join step is refused only where no count is left, or too much would be written.
use Rattle.std.proofs.Common.{◌≡◌, ◌∙◌, ℕ, zero, suc, Bool, true, false, cond, List, length, Option, None, Some, Result, Ok, refl, sym, ap, arith, inl, inr}
use Rattle.std.specs.Prelude.{is_some}
use Rattle.std.specs.Option.{option_or}
use Rattle.lx_node.specs.Kinds.{is_text}
use Rattle.std.proofs.lemmas.Bool.Decides.{nat_tests}
use Rattle.lx_node.specs.declared.fields.Fields.{Fields}
use Rattle.lx_node.specs.declared.fields.TextFields.{TextFields}
use Rattle.lx_node.specs.declared.cause.Cause.{Cause}
use Rattle.lx_text.specs.Texts.{is_offset, slice_fault}
use Rattle.lx_text.proofs.Told.{told-offset}
use Rattle.lx_select.specs.Rules.{join_moves}
use Rattle.lx_forest.specs.Forest.{Forest}
use Rattle.lx_forest.specs.Lookups.{has, label_of, kind_of, parent_of, previous_of, next_of, is_attached}
use Rattle.lx_forest.proofs.Lookups.{parent_of-with_fields}
use Rattle.lx_links.specs.Faults.{unknown}
use Rattle.lx_draft.specs.Working.{Working}
use Rattle.lx_draft.specs.Selecting.{unlike, length_told}
use Rattle.lx_draft.specs.Faults.{over_limits, text_in, splice_fault}
use Rattle.lx_draft.specs.Steps.{fields_written, label_with_piece, splice_points, splice_step, take_step}
use Rattle.lx_draft.specs.Covering.{IsReady}
use Rattle.lx_draft.proofs.Covered.{answered}
use Rattle.lx_draft.proofs.Touched.{is_some-kind_of}
use Rattle.lx_edit.specs.declared.around.Found.{Found}
use Rattle.lx_edit.specs.declared.around.Found.TheVariants.{Nothing, Empty, Alike}
use Rattle.lx_edit.specs.Conditions.{length_in, length_at, is_key, join_fault}
use Rattle.lx_edit.specs.Edits.{pointed, remove_step}
use Rattle.lx_edit.specs.Texts.{text_or_none, texts_joined, join_step, is_simple, if_simple, simple_at, found_in, found_by, found_before, found_behind, enough, joined_behind, join_on, joined_before, join_back, emptiness, join_simple, joined_around, join_around_step}
use Rattle.lx_edit.proofs.Tails.{tail_fault}
use Rattle.lx_edit.proofs.Paths.{remove_path, join_path}
use Rattle.lx_settle.proofs.Owned.{ready_path}
use Rattle.lx_settle.proofs.JoinStep.{found_key, simple_kind, not_root}
use Rattle.lx_settle.proofs.Neighbours.{next_siblings, previous_siblings, previous_next, attached_parent}
use Rattle.lx_settle.proofs.Exhausted.{Exhausts, exhausts_ok, exhausts_then, exhausts_allowed, splice_exhausts, take_exhausts, remove_exhausts}

-- ---- the end of a text

end_of : (text : List ℕ) → slice_fault text (length_told text) (length_told text) ≡ None
end_of text =
    let here : is_offset (length_told text) text ≡ true = told-offset text in
    grind (arith, nat_tests, here)

pub end_none : (f : Forest) (k : ℕ) (t : TextFields) → text_in (label_of f k) ≡ Some t → splice_fault k (length_at f k) (length_at f k) f ≡ None
end_none f k t is = tail_fault f k t (length_at f k) is ∙ ap (λ o. slice_fault t.text (length_in o) (length_told t.text)) is ∙ end_of t.text

-- ---- simple texts

simple_by : (b : Bool) (t own : TextFields) → cond b (Some t) None ≡ Some own → t ≡ own
simple_by true t own e = cc
simple_by false t own e = absurd (cc)

text_of_simple : (o : Option TextFields) (own : TextFields) → if_simple o ≡ Some own → o ≡ Some own
text_of_simple None own e = absurd (cc)
text_of_simple (Some t) own e = ap (λ x. Some x) (simple_by (is_simple t) t own e)

pub simple_text : (f : Forest) (k : ℕ) (own : TextFields) → simple_at f k ≡ Some own → text_in (label_of f k) ≡ Some own
simple_text f k own e = text_of_simple (text_in (label_of f k)) own e

simple_known : (f : Forest) (k : ℕ) (own : TextFields) → simple_at f k ≡ Some own → has k f ≡ true
simple_known f k own e = sym (is_some-kind_of f k) ∙ ap is_some (simple_kind (label_of f k) own e)

simple_like : (f : Forest) (k : ℕ) (own : TextFields) → simple_at f k ≡ Some own → unlike is_text (kind_of f k) ≡ None
unfolding is_text
simple_like f k own e = ap (unlike is_text) (simple_kind (label_of f k) own e)

-- ---- what is found

pub record AreSimple (f : Forest) (x : ℕ) (s : Option TextFields) : Type 0 where
  pub own : TextFields
  pub own_is : s ≡ Some own
  pub other : TextFields
  pub other_is : simple_at f x ≡ Some other

alike_in : (f : Forest) (x y : ℕ) (own : TextFields) (o : Option TextFields) → x ≡ y → simple_at f x ≡ o → found_in x own o ≡ Alike y → AreSimple f y (Some own)
alike_in f x y own None same is e = absurd (cc)
alike_in f x y own (Some t) same is e = record { own = own; own_is = refl; other = t; other_is = ap (simple_at f) (sym same) ∙ is }

alike_simple : (f : Forest) (o : Option ℕ) (s : Option TextFields) (x : ℕ) → found_by f o s ≡ Alike x → AreSimple f x s
alike_simple f None s x e = absurd (cc)
alike_simple f (Some y) None x e = absurd (cc)
alike_simple f (Some y) (Some own) x e =
    let same : y ≡ x = let both : Some y ≡ Some x = found_key f (Some y) (Some own) x (inr e) in cc in
    alike_in f y x own (simple_at f y) same refl e

-- ---- two that are joined

splice-parent : (k from to : ℕ) (new : List ℕ) (q : ℕ) (w v : Working) → splice_step k from to new w ≡ Ok v → parent_of v.forest q ≡ parent_of w.forest q
unfolding splice_step
splice-parent k from to new q w v e =
    let fields : Fields = label_with_piece (label_of w.forest k) from to new in
    ap (λ (x : Working). parent_of x.forest q)
    (sym ((answered (option_or (splice_fault k from to w.forest) (over_limits (length new) w))
    (fields_written k fields (length new) (splice_points k from to new) w) v e).1))
    ∙ parent_of-with_fields k fields w.forest q

is_key_own : (o : Option ℕ) (k : ℕ) → o ≡ Some k → is_key o k ≡ true
is_key_own None k e = absurd (cc)
is_key_own (Some x) k e = grind (arith, e)

join_exhausts : (first second p : ℕ) (a b : TextFields) (w : Working) → simple_at w.forest first ≡ Some a → simple_at w.forest second ≡ Some b
    → next_of w.forest first ≡ Some second → parent_of w.forest second ≡ Some p → Exhausts (join_step first second w)
unfolding join_step
join_exhausts first second p a b w is_a is_b next below =
    let end : ℕ = length_at w.forest first in
    let text : List ℕ = text_or_none (text_in (label_of w.forest second)) in
    exhausts_allowed (join_fault first second w.forest) w (texts_joined first second)
    (rw (simple_known w.forest first a is_a, simple_known w.forest second b is_b, simple_like w.forest first a is_a, simple_like w.forest second b is_b, is_key_own (next_of w.forest first) second next) refl)
    (exhausts_then (splice_step first end end text w) (λ u. take_step second (pointed (join_moves first end second) u))
    (splice_exhausts first end end text w (end_none w.forest first a (simple_text w.forest first a is_a)))
    (λ u e. take_exhausts second p (pointed (join_moves first end second) u) (splice-parent first end end text second w u e ∙ below)))

-- ---- again and again

on_by : (found : Found) (k : ℕ) (again : Working → Result Working Cause) (w : Working) → IsReady w → found_behind w.forest k ≡ found
    → ((u : Working) → IsReady u → Exhausts (again u)) → Exhausts (joined_behind found k again w)
on_by Nothing k again w r is next = exhausts_ok w
on_by (Empty x) k again w r is next =
    let s = next_siblings w.forest k x r.in_order (found_key w.forest (next_of w.forest k) (simple_at w.forest k) x (inl is)) in
    exhausts_then (remove_step x w) again (remove_exhausts x s.parent w s.second) (λ u e. next u (remove_path ready_path x w u r e))
on_by (Alike x) k again w r is next =
    let behind = found_key w.forest (next_of w.forest k) (simple_at w.forest k) x (inr is) in
    let s = next_siblings w.forest k x r.in_order behind in
    let t = alike_simple w.forest (next_of w.forest k) (simple_at w.forest k) x is in
    exhausts_then (join_step k x w) again (join_exhausts k x s.parent t.own t.other w t.own_is t.other_is behind s.second)
    (λ u e. next u (join_path ready_path k x w u r e))

on_exhausts : (n k : ℕ) (w : Working) → IsReady w → Exhausts (join_on n k w)
unfolding join_on
on_exhausts zero k w r = exhausts_ok w
on_exhausts (suc n) k w r = on_by (found_behind w.forest k) k (join_on n k) w r refl (λ u s. on_exhausts n k u s)

back_by : (found : Found) (k : ℕ) (again : ℕ → Working → Result Working Cause) (last : Working → Result Working Cause) (w : Working) → IsReady w
    → found_before w.forest k ≡ found
    → ((x : ℕ) (u : Working) → IsReady u → Exhausts (again x u)) → Exhausts (last w) → Exhausts (joined_before found k again last w)
back_by Nothing k again last w r is next end = end
back_by (Empty x) k again last w r is next end =
    let s = previous_siblings w.forest k x r.in_order (found_key w.forest (previous_of w.forest k) (simple_at w.forest k) x (inl is)) in
    exhausts_then (remove_step x w) (again k) (remove_exhausts x s.parent w s.second) (λ u e. next k u (remove_path ready_path x w u r e))
back_by (Alike x) k again last w r is next end =
    let before = found_key w.forest (previous_of w.forest k) (simple_at w.forest k) x (inr is) in
    let s = previous_siblings w.forest k x r.in_order before in
    let t = alike_simple w.forest (previous_of w.forest k) (simple_at w.forest k) x is in
    exhausts_then (join_step x k w) (again x)
    (join_exhausts x k s.parent t.other t.own w t.other_is t.own_is (previous_next w.forest k x r.in_order before) s.first)
    (λ u e. next x u (join_path ready_path x k w u r e))

back_exhausts : (n k : ℕ) (w : Working) → IsReady w → Exhausts (join_back n k w)
unfolding join_back
back_exhausts zero k w r = exhausts_ok w
back_exhausts (suc n) k w r =
    back_by (found_before w.forest k) k (join_back n) (join_on enough k) w r refl (λ x u s. back_exhausts n x u s) (on_exhausts enough k w r)

-- ---- the join step

simple_exhausts : (empty : Bool) (k : ℕ) (t : TextFields) (w : Working) → IsReady w → is_attached w.forest k ≡ true → simple_at w.forest k ≡ Some t
    → Exhausts (join_simple (Some empty) k w)
simple_exhausts true k t w r there is =
    let p = attached_parent w.forest k r.in_order there (not_root w.forest k t r.in_order is) in
    remove_exhausts k p.0 w p.1
simple_exhausts false k t w r there is = back_exhausts enough k w r

around_by : (o : Option TextFields) (k : ℕ) (w : Working) → IsReady w → is_attached w.forest k ≡ true → simple_at w.forest k ≡ o
    → Exhausts (join_simple (emptiness o) k w)
around_by None k w r there is = exhausts_ok w
around_by (Some t) k w r there is = simple_exhausts _ k t w r there is

pub join_around_exhausts : (k : ℕ) (w : Working) → IsReady w → has k w.forest ≡ true → is_attached w.forest k ≡ true → Exhausts (join_around_step k w)
unfolding join_around_step
join_around_exhausts k w r known there =
    exhausts_allowed (unknown w.forest k) w (joined_around k) (rw known refl) (around_by (simple_at w.forest k) k w r there refl)
