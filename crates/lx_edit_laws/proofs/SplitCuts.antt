-- What a cut of a text in two leaves: the forest, where points go, and the next key.
use Rattle.std.proofs.Common.{◌≡◌, ◌≢◌, ◌∙◌, ℕ, ◌+◌, true, false, List, [], length, Option, None, Some, Ok, refl, sym, ap, ap₂, subst, arith}
use Rattle.std.specs.Option.{option_or}
use Rattle.std.proofs.lemmas.Bool.Decides.{eqb_tells}
use Rattle.lx_node.specs.Strings.{characters_of}
use Rattle.lx_node.specs.declared.kind.Kind.{Kind}
use Rattle.lx_node.specs.declared.kind.Kind.TheVariants as kinds
use Rattle.lx_node.specs.declared.fields.Fields.{Fields}
use Rattle.lx_node.specs.declared.fields.Fields.TheVariants as fields
use Rattle.lx_node.specs.declared.fields.TextFields.{TextFields}
use Rattle.lx_text.specs.Texts.{slice_of, spliced_text}
use Rattle.lx_select.specs.declared.selection.Selection.{Selection}
use Rattle.lx_select.specs.Selection.{each_point}
use Rattle.lx_select.specs.Rules.{put_moves, splice_moves, split_moves}
use Rattle.lx_forest.specs.Forest.{Forest, Label}
use Rattle.lx_forest.specs.Lookups.{has, label_of, parent_of, index_of, IsForest}
use Rattle.lx_forest.specs.Edits.{with_new, CanPut}
use Rattle.lx_forest.proofs.Edits.{is_some-spot}
use Rattle.lx_forest.proofs.Lookups.{key-label_of, label_of-with_new, parent_of-with_new, parent_of-with_fields, parent_of-self, has-child, has-parent_of}
use Rattle.lx_draft.specs.Working.{Working}
use Rattle.lx_draft.specs.Covering.{IsReady}
use Rattle.lx_draft.specs.Selecting.{length_told}
use Rattle.lx_draft.specs.Faults.{after, over_counts, over_limits, put_fault, text_fields, text_in, splice_fault}
use Rattle.lx_draft.specs.Steps.{made, with_piece, new_step, fields_written, splice_points, label_with_piece, text_replaced, splice_step, node_placed, put_step}
use Rattle.lx_draft.specs.Beside.{behind_at, put_behind_step}
use Rattle.lx_draft.proofs.Covered.{answered}
use Rattle.lx_draft.proofs.Put.{both_none, can_put}
use Rattle.lx_edit.specs.Conditions.{length_at, length_in}
use Rattle.lx_edit.specs.Edits.{pointed}
use Rattle.lx_edit.specs.Texts.{tail_in, tail_of, tail_made, cut_in_two}
use Rattle.lx_edit.proofs.Climbed.{first_part}
use Rattle.lx_edit.proofs.Covered.{covered_path}
use Rattle.lx_edit.proofs.Keyed.{cut-next_key}
use Rattle.lx_edit.proofs.Paths.{cut_path}
use Rattle.lx_edit_laws.proofs.SplitForests.{CutsTo, cuts}
use Rattle.lx_edit_laws.proofs.WrapSteps.{was_allowed, was_same}

-- ---- the label of a text

text_of : (kind : Kind) (x : Fields) (t : TextFields) → text_fields kind x ≡ Some t → (kind ≡ kinds.Text) × (x ≡ fields.Text t)
text_of kinds.Text (fields.Text u) t e = (refl, cc)
text_of kind x t e = absurd (cc)

abbrev pub text_label : ℕ → TextFields → Label
text_label k t = record { key = k; kind = kinds.Text; fields = fields.Text t }

-- a node that has these fields of a text has this label
pub label_is : (f : Forest) (k : ℕ) (t : TextFields) → text_in (label_of f k) ≡ Some t → label_of f k ≡ Some (text_label k t)
label_is f k t e = by_label (label_of f k) refl e where
  by_label : (o : Option Label) → label_of f k ≡ o → text_in o ≡ Some t → label_of f k ≡ Some (text_label k t)
  by_label None is e = absurd (cc)
  by_label (Some l) is e =
      let tells = text_of l.kind l.fields t e in
      is ∙ ap (λ (q : ℕ). let m : Label = record { key = q; kind = l.kind; fields = l.fields } in Some m) (key-label_of f k l is)
      ∙ ap₂ (λ (kind : Kind) (x : Fields). let m : Label = record { key = k; kind = kind; fields = x } in Some m) tells.0 tells.1

-- ---- the parts of a cut

record IsTail (k offset : ℕ) (w b : Working) : Type 0 where
  piece : splice_fault k offset (length_at w.forest k) w.forest ≡ None
  is : pointed (split_moves k offset w.next_key) (made kinds.Text (tail_of w.forest k offset) w) ≡ b

tail_is : (k offset : ℕ) (w b : Working) → tail_made k offset w ≡ Ok b → IsTail k offset w b
unfolding tail_made new_step
tail_is k offset w b e =
    let x : Fields = tail_of w.forest k offset in
    let allowed =
    was_allowed (splice_fault k offset (length_at w.forest k) w.forest) w b
    (λ v. after (new_step kinds.Text (tail_of v.forest k offset) v) (λ made. Ok (pointed (split_moves k offset v.next_key) made))) e in
    let part = first_part (new_step kinds.Text x w) (λ made. Ok (pointed (split_moves k offset w.next_key) made)) b allowed.1 in
    let told = answered (over_limits (characters_of x) w) (made kinds.Text x w) part.0 part.1 in
    record {
      piece = allowed.0;
      is = ap (pointed (split_moves k offset w.next_key)) told.1 ∙ was_same (pointed (split_moves k offset w.next_key) part.0) b part.2;
    }

splice_is : (k from to : ℕ) (new : List ℕ) (b c : Working) → splice_step k from to new b ≡ Ok c
    → fields_written k (label_with_piece (label_of b.forest k) from to new) (length new) (splice_points k from to new) b ≡ c
unfolding splice_step
splice_is k from to new b c e =
    (answered (option_or (splice_fault k from to b.forest) (over_limits (length new) b))
    (fields_written k (label_with_piece (label_of b.forest k) from to new) (length new) (splice_points k from to new) b) c e).1

-- what a put after a node leaves
record IsBehind (n k : ℕ) (c d : Working) : Type 0 where
  parent : ℕ
  index : ℕ
  up : parent_of c.forest k ≡ Some parent
  at : index_of c.forest k ≡ Some index
  can : CanPut parent n c.forest
  is : node_placed n parent (index + 1) c ≡ d

behind_is : (n k : ℕ) (c d : Working) → put_behind_step n k c ≡ Ok d → IsBehind n k c d
unfolding put_behind_step put_step
behind_is n k c d e = by_place (parent_of c.forest k) (index_of c.forest k) refl refl e where
  by_place : (p i : Option ℕ) → parent_of c.forest k ≡ p → index_of c.forest k ≡ i → behind_at n k p i c ≡ Ok d → IsBehind n k c d
  by_place (Some p) (Some i) up at e =
      let told = answered (option_or (put_fault n p (i + 1) c.forest) (over_counts c)) (node_placed n p (i + 1) c) d e in
      let none = (both_none (put_fault n p (i + 1) c.forest) (over_counts c) told.0).0 in
      record { parent = p; index = i; up = up; at = at; can = can_put c.forest n p (i + 1) none; is = told.1 }
  by_place p i up at e = absurd (cc)

-- ---- the whole

-- the text that is left at k, and the label of the one that is cut off
abbrev pub left_at : ℕ → TextFields → Fields
left_at offset t = text_replaced t (spliced_text offset (length_told t.text) [] t.text)

abbrev pub cut_off : ℕ → ℕ → TextFields → Label
cut_off n offset t = record { key = n; kind = kinds.Text; fields = text_replaced t (slice_of offset (length_told t.text) t.text) }

-- where the points go
abbrev pub points_cut : (k n offset len p index : ℕ) → Selection → Selection
points_cut k n offset len p index s =
    each_point (put_moves p (index + 1)) (each_point (splice_moves k offset len (length_told [])) (each_point (split_moves k offset n) s))

pub record IsCut (k offset : ℕ) (t : TextFields) (w v : Working) : Type 0 where
  pub ready : IsReady v
  pub next : v.next_key ≡ w.next_key + 1
  pub parent : ℕ
  pub index : ℕ
  pub up : parent_of w.forest k ≡ Some parent
  pub other : k ≢ w.next_key
  pub cuts_to : CutsTo w.forest v.forest k parent (left_at offset t) (cut_off w.next_key offset t)
  pub selection : v.selection ≡ points_cut k w.next_key offset (length_told t.text) parent index w.selection

-- a text is there
there : (f : Forest) (k : ℕ) (t : TextFields) → text_in (label_of f k) ≡ Some t → has k f ≡ true
there f k t e = grind (arith, e, is_some-spot f k)

-- the draft once the new text is there, and once the old one has lost what is cut off
tail_left : (k offset : ℕ) → TextFields → Working → Working
tail_left k offset t w = pointed (split_moves k offset w.next_key) (made kinds.Text (cut_off w.next_key offset t).fields w)

front_left : (k offset : ℕ) → TextFields → Working → Working
front_left k offset t w = fields_written k (left_at offset t) 0 (splice_points k offset (length_told t.text) []) (tail_left k offset t w)

tail_leaves : (k offset : ℕ) (t : TextFields) (w b : Working) → text_in (label_of w.forest k) ≡ Some t → IsTail k offset w b → tail_left k offset t w ≡ b
unfolding tail_left
tail_leaves k offset t w b text tail =
    ap (λ x. pointed (split_moves k offset w.next_key) (made kinds.Text x w)) (sym (ap (λ o. tail_in o offset) text)) ∙ tail.is

-- the old text still has its fields when the new one is there
text_still : (k offset : ℕ) (t : TextFields) (w : Working) → IsReady w → text_in (label_of w.forest k) ≡ Some t
    → text_in (label_of (tail_left k offset t w).forest k) ≡ Some t
unfolding tail_left
text_still k offset t w ready text =
    let free : has w.next_key w.forest ≡ false = ready.free w.next_key (omega arith) in
    let apart : k ≢ w.next_key = λ same. absurd (grind (arith, same, free, there w.forest k t text)) in
    ap text_in (label_of-with_new (cut_off w.next_key offset t) w.forest k ready.in_order free ∙ grind (arith, apart, eqb_tells k w.next_key)) ∙ text

front_leaves : (k offset len : ℕ) (t : TextFields) (w c : Working) → IsReady w → text_in (label_of w.forest k) ≡ Some t → len ≡ length_told t.text
    → splice_step k offset len [] (tail_left k offset t w) ≡ Ok c → front_left k offset t w ≡ c
unfolding front_left
front_leaves k offset len t w c ready text same e =
    let b : Working = tail_left k offset t w in
    ap (λ y. fields_written k y 0 (splice_points k offset (length_told t.text) []) b)
    (sym (ap (λ o. with_piece o offset (length_told t.text) []) (text_still k offset t w ready text)))
    ∙ ap (λ m. fields_written k (label_with_piece (label_of b.forest k) offset m []) 0 (splice_points k offset m []) b) (sym same)
    ∙ splice_is k offset len [] b c e

behind_leaves : (k offset : ℕ) (t : TextFields) (w v : Working) → IsReady w → text_in (label_of w.forest k) ≡ Some t → IsReady v → v.next_key ≡ w.next_key + 1
    → IsBehind w.next_key k (front_left k offset t w) v → IsCut k offset t w v
unfolding tail_left front_left
behind_leaves k offset t w v ready text later next put =
    let f : Forest = w.forest in
    let n : ℕ = w.next_key in
    let h : IsForest f = ready.in_order in
    let free : has n f ≡ false = ready.free n (omega arith) in
    let l : Label = cut_off n offset t in
    let x : Fields = left_at offset t in
    let up : parent_of f k ≡ Some put.parent = sym (parent_of-with_fields k x (with_new l f) k ∙ parent_of-with_new l f k h free) ∙ put.up in
    record {
      ready = later;
      next = next;
      parent = put.parent;
      index = put.index;
      up = up;
      other = λ same. absurd (grind (arith, same, free, there f k t text));
      cuts_to = subst (λ u. CutsTo f u.forest k put.parent x l) put.is (cuts f k put.parent put.index x l h free up put.can put.at);
      selection = ap (λ u. u.selection) (sym put.is);
    }

pub cut_tells : (k offset : ℕ) (t : TextFields) (w v : Working) → IsReady w → text_in (label_of w.forest k) ≡ Some t → cut_in_two k offset w ≡ Ok v
    → IsCut k offset t w v
unfolding cut_in_two
cut_tells k offset t w v ready text e =
    let n : ℕ = w.next_key in
    let len : ℕ = length_at w.forest k in
    let one = first_part (tail_made k offset w) (λ made. after (splice_step k offset len [] made) (put_behind_step n k)) v e in
    let two = first_part (splice_step k offset len [] one.0) (put_behind_step n k) v one.2 in
    let b_is : tail_left k offset t w ≡ one.0 = tail_leaves k offset t w one.0 text (tail_is k offset w one.0 one.1) in
    let cut : splice_step k offset len [] (tail_left k offset t w) ≡ Ok two.0 = ap (splice_step k offset len []) b_is ∙ two.1 in
    let c_is : front_left k offset t w ≡ two.0 = front_leaves k offset len t w two.0 ready text (ap length_in text) cut in
    let put : IsBehind n k (front_left k offset t w) v = behind_is n k (front_left k offset t w) v (ap (put_behind_step n k) c_is ∙ two.2) in
    behind_leaves k offset t w v ready text (cut_path covered_path k offset w v ready tt e).ready (cut-next_key k offset w v e) put

-- ---- keys before a cut and after it

module _ {k offset : ℕ} {t : TextFields} {w u : Working} (ready : IsReady w) (c : IsCut k offset t w u) where
  pub new_free : has w.next_key w.forest ≡ false
  new_free = ready.free w.next_key (omega arith)

  -- what is there stays so, and isn't new
  pub stays_there : (q : ℕ) → has q w.forest ≡ true → has q u.forest ≡ true
  stays_there q so = grind (arith, so, c.cuts_to.keys q)

  pub not_new : (q : ℕ) → has q w.forest ≡ true → q ≢ w.next_key
  not_new q so same = absurd (grind (arith, same, so, new_free))

  pub text_there : has k w.forest ≡ true
  text_there = has-child w.forest k c.parent c.up

  pub parent_there : has c.parent w.forest ≡ true
  parent_there = has-parent_of w.forest k c.parent c.up

  pub not_above : k ≢ c.parent
  not_above same = absurd (grind (arith, same, c.up, parent_of-self w.forest k ready.in_order, eqb_tells k k))

  -- the parent is that of both
  pub above_old : (p : ℕ) → parent_of w.forest k ≡ Some p → p ≡ c.parent
  above_old p e = let f : Some c.parent ≡ Some p = sym c.up ∙ e in cc

  pub above_new : (p : ℕ) → parent_of u.forest w.next_key ≡ Some p → p ≡ c.parent
  above_new p e = let f : Some c.parent ≡ Some p = sym c.cuts_to.up ∙ e in cc

  pub far_from : (q : ℕ) → parent_of w.forest k ≢ Some q → q ≢ c.parent
  far_from q above same = above (c.up ∙ ap (λ p. Some p) (sym same))

  pub far_from_new : (q : ℕ) → q ≢ c.parent → parent_of u.forest w.next_key ≢ Some q
  far_from_new q far e = far (above_new q e)
