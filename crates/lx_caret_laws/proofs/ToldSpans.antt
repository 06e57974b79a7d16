-- The laws on selections from one text to another, wherever the two are.
use Rattle.lx_blocks.specs.Ranges.{at_anchor}
use Rattle.lx_caret.specs.Deleting.{cluster_reach, delete_character_step, delete_word_step, word_reach}
use Rattle.lx_caret.specs.Inserting.{broken, insert_line_break_step, insert_tab_step, insert_text_step, tabbed, typed}
use Rattle.lx_caret.specs.Removing.{remove_text_step}
use Rattle.lx_caret_laws.proofs.Across.{label_stays}
use Rattle.lx_blocks.specs.Places.{covered}
use Rattle.lx_caret_laws.proofs.Going.{covers, in_wholly}
use Rattle.lx_caret_laws.proofs.LyingBetween.{is_out}
use Rattle.lx_trees.specs.Siblings.{is_among}
use Rattle.lx_caret_laws.proofs.ReadsOver.{allows_over, between_over}
use Rattle.lx_caret_laws.proofs.SelectedOver.{AllOver, all_over, deleted_over}
use Rattle.lx_caret_laws.proofs.PartedSpans.{parted_joined, parted_span}
use Rattle.lx_caret_laws.proofs.Through.{through}
use Rattle.lx_caret_laws.proofs.TypedAcross.{then_added}
use Rattle.lx_caret_laws.proofs.TypedAll.{told-typing}
use Rattle.lx_caret_laws.specs.Reading.{ReadsBetween}
use Rattle.lx_caret_laws.specs.Spans.{IsGoneOver, IsSelectedOver, IsTypedOverSpan, Removes, SpansGiveWay}
use Rattle.lx_caret_laws.specs.Typing.{IsCaretAt, IsTyped}
use Rattle.lx_draft.specs.Faults.{after, text_in}
use Rattle.lx_draft.specs.Steps.{text_replaced}
use Rattle.lx_draft.specs.Working.{Working}
use Rattle.lx_edit.specs.Edits.{text_point}
use Rattle.lx_edit.specs.Texts.{has_no_text}
use Rattle.lx_forest.proofs.Walks.{order_of-detached}
use Rattle.lx_forest.specs.Forest.{Forest, Label}
use Rattle.lx_forest.specs.Lookups.{IsForest, is_attached, order_of}
use Rattle.lx_node.specs.declared.cause.Cause.{Cause}
use Rattle.lx_node.specs.declared.fields.TextFields.{TextFields}
use Rattle.lx_node.specs.declared.kind.Kind.TheVariants as kinds
use Rattle.lx_text.proofs.Places.{front-length, rest-end}
use Rattle.lx_text.proofs.Told.{front-end}
use Rattle.lx_text.specs.Texts.{front_of, rest_of, text_length}
use Rattle.std.proofs.Common.{Bool, List, None, Ok, Result, Some, [], ap, append-nil, ap₂, arith, cond, inl, inr, sym, true, ℕ, ◌&&◌, ◌++◌, ◌∙◌, ◌∷◌, ◌≡◌, ◌≢◌, ◌≤◌}
use Rattle.std.proofs.lemmas.Bool.{cases_Bool}
use Rattle.std.specs.Prelude.{is_some}
use Rattle.std.specs.declared.cmp.Ordering.TheVariants as ordering

-- ---- removing and deleting

attached_by : (f : Forest) (s e : ℕ) → IsForest f → order_of f s e ≡ Some ordering.Less → is_attached f s ≡ true
attached_by f s e h less = elim (cases_Bool (is_attached f s && is_attached f e)) [
  | inl both ↦ grind (arith, both)
  | inr out ↦ absurd (let bad : None ≡ Some ordering.Less = sym (order_of-detached f s e h out) ∙ less in cc)
]

-- however it is removed
by_removing : (back : Bool) (s e i j format : ℕ) (one other : TextFields) (w v : Working) → IsSelectedOver s e i j format one other w
    → Removes back w v → remove_text_step w ≡ Ok v
unfolding delete_character_step delete_word_step
by_removing back s e i j format one other w v is (inl removed) = removed
by_removing back s e i j format one other w v is (inr (inl character)) =
    deleted_over back (cluster_reach back) s e i j format one other w v is (attached_by w.forest s e is.sound.ready.in_order is.order) character
by_removing back s e i j format one other w v is (inr (inr word)) =
    deleted_over back (word_reach back) s e i j format one other w v is (attached_by w.forest s e is.sound.ready.in_order is.order) word

-- what is covered is what lies wholly between
covered_is : (s e i j format : ℕ) (one other : TextFields) (w v : Working) (o : AllOver s e i j format one other w v) (q : ℕ)
    → is_among q (covered w.forest (text_point s i) (text_point e j)) ≡ is_out w.forest o.mid e q
covered_is s e i j format one other w v o q =
    ap (is_among q) (covers w.forest s e o.front o.mid o.back o.setting.between i j)
    ∙ in_wholly w.forest s e o.front o.mid o.back o.setting.between q

gone_over : (s e i j format : ℕ) (one other : TextFields) (w v : Working) → AllOver s e i j format one other w v
    → IsGoneOver s e i j format one other w v
gone_over s e i j format one other w v o = record {
  first_reads = o.over.first;
  last_reads = o.over.last;
  around = between_over s e i j format one other w v o;
  caret = o.caret;
  goes = λ q at. o.over.goes q (sym (covered_is s e i j format one other w v o q) ∙ at);
  stays = λ q there out apart. o.over.stays q there (sym (covered_is s e i j format one other w v o q) ∙ out) apart;
  last_stays = o.over.last_stays;
}

-- ---- adding something in the place of what was selected

-- what is added at the caret is read in the place of what was selected
added_over : (new : List ℕ) (next : Working → Result Working Cause) (s e i j format : ℕ) (one other : TextFields) (w v : Working)
    → IsSelectedOver s e i j format one other w → after (remove_text_step w) next ≡ Ok v
    → ((u : Working) → IsCaretAt (text_point s i) format u → after (remove_text_step u) next ≡ Ok v
    → ReadsBetween (text_point s i) (text_point s i) new u.forest v.forest)
    → ReadsBetween (text_point s i) (text_point e j) new w.forest v.forest
added_over new next s e i j format one other w v is done added =
    let m = through next s e i j format one other w v is done in
    let caret : IsCaretAt (text_point s i) format m.draft =
    record { sound = m.sound; caret = m.over.caret; open_there = λ inside. ap is_some m.normal } in
    then_added w.forest m.draft.forest v.forest (text_point s i) (text_point e j) new
    (between_over s e i j format one other w m.draft m.over) (added m.draft caret m.again)
    (allows_over s e i j format one other w m.draft m.over)

-- in the format of the first text it is typed into that
into_first : (new : List ℕ) (s e i j : ℕ) (one other : TextFields) (w v : Working) → IsSelectedOver s e i j one.format one other w
    → insert_text_step new w ≡ Ok v → IsTypedOverSpan new s e i j one other w v
unfolding insert_text_step
into_first new s e i j one other w v is done =
    let m = through (λ u. cond (has_no_text new) (Ok u) (at_anchor (typed new) u)) s e i j one.format one other w v is done in
    let u : Working = m.draft in
    let o = m.over in
    let front : List ℕ = front_of i one.text in
    let left : TextFields = record one { text = front } in
    let in_it : IsTyped new s i left u v = record { sound = m.sound; normal = m.normal; caret = o.caret; done = m.again } in
    let only = told-typing.read new s i left u v in_it in
    let few : text_length front ≤ i = front-length i one.text in
    let reads : front_of i front ++ new ++ rest_of i front ≡ front ++ new =
    ap₂ (λ x y. x ++ new ++ y) (front-end i front few) (rest-end i front few) ∙ append-nil (front ++ new) in
    let apart : e ≢ s = λ same. o.setting.apart (sym same) in
    record {
      first_reads = only.text left (ap text_in o.over.first)
          ∙ ap (λ t. let l : Label = record { key = s; kind = kinds.Text; fields = text_replaced one t } in Some l) reads;
      last_reads = label_stays u.forest v.forest s _ only e apart ∙ o.over.last;
      caret = told-typing.caret new s i left u v in_it;
    }

pub told-spans : SpansGiveWay
unfolding insert_text_step insert_tab_step insert_line_break_step
told-spans = record {
  removed = λ back s e i j format one other w v is done.
      gone_over s e i j format one other w v
      (all_over s e i j format one other w v is (by_removing back s e i j format one other w v is done));
  shared = λ back a b s e i j format one other w v is first_block last_block outside apart done.
      (all_over s e i j format one other w v is (by_removing back s e i j format one other w v is done)).shares a b first_block last_block
      outside apart;
  joined = λ back a b s e i j format one other w v is blocks done.
      (all_over s e i j format one other w v is (by_removing back s e i j format one other w v is done)).joins a b blocks;
  nested = λ back a b s e i j format one other w v is first_block last_block nested done.
      (all_over s e i j format one other w v is (by_removing back s e i j format one other w v is done)).keeps a b first_block last_block nested;
  typed = λ new s e i j format one other w v is some done.
      added_over new (λ u. cond (has_no_text new) (Ok u) (at_anchor (typed new) u)) s e i j format one other w v is done
      (λ u caret again. told-typing.anywhere new (text_point s i) format u v caret some again);
  typed_into = λ new s e i j one other w v is done. into_first new s e i j one other w v is done;
  tab = λ s e i j format one other w v is done.
      added_over (9 ∷ []) (at_anchor tabbed) s e i j format one other w v is done
      (λ u caret again. told-typing.tab (text_point s i) format u v caret again);
  line_break = λ s e i j format one other w v is done.
      added_over [] (at_anchor broken) s e i j format one other w v is done
      (λ u caret again. told-typing.line_break (text_point s i) format u v caret again);
  parted = λ block s e i j format one other w v is up kind holds done.
      parted_span block s e i j format one other w v is up kind holds done;
  parted_across = λ a b s e i j format one other w v is up blocks done. parted_joined a b s e i j format one other w v is up blocks done;
}
