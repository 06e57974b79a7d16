-- A selection from one text to another that comes after it, wherever the two are: all that is known once it was removed.
use Rattle.lx_blocks.specs.Blocks.{is_at, block_of}
use Rattle.lx_blocks.specs.Places.{is_less}
use Rattle.lx_blocks.specs.Ranges.{characters_at, lies}
use Rattle.lx_caret.proofs.Cleared.{remove_text_fits}
use Rattle.lx_caret.proofs.Fit.{Fit}
use Rattle.lx_caret.proofs.Lies.{both, text_at}
use Rattle.lx_caret.specs.Deleting.{Reach, delete_step}
use Rattle.lx_caret.specs.Removing.{remove_between, remove_text_step}
use Rattle.lx_caret_laws.proofs.Across.{Order, either_way, no_element}
use Rattle.lx_caret_laws.proofs.AtCaret.{Goes, goes, place_lies}
use Rattle.lx_caret_laws.proofs.Emptied.{emptied}
use Rattle.lx_caret_laws.proofs.Going.{are_between}
use Rattle.lx_caret_laws.proofs.Gone.{deleted_removes}
use Rattle.lx_caret_laws.proofs.GoneOver.{ends}
use Rattle.lx_caret_laws.proofs.InBlocks.{text_in_block}
use Rattle.lx_caret_laws.proofs.Merged.{Over, Setting}
use Rattle.lx_caret_laws.proofs.Spliced.{text_few, text_of_normal}
use Rattle.lx_caret_laws.specs.Carets.{HasCaret}
use Rattle.lx_caret_laws.specs.Spans.{AreJoined, AreToJoin, IsSelectedOver, KeepEnds, Share}
use Rattle.lx_draft.specs.Faults.{text_in}
use Rattle.lx_draft.specs.Selecting.{length_of, lies_in}
use Rattle.lx_draft.specs.Working.{Working}
use Rattle.lx_edit.specs.Edits.{text_point}
use Rattle.lx_edit_laws.proofs.Reading.{childless_text}
use Rattle.lx_forest.proofs.Preorder.{order_of-reversed}
use Rattle.lx_forest.proofs.Walks.{order_of-self}
use Rattle.lx_forest.proofs.Within.{is_within-leaf}
use Rattle.lx_forest.specs.Forest.{Forest}
use Rattle.lx_forest.specs.Lookups.{IsForest, children_of, is_attached, is_within, label_of, order_of}
use Rattle.lx_node.specs.Kinds.{is_element}
use Rattle.lx_node.specs.declared.cause.Point.{Point}
use Rattle.lx_node.specs.declared.fields.TextFields.{TextFields}
use Rattle.lx_select.specs.Selection.{each_point}
use Rattle.lx_select.specs.declared.selection.Selection.TheVariants.{Range}
use Rattle.lx_text.proofs.Told.{told-all}
use Rattle.lx_text.specs.Texts.{is_offset, text_length}
use Rattle.std.proofs.Common.{Bool, List, Ok, Some, [], ap, arith, eqb, false, inl, inr, option_map, refl, sym, true, ℕ, ◌∙◌, ◌≡◌, ◌≢◌, ◌≤◌, ◌⊎◌}
use Rattle.std.proofs.lemmas.Bool.Decides.{eqb_tells}
use Rattle.std.specs.Ordering.{ordering_reverse}
use Rattle.std.specs.declared.cmp.Ordering.TheVariants as ordering

-- what is known once what is selected from one text to another was removed
pub record AllOver (s e i j format : ℕ) (one other : TextFields) (w v : Working) : Type 0 where
  pub front : List ℕ
  pub mid : List ℕ
  pub back : List ℕ
  pub setting : Setting s e one other front mid back w
  pub over : Over s e i j one other front mid back w v
  pub in_first : is_offset i one.text ≡ true
  pub in_last : is_offset j other.text ≡ true
  pub leaf : is_at is_element w.forest s ≡ false
  pub leaf_last : is_at is_element w.forest e ≡ false
  pub caret : HasCaret s i format v
  pub fit : Fit v
  -- where neither of their blocks is in the other, they share what is left
  pub shares : (p b : ℕ) → block_of w.forest s ≡ Some p → block_of w.forest e ≡ Some b → is_within w.forest p b ≡ false
      → is_within w.forest b p ≡ false → Share p b s e i j w v
  -- where one of their blocks is in the other, nothing is joined
  pub keeps : (p b : ℕ) → block_of w.forest s ≡ Some p → block_of w.forest e ≡ Some b
      → (is_within w.forest p b ≡ true) ⊎ (is_within w.forest b p ≡ true) → KeepEnds s e i j w v
  -- and where they are to be joined, they are
  pub joins : (p b : ℕ) → AreToJoin p b s e w → AreJoined p b s e i j w v

-- ---- which point is first

texts_apart : (f : Forest) (s e : ℕ) → IsForest f → is_attached f s ≡ true → order_of f s e ≡ Some ordering.Less → s ≢ e
texts_apart f s e h there less same =
    let bad : Some ordering.Equal ≡ Some ordering.Less = sym (order_of-self f s h there) ∙ ap (order_of f s) same ∙ less in
    absurd (cc)

points_order : (f : Forest) (s e i j : ℕ) → IsForest f → s ≢ e → order_of f s e ≡ Some ordering.Less → children_of f s ≡ [] → children_of f e ≡ []
    → Order f s e i j
points_order f s e i j h apart less leaf_s leaf_e =
    let off : eqb s e ≡ false = grind (arith, apart, eqb_tells s e) in
    let turned : eqb e s ≡ false = grind (arith, apart, eqb_tells e s) in
    let se : is_within f s e ≡ false = is_within-leaf f s e h leaf_s ∙ grind (arith, turned) in
    let es : is_within f e s ≡ false = is_within-leaf f e s h leaf_e ∙ grind (arith, off) in
    let more : order_of f e s ≡ Some ordering.Greater = order_of-reversed f s e ∙ ap (option_map ordering_reverse) less in
    record {
      on = rw (off, se, es) (ap is_less less);
      back = rw (turned, es, se) (ap is_less more);
    }

-- ---- the command

over_points : (a c : Point) (s e i j format : ℕ) (one other : TextFields) (w v : Working)
    → IsSelectedOver s e i j format one other w → w.selection ≡ Range a c format
    → ((a ≡ text_point s i) × (c ≡ text_point e j)) ⊎ ((a ≡ text_point e j) × (c ≡ text_point s i))
    → lies w.forest (text_point s i) ≡ true → lies w.forest (text_point e j) ≡ true → Goes a c format w v → remove_text_step w ≡ Ok v
    → AllOver s e i j format one other w v
over_points a c s e i j format one other w v is selects points place_s place_e goes done =
    let f : Forest = w.forest in
    let h : IsForest f = is.sound.ready.in_order in
    let first : text_in (label_of f s) ≡ Some one = text_of_normal f s one is.first_normal in
    let last : text_in (label_of f e) ≡ Some other = text_of_normal f e other is.last_normal in
    let text_s = text_at f s one first in
    let text_e = text_at f e other last in
    let there_s : is_attached f s ≡ true = (both (is_attached f s) (lies_in f (text_point s i)) place_s).0 in
    let there_e : is_attached f e ≡ true = (both (is_attached f e) (lies_in f (text_point e j)) place_e).0 in
    let leaf_s : children_of f s ≡ [] = childless_text f s h is.sound.held text_s.kind_is in
    let leaf_e : children_of f e ≡ [] = childless_text f e h is.sound.held text_e.kind_is in
    let apart : s ≢ e = texts_apart f s e h there_s is.order in
    let b = are_between f s e h there_s there_e apart is.order leaf_s leaf_e in
    let setting : Setting s e one other b.front b.mid b.back w =
    record { between = b.is; apart = apart; first = first; last = last; held = is.sound.held; suited = is.suited } in
    let removed : remove_between (text_point s i) (text_point e j) w ≡ Ok v =
    either_way a c s e i j format w v (points_order f s e i j h apart is.order leaf_s leaf_e) apart points goes.removed in
    let long : text_length one.text ≤ characters_at f s =
    omega (arith, ap length_of text_s.fields_are ∙ told-all one.text (text_few w s one is.sound first)) in
    let part = emptied s e i j one other b.front b.mid b.back w v b.is apart is.first_normal is.last_normal first last long removed in
    let one_block = text_in_block f s h is.sound.held there_s text_s.kind_is in
    let two_block = text_in_block f e h is.sound.held there_e text_e.kind_is in
    let in_first : is_offset i one.text ≡ true = (place_lies f s i one first place_s).0 in
    let in_last : is_offset j other.text ≡ true = (place_lies f e j other last place_e).0 in
    let end = λ (p q : ℕ). ends s e i j one other b.front b.mid b.back w part.draft setting part.is p q v in
    let over = (end one_block.0 two_block.0 one_block.1 two_block.1 part.merge).over in
    record {
      front = b.front;
      mid = b.mid;
      back = b.back;
      setting = setting;
      over = over;
      in_first = in_first;
      in_last = in_last;
      leaf = no_element f s text_s.kind_is;
      leaf_last = no_element f e text_e.kind_is;
      caret = over.caret format (ap (each_point (λ x. text_point s i)) selects);
      fit = remove_text_fits w v is.sound.ready is.sound.held is.sound.short done;
      shares = λ p q first_block last_block outside off. (end p q first_block last_block part.merge).shares in_first in_last outside off;
      keeps = λ p q first_block last_block nested. (end p q first_block last_block part.merge).keeps in_first in_last nested;
      joins = λ p q k. (end p q k.first_block k.last_block part.merge).joins in_first in_last k.outside k.apart k.inline;
    }

pub all_over : (s e i j format : ℕ) (one other : TextFields) (w v : Working) → IsSelectedOver s e i j format one other w
    → remove_text_step w ≡ Ok v → AllOver s e i j format one other w v
all_over s e i j format one other w v is done = elim is.selects [
  | inl selects ↦
      let told = goes (text_point s i) (text_point e j) format w v selects done in
      over_points (text_point s i) (text_point e j) s e i j format one other w v is selects (inl (refl, refl))
      told.is.anchor told.is.focus told done
  | inr selects ↦
      let told = goes (text_point e j) (text_point s i) format w v selects done in
      over_points (text_point e j) (text_point s i) s e i j format one other w v is selects (inr (refl, refl))
      told.is.focus told.is.anchor told done
]

-- what is selected so is deleted as it is removed
pub deleted_over : (back : Bool) (reach : Reach) (s e i j format : ℕ) (one other : TextFields) (w v : Working)
    → IsSelectedOver s e i j format one other w → is_attached w.forest s ≡ true → delete_step back reach w ≡ Ok v → remove_text_step w ≡ Ok v
deleted_over back reach s e i j format one other w v is there done =
    let apart : s ≢ e = texts_apart w.forest s e is.sound.ready.in_order there is.order in
    elim is.selects [
      | inl selects ↦
          deleted_removes back reach (text_point s i) (text_point e j) format w v selects (grind (arith, apart, eqb_tells s e)) done
      | inr selects ↦
          deleted_removes back reach (text_point e j) (text_point s i) format w v selects (grind (arith, apart, eqb_tells e s)) done
    ]
