-- What is deleted in a text: exactly what the command names, and nothing else.
use Rattle.lx_blocks.proofs.Steps.{attached_there}
use Rattle.lx_blocks.specs.Blocks.{block_of, leading}
use Rattle.lx_blocks.specs.Places.{covered, outermost, until}
use Rattle.lx_blocks.specs.Ranges.{caret_at, characters_at, end_of, is_collapsed, normal_at, range_of, start_of}
use Rattle.lx_blocks.specs.declared.ranges.Ranged.{Ranged}
use Rattle.lx_caret.proofs.Fit.{after_tells}
use Rattle.lx_caret.proofs.Lies.{both, text_at}
use Rattle.lx_caret_laws.proofs.InBlocks.{text_in_block}
use Rattle.lx_caret.specs.Deleting.{Reach, cluster_reach, delete_character_step, delete_step, delete_word_step, deleted_in, edge, erase_step, erased, has_more, leaf_beside, leaf_or_line, leaf_step, word_reach}
use Rattle.lx_caret.specs.Removing.{are_apart, cut_step, end_cut, merge_step, remove_between, remove_text_step, removed_below, removed_empty, removed_in, start_cut}
use Rattle.lx_caret_laws.proofs.AtCaret.{collapsed, goes, ranged, taken}
use Rattle.lx_caret_laws.proofs.EditedIn.{edited_around}
use Rattle.lx_forest.proofs.Order.{IsForest-with_fields}
use Rattle.lx_caret_laws.proofs.Spliced.{only_reads, text_of_normal, text_few, was_spliced}
use Rattle.lx_caret_laws.specs.Carets.{HasCaret, IsSound, OnlyReads, SelectsIn}
use Rattle.lx_caret_laws.specs.Deleting.{DeletingIsExact, IsBesideText, IsCaretIn, IsGone, IsOut, IsSelectedIn}
use Rattle.lx_draft.specs.Faults.{after, text_in}
use Rattle.lx_draft.specs.Selecting.{lies_in, length_of, length_told}
use Rattle.lx_draft.specs.Steps.{splice_points, splice_step}
use Rattle.lx_draft.specs.Working.{Working}
use Rattle.lx_edit.specs.Edits.{moved_to_end, remove_step, text_point}
use Rattle.lx_edit.specs.InTurn.{in_turn}
use Rattle.lx_forest.proofs.Within.{is_within-self}
use Rattle.lx_forest.specs.Forest.{Forest}
use Rattle.lx_forest.specs.Lookups.{IsForest, behind, is_attached, is_within, label_of}
use Rattle.lx_node.specs.Limits.{last_u32}
use Rattle.lx_node.specs.declared.cause.Cause.{Cause}
use Rattle.lx_node.specs.declared.cause.Point.{Point}
use Rattle.lx_node.specs.declared.cause.PointKind.TheVariants as point
use Rattle.lx_node.specs.declared.fields.TextFields.{TextFields}
use Rattle.lx_select.specs.Rules.{offset_sum, splice_moves, spliced_offset}
use Rattle.lx_select.specs.Selection.{each_point}
use Rattle.lx_select.specs.declared.selection.Selection.TheVariants.{Range}
use Rattle.lx_text.proofs.Places.{length-some, offset_is}
use Rattle.lx_text.proofs.Told.{offset_within, piece_of, pieces-whole, told-all, told-none}
use Rattle.lx_text.specs.Texts.{front_of, rest_of, spliced_text, text_length}
use Rattle.std.proofs.Common.{Bool, List, None, Ok, Option, Result, Some, [], ap, ap₂, append-nil, arith, cond, eqb, false, inl, inr, refl, subst, sym, true, ℕ, ◌++◌, ◌<◌, ◌∙◌, ◌∷◌, ◌≡◌, ◌≢◌, ◌≤◌, ◌⊎◌}
use Rattle.std.proofs.lemmas.Bool.Decides.{eqb_tells, nat_tests}
use Rattle.std.proofs.lemmas.Bool.{cases_Bool}
use Rattle.lx_trees.specs.Siblings.{first_of}
use Rattle.std.specs.Prelude.{filter, is_some, nat_le, nat_lt, not}

-- ---- a piece that is cut out

-- a point at either end of what is cut out is between what was before it and what was after it
point_left : (k from to o : ℕ) → from ≤ to → from ≤ last_u32 → (o ≡ from) ⊎ (o ≡ to)
    → splice_moves k from to (length_told []) (text_point k o) ≡ text_point k from
unfolding splice_moves spliced_offset offset_sum
point_left k from to o order few (inl at) =
    grind (arith, at, eqb_tells k k, nat_tests)
point_left k from to o order few (inr at) =
    let own : eqb k k ≡ true = grind (arith, eqb_tells k k) in
    rw (own, at, told-none) (ap (text_point k) (grind (arith, order, few, nat_tests)))

pub out : (k from to : ℕ) (t : TextFields) (w v : Working) → IsSound w → text_in (label_of w.forest k) ≡ Some t → splice_step k from to [] w ≡ Ok v
    → IsOut k from to t.text w v
unfolding spliced_text
out k from to t w v sound here e =
    let s = was_spliced k from to [] t w v sound.short here e in
    let piece = piece_of from to t.text s.piece in
    let read : OnlyReads k (front_of from t.text ++ [] ++ rest_of to t.text) w.forest v.forest =
    subst (λ g. OnlyReads k (spliced_text from to [] t.text) w.forest g) (sym s.forest)
    (only_reads w.forest k t (spliced_text from to [] t.text) here) in
    let order : IsForest v.forest = subst IsForest (sym s.forest) (IsForest-with_fields k _ w.forest sound.ready.in_order) in
    record {
      parted = pieces-whole from to t.text s.piece;
      length = offset_is from t.text piece.first;
      read = subst (λ now. OnlyReads k now w.forest v.forest) (ap (λ cs. cs ++ rest_of to t.text) (append-nil (front_of from t.text))) read;
      around = edited_around w.forest v.forest k from to [] t sound.ready.in_order order sound.held here s.piece read;
    }

pub gone : (k from to o format : ℕ) (t : TextFields) (w v : Working) → IsSound w → text_in (label_of w.forest k) ≡ Some t
    → HasCaret k o format w → (o ≡ from) ⊎ (o ≡ to) → splice_step k from to [] w ≡ Ok v → IsGone k from to format t.text w v
gone k from to o format t w v sound here caret ends e =
    let s = was_spliced k from to [] t w v sound.short here e in
    let piece = piece_of from to t.text s.piece in
    let few : from ≤ last_u32 = omega (arith, offset_within from t.text piece.first, text_few w k t sound here) in
    record {
      out = out k from to t w v sound here e;
      caret = s.selection ∙ ap (splice_points k from to []) caret ∙ ap (λ p. Range p p format) (point_left k from to o piece.in_order few ends);
    }

-- ---- a range in a text

until_itself : (ks : List ℕ) → until (first_of ks) ks ≡ []
until_itself [] = refl
until_itself (k ∷ ks) = grind (arith, eqb_tells k k)

-- nothing lies between two points of a text
pub none_covered : (f : Forest) (k from to : ℕ) → covered f (text_point k from) (text_point k to) ≡ []
none_covered f k from to = ap (filter (λ q. not (is_within f q k))) (until_itself (behind f k))

-- a block isn't apart from itself
not_apart : (f : Forest) (a : ℕ) → are_apart f a a ≡ false
not_apart f a = elim (cases_Bool (is_attached f a)) [
  | inl there ↦ grind (arith, there, is_within-self f a, attached_there f a there)
  | inr out ↦ rw out refl
]

pub merged_itself : (o : Option ℕ) (w : Working) → merge_step o o w ≡ Ok w
unfolding merge_step
merged_itself None w = refl
merged_itself (Some a) w =
    ap (λ b. cond b (after (in_turn (moved_to_end a) (leading w.forest a) w) (removed_empty a)) (Ok w)) (not_apart w.forest a)

-- what is between two points of a normal text is cut out, once the caret is at the first
cut_between : (k from to : ℕ) (w v : Working) → from < to → is_some (normal_at w.forest k) ≡ true
    → remove_between (text_point k from) (text_point k to) w ≡ Ok v → splice_step k from to [] (caret_at (text_point k from) w) ≡ Ok v
unfolding remove_between cut_step in_turn
cut_between k from to w v less normal e =
    let start : Point = text_point k from in
    let end : Point = text_point k to in
    let u : Working = caret_at start w in
    let b : Option ℕ = block_of w.forest k in
    let own : eqb k k ≡ true = grind (arith, eqb_tells k k) in
    let some : eqb from to ≡ false = grind (arith, less, eqb_tells from to) in
    let cut : start_cut start end point.Text u ≡ splice_step k from to [] u = rw (own, some, normal) refl in
    let rest : (c : Working) → after (in_turn removed_below (outermost w.forest (covered w.forest start end)) c)
    (λ removed. after (end_cut start end point.Text removed) (merge_step b b)) ≡ Ok c =
    λ c. ap (λ ks. after (in_turn removed_below (outermost w.forest ks) c) (λ removed. after (end_cut start end point.Text removed) (merge_step b b)))
    (none_covered w.forest k from to)
    ∙ ap (λ t. after (cond t (Ok c) (cut_step k 0 to c)) (merge_step b b)) own ∙ merged_itself b c in
    let first = after_tells (start_cut start end point.Text u) (λ c. after (in_turn removed_below (outermost w.forest (covered w.forest start end)) c)
    (λ removed. after (end_cut start end point.Text removed) (merge_step b b))) v e in
    sym cut ∙ first.1.0 ∙ sym (rest first.0) ∙ first.1.1

-- what a range covers in a text, by the order of its points
forward : (k from to format : ℕ) (w v : Working) → from < to → removed_in (ranged (text_point k from) (text_point k to) format) w ≡ Ok v
    → remove_between (text_point k from) (text_point k to) w ≡ Ok v
forward k from to format w v less e =
    let r : Ranged = ranged (text_point k from) (text_point k to) format in
    let own : eqb k k ≡ true = grind (arith, eqb_tells k k) in
    let order : nat_le from to ≡ true = grind (arith, less, nat_tests) in
    let apart : is_collapsed r ≡ false = grind (arith, less, eqb_tells from to) in
    let start : start_of w.forest r ≡ text_point k from = rw (own, order) refl in
    let end : end_of w.forest r ≡ text_point k to = rw (own, order) refl in
    sym (ap₂ (λ p q. remove_between p q w) start end)
    ∙ sym (ap (λ b. cond b (Ok w) (remove_between (start_of w.forest r) (end_of w.forest r) w)) apart) ∙ e

backward : (k from to format : ℕ) (w v : Working) → from < to → removed_in (ranged (text_point k to) (text_point k from) format) w ≡ Ok v
    → remove_between (text_point k from) (text_point k to) w ≡ Ok v
backward k from to format w v less e =
    let r : Ranged = ranged (text_point k to) (text_point k from) format in
    let own : eqb k k ≡ true = grind (arith, eqb_tells k k) in
    let order : nat_le to from ≡ false = grind (arith, less, nat_tests) in
    let apart : is_collapsed r ≡ false = grind (arith, less, eqb_tells to from) in
    let start : start_of w.forest r ≡ text_point k from = rw (own, order) refl in
    let end : end_of w.forest r ≡ text_point k to = rw (own, order) refl in
    sym (ap₂ (λ p q. remove_between p q w) start end)
    ∙ sym (ap (λ b. cond b (Ok w) (remove_between (start_of w.forest r) (end_of w.forest r) w)) apart) ∙ e

-- a selection in a text, cut out once the caret is at its start
pub record IsCutOut (k from to format : ℕ) (w v : Working) : Type 0 where
  pub caret : HasCaret k from format (caret_at (text_point k from) w)
  pub cut : splice_step k from to [] (caret_at (text_point k from) w) ≡ Ok v

cut_out : (k a b from to format : ℕ) (t : TextFields) (w v : Working) → IsSelectedIn k from to format t w → SelectsIn k a b format w
    → remove_between (text_point k from) (text_point k to) w ≡ Ok v → IsCutOut k from to format w v
cut_out k a b from to format t w v is selects e = record {
  caret = ap (each_point (λ p. text_point k from)) selects;
  cut = cut_between k from to w v is.some (ap is_some is.normal) e;
}

pub removed_cut : (k from to format : ℕ) (t : TextFields) (w v : Working) → IsSelectedIn k from to format t w → remove_text_step w ≡ Ok v
    → IsCutOut k from to format w v
removed_cut k from to format t w v is e = elim is.selects [
  | inl selects ↦
      cut_out k from to from to format t w v is selects
      (forward k from to format w v is.some (goes (text_point k from) (text_point k to) format w v selects e).removed)
  | inr selects ↦
      cut_out k to from from to format t w v is selects
      (backward k from to format w v is.some (goes (text_point k to) (text_point k from) format w v selects e).removed)
]

pub caret_sound : (k from : ℕ) (w : Working) → IsSound w → IsSound (caret_at (text_point k from) w)
caret_sound k from w sound = record {
  ready = record { in_order = sound.ready.in_order; free = sound.ready.free };
  held = sound.held;
  short = sound.short;
  written = sound.written;
}

pub cut_gone : (k from to format : ℕ) (t : TextFields) (w v : Working) → IsSelectedIn k from to format t w → IsCutOut k from to format w v
    → IsGone k from to format t.text w v
cut_gone k from to format t w v is c =
    let told = gone k from to from format t (caret_at (text_point k from) w) v (caret_sound k from w is.sound)
    (text_of_normal w.forest k t is.normal) c.caret
    (inl refl) c.cut in
    record {
      out = record { parted = told.out.parted; length = told.out.length; read = told.out.read; around = told.out.around };
      caret = told.caret;
    }

-- a selection that is deleted is removed
deleted_goes : (back : Bool) (reach : Reach) (a b : Point) (format : ℕ) (w v : Working) → w.selection ≡ Range a b format
    → is_collapsed (ranged a b format) ≡ false → delete_step back reach w ≡ Ok v → removed_in (ranged a b format) w ≡ Ok v
unfolding delete_step
deleted_goes back reach a b format w v selects apart e =
    let r : Ranged = ranged a b format in
    let first = after_tells (range_of w) (λ r. cond (is_collapsed r) (deleted_in back reach r.anchor (block_of w.forest r.anchor.key) w)
    (removed_in r w)) v e in
    let took = taken a b format w first.0 selects first.1.0 in
    let same : first.0 ≡ r =
    let both_are : ◌≡◌ {A = Result Ranged Cause} (Ok first.0) (Ok r) = sym first.1.0 ∙ took.is in cc in
    let here : cond (is_collapsed r) (deleted_in back reach a (block_of w.forest a.key) w) (removed_in r w) ≡ Ok v =
    ap (λ r. cond (is_collapsed r) (deleted_in back reach r.anchor (block_of w.forest r.anchor.key) w) (removed_in r w)) (sym same) ∙ first.1.1 in
    sym (ap (λ t. cond t (deleted_in back reach a (block_of w.forest a.key) w) (removed_in r w)) apart) ∙ here

-- so it is what removing leaves
pub deleted_removes : (back : Bool) (reach : Reach) (a b : Point) (format : ℕ) (w v : Working) → w.selection ≡ Range a b format
    → is_collapsed (ranged a b format) ≡ false → delete_step back reach w ≡ Ok v → remove_text_step w ≡ Ok v
unfolding delete_step remove_text_step
deleted_removes back reach a b format w v selects apart e =
    let first = after_tells (range_of w) (λ r. cond (is_collapsed r) (deleted_in back reach r.anchor (block_of w.forest r.anchor.key) w)
    (removed_in r w)) v e in
    ap (λ x. after x (λ r. removed_in r w)) (taken a b format w first.0 selects first.1.0).is
    ∙ deleted_goes back reach a b format w v selects apart e

deleted_gone : (back : Bool) (reach : Reach) (k from to format : ℕ) (t : TextFields) (w v : Working) → IsSelectedIn k from to format t w
    → delete_step back reach w ≡ Ok v → IsGone k from to format t.text w v
deleted_gone back reach k from to format t w v is e = elim is.selects [
  | inl selects ↦
      let apart : is_collapsed (ranged (text_point k from) (text_point k to) format) ≡ false = grind (arith, is.some, eqb_tells from to) in
      cut_gone k from to format t w v is (cut_out k from to from to format t w v is selects
      (forward k from to format w v is.some (deleted_goes back reach (text_point k from) (text_point k to) format w v selects apart e)))
  | inr selects ↦
      let apart : is_collapsed (ranged (text_point k to) (text_point k from) format) ≡ false = grind (arith, is.some, eqb_tells to from) in
      cut_gone k from to format t w v is (cut_out k to from from to format t w v is selects
      (backward k from to format w v is.some (deleted_goes back reach (text_point k to) (text_point k from) format w v selects apart e)))
]

-- ---- next to a caret

-- what the reach goes over is cut out of a normal text
erased_at : (back : Bool) (reach : Reach) (k at format : ℕ) (t : TextFields) (w v : Working) → IsCaretIn k at format t w
    → has_more back w.forest (text_point k at) point.Text ≡ true → delete_step back reach w ≡ Ok v → erased back reach k at (Some t) w ≡ Ok v
unfolding delete_step erase_step
erased_at back reach k at format t w v is more e =
    let p : Point = text_point k at in
    let r : Ranged = ranged p p format in
    let first = after_tells (range_of w) (λ r. cond (is_collapsed r) (deleted_in back reach r.anchor (block_of w.forest r.anchor.key) w)
    (removed_in r w)) v e in
    let took = taken p p format w first.0 is.caret first.1.0 in
    let same : first.0 ≡ r =
    let both_are : ◌≡◌ {A = Result Ranged Cause} (Ok first.0) (Ok r) = sym first.1.0 ∙ took.is in cc in
    let here : cond (is_collapsed r) (deleted_in back reach p (block_of w.forest k) w) (removed_in r w) ≡ Ok v =
    ap (λ r. cond (is_collapsed r) (deleted_in back reach r.anchor (block_of w.forest r.anchor.key) w) (removed_in r w)) (sym same) ∙ first.1.1 in
    let deleted : deleted_in back reach p (block_of w.forest k) w ≡ Ok v =
    sym (ap (λ b. cond b (deleted_in back reach p (block_of w.forest k) w) (removed_in r w)) (collapsed p format)) ∙ here in
    let text = text_at w.forest k t (text_of_normal w.forest k t is.normal) in
    let place : is_attached w.forest k ≡ true = (both (is_attached w.forest k) (lies_in w.forest p) took.anchor).0 in
    let block = text_in_block w.forest k is.sound.ready.in_order is.sound.held place text.kind_is in
    let inside : deleted_in back reach p (Some block.0) w ≡ Ok v = sym (ap (λ o. deleted_in back reach p o w) block.1) ∙ deleted in
    sym (ap (λ o. erased back reach k at o w) is.normal)
    ∙ sym (ap (λ b. cond b (erased back reach k at (normal_at w.forest k) w)
    (leaf_or_line back reach block.0 (leaf_beside back w.forest block.0 p) w)) more)
    ∙ inside

gone_before : (reach : Reach) (k at format : ℕ) (t : TextFields) (w v : Working) → IsCaretIn k at format t w → 0 < at
    → delete_step true reach w ≡ Ok v → IsGone k (reach t.text at) at format t.text w v
gone_before reach k at format t w v is some e =
    gone k (reach t.text at) at at format t w v is.sound (text_of_normal w.forest k t is.normal) is.caret (inr refl)
    (erased_at true reach k at format t w v is (grind (arith, some, nat_tests)) e)

gone_after : (reach : Reach) (k at format : ℕ) (t : TextFields) (w v : Working) → IsCaretIn k at format t w → at < text_length t.text
    → delete_step false reach w ≡ Ok v → IsGone k at (reach t.text at) format t.text w v
gone_after reach k at format t w v is some e =
    let here : text_in (label_of w.forest k) ≡ Some t = text_of_normal w.forest k t is.normal in
    let length : characters_at w.forest k ≡ text_length t.text =
    ap length_of (text_at w.forest k t here).fields_are ∙ told-all t.text (text_few w k t is.sound here) in
    let more : nat_lt at (characters_at w.forest k) ≡ true = grind (arith, length, some, nat_tests) in
    gone k at (reach t.text at) at format t w v is.sound here is.caret (inl refl) (erased_at false reach k at format t w v is more e)

-- ---- in the leaf beside

-- a leaf that is a normal text with characters loses what the reach goes over at the near end
leaf_out : (back : Bool) (reach : Reach) (leaf : ℕ) (t : TextFields) (p : Point) (format : ℕ) (w v : Working) → IsBesideText back leaf t p format w
    → delete_step back reach w ≡ Ok v → erased back reach leaf (edge back (text_length t.text)) (Some t) w ≡ Ok v
unfolding delete_step leaf_step erase_step
leaf_out back reach leaf t p format w v is e =
    let r : Ranged = ranged p p format in
    let here : text_in (label_of w.forest leaf) ≡ Some t = text_of_normal w.forest leaf t is.normal in
    let first = after_tells (range_of w) (λ r. cond (is_collapsed r) (deleted_in back reach r.anchor (block_of w.forest r.anchor.key) w)
    (removed_in r w)) v e in
    let took = taken p p format w first.0 is.caret first.1.0 in
    let same : first.0 ≡ r =
    let both_are : ◌≡◌ {A = Result Ranged Cause} (Ok first.0) (Ok r) = sym first.1.0 ∙ took.is in cc in
    let whole : cond (is_collapsed r) (deleted_in back reach p (block_of w.forest p.key) w) (removed_in r w) ≡ Ok v =
    ap (λ r. cond (is_collapsed r) (deleted_in back reach r.anchor (block_of w.forest r.anchor.key) w) (removed_in r w)) (sym same) ∙ first.1.1 in
    let deleted : deleted_in back reach p (block_of w.forest p.key) w ≡ Ok v =
    sym (ap (λ b. cond b (deleted_in back reach p (block_of w.forest p.key) w) (removed_in r w)) (collapsed p format)) ∙ whole in
    let inside : deleted_in back reach p (Some is.block) w ≡ Ok v = sym (ap (λ o. deleted_in back reach p o w) is.within) ∙ deleted in
    let beside : leaf_or_line back reach is.block (Some leaf) w ≡ Ok v =
    sym (ap (λ b. cond b (erase_step back reach p.key p.offset w)
    (leaf_or_line back reach is.block (leaf_beside back w.forest is.block p) w)) is.at_edge
    ∙ ap (λ o. leaf_or_line back reach is.block o w) is.beside) ∙ inside in
    let length : characters_at w.forest leaf ≡ text_length t.text =
    ap length_of (text_at w.forest leaf t here).fields_are ∙ told-all t.text (text_few w leaf t is.sound here) in
    let some : eqb (characters_at w.forest leaf) 0 ≡ false = ap (λ n. eqb n 0) length ∙ not_none t.text is.some in
    sym (ap (λ b. cond b (remove_step leaf w) (erased back reach leaf (edge back (characters_at w.forest leaf)) (normal_at w.forest leaf) w)) some
    ∙ ap₂ (λ n o. erased back reach leaf (edge back n) o w) length is.normal) ∙ beside where
      not_none : (text : List ℕ) → text ≢ [] → eqb (text_length text) 0 ≡ false
      not_none [] some = absurd (some refl)
      not_none (c ∷ cs) some = grind (arith, length-some c cs, eqb_tells (text_length (c ∷ cs)) 0)

last_out : (reach : Reach) (leaf : ℕ) (t : TextFields) (p : Point) (format : ℕ) (w v : Working) → IsBesideText true leaf t p format w
    → delete_step true reach w ≡ Ok v → IsOut leaf (reach t.text (text_length t.text)) (text_length t.text) t.text w v
last_out reach leaf t p format w v is e =
    out leaf (reach t.text (text_length t.text)) (text_length t.text) t w v is.sound (text_of_normal w.forest leaf t is.normal)
    (leaf_out true reach leaf t p format w v is e)

first_out : (reach : Reach) (leaf : ℕ) (t : TextFields) (p : Point) (format : ℕ) (w v : Working) → IsBesideText false leaf t p format w
    → delete_step false reach w ≡ Ok v → IsOut leaf 0 (reach t.text 0) t.text w v
first_out reach leaf t p format w v is e =
    out leaf 0 (reach t.text 0) t w v is.sound (text_of_normal w.forest leaf t is.normal) (leaf_out false reach leaf t p format w v is e)

-- ---- the laws

pub told-deleting : DeletingIsExact
unfolding delete_character_step delete_word_step
told-deleting = record {
  removed = λ k from to format t w v is e. cut_gone k from to format t w v is (removed_cut k from to format t w v is e);
  selection_deleted = λ back k from to format t w v is e. elim e [
    | inl character ↦ deleted_gone back (cluster_reach back) k from to format t w v is character
    | inr word ↦ deleted_gone back (word_reach back) k from to format t w v is word
  ];
  character_back = λ k at format t w v is some e. gone_before (cluster_reach true) k at format t w v is some e;
  character_on = λ k at format t w v is some e. gone_after (cluster_reach false) k at format t w v is some e;
  word_back = λ k at format t w v is some e. gone_before (word_reach true) k at format t w v is some e;
  word_on = λ k at format t w v is some e. gone_after (word_reach false) k at format t w v is some e;
  last_character = λ leaf t p format w v is e. last_out (cluster_reach true) leaf t p format w v is e;
  first_character = λ leaf t p format w v is e. first_out (cluster_reach false) leaf t p format w v is e;
  last_word = λ leaf t p format w v is e. last_out (word_reach true) leaf t p format w v is e;
  first_word = λ leaf t p format w v is e. first_out (word_reach false) leaf t p format w v is e;
}
