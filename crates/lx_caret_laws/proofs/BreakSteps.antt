-- A paragraph that is inserted, by the steps that insert it: what is read in its block, and where the caret is.
use Rattle.lx_blocks.specs.Blocks.{block_of, is_at, passes}
use Rattle.lx_blocks.specs.Places.{until}
use Rattle.lx_blocks.specs.Ranges.{at_anchor, at_anchor_of, caret_at, lies}
use Rattle.lx_caret.proofs.Fit.{after_tells}
use Rattle.lx_caret.specs.Paragraphs.{Broken, block_cut, block_in, cut_open, draft_left, empty_item, if_empty_item, insert_paragraph_step, moved_on, new_next, next_of_kind, paragraph_at, parted_up, place_of, start_of_first}
use Rattle.lx_caret.specs.Removing.{remove_text_step}
use Rattle.lx_caret_laws.proofs.AtCaret.{at_caret}
use Rattle.lx_caret_laws.proofs.BrokenParts.{among_drop, once_drop}
use Rattle.lx_caret_laws.proofs.Opened.{IsOpened, cut_tells, no_element_at}
use Rattle.lx_caret_laws.proofs.Placed.{label_new, put_after}
use Rattle.lx_caret_laws.proofs.TypedNew.{said_label}
use Rattle.lx_caret_laws.proofs.BreakStarts.{silent_next, starts}
use Rattle.lx_caret_laws.proofs.BrokenUp.{are_parted}
use Rattle.lx_caret_laws.proofs.FormatKept.{InFormat, caret_set, cut_kept, new_kept, put_behind_kept, turns_kept}
use Rattle.lx_caret_laws.proofs.SilentBlocks.{silent_block}
use Rattle.lx_draft.specs.Selecting.{text_of}
use Rattle.lx_caret_laws.specs.Breaking.{BreakingPartsText, IsBroken, IsPartedAt, StartsIn}
use Rattle.lx_caret_laws.specs.Carets.{IsSound}
use Rattle.lx_caret_laws.specs.Reading.{place_in, said}
use Rattle.lx_draft.proofs.Gaps.{parent_here}
use Rattle.lx_draft.proofs.Touched.{is_some-kind_of}
use Rattle.lx_draft.specs.Beside.{put_behind_step}
use Rattle.lx_draft.specs.Faults.{after}
use Rattle.lx_draft.specs.Steps.{new_step}
use Rattle.lx_draft.specs.Working.{Working}
use Rattle.lx_edit.specs.Edits.{moved_to_end, text_point}
use Rattle.lx_edit.specs.InTurn.{in_turn}
use Rattle.lx_edit_laws.proofs.WrapSteps.{was_same}
use Rattle.lx_edit_laws.proofs.WrapTurns.{went_over}
use Rattle.lx_forest.proofs.Lookups.{NoRepeats-children_of, has-child, has-parent_of, is_among-children_of, parent_of-self}
use Rattle.lx_forest.proofs.Walks.{ancestors-step}
use Rattle.lx_forest.specs.Forest.{Forest, Label}
use Rattle.lx_forest.specs.Lookups.{IsForest, ancestors, children_below, children_of, has, index_of, is_within, kind_of, label_of, parent_of, size_of}
use Rattle.lx_node.specs.Kinds.{is_element, is_item, is_text_block}
use Rattle.lx_node.specs.declared.cause.Cause.{Cause}
use Rattle.lx_node.specs.declared.cause.Point.{Point}
use Rattle.lx_node.specs.declared.fields.Fields.{Fields}
use Rattle.lx_node.specs.declared.kind.Kind.TheVariants as kinds
use Rattle.lx_node.specs.declared.kind.Kind.{Kind}
use Rattle.lx_trees.proofs.Siblings.{is_some-index_in}
use Rattle.lx_trees.specs.Siblings.{index_in, is_among}
use Rattle.std.proofs.Common.{option_map, Bool, Err, List, None, Ok, Option, Result, Some, [], ap, arith, cond, eqb, false, length, refl, subst, sym, true, ℕ, ◌&&◌, ◌++◌, ◌∙◌, ◌∷◌, ◌≡◌, ◌≢◌}
use Rattle.std.proofs.lemmas.Bool.Decides.{eqb_tells}
use Rattle.std.specs.Prelude.{drop, find, is_some}

-- ---- the steps

-- the new block is made with some kind and fields, which say nothing where the old block says nothing itself
record IsMade (block : ℕ) (s m : Working) : Type 0 where
  kind : Kind
  fields : Fields
  made : new_step kind fields s ≡ Ok m
  silent : said s.forest block ≡ [] → text_of (Some fields) ≡ []

made_next : (s m : Working) (block : ℕ) (moved : List ℕ) → has block s.forest ≡ true → new_next s.forest (label_of s.forest block) moved s ≡ Ok m
    → IsMade block s m
made_next s m block moved so e = by_label (label_of s.forest block) refl e where
  by_label : (l : Option Label) → label_of s.forest block ≡ l → new_next s.forest l moved s ≡ Ok m → IsMade block s m
  by_label None is e = absurd (grind (arith, so, is, is_some-kind_of s.forest block))
  by_label (Some l) is e = record {
    kind = (next_of_kind s.forest l moved l.kind).kind;
    fields = (next_of_kind s.forest l moved l.kind).fields;
    made = e;
    silent = λ none. silent_next s.forest l moved l.kind
        (sym (ap (λ o. text_of (option_map (λ (y : Label). y.fields) o)) is) ∙ none);
  }

-- where the caret is set at last doesn't matter
parted_then : (place block new k : ℕ) (w u v : Working) (caret : Point) → ◌≡◌ {A = Result Working Cause} (Ok (caret_at caret u)) (Ok v)
    → IsPartedAt place block new k w u → IsPartedAt place block new k w v
parted_then place block new k w u v caret e i =
    subst (IsPartedAt place block new k w) (was_same (caret_at caret u) v e)
    (record { inside = i.inside; before = i.before; behind = i.behind; fresh = i.fresh; order = i.order; aside = i.aside })

-- how a block was parted, and where the caret is then
pub record IsCutInTwo (place block new k format : ℕ) (w v : Working) : Type 0 where
  pub parted : IsPartedAt place block new k w v
  pub started : said w.forest block ≡ [] → StartsIn new format v

moved_parted : (block k at format : ℕ) (rest : List ℕ) (w s v : Working) (i : ℕ) → IsSound w → lies w.forest (text_point k at) ≡ true
    → parent_of w.forest k ≡ Some block
    → IsOpened k at rest w s → index_in (children_of s.forest block) k ≡ Some i
    → InFormat format s.selection → moved_on block (drop (place_of (Some i) at) (children_of s.forest block)) s ≡ Ok v
    → IsCutInTwo (place_in w.forest block (text_point k at)) block s.next_key k format w v
unfolding moved_on
moved_parted block k at format rest w s v i sound place up o is ranged e =
    let n : ℕ = s.next_key in
    let cs : List ℕ = children_of s.forest block in
    let moved : List ℕ = drop (place_of (Some i) at) cs in
    let sh : IsForest s.forest = o.stay.ready.in_order in
    let there : has block s.forest ≡ true = has-parent_of s.forest k block (o.stay.parents k (has-child w.forest k block up) ∙ up) in
    let one = after_tells (new_next s.forest (label_of s.forest block) moved s)
    (λ made. after (put_behind_step n block made) (λ put. after (in_turn (moved_to_end n) moved put)
    (λ v. Ok (caret_at (start_of_first v.forest n moved) v)))) v e in
    let two = after_tells (put_behind_step n block one.0)
    (λ put. after (in_turn (moved_to_end n) moved put) (λ v. Ok (caret_at (start_of_first v.forest n moved) v))) v one.1.1 in
    let three = after_tells (in_turn (moved_to_end n) moved two.0) (λ v. Ok (caret_at (start_of_first v.forest n moved) v)) v two.1.1 in
    let made = made_next s one.0 block moved there one.1.0 in
    let b = put_after made.kind made.fields block s one.0 two.0 o.stay.ready made.made two.1.0 in
    let apart : block ≢ b.parent = λ e. absurd (grind (arith, e, b.up, parent_of-self s.forest block sh, eqb_tells block block)) in
    let two_apart : block ≢ n = λ e. absurd (grind (arith, there, e, o.stay.ready.free n (omega arith))) in
    let ups : (c : ℕ) → is_among c moved ≡ true → parent_of two.0.forest c ≡ Some block =
    λ c among. parent_here two.0.forest block c b.ordered (ap (is_among c) (b.children block apart) ∙ among_drop (place_of (Some i) at) cs c among) in
    let over = went_over block n moved two.0 three.0 b.ordered two_apart
    (once_drop (place_of (Some i) at) cs (NoRepeats-children_of s.forest block sh)) ups three.1.0 in
    let g : Forest = three.0.forest in
    let q : Point = start_of_first g n moved in
    let kept : InFormat format three.0.selection =
    turns_kept format n moved two.0 three.0 three.1.0
    (put_behind_kept format n block one.0 two.0 two.1.0 (new_kept format made.kind made.fields s one.0 made.made ranged)) in
    let label : label_of g n ≡ Some (label_new s made.kind made.fields) = over.label n ∙ b.new in
    let new_there : has n g ≡ true = sym (is_some-kind_of g n) ∙ ap (λ l. is_some (option_map (λ (y : Label). y.kind) l)) label in
    let same : g ≡ v.forest = ap (λ (y : Working). y.forest) (was_same (caret_at q three.0) v three.1.1) in
    let block_w : has block w.forest ≡ true = has-parent_of w.forest k block up in
    let not_k : block ≢ k = λ e. absurd (grind (arith, e, up, parent_of-self w.forest k sound.ready.in_order, eqb_tells k k)) in
    record {
      parted = parted_then (place_in w.forest block (text_point k at)) block n k w three.0 v q three.1.1
          (are_parted block k at rest w s sound place up o n i made.kind made.fields two.0 three.0 is refl b over);
      started = λ silent.
          let early : said s.forest block ≡ [] = said_label w.forest s.forest block (o.stay.labels block block_w not_k) ∙ silent in
          let none : said g n ≡ [] = ap (λ l. text_of (option_map (λ (y : Label). y.fields) l)) label ∙ made.silent early in
          let start = starts g n moved over.in_order new_there none (over.there ∙ ap (λ ys. ys ++ moved) b.bare) in
          record {
            point = q;
            caret = caret_set format q three.0 v kept three.1.1;
            inside = ap (λ f. is_within f n q.key) (sym same) ∙ start.inside;
            place = ap (λ f. place_in f n q) (sym same) ∙ start.place;
          };
    }

-- ---- the command

-- the block of a text or tab right below it
block_here : (f : Forest) (k block : ℕ) → IsForest f → parent_of f k ≡ Some block → is_at is_element f k ≡ false → is_at is_text_block f block ≡ true
    → block_of f k ≡ Some block
unfolding is_text_block is_element
block_here f k block h up leaf kind =
    let off : is_at is_text_block f k ≡ false = no_block (kind_of f k) leaf in
    ap (λ ks. find (is_at is_text_block f) (k ∷ ks)) (ancestors-step f k block h up)
    ∙ ap (λ t. cond t (Some k) (cond (is_at is_text_block f block) (Some block) (find (is_at is_text_block f) (ancestors f block)))) off
    ∙ ap (λ t. cond t (Some block) (find (is_at is_text_block f) (ancestors f block))) kind where
      no_block : (o : Option Kind) → passes is_element o ≡ false → passes is_text_block o ≡ false
      no_block None e = refl
      no_block (Some kinds.Text) e = refl
      no_block (Some kinds.Tab) e = refl
      no_block (Some kinds.Break) e = refl
      no_block (Some kinds.Rule) e = refl
      no_block (Some kinds.Embed) e = refl
      no_block (Some kind) e = absurd (cc)

pub left_tells : (r : Result Broken Cause) (v : Working) → draft_left r ≡ Ok v → (b : Broken) × ((r ≡ Ok b) × (b.draft ≡ v))
left_tells (Ok b) v e = let same : b.draft ≡ v = was_same b.draft v e in (b, (refl, same))
left_tells (Err c) v e = absurd (cc)

-- nothing is parted above the block's own child
not_parted : (f : Forest) (k block : ℕ) → IsForest f → parent_of f k ≡ Some block → until (Some block) (ancestors f k) ≡ []
not_parted f k block h up =
    let own : eqb block block ≡ true = grind (arith, eqb_tells block block) in
    ap (until (Some block)) (ancestors-step f k block h up) ∙ ap (λ t. cond t [] (block ∷ until (Some block) (ancestors f block))) own

cut_parted : (block k at format : ℕ) (w v : Working) → IsSound w → lies w.forest (text_point k at) ≡ true → parent_of w.forest k ≡ Some block
    → InFormat format w.selection → block_cut block (text_point k at) w ≡ Ok v
    → (new : ℕ) × IsCutInTwo (place_in w.forest block (text_point k at)) block new k format w v
unfolding block_cut parted_up
cut_parted block k at format w v sound place up ranged e =
    let p : Point = text_point k at in
    let one = after_tells (cut_open p w) (λ u. after (parted_up (until (Some block) (ancestors u.forest k)) (place_of (index_of u.forest k) at) u)
    (λ parted. moved_on block (drop parted.index (children_of parted.draft.forest block)) parted.draft)) v e in
    let s : Working = one.0 in
    let o = cut_tells k at w s sound place one.1.0 in
    let sh : IsForest s.forest = o.1.stay.ready.in_order in
    let up_s : parent_of s.forest k ≡ Some block = o.1.stay.parents k (has-child w.forest k block up) ∙ up in
    let whole : after (parted_up [] (place_of (index_of s.forest k) at) s)
    (λ parted. moved_on block (drop parted.index (children_of parted.draft.forest block)) parted.draft) ≡ Ok v =
    ap (λ ks. after (parted_up ks (place_of (index_of s.forest k) at) s)
    (λ parted. moved_on block (drop parted.index (children_of parted.draft.forest block)) parted.draft))
    (sym (not_parted s.forest k block sh up_s)) ∙ one.1.1 in
    let index_is : index_of s.forest k ≡ index_in (children_of s.forest block) k = ap (λ q. index_in (children_below s.forest q) k) up_s in
    let among : is_among k (children_of s.forest block) ≡ true =
    grind (arith, is_among-children_of s.forest k block sh, up_s, eqb_tells block block) in
    by_index s o.0 o.1 (cut_kept format k at w s sound one.1.0 ranged) (index_in (children_of s.forest block) k) refl
    (is_some-index_in (children_of s.forest block) k ∙ among)
    (ap (λ q. moved_on block (drop (place_of q at) (children_of s.forest block)) s) (sym index_is) ∙ whole) where
      by_index : (s : Working) (rest : List ℕ) → IsOpened k at rest w s → InFormat format s.selection → (q : Option ℕ)
          → index_in (children_of s.forest block) k ≡ q → is_some q ≡ true
          → moved_on block (drop (place_of q at) (children_of s.forest block)) s ≡ Ok v
          → (new : ℕ) × IsCutInTwo (place_in w.forest block (text_point k at)) block new k format w v
      by_index s rest o ranged None is some e = absurd (cc)
      by_index s rest o ranged (Some i) is some e = (s.next_key, moved_parted block k at format rest w s v i sound place up o is ranged e)

pub break_parted : (block k at format : ℕ) (w v : Working) → IsBroken block k at format w v
    → (new : ℕ) × IsCutInTwo (place_in w.forest block (text_point k at)) block new k format w v
unfolding insert_paragraph_step
break_parted block k at format w v is =
    let p : Point = text_point k at in
    let h : IsForest w.forest = is.sound.ready.in_order in
    let left = left_tells (insert_paragraph_step w) v is.done in
    let one = after_tells (remove_text_step w) (λ u. after (at_anchor (λ p format. paragraph_at (empty_item u) (block_of u.forest p.key) p) u)
    (λ x. Ok (record { draft = x; item = empty_item u }))) left.0 left.1.0 in
    let caret = at_caret p format w one.0 is.caret one.1.0 in
    let next : after (at_anchor (λ p format. paragraph_at (empty_item w) (block_of w.forest p.key) p) w)
    (λ x. Ok (record { draft = x; item = empty_item w })) ≡ Ok left.0 =
    ap (λ u. after (at_anchor (λ p format. paragraph_at (empty_item u) (block_of u.forest p.key) p) u)
    (λ x. Ok (record { draft = x; item = empty_item u })))
    caret.1 ∙ one.1.1 in
    let two = after_tells (at_anchor (λ p format. paragraph_at (empty_item w) (block_of w.forest p.key) p) w)
    (λ x. Ok (record { draft = x; item = empty_item w })) left.0 next in
    let place = caret.0.anchor in
    let block_is : block_of w.forest k ≡ Some block = block_here w.forest k block h is.up (no_element_at w.forest k at place) is.kind in
    let full : eqb (size_of w.forest block) 0 ≡ false =
    not_empty (children_of w.forest block) k (grind (arith, is_among-children_of w.forest k block h, is.up, eqb_tells block block)) in
    let no_item : empty_item w ≡ None =
    ap (λ s. if_empty_item w.forest (block_in w.forest s)) is.caret ∙ ap (if_empty_item w.forest) block_is
    ∙ ap (λ t. cond (is_at is_item w.forest block && t) (Some block) None) full ∙ never (is_at is_item w.forest block) in
    let cut : block_cut block p w ≡ Ok two.0 =
    sym (ap (λ s. at_anchor_of s (λ p format. paragraph_at (empty_item w) (block_of w.forest p.key) p) w) is.caret
    ∙ ap (λ q. paragraph_at q (block_of w.forest k) p w) no_item ∙ ap (λ q. paragraph_at None q p w) block_is) ∙ two.1.0 in
    let drafts : two.0 ≡ v =
    let last : ◌≡◌ {A = Result Broken Cause} (Ok (record { draft = two.0; item = empty_item w })) (Ok left.0) = two.1.1 in
    let same : two.0 ≡ left.0.draft = cc in same ∙ left.1.1 in
    let ranged : InFormat format w.selection = record { anchor = p; focus = p; is = is.caret } in
    subst (λ u. (new : ℕ) × IsCutInTwo (place_in w.forest block p) block new k format w u) drafts
    (cut_parted block k at format w two.0 is.sound place is.up ranged cut) where
      not_empty : (xs : List ℕ) (c : ℕ) → is_among c xs ≡ true → eqb (length xs) 0 ≡ false
      not_empty [] c among = absurd (cc)
      not_empty (x ∷ xs) c among = grind arith

      never : (b : Bool) → cond (b && false) (Some block) None ≡ None
      never true = refl
      never false = refl

pub told-breaking : BreakingPartsText
told-breaking = record {
  parted = λ block k at format w v is. let b = break_parted block k at format w v is in (b.0, b.1.parted);
  started = λ block k at format w v is suited.
      let b = break_parted block k at format w v is in (b.0, b.1.parted, b.1.started (silent_block w.forest block suited is.kind));
}
