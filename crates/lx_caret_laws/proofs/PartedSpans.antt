-- A paragraph in the place of what is selected from one text to another: it is removed, and the first block is parted at the caret.
use Rattle.lx_blocks.specs.Blocks.{block_of, is_at, passes}
use Rattle.lx_blocks.specs.Ranges.{at_anchor}
use Rattle.lx_caret.specs.Paragraphs.{Broken, draft_left, empty_item, insert_paragraph_step, paragraph_at}
use Rattle.lx_caret.specs.Removing.{remove_text_step}
use Rattle.lx_caret_laws.proofs.InPlace.{below_parent}
use Rattle.lx_caret_laws.proofs.Merged.{block_holds}
use Rattle.lx_caret_laws.proofs.BreakSteps.{left_tells, told-breaking}
use Rattle.lx_caret_laws.proofs.EditedIn.{around_it}
use Rattle.lx_caret_laws.proofs.ReadsOver.{allows_over, between_over, inside, place_kept}
use Rattle.lx_caret_laws.proofs.SelectedOver.{AllOver}
use Rattle.lx_caret_laws.proofs.Through.{through}
use Rattle.lx_caret_laws.specs.Breaking.{IsBroken}
use Rattle.lx_caret_laws.specs.Reading.{place_in, read_in}
use Rattle.lx_caret_laws.specs.Spans.{ArePartedOver, AreToJoin, IsSelectedOver}
use Rattle.lx_draft.proofs.Gaps.{child_of}
use Rattle.lx_draft.specs.Faults.{after}
use Rattle.lx_draft.specs.Working.{Working}
use Rattle.lx_edit.specs.Edits.{text_point}
use Rattle.lx_forest.proofs.Lookups.{has-child, parent_of-self}
use Rattle.lx_forest.specs.Forest.{Forest, Label}
use Rattle.lx_forest.specs.Lookups.{children_of, has, is_within, parent_of}
use Rattle.lx_node.specs.Kinds.{is_text_block}
use Rattle.lx_node.specs.declared.cause.Cause.{Cause}
use Rattle.lx_node.specs.declared.cause.Point.{Point}
use Rattle.lx_node.specs.declared.fields.TextFields.{TextFields}
use Rattle.lx_text.proofs.Places.{offset_is}
use Rattle.lx_text.proofs.Told.{front_at, rest_at}
use Rattle.lx_text.specs.Texts.{front_of, is_offset, rest_of, text_length}
use Rattle.lx_trees.specs.Siblings.{is_among}
use Rattle.std.proofs.Common.{List, Ok, Result, Some, [], ap, append-nil, arith, false, inl, inr, option_map, sym, true, ℕ, ◌++◌, ◌∙◌, ◌≡◌, ◌≢◌}
use Rattle.std.proofs.lemmas.Bool.{cases_Bool}

-- the first block reads its front and what the other had after the second point, with the caret between
record Reading (a b s e i j : ℕ) (w u : Working) : Type 0 where
  place : place_in u.forest a (text_point s i) ≡ place_in w.forest a (text_point s i)
  offset : is_offset (place_in w.forest a (text_point s i)) (read_in w.forest a) ≡ true
  left : read_in u.forest a ≡ front_of (place_in w.forest a (text_point s i)) (read_in w.forest a)
      ++ rest_of (place_in w.forest b (text_point e j)) (read_in w.forest b)

-- where the first block reads its front and some rest, with the caret between, it keeps the front, and a new block has the rest
parted_at : (a b s e i j format : ℕ) (one other : TextFields) (w v : Working) → IsSelectedOver s e i j format one other w
    → parent_of w.forest s ≡ Some a → is_at is_text_block w.forest a ≡ true → draft_left (insert_paragraph_step w) ≡ Ok v
    → ((u : Working) → AllOver s e i j format one other w u → Reading a b s e i j w u)
    → (new : ℕ) × ArePartedOver a b new s e i j w v
unfolding insert_paragraph_step
parted_at a b s e i j format one other w v is up block done reads =
    let next : Working → Result Broken Cause =
    λ u. after (at_anchor (λ q format. paragraph_at (empty_item u) (block_of u.forest q.key) q) u) (λ x.
    Ok (record { draft = x; item = empty_item u })) in
    let f : Forest = w.forest in
    let told = left_tells (after (remove_text_step w) next) v done in
    let m = through next s e i j format one other w told.0 is told.1.0 in
    let o = m.over in
    let g : Forest = m.draft.forest in
    let start : Point = text_point s i in
    let r = reads m.draft o in
    let h = o.setting.between.order in
    let not_s : a ≢ s = λ same. absurd (grind (arith, same, up, parent_of-self f s h)) in
    let not_e : a ≢ e = λ same. absurd (let bad : false ≡ true =
    sym (ap (is_among s) (ap (children_of f) same ∙ o.setting.between.last)) ∙ child_of f a s h up in cc) in
    let broken : IsBroken a s i format m.draft v = record {
      sound = m.sound;
      up = o.over.up a up;
      kind = ap (λ l. passes is_text_block (option_map (λ (l : Label). l.kind) l)) (o.over.labels a not_s not_e) ∙ block;
      caret = o.caret;
      done = ap draft_left m.again ∙ ap (λ x. Ok x) told.1.1;
    } in
    let made = told-breaking.parted a s i format m.draft v broken in
    let parted = made.1 in
    let n : ℕ = place_in f a start in
    let front : List ℕ = front_of n (read_in f a) in
    let rest : List ℕ = rest_of (place_in f b (text_point e j)) (read_in f b) in
    let long : text_length front ≡ n = offset_is n (read_in f a) r.offset in
    let room = allows_over s e i j format one other w m.draft o in
    let early = between_over s e i j format one other w m.draft o in (
      made.0,
      record {
        before = parted.before ∙ ap (λ o. front_of o (read_in g a)) r.place ∙ front_at n front rest (read_in g a) r.left long;
        behind = parted.behind ∙ ap (λ o. rest_of o (read_in g a)) r.place ∙ rest_at n front rest (read_in g a) r.left long;
        fresh = elim (cases_Bool (has made.0 f)) [
          | inl there ↦ absurd (let bad : false ≡ true = sym parted.fresh ∙ room.there made.0 there in cc)
          | inr free ↦ free
        ];
        aside = record {
          each = λ x so first second.
              let out : is_within g x s ≡ false = room.within x ∙ first in
              let one = early.aside.each x so first second in
              let two = parted.aside.each x (room.there x so) out out in
              (two.0 ∙ one.0, two.1 ∙ one.1);
        };
      },
    )

-- in one block
pub parted_span : (a s e i j format : ℕ) (one other : TextFields) (w v : Working) → IsSelectedOver s e i j format one other w
    → parent_of w.forest s ≡ Some a → is_at is_text_block w.forest a ≡ true → is_within w.forest a e ≡ true
    → draft_left (insert_paragraph_step w) ≡ Ok v → (new : ℕ) × ArePartedOver a a new s e i j w v
parted_span a s e i j format one other w v is up block holds done =
    parted_at a a s e i j format one other w v is up block done (λ u o.
    let first : is_within w.forest a s ≡ true = below_parent w.forest s a o.setting.between.order up in
    let around = around_it _ _ [] _ _ (inside s e i j format one other w u o a first holds) in
    record {
      place = place_kept s e i j format one other w u o a first holds;
      offset = around.first;
      left = around.is ∙ ap (λ t. t ++ rest_of (place_in w.forest a (text_point e j)) (read_in w.forest a))
          (append-nil (front_of (place_in w.forest a (text_point s i)) (read_in w.forest a)));
    })

-- in two
pub parted_joined : (a b s e i j format : ℕ) (one other : TextFields) (w v : Working) → IsSelectedOver s e i j format one other w
    → parent_of w.forest s ≡ Some a → AreToJoin a b s e w → draft_left (insert_paragraph_step w) ≡ Ok v
    → (new : ℕ) × ArePartedOver a b new s e i j w v
parted_joined a b s e i j format one other w v is up blocks done =
    let there : has s w.forest ≡ true = has-child w.forest s a up in
    parted_at a b s e i j format one other w v is up (block_holds w.forest s a is.sound.ready.in_order there blocks.first_block).1 done (λ u o.
    let joined = o.joins a b blocks in
    record { place = joined.place; offset = joined.inside; left = joined.reads })
