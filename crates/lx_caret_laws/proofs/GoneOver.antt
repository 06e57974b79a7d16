-- Removing what is selected from one text to another, wherever the two are.
use Rattle.lx_caret_laws.proofs.SharedBlocks.{blocks_share}
use Rattle.lx_text.proofs.Places.{offset_is, parts}
use Rattle.lx_draft.specs.Selecting.{text_of}
use Rattle.lx_caret_laws.specs.Reading.{said}
use Rattle.lx_caret_laws.proofs.ReadOver.{reads_front, reads_rest, left_first, left_last, back_says}
use Rattle.lx_blocks.specs.Blocks.{block_of, is_at, leading, leading_in, passes}
use Rattle.lx_caret.proofs.Fit.{after_tells}
use Rattle.lx_caret.proofs.Lies.{text_at}
use Rattle.lx_caret.specs.Removing.{are_apart, merge_step, removed_empty}
use Rattle.lx_caret_laws.proofs.Emptied.{Emptied}
use Rattle.lx_caret_laws.proofs.Going.{going, going_clear}
use Rattle.lx_caret_laws.proofs.JoinedOver.{Blocks, block_gone, block_reads, over_joined, block_offset, block_place}
use Rattle.lx_caret_laws.proofs.LyingBetween.{attached_above, attached_first, attached_last, first_alone, last_alone, names}
use Rattle.lx_caret_laws.proofs.Merged.{Over, Setting, block_holds, over_alone, within_first, within_last, left_over, away_from, ahead_said}
use Rattle.lx_caret_laws.specs.Spans.{AreJoined, KeepEnds, Share}
use Rattle.lx_draft.proofs.Gaps.{parent_here}
use Rattle.lx_draft.specs.Faults.{after, text_in}
use Rattle.lx_draft.specs.Working.{Working}
use Rattle.lx_edit.specs.Edits.{moved_to_end, remove_step}
use Rattle.lx_edit.specs.InTurn.{in_turn}
use Rattle.lx_forest.proofs.Within.{is_within-trans}
use Rattle.lx_forest.specs.Forest.{Forest, Label}
use Rattle.lx_forest.specs.Lookups.{IsForest, children_of, is_attached, is_within, kind_of, parent_of, size_of, label_of}
use Rattle.lx_links.proofs.Ordered.{there_within}
use Rattle.lx_node.specs.Kinds.{is_inline, is_text_block}
use Rattle.lx_node.specs.declared.fields.TextFields.{TextFields}
use Rattle.lx_node.specs.declared.kind.Kind.TheVariants as kinds
use Rattle.lx_text.specs.Texts.{is_offset, front_of, rest_of}
use Rattle.lx_trees.specs.Siblings.{is_among}
use Rattle.std.proofs.Common.{Bool, List, Ok, Some, [], ap, ap₂, arith, cond, eqb, false, inl, inr, not, option_map, refl, sym, true, ℕ, ◌∙◌, ◌∷◌, ◌≡◌, ◌≢◌, ◌⊎◌, subst, ◌++◌}
use Rattle.std.proofs.lemmas.Bool.Decides.{eqb_tells}
use Rattle.std.proofs.lemmas.Bool.{cases_Bool}
use Rattle.std.specs.Prelude.{filter}

-- ---- whether the blocks are joined

record MergedBy (p b : ℕ) (g v : Working) : Type 0 where
  apart : are_apart g.forest p b ≡ true
  draft : Working
  moved : in_turn (moved_to_end p) (leading g.forest b) g ≡ Ok draft
  ended : cond (eqb (size_of draft.forest b) 0) (remove_step b draft) (Ok draft) ≡ Ok v

merged : (p b : ℕ) (g v : Working) → merge_step (Some p) (Some b) g ≡ Ok v → MergedBy p b g v ⊎ ((are_apart g.forest p b ≡ false) × (g ≡ v))
unfolding merge_step removed_empty
merged p b g v e = by_test (are_apart g.forest p b) refl e where
  by_test : (t : Bool) → are_apart g.forest p b ≡ t
      → cond t (after (in_turn (moved_to_end p) (leading g.forest b) g) (removed_empty b)) (Ok g) ≡ Ok v
      → MergedBy p b g v ⊎ ((are_apart g.forest p b ≡ false) × (g ≡ v))
  by_test false is e = let same : g ≡ v = cc in inr (is, same)
  by_test true is e =
      let first = after_tells (in_turn (moved_to_end p) (leading g.forest b) g) (removed_empty b) v e in
      inl (record { apart = is; draft = first.0; moved = first.1.0; ended = first.1.1 })

-- ---- with the blocks of the two texts

-- the inline children of a block
leading_all : (f : Forest) (ks : List ℕ) → ((k : ℕ) → is_among k ks ≡ true → is_at is_inline f k ≡ true) → leading_in f ks ≡ ks
leading_all f [] each = refl
leading_all f (k ∷ ks) each =
    ap (λ t. cond t (k ∷ leading_in f ks) []) (each k (grind (arith, eqb_tells k k)))
    ∙ ap (λ t. k ∷ t) (leading_all f ks (λ x at. each x (grind (arith, at))))

text_inline : is_inline kinds.Text ≡ true
unfolding is_inline
text_inline = refl

text_no_block : is_text_block kinds.Text ≡ false
unfolding is_text_block
text_no_block = refl

among_filter : (test : ℕ → Bool) (q : ℕ) (xs : List ℕ) → is_among q (filter test xs) ≡ true → is_among q xs ≡ true
among_filter test q [] e = e
among_filter test q (x ∷ xs) e = elim (cases_Bool (test x)) [
  | inl kept ↦
      let on : is_among q (x ∷ filter test xs) ≡ true = sym (ap (λ t. is_among q (cond t (x ∷ filter test xs) (filter test xs))) kept) ∙ e in
      grind (arith, on, among_filter test q xs)
  | inr gone ↦
      let on : is_among q (filter test xs) ≡ true = sym (ap (λ t. is_among q (cond t (x ∷ filter test xs) (filter test xs))) gone) ∙ e in
      grind (arith, among_filter test q xs on)
]

module _ (s e i j : ℕ) (one other : TextFields) (a m z : List ℕ) (w g : Working) (x : Setting s e one other a m z w)
    (d : Emptied s e i j one other (going w.forest s e a m z x.between) w g) where
  abbrev pub f : Forest
  f = w.forest

  order : IsForest f
  order = x.between.order

  there_s : is_attached f s ≡ true
  there_s = attached_first f s e a m z x.between

  there_e : is_attached f e ≡ true
  there_e = attached_last f s e a m z x.between

  blocks_of : (p b : ℕ) → is_within f p s ≡ true → is_within f b e ≡ true → b ≢ e → is_within g.forest p b ≡ false → is_within g.forest b p ≡ false
      → Blocks g.forest s e p b
  blocks_of p b first last not_last outside apart = record {
    first = within_first s e i j one other a m z w g x d p ∙ first;
    last = within_last s e i j one other a m z w g x d b ∙ last;
    outside = outside;
    apart = apart;
    other = not_last;
  }

  -- a node that holds one of the texts is where it was
  within_holder : (q y : ℕ) → is_within f y s ≡ true → is_within g.forest q y ≡ is_within f q y
  within_holder q y holds = d.within q y (λ k at. elim (cases_Bool (is_within f k y)) [
    | inl bad ↦ absurd (grind (arith, (going_clear f s e a m z x.between k at).0, is_within-trans f k y s order bad holds))
    | inr fine ↦ fine
  ])

  within_holder_last : (q y : ℕ) → is_within f y e ≡ true → is_within g.forest q y ≡ is_within f q y
  within_holder_last q y holds = d.within q y (λ k at. elim (cases_Bool (is_within f k y)) [
    | inl bad ↦ absurd (grind (arith, (going_clear f s e a m z x.between k at).1, is_within-trans f k y e order bad holds))
    | inr fine ↦ fine
  ])

  inline_still : (b : ℕ) → ((c : ℕ) → parent_of f c ≡ Some b → is_at is_inline f c ≡ true)
      → leading g.forest b ≡ children_of g.forest b
  inline_still b inline = leading_all g.forest (children_of g.forest b) (λ c at.
      let old : is_among c (children_of f b) ≡ true =
      among_filter (λ c. not (is_among c (going f s e a m z x.between))) c (children_of f b) (ap (is_among c) (sym (d.children b)) ∙ at) in
      let is : is_at is_inline f c ≡ true = inline c (parent_here f b c order old) in
      elim (eqb_tells c s) [
        | inl own ↦ ap (λ k. is_at is_inline g.forest k) own.1
            ∙ ap (λ l. passes is_inline (option_map (λ (l : Label). l.kind) l)) d.first ∙ text_inline
        | inr not_s ↦ elim (eqb_tells c e) [
          | inl own ↦ ap (λ k. is_at is_inline g.forest k) own.1
              ∙ ap (λ l. passes is_inline (option_map (λ (l : Label). l.kind) l)) d.last ∙ text_inline
          | inr not_e ↦ ap (λ l. passes is_inline (option_map (λ (l : Label). l.kind) l)) (d.labels c not_s.1 not_e.1) ∙ is
        ]
      ])

  -- where nothing is joined, the front and the rest are left
  text_said : (k : ℕ) (t : TextFields) → text_in (label_of f k) ≡ Some t → (o : ℕ) → said f k ≡ front_of o t.text ++ rest_of o t.text
  text_said k t here o = ap text_of (text_at f k t here).fields_are ∙ sym (parts o t.text)

  ends_kept : is_offset i one.text ≡ true → is_offset j other.text ≡ true → KeepEnds s e i j w g
  ends_kept in_first in_last =
      let l = left_over s e i j one other a m z w g x d in
      let known = names f s e a m z x.between in
      record {
        front = λ q first last.
            let k = first_alone f s e a m z x.between q first last in
            reads_front f g.forest q s i k.front k.back (front_of i one.text) (rest_of i one.text) k.is
            (away_from s e i j one other a m z w g x d k.front k.ahead)
            (left_first f g.forest s e a m z (front_of i one.text) (rest_of j other.text) l q k last)
            (text_said s one x.first i) (offset_is i one.text in_first) l.first_says
            (ahead_said s e i j one other a m z w g x d k.front k.ahead);
        rest = λ q last first.
            let k = last_alone f s e a m z x.between q last first in
            let from = left_last f g.forest s e a m z (front_of i one.text) (rest_of j other.text) l q k in
            let out : is_among e k.front ≡ false = elim (cases_Bool (is_among e k.front)) [
              | inl bad ↦ absurd (grind (arith, k.inside.each e bad, known.e_mid))
              | inr fine ↦ fine
            ] in
            reads_rest f g.forest q e j k.front k.back from.mid (front_of j other.text) (rest_of j other.text) k.is out from.keys
            (text_said e other x.last j) (offset_is j other.text in_last) l.last_says from.silent
            (back_says f g.forest s e a m z (front_of i one.text) (rest_of j other.text) l k.back k.behind);
      }

  -- what the last part leaves, joined or not
  pub record Ends (p b : ℕ) (v : Working) : Type 0 where
    pub over : Over s e i j one other a m z w v
    pub joins : is_offset i one.text ≡ true → is_offset j other.text ≡ true → is_within f p b ≡ false → is_within f b p ≡ false
        → ((c : ℕ) → parent_of f c ≡ Some b → is_at is_inline f c ≡ true) → AreJoined p b s e i j w v
    pub shares : is_offset i one.text ≡ true → is_offset j other.text ≡ true → is_within f p b ≡ false → is_within f b p ≡ false
        → Share p b s e i j w v
    pub keeps : is_offset i one.text ≡ true → is_offset j other.text ≡ true → (is_within f p b ≡ true) ⊎ (is_within f b p ≡ true)
        → KeepEnds s e i j w v

  pub ends : (p b : ℕ) (v : Working) → block_of f s ≡ Some p → block_of f e ≡ Some b → merge_step (block_of f s) (block_of f e) g ≡ Ok v → Ends p b v
  ends p b v first_block last_block e_done =
      let one_holds = block_holds f s p order (there_within f 0 s there_s) first_block in
      let two_holds = block_holds f e b order (there_within f 0 e there_e) last_block in
      let other_than : b ≢ e = λ same. absurd (let bad : false ≡ true =
      sym text_no_block ∙ sym (ap (passes is_text_block) (ap (kind_of f) same ∙ (text_at f e other x.last).kind_is)) ∙ two_holds.1 in cc) in
      let merge : merge_step (Some p) (Some b) g ≡ Ok v = sym (ap₂ (λ x y. merge_step x y g) first_block last_block) ∙ e_done in
      elim (merged p b g v merge) [
        | inl by ↦
            let k = blocks_of p b one_holds.0 two_holds.0 other_than (grind (arith, by.apart)) (grind (arith, by.apart)) in
            record {
              shares = λ in_first in_last outside apart.
                  blocks_share s e i j one other a m z w g by.draft v x d p b k by.ended by.moved in_first in_last;
              keeps = λ in_first in_last nested. absurd (elim nested [
                | inl holds ↦ grind (arith, by.apart, holds, within_holder_last p b two_holds.0)
                | inr holds ↦ grind (arith, by.apart, holds, within_holder b p one_holds.0)
              ]);
              over = over_joined s e i j one other a m z w g by.draft v x d p b k by.ended by.moved;
              joins = λ in_first in_last outside apart inline.
                  let whole = inline_still b inline in
                  record {
                    reads = block_reads s e i j one other a m z w g by.draft v x d p b k by.ended by.moved in_first in_last whole;
                    inside = block_offset s e i j one other a m z w g by.draft v x d p b k by.ended by.moved in_first;
                    place = block_place s e i j one other a m z w g by.draft v x d p b k by.ended by.moved;
                    gone = block_gone s e i j one other a m z w g by.draft v x d p b k by.ended by.moved whole;
                  };
            }
        | inr (not_apart, same) ↦ record {
          shares = λ in_first in_last outside apart.
              let p_there : is_attached g.forest p ≡ true =
              within_holder 0 p one_holds.0 ∙ attached_above f p s order one_holds.0 there_s in
              let b_there : is_attached g.forest b ≡ true =
              within_holder_last 0 b two_holds.0 ∙ attached_above f b e order two_holds.0 there_e in
              absurd (grind (arith, not_apart, p_there, b_there, within_holder_last p b two_holds.0, within_holder b p one_holds.0, outside, apart));
          keeps = λ in_first in_last nested. subst (KeepEnds s e i j w) same (ends_kept in_first in_last);
          over = over_alone s e i j one other a m z w g x d v same;
          joins = λ in_first in_last outside apart inline.
              let p_there : is_attached g.forest p ≡ true =
              within_holder 0 p one_holds.0 ∙ attached_above f p s order one_holds.0 there_s in
              let b_there : is_attached g.forest b ≡ true =
              within_holder_last 0 b two_holds.0 ∙ attached_above f b e order two_holds.0 there_e in
              absurd (grind (arith, not_apart, p_there, b_there, within_holder_last p b two_holds.0, within_holder b p one_holds.0, outside, apart));
        }
      ]
