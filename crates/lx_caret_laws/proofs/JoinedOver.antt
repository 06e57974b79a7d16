-- Removing between two texts whose blocks are joined: what is read in each node that holds both texts, and in the first block.
use Rattle.lx_caret_laws.proofs.LeafOut.{CutAlike}
use Rattle.lx_blocks.proofs.Until.{no_repeats_front, filter_among}
use Rattle.lx_blocks.specs.Blocks.{leading}
use Rattle.lx_caret.proofs.Lies.{text_at}
use Rattle.lx_caret_laws.proofs.CutLists.{HasBoth, HasFirst, HasLast, not_ahead}
use Rattle.lx_caret_laws.proofs.Emptied.{Emptied}
use Rattle.lx_caret_laws.proofs.Going.{going}
use Rattle.lx_caret_laws.proofs.GoneUp.{GoneUp, Rises, empty_gone, none_gone}
use Rattle.lx_caret_laws.proofs.InPlace.{among-within, below_parent, keys-level}
use Rattle.lx_caret_laws.proofs.JoinedKeys.{Joining, first_keys, first_reads, joined_keys, not_both, same_but, over_stays, went_below}
use Rattle.lx_caret_laws.proofs.KeysLeft.{holder_there}
use Rattle.lx_caret_laws.proofs.LyingBetween.{attached_above, attached_first, holds_in, names, first_alone, last_alone}
use Rattle.lx_caret_laws.proofs.Merged.{CutSaid, Over, Setting, ahead_said, away_from, holds_silent, says_by, there_as, leading_splits, left_over, others_then, rest_said, suited_then, within_first, within_last, within_then, attached_then, last_there, up_then}
use Rattle.lx_caret_laws.proofs.MovedOver.{moved_over}
use Rattle.lx_caret_laws.proofs.ReadOver.{back_says, left_both, left_first, left_last, reads_front, reads_rest, said-append, said-same, place_at, offset_front}
use Rattle.lx_caret_laws.specs.Reading.{place_in, read_in, said, said_by, place_along}
use Rattle.lx_draft.proofs.Gaps.{parent_here}
use Rattle.lx_draft.specs.Faults.{text_in}
use Rattle.lx_draft.specs.Selecting.{text_of}
use Rattle.lx_draft.specs.Working.{Working}
use Rattle.lx_edit.specs.Edits.{moved_to_end, remove_step, text_point}
use Rattle.lx_edit.specs.InTurn.{in_turn}
use Rattle.lx_edit_laws.proofs.Reading.{spread}
use Rattle.lx_edit_laws.proofs.WrapLists.{filter-gone, filter-kept}
use Rattle.lx_edit_laws.proofs.WrapTurns.{WentOver, went_over}
use Rattle.lx_forest.proofs.Lookups.{NoRepeats-children_of}
use Rattle.lx_forest.proofs.Within.{is_within-parent, is_within-self, is_within-trans, is_within-leaf}
use Rattle.lx_forest.specs.Forest.{Forest, Label}
use Rattle.lx_forest.specs.Lookups.{IsForest, children_of, is_within, keys_within, label_of, parent_of, size_of, is_attached}
use Rattle.lx_forest.specs.Suited.{is_suited}
use Rattle.lx_node.specs.declared.fields.TextFields.{TextFields}
use Rattle.lx_text.proofs.Places.{offset_is, parts}
use Rattle.lx_text.specs.Texts.{front_of, is_offset, rest_of, text_length}
use Rattle.lx_trees.proofs.Siblings.{is_among-append}
use Rattle.lx_trees.specs.Siblings.{NoRepeats, is_among}
use Rattle.std.proofs.Common.{Bool, List, None, Ok, Some, [], ap, append_assoc, ap₂, arith, cond, eqb, false, inl, inr, length, not, option_map, refl, subst, sym, true, ℕ, ◌++◌, ◌∙◌, ◌∷◌, ◌≡◌, ◌≢◌, ◌+◌}
use Rattle.std.proofs.lemmas.Bool.Decides.{eqb_tells}
use Rattle.std.proofs.lemmas.Bool.{cases_Bool}
use Rattle.std.proofs.lemmas.List.Elements.{filter-append}
use Rattle.std.proofs.lemmas.List.{nil_from_length}
use Rattle.std.specs.Prelude.{filter}

-- two nodes that hold the texts, neither of which is in the other
pub record Blocks (f : Forest) (s e p q : ℕ) : Type 0 where
  pub first : is_within f p s ≡ true
  pub last : is_within f q e ≡ true
  pub outside : is_within f p q ≡ false
  pub apart : is_within f q p ≡ false
  pub other : q ≢ e

module _ (s e i j : ℕ) (one other : TextFields) (a m z : List ℕ) (w g u v : Working) (x : Setting s e one other a m z w)
    (d : Emptied s e i j one other (going w.forest s e a m z x.between) w g) (p b : ℕ) (k : Blocks g.forest s e p b)
    (ended : cond (eqb (size_of u.forest b) 0) (remove_step b u) (Ok u) ≡ Ok v) (moved : in_turn (moved_to_end p) (leading g.forest b) g ≡ Ok u) where
  abbrev pub f : Forest
  f = w.forest

  abbrev ls : List ℕ
  ls = leading g.forest b

  pub split : (rest : List ℕ) × (children_of g.forest b ≡ ls ++ rest)
  split = leading_splits g.forest (children_of g.forest b)

  once : NoRepeats (ls ++ split.0)
  once = subst NoRepeats split.1 (NoRepeats-children_of g.forest b d.ordered)

  child_up : (c : ℕ) → is_among c ls ≡ true → parent_of g.forest c ≡ Some b
  child_up c at = parent_here g.forest b c d.ordered (ap (is_among c) split.1 ∙ is_among-append c ls split.0 ∙ grind (arith, at))

  not_same : b ≢ p
  not_same same =
      absurd (grind (arith, k.apart, ap (is_within g.forest b) same, is_within-self g.forest b, holder_there g.forest b e k.last))

  pub over : WentOver g.forest u.forest b p ls
  over = went_over b p ls g u d.ordered not_same (no_repeats_front ls split.0 once) child_up moved

  pub left_there : children_of u.forest b ≡ split.0
  left_there =
      let keep : ℕ → Bool = λ q. not (is_among q ls) in
      over.left ∙ ap (filter keep) split.1 ∙ filter-append keep ls split.0
      ∙ ap₂ (λ x y. x ++ y) (filter-gone keep ls (λ q at. ap not at))
      (filter-kept keep split.0 (λ q at. ap not (not_ahead ls split.0 q once at)))

  pub joining : Joining g.forest u.forest s e p b ls split.0
  joining = record {
    order = d.ordered;
    order_after = over.in_order;
    says = λ q. says_by g.forest u.forest q (over.label q);
    there = λ q so. there_as g.forest u.forest q (over.label q) so;
    parts = split.1;
    first = over.there;
    last = left_there;
    others = λ q not_p not_b. over.others q not_b not_p;
    far_last = k.outside;
    far_first = k.apart;
    holds_first = k.first;
    holds_last = k.last;
    apart = k.other;
  }

  last_outside : is_within g.forest p e ≡ false
  last_outside = elim (cases_Bool (is_within g.forest p e)) [
    | inl bad ↦ absurd (grind (arith, k.last, not_both g.forest u.forest s e p b ls split.0 joining e bad))
    | inr fine ↦ fine
  ]

  first_outside : is_within g.forest b s ≡ false
  first_outside = not_both g.forest u.forest s e p b ls split.0 joining s k.first

  f_first : is_within f p s ≡ true
  f_first = sym (within_first s e i j one other a m z w g x d p) ∙ k.first

  f_last : is_within f b e ≡ true
  f_last = sym (within_last s e i j one other a m z w g x d b) ∙ k.last

  f_last_outside : is_within f p e ≡ false
  f_last_outside = sym (within_last s e i j one other a m z w g x d p) ∙ last_outside

  f_first_outside : is_within f b s ≡ false
  f_first_outside = sym (within_first s e i j one other a m z w g x d b) ∙ first_outside

  order : IsForest f
  order = x.between.order

  -- the first node holds the first text alone, and the last node the last one
  first_ways : HasFirst s e a m z (keys_within f p)
  first_ways = first_alone f s e a m z x.between p f_first f_last_outside

  last_ways : HasLast s e a m z (keys_within f b)
  last_ways = last_alone f s e a m z x.between b f_last f_first_outside

  own_keys : keys_within g.forest p ≡ first_ways.front ++ (s ∷ [])
  own_keys =
      left_first f g.forest s e a m z (front_of i one.text) (rest_of j other.text) (left_over s e i j one other a m z w g x d) p first_ways
      f_last_outside

  cut_joined : (q : ℕ) (kb : HasBoth s e a m z (keys_within f q)) → CutSaid f u.forest s q kb.front (rest_of j other.text ++ said_by f kb.back)
  cut_joined q kb =
      let two = left_both f g.forest s e a m z (front_of i one.text) (rest_of j other.text) (left_over s e i j one other a m z w g x d) q kb in
      let c = joined_keys g.forest u.forest s e p b ls split.0 joining q kb.front kb.back first_ways.front two own_keys in
      record {
        left = kb.front;
        rest = c.rest;
        keys = c.keys;
        ahead = said-same g.forest u.forest kb.front (λ q at. says_by g.forest u.forest q (over.label q))
            ∙ ahead_said s e i j one other a m z w g x d kb.front kb.ahead;
        behind = c.says ∙ rest_said s e i j one other a m z w g x d kb.back kb.behind;
        away = away_from s e i j one other a m z w g x d kb.front kb.ahead;
      }

  -- the keys of what went over
  abbrev pub moved_keys : List ℕ
  moved_keys = spread (keys_within g.forest) ls

  -- ---- an empty block goes

  abbrev pub high : ℕ → Bool
  high q = is_within g.forest q b

  not_first : b ≢ s
  not_first same =
      absurd (grind (arith, first_outside, ap (is_within g.forest b) same, is_within-self g.forest b, holder_there g.forest b e k.last))

  rises : Rises high s u
  rises = record {
    order = over.in_order;
    suited = record { each = λ q. ap is_suited (over.label q) ∙ (suited_then s e i j one other a m z w g x d).each q };
    text = ap (option_map (λ (l : Label). l.kind)) (over.label s ∙ d.first);
    above = λ c y up at. elim (cases_Bool (is_among c ls)) [
      | inl bad ↦ absurd (grind (arith, up, is_within-parent g.forest c b d.ordered (child_up c bad)))
      | inr fine ↦
          let old : parent_of g.forest c ≡ Some y = sym (over.up c ∙ ap (λ t. cond t (Some p) (parent_of g.forest c)) fine) ∙ at in
          is_within-trans g.forest y c b d.ordered (below_parent g.forest c y d.ordered old) up
    ];
  }

  own_high : high b ≡ true
  own_high = is_within-self g.forest b ∙ holder_there g.forest b e k.last

  pub silent_g : said g.forest b ≡ []
  silent_g =
      (left_over s e i j one other a m z w g x d).others_say b not_first k.other
      ∙ holds_silent s e i j one other a m z w g x d b k.other f_last

  pub silent_last : said u.forest b ≡ []
  silent_last = says_by g.forest u.forest b (over.label b) ∙ silent_g

  gone_if : (t : Bool) → eqb (size_of u.forest b) 0 ≡ t → cond t (remove_step b u) (Ok u) ≡ Ok v
      → GoneUp high s u v × ((children_of u.forest b ≡ []) → parent_of v.forest b ≡ None)
  gone_if true is e =
      let none = nil_from_length (children_of u.forest b) (grind (arith, is, eqb_tells (length (children_of u.forest b)) 0)) in
      let gone = empty_gone high s b u v rises own_high none silent_last not_first e in
      (gone.0, λ same. gone.1)
  gone_if false is e =
      let same : u ≡ v = cc in
      (none_gone high s u v over.in_order same, λ none. absurd (grind (arith, is, none)))

  pub gone : GoneUp high s u v × ((children_of u.forest b ≡ []) → parent_of v.forest b ≡ None)
  gone = gone_if (eqb (size_of u.forest b) 0) refl ended

  -- in the root's tree is what was there
  attached_but : (q : ℕ) → is_among q moved_keys ≡ false → is_attached u.forest q ≡ is_attached g.forest q
  attached_but q out =
      let keep : ℕ → Bool = λ c. not (is_among c moved_keys) in
      let root : is_within g.forest 0 s ≡ true =
      within_first s e i j one other a m z w g x d 0 ∙ attached_first f s e a m z x.between in
      let same = same_but g.forest u.forest s e p b ls split.0 joining 0 (holder_there g.forest 0 s root)
      (over_stays g.forest u.forest s e p b ls split.0 joining 0 root) in
      let kept : (xs : List ℕ) → is_among q (filter keep xs) ≡ is_among q xs = λ xs. filter_among keep xs q ∙ grind (arith, out) in
      sym (among-within u.forest 0 q) ∙ sym (kept (keys_within u.forest 0)) ∙ ap (is_among q) same ∙ kept (keys_within g.forest 0)
      ∙ among-within g.forest 0 q

  attached_same : (q : ℕ) → is_attached u.forest q ≡ is_attached g.forest q
  attached_same q = elim (cases_Bool (is_among q moved_keys)) [
    | inl went ↦
        let low = (went_below g.forest u.forest s e p b ls split.0 joining q went).0 in
        let p_out : is_among p moved_keys ≡ false = elim (cases_Bool (is_among p moved_keys)) [
          | inl bad ↦ absurd (grind (arith, k.apart, (went_below g.forest u.forest s e p b ls split.0 joining p bad).0))
          | inr fine ↦ fine
        ] in
        let last : is_attached g.forest e ≡ true = last_there s e i j one other a m z w g x d in
        let first : is_attached g.forest s ≡ true =
        within_first s e i j one other a m z w g x d 0 ∙ attached_first f s e a m z x.between in
        let old : is_attached g.forest q ≡ true =
        is_within-trans g.forest 0 b q d.ordered (attached_above g.forest b e d.ordered k.last last) low in
        let p_new : is_attached u.forest p ≡ true = attached_but p p_out ∙ attached_above g.forest p s d.ordered k.first first in
        let inside : is_within u.forest p q ≡ true =
        sym (among-within u.forest p q) ∙ ap (is_among q) (first_keys g.forest u.forest s e p b ls split.0 joining)
        ∙ is_among-append q (keys_within g.forest p) moved_keys ∙ grind (arith, went) in
        is_within-trans u.forest 0 p q over.in_order p_new inside ∙ sym old
    | inr out ↦ attached_but q out
  ]

  -- what doesn't hold the last text isn't above the last node
  low_by : (q : ℕ) → is_within f q e ≡ false → high q ≡ false
  low_by q no_last = elim (cases_Bool (is_within g.forest q b)) [
    | inl bad ↦ absurd (grind (
      arith,
      no_last,
      within_last s e i j one other a m z w g x d q,
      is_within-trans g.forest q b e d.ordered bad k.last,
    ))
    | inr fine ↦ fine
  ]

  last_low : high e ≡ false
  last_low = elim (cases_Bool (is_within g.forest e b)) [
    | inl bad ↦
        let leaf : children_of g.forest e ≡ [] =
        d.children e ∙ ap (filter (λ c. not (is_among c (going f s e a m z x.between)))) x.between.last in
        absurd (grind (arith, bad, k.other, is_within-leaf g.forest e b d.ordered leaf, eqb_tells b e))
    | inr fine ↦ fine
  ]

  -- all that is known then
  pub over_joined : Over s e i j one other a m z w v
  over_joined =
      let up = gone.0 in
      let far = moved_over p s ls g u d.ordered (λ c at. elim (cases_Bool (is_within g.forest c s)) [
        | inl bad ↦ absurd (grind (
          arith,
          first_outside,
          is_within-trans g.forest b c s d.ordered (below_parent g.forest c b d.ordered (child_up c at)) bad,
        ))
        | inr fine ↦ fine
      ]) moved in
      record {
        order = up.order;
        first = up.label s ∙ over.label s ∙ d.first;
        last = up.label e ∙ over.label e ∙ d.last;
        labels = λ q not_s not_e. up.label q ∙ over.label q ∙ d.labels q not_s not_e;
        others = λ q no_first no_last so.
            let not_b : q ≢ b = λ same. absurd (grind (arith, no_last, f_last, ap (λ y. is_within f y e) same)) in
            let not_p : q ≢ p = λ same. absurd (grind (arith, no_first, f_first, ap (λ y. is_within f y s) same)) in
            up.others q (low_by q no_last) ∙ over.others q not_b not_p ∙ others_then s e i j one other a m z w g x d q no_first no_last;
        within = λ q. up.within q ∙ far.within q ∙ within_then s e i j one other a m z w g x d q;
        up = λ q at.
            let s_out : is_among s ls ≡ false = elim (cases_Bool (is_among s ls)) [
              | inl bad ↦ absurd (grind (arith, first_outside, below_parent g.forest s b d.ordered (child_up s bad)))
              | inr fine ↦ fine
            ] in
            let leaf : children_of g.forest s ≡ [] =
            d.children s ∙ ap (filter (λ c. not (is_among c (going f s e a m z x.between)))) x.between.first in
            let low : high s ≡ false = elim (cases_Bool (is_within g.forest s b)) [
              | inl bad ↦ absurd (grind (arith, bad, not_first, is_within-leaf g.forest s b d.ordered leaf, eqb_tells b s))
              | inr fine ↦ fine
            ] in
            up.ups s q low (over.up s ∙ ap (λ t. cond t (Some p) (parent_of g.forest s)) s_out
            ∙ up_then s e i j one other a m z w g x d q at);
        goes = λ q out. up.fewer q (attached_same q ∙ attached_then s e i j one other a m z w g x d q ∙ grind (arith, out));
        stays = λ q there stays apart.
            up.stays q (low_by q apart) (attached_same q ∙ attached_then s e i j one other a m z w g x d q ∙ grind (arith, there, stays));
        last_stays = up.stays e last_low (attached_same e ∙ last_there s e i j one other a m z w g x d);
        keys = λ q kb.
            let c = cut_joined q kb in
            let last = up.cuts q c.left c.rest (holds_in u.forest q s c.left c.rest c.keys) c.keys c.away in
            record {
              left = last.front;
              rest = last.back;
              keys = last.keys;
              ahead = last.ahead ∙ c.ahead;
              behind = last.behind ∙ c.behind;
              away = last.away;
            };
        caret = λ format at.
            let one_at = d.caret format at in
            let two_at = far.caret i format one_at ∙ one_at in
            up.caret i format two_at ∙ two_at;
        written = up.written ∙ far.written ∙ d.written;
      }

  -- ---- the first block, where the last had inline children alone

  -- the keys of the first block then, cut at the first text
  first_cut : CutAlike u.forest v.forest s p first_ways.front moved_keys
  first_cut =
      let hf = first_ways in
      let now : keys_within u.forest p ≡ hf.front ++ (s ∷ moved_keys) =
      first_keys g.forest u.forest s e p b ls split.0 joining ∙ ap (λ t. t ++ moved_keys) own_keys
      ∙ append_assoc hf.front (s ∷ []) moved_keys in
      gone.0.cuts p hf.front moved_keys (holds_in u.forest p s hf.front moved_keys now) now
      (away_from s e i j one other a m z w g x d hf.front hf.ahead)

  pub first_block : read_in v.forest p ≡ read_in g.forest p ++ said_by g.forest moved_keys
  first_block =
      let hf = first_ways in
      let now : keys_within u.forest p ≡ hf.front ++ (s ∷ moved_keys) =
      first_keys g.forest u.forest s e p b ls split.0 joining ∙ ap (λ t. t ++ moved_keys) own_keys
      ∙ append_assoc hf.front (s ∷ []) moved_keys in
      let c = first_cut in
      let same_s : said v.forest s ≡ said u.forest s = says_by u.forest v.forest s (gone.0.label s) in
      ap (said_by v.forest) c.keys ∙ said-append v.forest c.front (s ∷ c.back)
      ∙ ap₂ (λ y r. y ++ r) c.ahead (ap₂ (λ y r. y ++ r) same_s c.behind)
      ∙ sym (said-append u.forest hf.front (s ∷ moved_keys)) ∙ ap (said_by u.forest) (sym now)
      ∙ first_reads g.forest u.forest s e p b ls split.0 joining

  text_said : (k : ℕ) (t : TextFields) → text_in (label_of f k) ≡ Some t → (o : ℕ) → said f k ≡ front_of o t.text ++ rest_of o t.text
  text_said k t here o = ap text_of (text_at f k t here).fields_are ∙ sym (parts o t.text)

  -- the first point is as far in the first block as it was
  pub block_place : place_in v.forest p (text_point s i) ≡ place_in f p (text_point s i)
  block_place =
      let hf = first_ways in
      let c = first_cut in
      let front : said_by v.forest c.front ≡ said_by f hf.front =
      c.ahead ∙ said-same g.forest u.forest hf.front (λ q at. says_by g.forest u.forest q (over.label q))
      ∙ ahead_said s e i j one other a m z w g x d hf.front hf.ahead in
      ap (place_along v.forest (text_point s i)) c.keys ∙ place_at v.forest s i c.front c.back c.away
      ∙ ap (λ t. text_length t + i) front
      ∙ sym (ap (place_along f (text_point s i)) hf.is ∙ place_at f s i hf.front hf.back (away_from s e i j one other a m z w g x d hf.front hf.ahead))

  pub block_offset : is_offset i one.text ≡ true → is_offset (place_in f p (text_point s i)) (read_in f p) ≡ true
  block_offset in_first =
      let hf = first_ways in
      offset_front f p s i hf.front hf.back (front_of i one.text) (rest_of i one.text) hf.is
      (away_from s e i j one other a m z w g x d hf.front hf.ahead) (text_said s one x.first i) (offset_is i one.text in_first)

  pub front_is : is_offset i one.text ≡ true → read_in g.forest p ≡ front_of (place_in f p (text_point s i)) (read_in f p)
  front_is in_first =
      let hf = first_ways in
      reads_front f g.forest p s i hf.front hf.back (front_of i one.text) (rest_of i one.text) hf.is
      (away_from s e i j one other a m z w g x d hf.front hf.ahead) own_keys (text_said s one x.first i) (offset_is i one.text in_first)
      (left_over s e i j one other a m z w g x d).first_says (ahead_said s e i j one other a m z w g x d hf.front hf.ahead)

  pub rest_is : is_offset j other.text ≡ true → read_in g.forest b ≡ rest_of (place_in f b (text_point e j)) (read_in f b)
  rest_is in_last =
      let hl = last_ways in
      let l = left_over s e i j one other a m z w g x d in
      let from = left_last f g.forest s e a m z (front_of i one.text) (rest_of j other.text) l b hl in
      let e_out : is_among e hl.front ≡ false = elim (cases_Bool (is_among e hl.front)) [
        | inl bad ↦ absurd (grind (arith, hl.inside.each e bad, (names f s e a m z x.between).e_mid))
        | inr fine ↦ fine
      ] in
      reads_rest f g.forest b e j hl.front hl.back from.mid (front_of j other.text) (rest_of j other.text) hl.is e_out from.keys
      (text_said e other x.last j) (offset_is j other.text in_last) l.last_says from.silent
      (back_says f g.forest s e a m z (front_of i one.text) (rest_of j other.text) l hl.back hl.behind)

  pub block_reads : is_offset i one.text ≡ true → is_offset j other.text ≡ true → ls ≡ children_of g.forest b
      → read_in v.forest p ≡ front_of (place_in f p (text_point s i)) (read_in f p) ++ rest_of (place_in f b (text_point e j)) (read_in f b)
  block_reads in_first in_last whole =
      let block : read_in g.forest b ≡ said_by g.forest moved_keys =
      ap (said_by g.forest) (keys-level g.forest b d.ordered (holder_there g.forest b e k.last)
      ∙ ap (λ cs. b ∷ spread (keys_within g.forest) cs) (sym whole))
      ∙ ap (λ t. t ++ said_by g.forest moved_keys) silent_g in
      first_block ∙ ap₂ (λ y r. y ++ r) (front_is in_first) (sym block ∙ rest_is in_last)

  pub block_gone : ls ≡ children_of g.forest b → parent_of v.forest b ≡ None
  block_gone whole = gone.1 (over.left ∙ filter-gone (λ q. not (is_among q ls)) (children_of g.forest b)
      (λ q at. ap not (ap (is_among q) whole ∙ at)))
