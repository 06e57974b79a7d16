-- Typing over what is selected from one text to another: it is removed, and what is typed comes at the caret.
use Rattle.std.proofs.lemmas.Bool.{cases_Bool}
use Rattle.lx_edit_laws.specs.Reading.{in_place_of}
use Rattle.lx_trees.specs.Siblings.{is_among}
use Rattle.lx_forest.proofs.Lookups.{is_among-children_of, parent_of-self}
use Rattle.lx_draft.proofs.Gaps.{parent_here}
use Rattle.lx_caret.specs.Paragraphs.{Broken, draft_left, empty_item, insert_paragraph_step, paragraph_at}
use Rattle.lx_caret_laws.proofs.SilentBlocks.{silent_block}
use Rattle.lx_caret_laws.proofs.TypedNew.{said_label}
use Rattle.lx_caret_laws.specs.Breaking.{IsBroken, StartsIn}
use Rattle.lx_caret_laws.proofs.EditedIn.{around_it}
use Rattle.lx_caret_laws.proofs.BreakSteps.{break_parted, left_tells}
use Rattle.lx_blocks.specs.Blocks.{block_of, is_at, passes}
use Rattle.lx_blocks.specs.Ranges.{at_anchor, if_normal, lies, normal_at}
use Rattle.lx_caret.proofs.Fit.{after_tells}
use Rattle.lx_caret.specs.Deleting.{cluster_reach, delete_character_step, delete_word_step, word_reach}
use Rattle.lx_caret.specs.Inserting.{broken, insert_line_break_step, insert_tab_step, insert_text_step, tabbed, typed}
use Rattle.lx_edit.specs.Texts.{has_no_text}
use Rattle.lx_caret.specs.Removing.{remove_text_step}
use Rattle.lx_caret_laws.proofs.Across.{Across, across, children_stay, deleted_across, gone_across, label_stays, texts_apart}
use Rattle.lx_caret_laws.proofs.Covers.{among_at, first_up, last_up}
use Rattle.lx_caret_laws.proofs.ReadAcross.{place_over}
use Rattle.lx_caret_laws.proofs.ReadBeside.{inside, only_below, place_still}
use Rattle.lx_caret_laws.proofs.TypedAll.{told-typing}
use Rattle.lx_caret_laws.proofs.TypedOver.{normal_mode, removes_nothing}
use Rattle.lx_caret_laws.specs.Carets.{IsSound}
use Rattle.lx_caret_laws.specs.Ranges.{IsGoneAcross, IsPartedOver, IsSelectedAcross, IsTypedAcross, RangesGiveWay}
use Rattle.lx_caret_laws.specs.Reading.{ReadsBetween, place_in, read_in, said}
use Rattle.lx_caret_laws.specs.Typing.{IsCaretAt, IsTyped}
use Rattle.lx_draft.proofs.Touched.{is_some-kind_of}
use Rattle.lx_draft.specs.Faults.{after, text_in}
use Rattle.lx_draft.specs.Steps.{text_replaced}
use Rattle.lx_draft.specs.Working.{Working}
use Rattle.lx_edit.specs.Edits.{text_point}
use Rattle.lx_forest.proofs.Within.{is_within-up}
use Rattle.lx_forest.specs.Forest.{Forest, Label}
use Rattle.lx_forest.specs.Lookups.{IsForest, children_of, has, is_within, kind_of, label_of, parent_of}
use Rattle.lx_node.specs.Kinds.{is_element, is_text_block}
use Rattle.lx_node.specs.Limits.{most_written}
use Rattle.lx_node.specs.declared.cause.Cause.{Cause}
use Rattle.lx_node.specs.declared.cause.Point.{Point}
use Rattle.lx_node.specs.declared.fields.TextFields.{TextFields}
use Rattle.lx_node.specs.declared.kind.Kind.TheVariants as kinds
use Rattle.lx_caret.specs.Lying.{EachPoint}
use Rattle.lx_text.proofs.Places.{front-length, offset_is, rest-end}
use Rattle.lx_text.proofs.Told.{front-end, front_at, rest_at}
use Rattle.lx_text.specs.Texts.{front_of, rest_of, text_length}
use Rattle.std.proofs.Common.{List, None, Ok, Result, Some, [], ap, append-nil, ap₂, arith, cond, false, inl, inr, option_map, subst, sym, true, ℕ, ◌++◌, ◌∙◌, ◌∷◌, ◌≡◌, ◌≢◌, ◌≤◌}
use Rattle.std.proofs.lemmas.Bool.Decides.{eqb_tells}
use Rattle.std.specs.Prelude.{is_some}

-- what is needed of a draft in which something was removed, to add something at its first point
pub record Allows (p q : Point) (f g : Forest) : Type 0 where
  pub element : (b : ℕ) → is_at is_element f b ≡ true → is_at is_element g b ≡ true
  pub within : (b : ℕ) → is_within g b p.key ≡ is_within f b p.key
  pub there : (b : ℕ) → has b f ≡ true → has b g ≡ true
  pub place : (b : ℕ) → is_at is_element f b ≡ true → is_within f b p.key ≡ true → is_within f b q.key ≡ true → place_in g b p ≡ place_in f b p

-- something removed, and something added in its place
pub then_added : (f g h : Forest) (p q : Point) (new : List ℕ) → ReadsBetween p q [] f g → ReadsBetween p p new g h → Allows p q f g
    → ReadsBetween p q new f h
then_added f g h p q new one two a = record {
  places = λ b element first second. one.places b element first second;
  around = λ b element first second.
      let n : ℕ = place_in f b p in
      let front : List ℕ = front_of n (read_in f b) in
      let rest : List ℕ = rest_of (place_in f b q) (read_in f b) in
      let left : read_in g b ≡ front ++ rest = one.around b element first second ∙ ap (λ t. t ++ rest) (append-nil front) in
      let in_g : is_within g b p.key ≡ true = a.within b ∙ first in
      let long : text_length front ≡ n = offset_is n (read_in f b) (one.places b element first second).0 in
      two.around b (a.element b element) in_g in_g
      ∙ ap (λ o. front_of o (read_in g b) ++ new ++ rest_of o (read_in g b)) (a.place b element first second)
      ∙ ap₂ (λ x y. x ++ new ++ y) (front_at n front rest (read_in g b) left long) (rest_at n front rest (read_in g b) left long);
  elsewhere = λ b element first second.
      let out : is_within g b p.key ≡ false = a.within b ∙ first in
      two.elsewhere b (a.element b element) out out ∙ one.elsewhere b element first second;
  aside = record {
    each = λ x so first second.
        let out : is_within g x p.key ≡ false = a.within x ∙ first in
        let early = one.aside.each x so first second in
        let late = two.aside.each x (a.there x so) out out in
        (late.0 ∙ early.0, late.1 ∙ early.1);
  };
}

kind_same : (f g : Forest) (q : ℕ) → label_of g q ≡ label_of f q → kind_of g q ≡ kind_of f q
kind_same f g q same = ap (option_map (λ (l : Label). l.kind)) same

-- a draft from which what is between two texts went allows that
allows : (p s e i j format : ℕ) (one other : TextFields) (before mid rest : List ℕ) (w v : Working)
    → Across p s e i j format one other before mid rest w v → Allows (text_point s i) (text_point e j) w.forest v.forest
allows p s e i j format one other before mid rest w v a =
    let f : Forest = w.forest in
    let g : Forest = v.forest in
    let below = only_below f g p s e i j one other before mid rest a.beside a.left a.first a.last a.in_first a.in_last in
    let still = place_still f g p s e i j one other before mid rest a.beside a.left a.first a.last a.in_first a.in_last in
    let up_s = first_up f p s e before mid rest a.beside in
    record {
      element = λ b element.
          let not_s : b ≢ s = λ same. absurd (grind (arith, same, element, a.leaf)) in
          let not_e : b ≢ e = λ same. absurd (grind (arith, same, element, a.leaf_last)) in
          ap (passes is_element) (kind_same f g b (a.draft.labels b not_s not_e)) ∙ element;
      within = a.draft.within;
      there = λ b so. elim (eqb_tells b s) [
        | inl own ↦ ap (λ x. has x g) own.1 ∙ sym (is_some-kind_of g s) ∙ ap (λ l. is_some (option_map (λ (l : Label). l.kind) l)) a.draft.first
        | inr not_s ↦ elim (eqb_tells b e) [
          | inl own ↦ ap (λ x. has x g) own.1 ∙ sym (is_some-kind_of g e) ∙ ap (λ l. is_some (option_map (λ (l : Label). l.kind) l)) a.draft.last
          | inr not_e ↦
              sym (is_some-kind_of g b) ∙ ap is_some (kind_same f g b (a.draft.labels b not_s.1 not_e.1)) ∙ is_some-kind_of f b ∙ so
        ]
      ];
      place = λ b element first second.
          let other : s ≢ b = λ same. absurd (grind (arith, same, element, a.leaf)) in
          place_over f g (text_point s i) (text_point e j) p below a.draft.within still b
          (sym (is_within-up f b s p a.beside.order up_s other) ∙ first);
    }

-- the draft between: what is selected was removed, and the same command goes on at the caret
record Between {A : Type 0} (p s e i j format : ℕ) (one other : TextFields) (before mid rest : List ℕ) (next : Working → Result A Cause)
    (w : Working) (v : A) : Type 0 where
  draft : Working
  across : Across p s e i j format one other before mid rest w draft
  gone : IsGoneAcross p s e i j format one other before rest w draft
  normal : normal_at draft.forest s ≡ Some (record one { text = front_of i one.text })
  sound : IsSound draft
  again : after (remove_text_step draft) next ≡ Ok v

between : {A : Type 0} (next : Working → Result A Cause) (p s e i j format : ℕ) (one other : TextFields) (w : Working) (v : A)
    → (is : IsSelectedAcross p s e i j format one other w) → after (remove_text_step w) next ≡ Ok v
    → Between p s e i j format one other is.before is.between is.behind next w v
between next p s e i j format one other w v is done =
    let first = after_tells (remove_text_step w) next v done in
    let u : Working = first.0 in
    let a = across p s e i j format one other w u is first.1.0 in
    let start : Point = text_point s i in
    let place : lies u.forest start ≡ true = (subst (EachPoint (λ p. lies u.forest p ≡ true)) a.caret a.fit.lying).0 in
    let left : TextFields = record one { text = front_of i one.text } in
    record {
      draft = u;
      across = a;
      gone = gone_across p s e i j format one other w u is first.1.0;
      normal = ap (λ l. if_normal (text_in l)) a.draft.first
          ∙ ap (λ b. cond b (Some left) None) (normal_mode (text_in (label_of w.forest s)) one is.first_normal);
      sound = record {
        ready = a.fit.ready;
        held = a.fit.held;
        short = a.fit.short;
        written = subst (λ n. n ≤ most_written) (sym a.draft.written) is.sound.written;
      };
      again = ap (λ x. after x next) (removes_nothing start format u a.caret place) ∙ first.1.1;
    }

-- what is added at the caret is read in the place of what was selected
added_across : (new : List ℕ) (next : Working → Result Working Cause) (p s e i j format : ℕ) (one other : TextFields) (w v : Working)
    → IsSelectedAcross p s e i j format one other w → after (remove_text_step w) next ≡ Ok v
    → ((u : Working) → IsCaretAt (text_point s i) format u → after (remove_text_step u) next ≡ Ok v
    → ReadsBetween (text_point s i) (text_point s i) new u.forest v.forest)
    → ReadsBetween (text_point s i) (text_point e j) new w.forest v.forest
added_across new next p s e i j format one other w v is done added =
    let m = between next p s e i j format one other w v is done in
    let caret : IsCaretAt (text_point s i) format m.draft =
    record { sound = m.sound; caret = m.across.caret; open_there = λ inside. ap is_some m.normal } in
    then_added w.forest m.draft.forest v.forest (text_point s i) (text_point e j) new m.gone.around (added m.draft caret m.again)
    (allows p s e i j format one other is.before is.between is.behind w m.draft m.across)

-- in the format of the first text it is typed into that
typed_into : (new : List ℕ) (p s e i j : ℕ) (one other : TextFields) (w v : Working)
    → (is : IsSelectedAcross p s e i j one.format one other w) → insert_text_step new w ≡ Ok v
    → IsTypedAcross new p s e i j one other is.before is.behind w v
unfolding insert_text_step
typed_into new p s e i j one other w v is done =
    let m = between (λ u. cond (has_no_text new) (Ok u) (at_anchor (typed new) u)) p s e i j one.format one other w v is done in
    let u : Working = m.draft in
    let a = m.across in
    let front : List ℕ = front_of i one.text in
    let left : TextFields = record one { text = front } in
    let in_it : IsTyped new s i left u v = record { sound = m.sound; normal = m.normal; caret = a.caret; done = m.again } in
    let only = told-typing.read new s i left u v in_it in
    let few : text_length front ≤ i = front-length i one.text in
    let reads : front_of i front ++ new ++ rest_of i front ≡ front ++ new =
    ap₂ (λ x y. x ++ new ++ y) (front-end i front few) (rest-end i front few) ∙ append-nil (front ++ new) in
    let apart : e ≢ s = λ same. texts_apart p s e i j one.format one other w is (sym same) in
    record {
      first_reads = only.text left (ap text_in a.draft.first)
          ∙ ap (λ t. let l : Label = record { key = s; kind = kinds.Text; fields = text_replaced one t } in Some l) reads;
      last_reads = label_stays u.forest v.forest s _ only e apart ∙ a.draft.last;
      children = children_stay u.forest v.forest s _ only p ∙ a.draft.at;
      caret = told-typing.caret new s i left u v in_it;
    }

-- ---- a paragraph

-- no node is its own parent
not_own : (f : Forest) (p q : ℕ) → IsForest f → parent_of f p ≡ Some q → q ≢ p
not_own f p q h up same = absurd (grind (arith, same, up, parent_of-self f p h, eqb_tells p p))

-- how a block was parted where something in it was selected, and where the caret is then
record IsCutOver (from to p new first last format : ℕ) (w v : Working) : Type 0 where
  parted : IsPartedOver from to p new first last w v
  started : said w.forest p ≡ [] → StartsIn new format v

parted_over : (p s e i j format : ℕ) (one other : TextFields) (w v : Working) → IsSelectedAcross p s e i j format one other w
    → is_at is_text_block w.forest p ≡ true → draft_left (insert_paragraph_step w) ≡ Ok v
    → (new : ℕ) × IsCutOver (place_in w.forest p (text_point s i)) (place_in w.forest p (text_point e j)) p new s e format w v
unfolding insert_paragraph_step
parted_over p s e i j format one other w v is block done =
    let next : Working → Result Broken Cause =
    λ u. after (at_anchor (λ q format. paragraph_at (empty_item u) (block_of u.forest q.key) q) u) (λ x.
    Ok (record { draft = x; item = empty_item u })) in
    let told = left_tells (after (remove_text_step w) next) v done in
    let m = between next p s e i j format one other w told.0 is told.1.0 in
    let a = m.across in
    let f : Forest = w.forest in
    let g : Forest = m.draft.forest in
    let start : Point = text_point s i in
    let n : ℕ = place_in f p start in
    let up_s = first_up f p s e is.before is.between is.behind a.beside in
    let up_e = last_up f p s e is.before is.between is.behind a.beside in
    let not_s : p ≢ s = λ same. absurd (grind (arith, same, up_s, parent_of-self f s a.beside.order)) in
    let not_e : p ≢ e = λ same. absurd (grind (arith, same, up_e, parent_of-self f e a.beside.order)) in
    let broken : IsBroken p s i format m.draft v = record {
      sound = m.sound;
      up = parent_here g p s a.left.ordered (ap (is_among s) a.left.at ∙ among_at is.before s (e ∷ is.behind));
      kind = ap (passes is_text_block) (kind_same f g p (a.draft.labels p not_s not_e)) ∙ block;
      caret = a.caret;
      done = ap draft_left m.again ∙ ap (λ x. Ok x) told.1.1;
    } in
    let made = break_parted p s i format m.draft v broken in
    let parted = made.1.parted in
    let still = place_still f g p s e i j one other is.before is.between is.behind a.beside a.left a.first a.last a.in_first a.in_last in
    let around = around_it _ _ [] _ _
    (inside f g p s e i j one other is.before is.between is.behind a.beside a.left a.first a.last a.in_first a.in_last) in
    let front : List ℕ = front_of n (read_in f p) in
    let rest : List ℕ = rest_of (place_in f p (text_point e j)) (read_in f p) in
    let left : read_in g p ≡ front ++ rest = around.is ∙ ap (λ t. t ++ rest) (append-nil front) in
    let long : text_length front ≡ n = offset_is n (read_in f p) around.first in
    let room = allows p s e i j format one other is.before is.between is.behind w m.draft a in (
      made.0,
      record {
        parted = record {
          before = parted.before ∙ ap (λ o. front_of o (read_in g p)) still ∙ front_at n front rest (read_in g p) left long;
          behind = parted.behind ∙ ap (λ o. rest_of o (read_in g p)) still ∙ rest_at n front rest (read_in g p) left long;
          fresh = elim (cases_Bool (has made.0 f)) [
            | inl there ↦ absurd (let bad : false ≡ true = sym parted.fresh ∙ room.there made.0 there in cc)
            | inr free ↦ free
          ];
          order = λ q up.
              let other : q ≢ p = not_own f p q a.beside.order up in
              let same : children_of g q ≡ children_of f q = a.draft.others q other in
              let among : is_among p (children_of f q) ≡ true = is_among-children_of f p q a.beside.order ∙ grind (arith, up, eqb_tells q q) in
              parted.order q (parent_here g q p a.left.ordered (ap (is_among p) same ∙ among)) ∙ ap (in_place_of p (p ∷ (made.0 ∷ []))) same;
          aside = record {
            each = λ x so first second.
                let out : is_within g x s ≡ false = a.draft.within x ∙ first in
                let early = m.gone.around.aside.each x so first second in
                let late = parted.aside.each x (room.there x so) out out in
                (late.0 ∙ early.0, late.1 ∙ early.1);
          };
        };
        started = λ silent.
            made.1.started (said_label f g p (a.draft.labels p not_s not_e) ∙ silent);
      },
    )

pub told-ranges : RangesGiveWay
unfolding delete_character_step delete_word_step insert_text_step insert_tab_step insert_line_break_step
told-ranges = record {
  removed = λ p s e i j format one other w v is done. gone_across p s e i j format one other w v is done;
  deleted = λ back p s e i j format one other w v is done. elim done [
    | inl character ↦ deleted_across back (cluster_reach back) p s e i j format one other w v is character
    | inr word ↦ deleted_across back (word_reach back) p s e i j format one other w v is word
  ];
  typed = λ new p s e i j format one other w v is some done.
      added_across new (λ u. cond (has_no_text new) (Ok u) (at_anchor (typed new) u)) p s e i j format one other w v is done
      (λ u caret again. told-typing.anywhere new (text_point s i) format u v caret some again);
  typed_into = λ new p s e i j one other w v is done. typed_into new p s e i j one other w v is done;
  tab = λ p s e i j format one other w v is done.
      added_across (9 ∷ []) (at_anchor tabbed) p s e i j format one other w v is done
      (λ u caret again. told-typing.tab (text_point s i) format u v caret again);
  line_break = λ p s e i j format one other w v is done.
      added_across [] (at_anchor broken) p s e i j format one other w v is done
      (λ u caret again. told-typing.line_break (text_point s i) format u v caret again);
  parted = λ p s e i j format one other w v is block done.
      let c = parted_over p s e i j format one other w v is block done in (c.0, c.1.parted);
  started = λ p s e i j format one other w v is block suited done.
      let c = parted_over p s e i j format one other w v is block done in
      (c.0, c.1.parted, c.1.started (silent_block w.forest p suited block));
}
