-- Lists whose lines become paragraphs read the same, where inline children come first in each item.
use Rattle.std.proofs.Common.{◌≡◌, ◌≢◌, ◌∙◌, ℕ, Bool, true, false, eqb, not, ◌&&◌, ◌||◌, List, [], ◌∷◌, ◌++◌, Some, Result, Ok, refl, sym, ap, ap₂, subst, arith, inl, inr, append-nil}
use Rattle.std.specs.Prelude.{find}
use Rattle.std.specs.List.{filter}
use Rattle.std.proofs.lemmas.Bool.{cases_Bool}
use Rattle.std.proofs.lemmas.Bool.Decides.{eqb_tells}
use Rattle.lx_trees.specs.Siblings.{is_among, names_with}
use Rattle.lx_node.specs.Kinds.{may_hold, is_inline, is_item, is_list, is_text_block}
use Rattle.lx_node.specs.Plain.{plain_element}
use Rattle.lx_node.specs.declared.kind.Kind.TheVariants.{Paragraph}
use Rattle.lx_node.specs.declared.cause.Cause.{Cause}
use Rattle.lx_trees.proofs.NamedTrees.{is_among-preorder, NoRepeats-preorder}
use Rattle.lx_trees.proofs.Subtrees.{count-alone-le}
use Rattle.lx_forest.specs.Forest.{Forest}
use Rattle.lx_forest.specs.Lookups.{key_of, has, alone, parent_of, children_of, ancestors, is_within, keys_within, IsForest, IsHeld}
use Rattle.lx_forest.proofs.Edits.{has-root, parent_of-root}
use Rattle.lx_forest.proofs.Lookups.{NoRepeats-children_of, has-child}
use Rattle.lx_forest.proofs.Walks.{cases_option, ancestors-top}
use Rattle.lx_forest.proofs.Within.{is_within-self, is_within-up, is_within-parent, is_within-top}
use Rattle.lx_links.proofs.Detached.{is_among-filter, NoRepeats-filter}
use Rattle.lx_draft.specs.Working.{Working}
use Rattle.lx_draft.specs.Faults.{after}
use Rattle.lx_draft.specs.Steps.{new_step, take_step}
use Rattle.lx_draft.specs.Beside.{put_before_step}
use Rattle.lx_draft.proofs.Gaps.{parent_here, child_of}
use Rattle.lx_edit.specs.InTurn.{in_turn}
use Rattle.lx_edit.specs.Edits.{sent_away, removed, remove_step}
use Rattle.lx_edit.proofs.Climbed.{first_part, sent_away-forest}
use Rattle.lx_edit.proofs.Paths.{remove_path}
use Rattle.lx_blocks.specs.Blocks.{is_at, is_line}
use Rattle.lx_list.specs.Dissolving.{emptied_into, paragraph_made, dissolved, is_in_item, is_outermost, outermost_above, dissolved_around}
use Rattle.lx_edit_laws.specs.Reading.{read_below}
use Rattle.lx_edit_laws.proofs.Reading.{down, spread-none, reads_of, read-level, IsKnown, reads_known, reads-instead}
use Rattle.lx_edit_laws.proofs.WrapSteps.{was_same, was_taken, before_below}
use Rattle.lx_list_laws.specs.Reading.{stand_first, InlinesFirst, IsSoundDraft, ReadsAs}
use Rattle.lx_list_laws.proofs.ReadOrder.{first-same, first-others}
use Rattle.lx_list_laws.proofs.ReadForests.{reads_told}
use Rattle.lx_list_laws.proofs.ReadSound.{StaysSound, stays_then, stays_selected, sound_path}
use Rattle.lx_list_laws.proofs.ReadEdits.{parent_made, so_at, was_removed}
use Rattle.lx_list.proofs.Itemless.{there_at}
use Rattle.lx_list_laws.proofs.ReadSaid.{inlines, said, inline_below, MaySay, AreSaid, are_said}
use Rattle.lx_list_laws.proofs.ReadLines.{inline_no_block, list_tells, said-lines, is_listed, listed_below, listed_silent, none_in_list, none-any, is_block_at, list_or_item, lines_read}

-- the lines of a list
abbrev pub lines_of : Forest → ℕ → List ℕ
lines_of f list = filter (is_line f) (keys_within f list)

-- a line of a list is in its tree
pub among_lines : (f : Forest) (list q : ℕ) → is_among q (lines_of f list) ≡ (is_within f list q && is_line f q)
among_lines f list q = is_among-filter (is_line f) q (keys_within f list) ∙ ap (λ b. b && is_line f q) (is_among-preorder key_of q (alone list f))

-- what is in a tree is in it
pub within_below : (f : Forest) (list c b : ℕ) → IsForest f → parent_of f c ≡ Some b → is_within f list b ≡ true → is_within f list c ≡ true
within_below f list c b h up inside =
    elim (eqb_tells c list) [
      | inl own ↦ absurd (grind (arith, inside, own.1, is_within-parent f c b h up))
      | inr other ↦ is_within-up f list c b h up other.1 ∙ inside
    ]

-- A list below p whose lines have become paragraphs before it.
pub record IsEmptied (f g : Forest) (p list : ℕ) : Type 0 where
  pub held : IsHeld may_hold f
  pub up : parent_of f list ≡ Some p
  pub is_list : is_at is_list f list ≡ true
  pub all : AreSaid f g p list (lines_of f list)

module _ (f g : Forest) (p list : ℕ) (m : IsEmptied f g p list) where
  order : IsForest f
  order = m.all.told.before

  p_outside : is_within f list p ≡ false
  p_outside = is_within-parent f list p order m.up

  pub not_p : (q : ℕ) → is_within f list q ≡ true → eqb q p ≡ false
  not_p q inside = grind (arith, inside, p_outside, eqb_tells q p)

  pub list_listed : is_at is_listed f list ≡ true
  list_listed = so_at is_list is_listed true (λ kind e. grind (arith, e)) f list m.is_list

  -- no child that is left is inline
  pub record LeftBelow (b c : ℕ) : Type 0 where
    pub child : parent_of f c ≡ Some b
    pub other : is_at is_inline f c ≡ false

  pub left_below : (b c : ℕ) → is_within f list b ≡ true → is_at is_listed f b ≡ true → is_among c (children_of g b) ≡ true → LeftBelow b c
  left_below b c inside here among = elim (cases_Bool (is_line f b)) [
    | inl line ↦
        let there : is_among b (lines_of f list) ≡ true = among_lines f list b ∙ ap₂ (λ x y. x && y) inside line in
        let rest : (is_among c (children_of f b) && not (is_at is_inline f c)) ≡ true =
        sym (is_among-filter (λ q. not (is_at is_inline f q)) c (children_of f b)) ∙ sym (ap (is_among c) (m.all.left b there)) ∙ among in
        record { child = parent_here f b c order (grind (arith, rest)); other = grind (arith, rest) }
    | inr none ↦
        let away : is_among b (lines_of f list) ≡ false = among_lines f list b ∙ ap₂ (λ x y. x && y) inside none in
        let same : children_of g b ≡ children_of f b = m.all.others b (there_at is_listed f b here) (not_p b inside) away in
        let was : is_among c (children_of f b) ≡ true = sym (ap (is_among c) same) ∙ among in
        let up : parent_of f c ≡ Some b = parent_here f b c order was in
        record {
          child = up;
          other = elim (list_or_item f b here) [
            | inl is ↦ none_in_list f c b m.held up is
            | inr is ↦ none-any (is_at is_inline f) (children_of f b) c (grind (arith, none, is_block_at f b is)) was
          ];
        }
  ]

  -- nothing is read below the list
  empty_below : (b : ℕ) → is_within f list b ≡ true → is_at is_listed f b ≡ true → read_below g b ≡ []
  empty_below b inside here = down f order (λ q. is_within f list q ≡ true → is_at is_listed f q ≡ true → read_below g q ≡ []) (λ q each within listed.
      read-level g q m.all.told.behind
      ∙ ap₂ (λ x y. x ++ y) (m.all.told.texts q ∙ listed_silent f q listed)
      (spread-none (read_below g) (children_of g q) (λ c among.
      let l = left_below q c within listed among in
      each c l.child (within_below f list c q order l.child within) (listed_below f c q m.held l.child listed l.other)))) b inside here

  pub list_inside : is_within f list list ≡ true
  list_inside = is_within-self f list ∙ has-child f list p m.up

  emptied_list : read_below g list ≡ []
  emptied_list = empty_below list list_inside list_listed

  list_said : InlinesFirst f → said f (lines_of f list) ≡ read_below f list
  list_said first = said-lines f (keys_within f list) ∙ sym (lines_read f order m.held first list list_listed)

  -- elsewhere the same is read
  abbrev spared : ℕ → Bool
  spared b = is_within f list b || not (has b f)

  beside_spared : (q b : ℕ) → parent_of f q ≡ Some b → q ≢ list → is_within f list b ≡ false → spared q ≡ false
  beside_spared q b up other outside = grind (arith, is_within-up f list q b order up other, outside, has-child f q b up)

  emptied_level : InlinesFirst f → (b : ℕ) → spared b ≡ false → IsKnown f g spared b → reads_of g (children_of g b) ≡ reads_of f (children_of f b)
  emptied_level first b clear k =
      let outside : is_within f list b ≡ false = grind (arith, clear) in
      elim (eqb_tells b p) [
        | inl own ↦
            let here : children_of g b ≡ names_with (Some list) m.all.paragraphs (children_of f b) =
            ap (children_of g) own.1 ∙ m.all.here ∙ ap (λ q. names_with (Some list) m.all.paragraphs (children_of f q)) (sym own.1) in
            let among : is_among list (children_of f b) ≡ true = ap (λ q. is_among list (children_of f q)) own.1 ∙ child_of f p list order m.up in
            let same : reads_of g m.all.paragraphs ++ read_below g list ≡ read_below f list =
            ap₂ (λ x y. x ++ y) m.all.says emptied_list ∙ append-nil (said f (lines_of f list)) ∙ list_said first in
            ap (reads_of g) here
            ∙ reads-instead f g list m.all.paragraphs (children_of f b) (NoRepeats-children_of f b order) among same
            (λ q there other. let up = parent_here f b q order there in k.child q up (beside_spared q b up other outside))
        | inr other ↦
            let there : has b f ≡ true = grind (arith, clear) in
            let away : is_among b (lines_of f list) ≡ false = among_lines f list b ∙ ap (λ x. x && is_line f b) outside in
            ap (reads_of g) (m.all.others b there other.0 away)
            ∙ reads_known f g spared b order k (λ q up.
            beside_spared q b up (λ same. absurd (grind (arith, other.0, same, up, m.up, eqb_tells b p))) outside)
      ]

  root_other : 0 ≢ list
  root_other same = absurd (grind (arith, m.up, same, parent_of-root f order))

  emptied_read : InlinesFirst f → read_below g 0 ≡ read_below f 0
  emptied_read first =
      reads_told f g spared m.all.told (emptied_level first) 0
      (ap₂ (λ x y. x || not y) (is_within-top f list 0 order (parent_of-root f order) root_other) (has-root f order))

  -- inline children come first in each item still
  emptied_first : InlinesFirst f → is_at is_item f p ≡ false → InlinesFirst g
  emptied_first first none = record {
    each = λ x item.
        let was : is_at is_item f x ≡ true = sym (m.all.item x) ∙ item in
        let other : eqb x p ≡ false = grind (arith, was, none, eqb_tells x p) in
        first-same (is_at is_inline g) (is_at is_inline f) (children_of g x) (λ q among. m.all.inline q)
        ∙ elim (cases_Bool (is_among x (lines_of f list))) [
          | inl there ↦ ap (stand_first (is_at is_inline f)) (m.all.left x there) ∙ first-others (is_at is_inline f) (children_of f x)
          | inr away ↦ ap (stand_first (is_at is_inline f)) (m.all.others x (there_at is_item f x was) other away) ∙ first.each x was
        ];
  }

-- ---- the list goes

-- what became of a draft is sound and reads the same, and inline children come first in each item
pub record KeepsFirst (w v : Working) : Type 0 where
  pub stays : StaysSound w v
  pub first : InlinesFirst v.forest
  pub read : ReadsAs w v

pub first_same : (w v : Working) → IsSoundDraft w → InlinesFirst w.forest → ◌≡◌ {A = Result Working Cause} (Ok w) (Ok v) → KeepsFirst w v
first_same w v s first e = subst (KeepsFirst w) (was_same w v e) (record { stays = stays_selected w w s refl refl; first = first; read = refl })

-- a list that is below nothing can't be removed, nor can anything come before it
pub top_stays : (list : ℕ) (lines : List ℕ) (w u v : Working) → IsSoundDraft w → in_turn (paragraph_made list) lines w ≡ Ok u → remove_step list u ≡ Ok v
    → (p : ℕ) × (parent_of w.forest list ≡ Some p)
unfolding in_turn paragraph_made remove_step
top_stays list [] w u v s e f = elim (cases_option (parent_of w.forest list)) [
  | inl top ↦
      let same : w ≡ u = was_same w u e in
      let alone : take_step list (sent_away list u) ≡ Ok v =
      ap (λ ks. removed list ks u) (sym (ancestors-top u.forest list (ap (λ (x : Working). parent_of x.forest list) (sym same) ∙ top))) ∙ f in
      let taken = was_taken list (sent_away list u) v alone in
      (taken.1.0, ap (λ (x : Working). parent_of x.forest list) same ∙ ap (λ x. parent_of x list) (sym (sent_away-forest list u)) ∙ taken.1.1)
  | inr found ↦ found
]
top_stays list (line ∷ lines) w u v s e f =
    let a = first_part (paragraph_made list line w) (in_turn (paragraph_made list) lines) u e in
    let b = first_part (new_step Paragraph plain_element w) (λ o. after (put_before_step w.next_key list o) (emptied_into w.next_key line)) a.0 a.1 in
    let c = first_part (put_before_step w.next_key list b.0) (emptied_into w.next_key line) a.0 b.2 in
    let below = before_below w.next_key list b.0 c.0 c.1 in
    (below.0, sym (parent_made Paragraph plain_element w b.0 list s b.1) ∙ below.1)

-- a line isn't inline
pub block_apart : (f : Forest) (k : ℕ) → is_at is_text_block f k ≡ true → is_at is_inline f k ≡ false
block_apart f k is = grind (arith, is, so_at is_inline is_text_block false inline_no_block f k)

pub may_say : (f : Forest) (p list : ℕ) → IsForest f → IsHeld may_hold f → parent_of f list ≡ Some p → is_at is_list f list ≡ true
    → MaySay f p list (lines_of f list)
may_say f p list h held up is =
    let inside : (q : ℕ) → is_among q (lines_of f list) ≡ true → is_within f list q ≡ true = λ q among. grind (arith, among_lines f list q, among) in
    let block : (q : ℕ) → is_among q (lines_of f list) ≡ true → is_at is_text_block f q ≡ true = λ q among. grind (arith, among_lines f list q, among) in
    record {
      up = up;
      place = grind (arith, inline_below f list p held up, so_at is_list is_inline false (λ kind e. (list_tells kind e).1) f list is);
      once = NoRepeats-filter (is_line f) (keys_within f list)
          (NoRepeats-preorder key_of (alone list f) (λ q. omega (arith, count-alone-le key_of q list f, h.once q)));
      there = λ q among. there_at is_text_block f q (block q among);
      apart = λ q among. grind (arith, inside q among, is_within-parent f list p h up, eqb_tells q p);
      block = λ q among. block_apart f q (block q among);
    }

keeps_dissolved : (list : ℕ) (w v : Working) → IsSoundDraft w → InlinesFirst w.forest → is_outermost w.forest list ≡ true → dissolved list w ≡ Ok v → KeepsFirst w v
unfolding dissolved
keeps_dissolved list w v s inlines outer e =
    let f : Forest = w.forest in
    let h : IsForest f = s.ready.in_order in
    let is : is_at is_list f list ≡ true = grind (arith, outer) in
    let a = first_part (in_turn (paragraph_made list) (lines_of f list) w) (remove_step list) v e in
    let above = top_stays list (lines_of f list) w a.0 v s a.1 a.2 in
    let p : ℕ = above.0 in
    let no_item : is_at is_item f p ≡ false = grind (arith, outer, ap (is_in_item f) above.1) in
    let said = are_said p list (lines_of f list) w a.0 s (may_say f p list h s.held above.1 is) a.1 in
    let m : IsEmptied f a.0.forest p list = record { held = s.held; up = above.1; is_list = is; all = said.0 } in
    let gone = was_removed list a.0 v said.1.sound.ready.in_order (emptied_list f a.0.forest p list m) a.2 in
    record {
      stays = stays_then w a.0 v said.1 (remove_path sound_path list a.0 v said.1.sound a.2);
      first = gone.first (emptied_first f a.0.forest p list m inlines no_item);
      read = gone.read 0 ∙ emptied_read f a.0.forest p list m inlines;
    }

pub found_passes : (test : ℕ → Bool) (ks : List ℕ) (k : ℕ) → find test ks ≡ Some k → test k ≡ true
found_passes test [] k e = absurd (cc)
found_passes test (x ∷ xs) k e = elim (cases_Bool (test x)) [
  | inl here ↦ let same : Some x ≡ Some k = grind (arith, e, here) in grind (arith, here, same)
  | inr later ↦ found_passes test xs k (grind (arith, e, later))
]

pub keeps_dissolved_around : (line : ℕ) (w v : Working) → IsSoundDraft w → InlinesFirst w.forest → dissolved_around line w ≡ Ok v → KeepsFirst w v
unfolding dissolved_around
keeps_dissolved_around line w v s first e = elim (cases_option (outermost_above w.forest line)) [
  | inl none ↦ first_same w v s first (rw none at e)
  | inr (list, found) ↦ keeps_dissolved list w v s first (found_passes (is_outermost w.forest) (ancestors w.forest line) list found) (rw found at e)
]
