-- Lines of two parents that are joined: the step that joins them, and where the caret is.
use Rattle.lx_blocks.proofs.Until.{filter_among, last_among, until_front, until_without}
use Rattle.lx_blocks.specs.Blocks.{frame_of, is_at}
use Rattle.lx_blocks.specs.Places.{until}
use Rattle.lx_blocks.specs.Ranges.{lies}
use Rattle.lx_caret.proofs.Lies.{both}
use Rattle.lx_caret.specs.Deleting.{is_stop, join_step, line_joined, stop_behind}
use Rattle.lx_caret_laws.proofs.EdgeEnd.{IsAround, around, behind_more, behind_out, cut, cut_tree, later_child, nothing_after, or_last}
use Rattle.lx_caret_laws.proofs.JoinMoved.{has_moved}
use Rattle.lx_caret_laws.proofs.EdgeStart.{nothing_before}
use Rattle.lx_caret_laws.proofs.FarGone.{IsQuiet, removed_quiet}
use Rattle.lx_caret_laws.proofs.FarRead.{IsLevel, read_both}
use Rattle.lx_caret_laws.proofs.InPlace.{above_not_below, keys-level}
use Rattle.lx_caret_laws.proofs.JoinMet.{deletes_joins, joined_back, joined_on}
use Rattle.lx_caret_laws.proofs.JoinSteps.{in_block, in_line, index_within}
use Rattle.lx_caret_laws.proofs.JoinedIn.{IsSetIn, at_end, from_first, from_second, read_aside, read_joined}
use Rattle.lx_caret_laws.proofs.ReadLevels.{read-leaf}
use Rattle.lx_caret_laws.proofs.SilentBlocks.{element_of_block, silent_block}
use Rattle.lx_caret_laws.proofs.Stops.{inline_below, no_stop_kind}
use Rattle.lx_caret_laws.proofs.TypedNew.{said_label}
use Rattle.lx_caret_laws.specs.Joining.{AreJoinedApart, Deletes, IsAtEdge, IsBehindAll, IsMetBack}
use Rattle.lx_caret_laws.specs.Reading.{place_in, read_in, said}
use Rattle.lx_draft.proofs.Gaps.{parent_here}
use Rattle.lx_draft.specs.Selecting.{lies_in}
use Rattle.lx_draft.specs.Working.{Working}
use Rattle.lx_edit.specs.Edits.{element_point, remove_step, removed}
use Rattle.lx_edit_laws.proofs.Reading.{spread}
use Rattle.lx_edit_laws.proofs.WrapTurns.{WentOver}
use Rattle.lx_forest.proofs.Lookups.{is_among-children_of}
use Rattle.lx_forest.proofs.Tops.{is_within-child}
use Rattle.lx_forest.proofs.Up.{ancestors-agree, attached_above}
use Rattle.lx_forest.proofs.Walks.{NoRepeats-preorder_of, is_among-preorder_of, is_attached-up}
use Rattle.lx_forest.proofs.Within.{is_within-ancestors, is_within-parent, is_within-self, is_within-trans}
use Rattle.lx_forest.specs.Forest.{Forest}
use Rattle.lx_forest.specs.Lookups.{IsForest, ancestors, behind, children_of, from, has, is_attached, is_within, keys_within, kind_of, parent_of, preorder, size_of}
use Rattle.lx_blocks.proofs.Blocked.{block_there, found_among}
use Rattle.lx_forest.specs.Suited.{IsSuited, is_suited}
use Rattle.lx_node.specs.Kinds.{is_element, is_inline, is_text_block}
use Rattle.lx_node.specs.declared.cause.Point.{Point}
use Rattle.lx_select.specs.declared.selection.Selection.TheVariants.{Range}
use Rattle.lx_text.specs.Texts.{text_length}
use Rattle.lx_trees.proofs.Siblings.{is_among-append, is_among-names_without}
use Rattle.lx_trees.specs.Siblings.{NoRepeats, is_among, is_named, names_without}
use Rattle.std.proofs.Common.{Bool, List, None, Ok, Some, [], ap, append_assoc, arith, cond, false, inl, inr, subst, sym, true, ℕ, ◌++◌, ◌∙◌, ◌∷◌, ◌≡◌, ◌≢◌, ◌≤◌, ◌⊎◌}
use Rattle.std.proofs.lemmas.Bool.Decides.{eqb_tells}
use Rattle.std.proofs.lemmas.Bool.{cases_Bool}
use Rattle.std.specs.Prelude.{filter}

module _ (first second : ℕ) (p : Point) (format : ℕ) (w v : Working) (met : IsMetBack first second w) where
  abbrev f : Forest
  f = w.forest

  h : IsForest f
  h = met.sound.ready.in_order

  -- the first comes before the second
  comes_first : is_among first (until (Some second) (preorder f)) ≡ true
  comes_first =
      let ks : List ℕ = until (Some second) (preorder f) in
      let stop : ℕ → Bool = is_stop f (frame_of f second) in
      let last : (is_named None first ≡ true) ⊎ (is_among first (filter stop ks) ≡ true) = last_among None (filter stop ks) first met.met in
      elim last [
        | inl named ↦ absurd (cc)
        | inr among ↦ grind (arith, among, filter_among stop ks first)
      ]

  two : first ≢ second
  two e =
      let ks : List ℕ = until (Some second) (preorder f) in
      absurd (let bad : false ≡ true = sym (until_without second (preorder f)) ∙ ap (λ x. is_among x ks) (sym e) ∙ comes_first in cc)

  -- a line isn't in another
  line_off : (a b : ℕ) → ((c : ℕ) → parent_of f c ≡ Some a → is_at is_inline f c ≡ true) → is_at is_text_block f b ≡ true → b ≢ a
      → is_within f a b ≡ false
  line_off a b inline block other = elim (cases_Bool (is_within f a b)) [
    | inl inside ↦
        let c = is_within-child f a b h inside other in
        let low : is_at is_inline f b ≡ true = inline_below f c.child h met.sound.held (inline c.child c.up) b c.inside in
        absurd (let bad : false ≡ true = sym (no_stop_kind (kind_of f b) low).0 ∙ block in cc)
    | inr out ↦ out
  ]

  pub first_off : is_within f first second ≡ false
  first_off = line_off first second met.first_line.inline met.second_line.kind (λ e. two (sym e))

  second_off : is_within f second first ≡ false
  second_off = line_off second first met.second_line.inline met.first_line.kind two

  there_first : has first f ≡ true
  there_first = block_there f first met.first_line.kind

  there_second : has second f ≡ true
  there_second = block_there f second met.second_line.kind

  abbrev ones : List ℕ
  ones = children_of f first

  abbrev twos : List ℕ
  twos = children_of f second

  abbrev there : Point
  there = element_point first (size_of f first)

  silent : said f second ≡ []
  silent = silent_block f second met.suited met.second_line.kind

  -- all that is left of the draft
  pub record IsLeftApart : Type 0 where
    pub moved : Working
    pub over : WentOver f moved.forest second first twos
    pub empty : children_of moved.forest second ≡ []
    pub point : Point
    pub own : p.key ≡ second → point ≡ there
    pub other : p.key ≢ second → point ≡ p
    pub quiet : IsQuiet second (ancestors f second) point format moved v

  pub left_apart : w.selection ≡ Range p p format → (p.key ≡ first → p.offset ≤ size_of f first) → (p.key ≢ second → is_within f p.key second ≡ false)
      → line_joined first second w ≡ Ok v → IsLeftApart
  unfolding remove_step
  left_apart caret few outside e =
      let t = has_moved first second p format w v
      (record { order = h; one = met.first_line; two = met.second_line; apart = two; off = first_off; caret = caret; few = few }) e in
      let z : Working = t.moved in
      let g : Forest = z.forest in
      let over : WentOver f g second first twos = t.over in
      let r : Point = t.point in
      let remove : removed second (ancestors g second) z ≡ Ok v = t.remove in
      let same_up : ancestors g second ≡ ancestors f second =
      ancestors-agree f g second h over.in_order (λ x among.
      let above : is_within f x second ≡ true = is_within-ancestors f x second h there_second ∙ among in
      let out : is_among x twos ≡ false = elim (cases_Bool (is_among x twos)) [
        | inl low ↦ absurd (let bad : false ≡ true = sym (is_within-parent f x second h (parent_here f second x h low)) ∙ above in cc)
        | inr none ↦ none
      ] in
      over.up x ∙ ap (λ t. cond t (Some first) (parent_of f x)) out) in
      let out_r : is_within f r.key second ≡ false = elim (eqb_tells p.key second) [
        | inl own ↦ ap (λ (x : Point). is_within f x.key second) (t.own own.1) ∙ first_off
        | inr other ↦ ap (λ (x : Point). is_within f x.key second) (t.other other.1) ∙ outside other.1
      ] in
      let off : is_among r.key (second ∷ ancestors f second) ≡ false = sym (is_within-ancestors f r.key second h there_second) ∙ out_r in
      let suited : IsSuited g = record { each = λ x. ap is_suited (over.label x) ∙ met.suited.each x } in
      let none : read_in g second ≡ [] = read-leaf g second over.in_order t.empty ∙ said_label f g second (over.label second) ∙ silent in
      let quiet = removed_quiet (ancestors f second) second r format z v over.in_order suited same_up none t.caret off
      (ap (λ ks. removed second ks z) (sym same_up) ∙ remove) in
      record {
        moved = z;
        over = over;
        empty = t.empty;
        point = r;
        own = t.own;
        other = t.other;
        quiet = quiet;
      }

  -- ---- what that means

  module _ (l : IsLeftApart) (attached : is_attached f second ≡ true) where
    abbrev g : Forest
    g = l.moved.forest

    not_above : (q : ℕ) → is_within f q second ≡ false → is_among q (ancestors f second) ≡ false
    not_above q out =
        let all : is_among q (second ∷ ancestors f second) ≡ false = sym (is_within-ancestors f q second h there_second) ∙ out in
        grind (arith, all)

    own_first : is_within f first first ≡ true
    own_first = is_within-self f first ∙ there_first

    own_second : is_within f second second ≡ true
    own_second = is_within-self f second ∙ there_second

    set_moved : IsSetIn f g first second
    set_moved = record {
      ordered = h;
      order_after = l.over.in_order;
      there_first = there_first;
      there_second = there_second;
      first_off = first_off;
      second_off = second_off;
      silent = silent;
      labels = l.over.label;
      joined = l.over.there;
      children_aside = λ b one two. l.over.others b (λ e. absurd (grind (arith, e, two, own_second))) (λ e. absurd (grind (arith, e, one, own_first)));
    }

    set_left : IsSetIn f v.forest first second
    set_left = record {
      ordered = h;
      order_after = l.quiet.order;
      there_first = there_first;
      there_second = there_second;
      first_off = first_off;
      second_off = second_off;
      silent = silent;
      labels = λ q. l.quiet.labels q ∙ l.over.label q;
      joined = l.quiet.children first (not_above first first_off) ∙ l.over.there;
      children_aside = λ b one two. l.quiet.children b (not_above b two) ∙ set_moved.children_aside b one two;
    }

    -- of two children of a node the one that has the second comes after the one that has the first
    in_order : (b c d : ℕ) → parent_of f c ≡ Some b → parent_of f d ≡ Some b → d ≢ c → is_within f c first ≡ true → is_within f d second ≡ true
        → (k : IsLevel f b c) → is_among d k.back ≡ true
    in_order b c d up_c up_d other one two_in k =
        let among : is_among d (k.front ++ (c ∷ k.back)) ≡ true =
        ap (is_among d) (sym k.are) ∙ is_among-children_of f d b h ∙ grind (arith, up_d, eqb_tells b b) in
        elim (cases_Bool (is_among d k.front)) [
          | inl early ↦
              let a : IsAround d k.front = around d k.front early in
              let are : children_of f b ≡ a.front ++ (d ∷ (a.back ++ (c ∷ k.back))) =
              k.are ∙ ap (λ ks. ks ++ (c ∷ k.back)) a.is ∙ append_assoc a.front (d ∷ a.back) (c ∷ k.back) in
              let attached_d : is_attached f d ≡ true = attached_above f d second h attached two_in in
              let attached_b : is_attached f b ≡ true = sym (is_attached-up f d b h up_d) ∙ attached_d in
              let at_c : is_among c (a.back ++ (c ∷ k.back)) ≡ true =
              is_among-append c a.back (c ∷ k.back) ∙ or_last (is_among c a.back) (is_among c (c ∷ k.back)) (grind (arith, eqb_tells c c)) in
              let late : is_among first (behind f d) ≡ true = later_child f h b d c first a.front (a.back ++ (c ∷ k.back)) attached_b are at_c one in
              let after_second : is_among first (behind f second) ≡ true = behind_more f h d second first attached_d attached two_in late in
              let low : List ℕ = spread (keys_within f) twos ++ behind f second in
              let starts : preorder f ≡ (cut f h second attached).0 ++ (second ∷ low) =
              cut_tree f h second attached ∙ ap (λ ks. (cut f h second attached).0 ++ (ks ++ behind f second)) (keys-level f second h there_second) in
              let front : until (Some second) (preorder f) ≡ (cut f h second attached).0 =
              ap (until (Some second)) starts
              ∙ until_front (cut f h second attached).0 (second ∷ low) (subst NoRepeats starts (NoRepeats-preorder_of f h)) in
              let out = behind_out f h second first attached after_second in
              absurd (let bad : false ≡ true = sym out.0 ∙ ap (is_among first) (sym front) ∙ comes_first in cc)
          | inr late ↦ later late (grind (arith, among, late, is_among-append d k.front (c ∷ k.back)))
        ] where
          later : is_among d k.front ≡ false → is_among d (c ∷ k.back) ≡ true → is_among d k.back ≡ true
          later out in_rest = grind (arith, in_rest, other, eqb_tells c d)

    pub are_apart : AreJoinedApart first second w v
    are_apart = record {
      read = read_joined f v.forest first second set_left;
      children = set_left.joined;
      gone = l.quiet.gone;
      around = λ b one two_in same.
          l.quiet.read b
          ∙ read_both f g first second set_moved l.empty (λ q a c. l.over.others q c a) in_order b one two_in same;
      aside = λ b one two_in. (read_aside f v.forest first second set_left b one two_in, set_left.children_aside b one two_in);
      labels = set_left.labels;
    }

    pub from_start : is_within f second p.key ≡ true → place_in f second p ≡ 0 → IsBehindAll first format w v
    from_start inside start = elim (eqb_tells p.key second) [
      | inl own ↦
          let end = at_end f v.forest first second set_left in
          record {
            point = there;
            caret = l.quiet.caret ∙ ap (λ x. Range x x format) (l.own own.1);
            inside = end.inside;
            place = end.place;
          }
      | inr other ↦
          let at = from_second f v.forest first second set_left p inside other.1 in
          record {
            point = p;
            caret = l.quiet.caret ∙ ap (λ x. Range x x format) (l.other other.1);
            inside = at.inside;
            place = omega (arith, at.place, start);
          }
    ]

    pub from_end : is_within f first p.key ≡ true → (p.key ≡ first → p.offset ≤ size_of f first) → place_in f first p ≡ text_length (read_in f first)
        → IsBehindAll first format w v
    from_end inside few end =
        let other : p.key ≢ second = λ own. absurd (let bad : false ≡ true = sym first_off ∙ ap (is_within f first) (sym own) ∙ inside in cc) in
        let at = from_first f v.forest first second set_left p inside (λ own is. few own) in
        record { point = p; caret = l.quiet.caret ∙ ap (λ x. Range x x format) (l.other other); inside = at.inside; place = at.place ∙ end }

-- ---- the commands

-- a point of a line that isn't on the line itself is below it
below_out : (f : Forest) (a m : ℕ) (p : Point) → IsForest f → is_within f a p.key ≡ true → is_within f a m ≡ false → is_within f p.key m ≡ false
below_out f a m p h inside out = elim (cases_Bool (is_within f p.key m)) [
  | inl reached ↦ absurd (let bad : false ≡ true = sym out ∙ is_within-trans f a p.key m h inside reached in cc)
  | inr none ↦ none
]

few_of : (first second : ℕ) (p : Point) (w : Working) → IsMetBack first second w → lies w.forest p ≡ true → p.key ≡ first
    → p.offset ≤ size_of w.forest first
few_of first second p w met place own =
    subst (λ k. p.offset ≤ size_of w.forest k) own
    (index_within w.forest p place (ap (is_at is_element w.forest) own ∙ element_of_block (kind_of w.forest first) met.first_line.kind))

-- what one meets on from an attached node is attached
second_attached : (f : Forest) (first second : ℕ) → IsForest f → is_attached f first ≡ true → stop_behind f first ≡ Some second
    → is_attached f second ≡ true
second_attached f first second h there found =
    let among = found_among (is_stop f (frame_of f first)) (names_without first (from f first)) second found in
    let in_from : is_among second (from f first) ≡ true = grind (arith, among, is_among-names_without first second (from f first)) in
    let c = cut f h first there in
    sym (is_among-preorder_of f second) ∙ ap (is_among second) c.1 ∙ is_among-append second c.0 (from f first)
    ∙ or_last (is_among second c.0) (is_among second (from f first)) in_from

pub apart_at_start : (first second format : ℕ) (p : Point) (w v : Working) → IsMetBack first second w → IsAtEdge true second p format w
    → Deletes true w v → AreJoinedApart first second w v × IsBehindAll first format w v
unfolding join_step
apart_at_start first second format p w v met is e =
    let f : Forest = w.forest in
    let h : IsForest f = met.sound.ready.in_order in
    let join = deletes_joins true second p format w v is e in
    let place : lies f p ≡ true = join.took.anchor in
    let inside = in_block f p second h place is.within in
    let attached : is_attached f second ≡ true = attached_above f second p.key h (both (is_attached f p.key) (lies_in f p) place).0 inside in
    let step = joined_back first second w v met.met met.first_line.kind join.joins in
    let l = left_apart first second p format w v met is.caret (few_of first second p w met place)
    (λ other. above_not_below f second p.key h inside (λ same. other (sym same))) step in
    let start = nothing_before f second p (in_line second w p met.sound met.suited met.second_line place inside) is.leaf is.characters in (
      are_apart first second p format w v met l attached,
      from_start first second p format w v met l attached inside start,
    )

pub apart_at_end : (first second format : ℕ) (p : Point) (w v : Working) → IsMetBack first second w → stop_behind w.forest first ≡ Some second
    → IsAtEdge false first p format w → Deletes false w v → AreJoinedApart first second w v × IsBehindAll first format w v
apart_at_end first second format p w v met found is e =
    let f : Forest = w.forest in
    let h : IsForest f = met.sound.ready.in_order in
    let join = deletes_joins false first p format w v is e in
    let place : lies f p ≡ true = join.took.anchor in
    let inside = in_block f p first h place is.within in
    let back = joined_on first second w v found met.second_line.kind join.joins in
    let step = joined_back first second w v met.met met.first_line.kind back in
    let off = first_off first second p format w v met in
    let few = few_of first second p w met place in
    let l = left_apart first second p format w v met is.caret few (λ other. below_out f first second p h inside off) step in
    let attached_first : is_attached f first ≡ true = attached_above f first p.key h (both (is_attached f p.key) (lies_in f p) place).0 inside in
    let attached : is_attached f second ≡ true = second_attached f first second h attached_first found in
    let own : is_within f first first ≡ true = is_within-self f first ∙ block_there f first met.first_line.kind in
    let end = nothing_after w first p met.sound (in_line first w p met.sound met.suited met.first_line place inside) is.leaf is.characters first own inside in (
      are_apart first second p format w v met l attached,
      from_end first second p format w v met l attached inside few end,
    )
