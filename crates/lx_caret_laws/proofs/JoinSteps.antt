-- Two lines that are joined: the step that joins them, and where the caret is.
use Rattle.lx_blocks.proofs.Blocked.{block_within}
use Rattle.lx_blocks.proofs.Steps.{attached_there}
use Rattle.lx_blocks.specs.Blocks.{block_of, is_at}
use Rattle.lx_blocks.specs.Ranges.{lies}
use Rattle.lx_caret.proofs.Lies.{both}
use Rattle.lx_caret.proofs.Parents.{characters_no_element}
use Rattle.lx_caret.specs.Deleting.{join_step, line_joined}
use Rattle.lx_caret_laws.proofs.Covers.{among_at}
use Rattle.lx_caret_laws.proofs.EdgeEnd.{nothing_after}
use Rattle.lx_caret_laws.proofs.EdgeStart.{IsInLine, nothing_before}
use Rattle.lx_caret_laws.proofs.InPlace.{apart_children}
use Rattle.lx_caret_laws.proofs.FarGone.{none_on}
use Rattle.lx_caret_laws.proofs.JoinMoved as moved
use Rattle.lx_caret_laws.proofs.JoinMoved.{has_moved}
use Rattle.lx_caret_laws.proofs.Joined.{LeftJoined, read_line, read_others, set_in}
use Rattle.lx_caret_laws.proofs.JoinedIn.{IsSetIn, at_end, from_first, from_second}
use Rattle.lx_caret_laws.proofs.SilentBlocks.{element_of_block, silent_block}
use Rattle.lx_caret_laws.proofs.Stops.{AreThere, apart, met_back, met_on, once, up_first, up_second}
use Rattle.lx_caret_laws.proofs.WentIn.{take_caret}
use Rattle.lx_caret_laws.proofs.WentOut.{without_middle}
use Rattle.lx_caret_laws.specs.Carets.{IsSound}
use Rattle.lx_caret_laws.specs.Joining.{AreJoined, AreLines, Deletes, IsAtEdge, IsBehindAll, IsLine}
use Rattle.lx_caret_laws.specs.Reading.{place_in, read_in, said}
use Rattle.lx_draft.proofs.Gaps.{parent_here}
use Rattle.lx_draft.specs.Selecting.{is_counted_in, is_place, lies_in}
use Rattle.lx_draft.specs.Steps.{take_step}
use Rattle.lx_draft.specs.Working.{Working}
use Rattle.lx_edit.proofs.Climbed.{sent_away-apart}
use Rattle.lx_edit.specs.Edits.{element_point, remove_step, sent_away}
use Rattle.lx_edit_laws.proofs.WrapTurns.{WentOver, left_alone, removed_alone}
use Rattle.lx_forest.proofs.Lookups.{children_of-take_out, has-child, is_among-children_of, label_of-take_out, parent_of-self}
use Rattle.lx_forest.proofs.Order.{IsForest-take_out}
use Rattle.lx_forest.proofs.Up.{attached_above}
use Rattle.lx_forest.proofs.Walks.{is_attached-up}
use Rattle.lx_forest.proofs.Within.{is_within-parent, is_within-self}
use Rattle.lx_forest.specs.Edits.{take_out}
use Rattle.lx_forest.specs.Forest.{Forest}
use Rattle.lx_forest.specs.Lookups.{IsForest, children_of, is_attached, is_within, kind_of, label_of, parent_of, size_of}
use Rattle.lx_forest.specs.Suited.{IsSuited}
use Rattle.lx_node.specs.Kinds.{is_element}
use Rattle.lx_node.specs.declared.cause.Point.{Point}
use Rattle.lx_node.specs.declared.cause.PointKind.TheVariants as point
use Rattle.lx_node.specs.declared.cause.PointKind.{PointKind}
use Rattle.lx_select.specs.Selection.{has_point_on}
use Rattle.lx_select.specs.declared.selection.Selection.TheVariants.{Range}
use Rattle.lx_text.specs.Texts.{text_length}
use Rattle.lx_trees.proofs.Siblings.{names_without-absent_list}
use Rattle.lx_trees.specs.Siblings.{NoRepeats, is_among, names_without}
use Rattle.std.proofs.Common.{List, Ok, Some, [], ap, append_assoc, arith, cond, false, inl, inr, subst, sym, true, ℕ, ◌&&◌, ◌++◌, ◌∙◌, ◌∷◌, ◌≡◌, ◌≢◌, ◌≤◌}
use Rattle.std.proofs.lemmas.Bool.Decides.{eqb_tells, nat_tests}
use Rattle.lx_caret_laws.proofs.JoinMet.{deletes_joins, joined_back, joined_on}

-- ---- the step

-- the two lines and the point of the caret, which is in one of them
pub record IsMeant (parent first second : ℕ) (before behind : List ℕ) (p : Point) (format : ℕ) (w : Working) : Type 0 where
  pub there : AreThere w.forest parent first second before behind
  pub caret : w.selection ≡ Range p p format
  pub off : p.key ≢ parent
  pub few : p.key ≡ first → p.offset ≤ size_of w.forest first

-- what is left of the draft
pub record IsLeft (parent first second : ℕ) (before behind : List ℕ) (p : Point) (format : ℕ) (w v : Working) : Type 0 where
  pub order : IsForest v.forest
  pub labels : (q : ℕ) → label_of v.forest q ≡ label_of w.forest q
  pub joined : children_of v.forest first ≡ children_of w.forest first ++ children_of w.forest second
  pub left : children_of v.forest parent ≡ before ++ (first ∷ behind)
  pub others : (q : ℕ) → q ≢ parent → q ≢ first → q ≢ second → children_of v.forest q ≡ children_of w.forest q
  pub at_second : p.key ≡ second → v.selection ≡ Range (element_point first (size_of w.forest first)) (element_point first (size_of w.forest first)) format
  pub elsewhere : p.key ≢ second → v.selection ≡ Range p p format

module _ (parent first second : ℕ) (before rest : List ℕ) (p : Point) (format : ℕ) (w v : Working)
    (m : IsMeant parent first second before rest p format w) where
  abbrev f : Forest
  f = w.forest

  l : AreThere f parent first second before rest
  l = m.there

  h : IsForest f
  h = l.order

  abbrev ones : List ℕ
  ones = children_of f first

  abbrev twos : List ℕ
  twos = children_of f second

  above_first : parent_of f first ≡ Some parent
  above_first = up_first f parent first second before rest l

  above_second : parent_of f second ≡ Some parent
  above_second = up_second f parent first second before rest l

  two : first ≢ second
  two = apart f parent first second before rest l

  not_first : parent ≢ first
  not_first e = absurd (grind (arith, e, above_first, parent_of-self f first h, eqb_tells first first))

  not_second : parent ≢ second
  not_second e = absurd (grind (arith, e, above_second, parent_of-self f second h, eqb_tells second second))

  off_second : is_within f first second ≡ false
  off_second =
      apart_children f first second parent second h above_first above_second two
      (is_within-self f second ∙ has-child f second parent above_second)

  abbrev there : Point
  there = element_point first (size_of f first)

  pub line_left : line_joined first second w ≡ Ok v → IsLeft parent first second before rest p format w v
  line_left e =
      let t = has_moved first second p format w v
      (record { order = h; one = l.one; two = l.two; apart = two; off = off_second; caret = m.caret; few = m.few }) e in
      let z : Working = t.moved in
      let g : Forest = z.forest in
      let over : WentOver f g second first twos = t.over in
      let r : Point = t.point in
      let remove : remove_step second z ≡ Ok v = t.remove in
      let up_g : parent_of g second ≡ Some parent =
      over.up second ∙ ap (λ t. cond t (Some first) (parent_of f second)) (is_among-children_of f second second h ∙ parent_of-self f second h)
      ∙ above_second in
      let still : children_of g parent ≡ before ++ (first ∷ (second ∷ rest)) = over.others parent not_second not_first ∙ l.are in
      let among_first : is_among first (children_of g parent) ≡ true = ap (is_among first) still ∙ among_at before first (second ∷ rest) in
      let taken : take_step second (sent_away second z) ≡ Ok v = left_alone second parent first z v over.in_order up_g among_first two remove in
      let forest : v.forest ≡ take_out second g = removed_alone second parent first z v over.in_order up_g among_first two remove in
      let off_r : r.key ≢ second = moved.off_second first second p format w v two t in
      let no_point : has_point_on second z.selection ≡ false = ap (has_point_on second) t.caret ∙ none_on second r off_r in
      let sent : sent_away second z ≡ z = sent_away-apart second z no_point in
      let last = take_caret parent second r format z v up_g t.caret (ap (take_step second) (sym sent) ∙ taken) in
      let off_parent : r.key ≢ parent = elim (eqb_tells p.key second) [
        | inl own ↦ λ e. not_first (sym e ∙ ap (λ (x : Point). x.key) (t.own own.1))
        | inr other ↦ λ e. m.off (sym (ap (λ (x : Point). x.key) (t.other other.1)) ∙ e)
      ] in
      let final : v.selection ≡ Range r r format = last.is ∙ ap (λ x. Range x x format) (last.stays.other off_parent) in
      let moved_order : before ++ (first ∷ (second ∷ rest)) ≡ (before ++ (first ∷ [])) ++ (second ∷ rest) =
      sym (append_assoc before (first ∷ []) (second ∷ rest)) in
      let absent : (x : ℕ) → x ≢ parent → names_without second (children_of g x) ≡ children_of g x =
      λ x other. names_without-absent_list second (children_of g x)
      (is_among-children_of g second x over.in_order ∙ grind (arith, up_g, other, eqb_tells x parent, eqb_tells parent x)) in
      record {
        order = subst IsForest (sym forest) (IsForest-take_out second g over.in_order);
        labels = λ x. ap (λ y. label_of y x) forest ∙ label_of-take_out second g x over.in_order ∙ over.label x;
        joined = ap (λ y. children_of y first) forest ∙ children_of-take_out second g first over.in_order
            ∙ absent first (λ e. not_first (sym e)) ∙ over.there;
        left = ap (λ y. children_of y parent) forest ∙ children_of-take_out second g parent over.in_order
            ∙ ap (names_without second) (still ∙ moved_order)
            ∙ without_middle second (before ++ (first ∷ [])) rest
            (subst NoRepeats moved_order (once f parent first second before rest l))
            ∙ append_assoc before (first ∷ []) rest;
        others = λ x a b c.
            ap (λ y. children_of y x) forest ∙ children_of-take_out second g x over.in_order ∙ absent x a ∙ over.others x c b;
        at_second = λ own. final ∙ ap (λ x. Range x x format) (t.own own);
        elsewhere = λ other. final ∙ ap (λ x. Range x x format) (t.other other);
      }

  -- ---- what that means

  module _ (silent : said f second ≡ []) (e : line_joined first second w ≡ Ok v) where
    abbrev left : IsLeft parent first second before rest p format w v
    left = line_left e

    both_left : LeftJoined f v.forest parent first second before rest
    both_left = record {
      ordered = h;
      order_after = left.order;
      are = l.are;
      silent = silent;
      labels = left.labels;
      joined = left.joined;
      left = left.left;
      others = left.others;
    }

    set : IsSetIn f v.forest first second
    set = set_in f v.forest parent first second before rest both_left

    pub are_joined : AreJoined parent first second before rest w v
    are_joined = record {
      read = read_line f v.forest parent first second before rest both_left;
      children = left.joined;
      left = left.left;
      elsewhere = read_others f v.forest parent first second before rest both_left;
      labels = left.labels;
      others = left.others;
    }

    -- the caret was in the second, with nothing of it before it
    pub from_start : is_within f second p.key ≡ true → place_in f second p ≡ 0 → IsBehindAll first format w v
    from_start inside start = elim (eqb_tells p.key second) [
      | inl own ↦
          let end = at_end f v.forest first second set in
          record { point = there; caret = left.at_second own.1; inside = end.inside; place = end.place }
      | inr other ↦
          let there = from_second f v.forest first second set p inside other.1 in
          record { point = p; caret = left.elsewhere other.1; inside = there.inside; place = omega (arith, there.place, start) }
    ]

    -- the caret was in the first, with all of it before it
    pub from_end : is_within f first p.key ≡ true → place_in f first p ≡ text_length (read_in f first) → IsBehindAll first format w v
    from_end inside end =
        let other : p.key ≢ second = λ own. absurd (let bad : false ≡ true = sym off_second ∙ ap (is_within f first) (sym own) ∙ inside in cc) in
        let there = from_first f v.forest first second set p inside (λ own is. m.few own) in
        record { point = p; caret = left.elsewhere other; inside = there.inside; place = there.place ∙ end }

-- ---- the commands

-- a point in an element is at an index of its children
pub index_within : (f : Forest) (p : Point) → lies f p ≡ true → is_at is_element f p.key ≡ true → p.offset ≤ size_of f p.key
index_within f p place element = by_kind p.kind (both (is_attached f p.key) (lies_in f p) place).1 where
  by_kind : (c : PointKind) → (is_counted_in c (kind_of f p.key) && is_place f p c) ≡ true → p.offset ≤ size_of f p.key
  by_kind point.Text e =
      let parts = both (is_counted_in point.Text (kind_of f p.key)) (is_place f p point.Text) e in
      absurd (let bad : false ≡ true = sym (characters_no_element (kind_of f p.key) parts.0) ∙ element in cc)
  by_kind point.Element e =
      let parts = both (is_counted_in point.Element (kind_of f p.key)) (is_place f p point.Element) e in
      grind (arith, nat_tests, parts.1)

-- what holds the caret is below the root, and so is its parent
meant : (parent first second block : ℕ) (p : Point) (format : ℕ) (w : Working) → (are : AreLines parent first second w)
    → w.selection ≡ Range p p format → lies w.forest p ≡ true → is_within w.forest block p.key ≡ true → parent_of w.forest block ≡ Some parent
    → IsMeant parent first second are.before are.behind p format w
meant parent first second block p format w are caret place inside up =
    let f : Forest = w.forest in
    let h : IsForest f = are.sound.ready.in_order in
    let attached : is_attached f p.key ≡ true = (both (is_attached f p.key) (lies_in f p) place).0 in
    record {
      there = record {
        order = h;
        held = are.sound.held;
        there = sym (is_attached-up f block parent h up) ∙ attached_above f block p.key h attached inside;
        are = are.children;
        one = are.first_line;
        two = are.second_line;
      };
      caret = caret;
      off = λ e. absurd (let bad : false ≡ true = sym (is_within-parent f block parent h up) ∙ ap (is_within f block) (sym e) ∙ inside in cc);
      few = λ own.
          subst (λ k. p.offset ≤ size_of f k) own
          (index_within f p place (ap (is_at is_element f) own ∙ element_of_block (kind_of f first) are.first_line.kind));
    }

pub in_block : (f : Forest) (p : Point) (block : ℕ) → IsForest f → lies f p ≡ true → block_of f p.key ≡ Some block → is_within f block p.key ≡ true
in_block f p block h place is =
    block_within f p.key block h (attached_there f p.key (both (is_attached f p.key) (lies_in f p) place).0) is

-- the caret is in a line
pub in_line : (b : ℕ) (w : Working) (p : Point) → IsSound w → IsSuited w.forest → IsLine w.forest b → lies w.forest p ≡ true
    → is_within w.forest b p.key ≡ true → IsInLine w.forest b p
in_line b w p sound suited line place inside =
    let f : Forest = w.forest in
    let attached : is_attached f p.key ≡ true = (both (is_attached f p.key) (lies_in f p) place).0 in
    record {
      order = sound.ready.in_order;
      held = sound.held;
      suited = suited;
      line = line;
      there = attached_above f b p.key sound.ready.in_order attached inside;
      inside = inside;
      place = place;
    }

-- both lines are children of the parent
up_of : (parent first second : ℕ) (w : Working) → AreLines parent first second w
    → (parent_of w.forest first ≡ Some parent) × (parent_of w.forest second ≡ Some parent)
up_of parent first second w are =
    let f : Forest = w.forest in
    let h : IsForest f = are.sound.ready.in_order in
    let moved : children_of f parent ≡ (are.before ++ (first ∷ [])) ++ (second ∷ are.behind) =
    are.children ∙ sym (append_assoc are.before (first ∷ []) (second ∷ are.behind)) in (
      parent_here f parent first h (ap (is_among first) are.children ∙ among_at are.before first (second ∷ are.behind)),
      parent_here f parent second h (ap (is_among second) moved ∙ among_at (are.before ++ (first ∷ [])) second are.behind),
    )

pub joined_at_start : (parent first second format : ℕ) (p : Point) (w v : Working) → (are : AreLines parent first second w)
    → IsAtEdge true second p format w → Deletes true w v
    → AreJoined parent first second are.before are.behind w v × IsBehindAll first format w v
unfolding join_step
joined_at_start parent first second format p w v are is e =
    let f : Forest = w.forest in
    let join = deletes_joins true second p format w v is e in
    let ups = up_of parent first second w are in
    let inside = in_block f p second are.sound.ready.in_order join.took.anchor is.within in
    let m = meant parent first second second p format w are is.caret join.took.anchor inside ups.1 in
    let found = met_back f parent first second are.before are.behind m.there in
    let step = joined_back first second w v found are.first_line.kind join.joins in
    let start = nothing_before f second p (in_line second w p are.sound are.suited are.second_line join.took.anchor inside) is.leaf is.characters in
    let silent = silent_block f second are.suited are.second_line.kind in (
      are_joined parent first second are.before are.behind p format w v m silent step,
      from_start parent first second are.before are.behind p format w v m silent step inside start,
    )

pub joined_at_end : (parent first second format : ℕ) (p : Point) (w v : Working) → (are : AreLines parent first second w)
    → IsAtEdge false first p format w → Deletes false w v
    → AreJoined parent first second are.before are.behind w v × IsBehindAll first format w v
joined_at_end parent first second format p w v are is e =
    let f : Forest = w.forest in
    let join = deletes_joins false first p format w v is e in
    let ups = up_of parent first second w are in
    let inside = in_block f p first are.sound.ready.in_order join.took.anchor is.within in
    let m = meant parent first second first p format w are is.caret join.took.anchor inside ups.0 in
    let found = met_on f parent first second are.before are.behind m.there in
    let back = joined_on first second w v found are.second_line.kind join.joins in
    let step = joined_back first second w v (met_back f parent first second are.before are.behind m.there) are.first_line.kind back in
    let end =
    nothing_after w first p are.sound (in_line first w p are.sound are.suited are.first_line join.took.anchor inside) is.leaf is.characters first
    (is_within-self f first ∙ has-child f first parent ups.0) inside in
    let silent = silent_block f second are.suited are.second_line.kind in (
      are_joined parent first second are.before are.behind p format w v m silent step,
      from_end parent first second are.before are.behind p format w v m silent step inside end,
    )
