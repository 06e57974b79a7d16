-- A list whose lines have become paragraphs is taken out: what else goes with lists then, and which lists are around lines.
use Rattle.std.proofs.Common.{◌≡◌, ◌≢◌, ◌∙◌, ℕ, Bool, true, false, cond, eqb, not, ◌&&◌, ◌||◌, List, ◌∷◌, length, Option, None, Some, refl, sym, ap, ap₂, arith, inl, inr}
use Rattle.std.specs.List.{list_any}
use Rattle.std.proofs.lemmas.Bool.{cases_Bool}
use Rattle.std.proofs.lemmas.Bool.Decides.{eqb_tells}
use Rattle.std.specs.Prelude.{find}
use Rattle.lx_trees.specs.Siblings.{is_among}
use Rattle.lx_trees.proofs.Siblings.{is_among-names_with, names_without-absent_list}
use Rattle.lx_node.specs.Kinds.{may_hold, is_inline, is_item, is_list, is_text_block}
use Rattle.lx_node.specs.declared.kind.Kind.{Kind}
use Rattle.lx_forest.specs.Forest.{Forest}
use Rattle.lx_forest.specs.Lookups.{has, parent_of, children_of, size_of, ancestors, is_within, IsForest, IsHeld}
use Rattle.lx_forest.specs.Edits.{take_out}
use Rattle.lx_forest.proofs.Lookups.{kind_of-take_out, parent_of-take_out, children_of-take_out, has-child, has-parent_of}
use Rattle.lx_forest.proofs.Walks.{cases_option, ancestors-top, ancestors-step}
use Rattle.lx_forest.proofs.Within.{is_within-ancestors, is_within-self, is_within-parent, is_within-take_out}
use Rattle.lx_forest.proofs.Order.{IsForest-take_out}
use Rattle.lx_links.proofs.Detached.{is_among-filter}
use Rattle.lx_draft.proofs.Gaps.{parent_here, child_of}
use Rattle.lx_edit_laws.proofs.WrapTrees.{not_child}
use Rattle.lx_blocks.specs.Blocks.{passes, is_at, is_line}
use Rattle.lx_blocks.proofs.Blocked.{found_among, more_among}
use Rattle.lx_list.specs.Dissolving.{is_in_item, is_outermost, outermost_above}
use Rattle.lx_list.proofs.Above.{list_above}
use Rattle.lx_list.proofs.Itemless.{item_below, there_at}
use Rattle.lx_list_laws.specs.Staying.{is_nested_list, is_lineless, goes_with_list}
use Rattle.lx_list_laws.proofs.ReadDissolved.{lines_of, IsEmptied, may_say, found_passes, within_below}
use Rattle.lx_list_laws.proofs.ReadEdits.{so_at}
use Rattle.lx_list_laws.proofs.ReadLines.{list_or_item, is_block_at, is_listed, listed_below, list_tells}
use Rattle.lx_list_laws.proofs.ReadOrder.{any-same}
use Rattle.lx_list_laws.proofs.ReadSaid.{inline_below}
use Rattle.lx_list_laws.proofs.StayUnder.{list_no_item, rise}

-- nothing that the list around one of these lines goes with is at this node
abbrev pub Spared : Forest → List ℕ → ℕ → Type 0
Spared f ks q = (line around : ℕ) → is_among line ks ≡ true → outermost_above f line ≡ Some around → is_within f around q ≡ true → goes_with_list f q ≡ false

-- ---- the list goes

module _ (f g : Forest) (p list : ℕ) (m : IsEmptied f g p list) (none : is_at is_item f p ≡ false) where
  f_order : IsForest f
  f_order = m.all.told.before

  g_order : IsForest g
  g_order = m.all.told.behind

  abbrev h : Forest
  h = take_out list g

  at_h : (test : Kind → Bool) (q : ℕ) → is_at test h q ≡ is_at test g q
  at_h test q = ap (passes test) (kind_of-take_out list g q g_order)

  pub item_h : (q : ℕ) → is_at is_item h q ≡ is_at is_item f q
  item_h q = at_h is_item q ∙ m.all.item q

  pub list_h : (q : ℕ) → is_at is_list h q ≡ is_at is_list f q
  list_h q = at_h is_list q ∙ m.all.lists q

  -- a child of a node that was there, but for p, was its child
  pub child_before : (q b : ℕ) → parent_of g q ≡ Some b → has b f ≡ true → eqb b p ≡ false → parent_of f q ≡ Some b
  child_before q b up there other =
      let among : is_among q (children_of g b) ≡ true = child_of g b q g_order up in
      elim (cases_Bool (is_among b (lines_of f list))) [
        | inl line ↦
            let rest : (is_among q (children_of f b) && not (is_at is_inline f q)) ≡ true =
            sym (is_among-filter (λ c. not (is_at is_inline f c)) q (children_of f b)) ∙ sym (ap (is_among q) (m.all.left b line)) ∙ among in
            parent_here f b q f_order (grind (arith, rest))
        | inr away ↦ parent_here f b q f_order (sym (ap (is_among q) (m.all.others b there other away)) ∙ among)
      ]

  item_above : (q : ℕ) (o : Option ℕ) → parent_of h q ≡ o → q ≢ list → is_in_item h o ≡ true → is_in_item f (parent_of f q) ≡ true
  item_above q None up other is = absurd (cc)
  item_above q (Some b) up other is =
      let before : parent_of g q ≡ Some b = grind (arith, up, parent_of-take_out list g q g_order, other, eqb_tells q list) in
      let item : is_at is_item f b ≡ true = sym (item_h b) ∙ is in
      ap (is_in_item f) (child_before q b before (there_at is_item f b item) (grind (arith, item, none, eqb_tells b p))) ∙ item

  -- the list is still below its parent
  pub list_up : parent_of g list ≡ Some p
  list_up =
      parent_here g p list g_order
      (ap (is_among list) m.all.here ∙ is_among-names_with (Some list) m.all.paragraphs (children_of f p) list
      ∙ grind (arith, child_of f p list f_order m.up))

  -- an item that isn't one of the list's lines has the children that it had
  line_still : (q : ℕ) → is_at is_item f q ≡ true → is_among q (lines_of f list) ≡ false → is_line f q ≡ true → is_line h q ≡ true
  line_still q item away line =
      let other : eqb q p ≡ false = grind (arith, item, none, eqb_tells q p) in
      let gone : is_among list (children_of g q) ≡ false = not_child g list p q g_order list_up (λ same. absurd (grind (arith, other, same, eqb_tells q p))) in
      let same : children_of h q ≡ children_of f q =
      children_of-take_out list g q g_order ∙ names_without-absent_list list (children_of g q) gone
      ∙ m.all.others q (there_at is_item f q item) other away in
      let some : list_any (is_at is_inline h) (children_of f q) ≡ list_any (is_at is_inline f) (children_of f q) =
      any-same (is_at is_inline h) (is_at is_inline f) (children_of f q) (λ c among. at_h is_inline c ∙ m.all.inline c) in
      let block : is_at is_text_block h q ≡ true = is_block_at h q (item_h q ∙ item) in
      ap₂ ◌&&◌ block (ap (λ ks. eqb (length ks) 0 || list_any (is_at is_inline h) ks) same ∙ ap (λ b. eqb (size_of f q) 0 || b) some ∙ grind (arith, line))

  -- a node that isn't one of the list's lines, nor the list, goes with none if it did with none
  pub place_still : (q : ℕ) → q ≢ list → is_among q (lines_of f list) ≡ false → goes_with_list f q ≡ false → goes_with_list h q ≡ false
  place_still q other away so =
      let nested : is_nested_list h q ≡ false = elim (cases_Bool (is_nested_list h q)) [
        | inl is ↦
            let above : is_in_item f (parent_of f q) ≡ true = item_above q (parent_of h q) refl other (grind (arith, is)) in
            absurd (grind (arith, is, so, above, list_h q))
        | inr is ↦ is
      ] in
      let lineless : is_lineless h q ≡ false = elim (cases_Bool (is_lineless h q)) [
        | inl is ↦
            let item : is_at is_item f q ≡ true = sym (item_h q) ∙ grind (arith, is) in
            absurd (grind (arith, is, line_still q item away (grind (arith, so, item))))
        | inr is ↦ is
      ] in
      grind (arith, nested, lineless)

  -- its parent is no list, and so no item is beside it
  pub no_list : is_at is_list f p ≡ false
  no_list = elim (cases_Bool (is_at is_list f p)) [
    | inl is ↦ absurd (grind (arith, item_below f p list m.held is m.up, so_at is_list is_item false list_no_item f list m.is_list))
    | inr is ↦ is
  ]

  pub parent_place : goes_with_list h p ≡ false
  parent_place = grind (arith, list_h p, item_h p, none, no_list)

  parent_no_item : (o : Option ℕ) (same : Bool) → o ≡ cond same None (Some p) → is_in_item h o ≡ false
  parent_no_item o true is = ap (is_in_item h) is
  parent_no_item o false is = ap (is_in_item h) is ∙ item_h p ∙ none

  pub beside_place : IsHeld may_hold g → (s : ℕ) → parent_of g s ≡ Some p → goes_with_list h s ≡ false
  beside_place held s up =
      let item : is_at is_item h s ≡ false = elim (cases_Bool (is_at is_item g s)) [
        | inl is ↦ absurd (grind (arith, list_above g s p held is up, m.all.lists p, no_list))
        | inr is ↦ at_h is_item s ∙ is
      ] in
      let nested : is_in_item h (parent_of h s) ≡ false =
      parent_no_item (parent_of h s) (eqb s list) (parent_of-take_out list g s g_order ∙ ap (cond (eqb s list) None) up) in
      grind (arith, item, nested)

-- ---- lists that stay

-- what may be in a list's tree
abbrev IsLow : Forest → ℕ → Type 0
IsLow f q = (is_at is_listed f q || is_at is_inline f q) ≡ true

low_below : (f : Forest) (c b : ℕ) → IsHeld may_hold f → parent_of f c ≡ Some b → IsLow f b → IsLow f c
low_below f c b held up low = elim (cases_Bool (is_at is_inline f c)) [
  | inl inline ↦ grind (arith, inline)
  | inr other ↦
      let listed : is_at is_listed f b ≡ true = grind (arith, low, other, inline_below f c b held up) in
      grind (arith, listed_below f c b held up listed other)
]

-- in the tree of a list that isn't in an item that list is the outermost one
record IsInner (f : Forest) (around q : ℕ) : Type 0 where
  low : IsLow f q
  nested : q ≢ around → is_at is_list f q ≡ true → is_in_item f (parent_of f q) ≡ true
  found : q ≢ around → outermost_above f q ≡ Some around

list_low : (f : Forest) (around : ℕ) → is_at is_list f around ≡ true → IsLow f around
list_low f around is = grind (arith, so_at is_list is_listed true (λ kind e. grind (arith, e)) f around is)

inner : (f : Forest) (around q : ℕ) → IsForest f → IsHeld may_hold f → is_outermost f around ≡ true → is_within f around q ≡ true → IsInner f around q
inner f around q h held outer inside = rise f around h (IsInner f around) own step (ancestors f q) q refl inside where
  own : IsInner f around around
  own = record {
    low = list_low f around (grind (arith, outer));
    nested = λ other. absurd (other refl);
    found = λ other. absurd (other refl);
  }

  not_outer : (b : ℕ) → b ≢ around → IsInner f around b → is_outermost f b ≡ false
  not_outer b other r = elim (cases_Bool (is_at is_list f b)) [
    | inl is ↦ grind (arith, is, r.nested other is)
    | inr is ↦ grind (arith, is)
  ]

  step : (c b : ℕ) → parent_of f c ≡ Some b → is_within f around b ≡ true → IsInner f around b → IsInner f around c
  step c b up higher r = record {
    low = low_below f c b held up r.low;
    nested = λ other is.
        let no_inline : is_at is_inline f c ≡ false = so_at is_list is_inline false (λ kind e. (list_tells kind e).1) f c is in
        let listed : is_at is_listed f b ≡ true = grind (arith, r.low, no_inline, inline_below f c b held up) in
        ap (is_in_item f) up ∙ elim (list_or_item f b listed) [
          | inl in_list ↦ absurd (grind (arith, item_below f b c held in_list up, so_at is_list is_item false list_no_item f c is))
          | inr item ↦ item
        ];
    found = λ other. ap (find (is_outermost f)) (ancestors-step f c b h up) ∙ elim (eqb_tells b around) [
      | inl same ↦ ap (λ k. find (is_outermost f) (k ∷ ancestors f k)) same.1 ∙ grind (arith, outer)
      | inr away ↦ grind (arith, not_outer b away.1 r) ∙ r.found away.1
    ];
  }

module _ (f g : Forest) (p list : ℕ) (m : IsEmptied f g p list) (none : is_at is_item f p ≡ false) where
  abbrev left : Forest
  left = take_out list g

  order_f : IsForest f
  order_f = m.all.told.before

  order_g : IsForest g
  order_g = m.all.told.behind

  order_left : IsForest left
  order_left = IsForest-take_out list g order_g

  not_inline_p : is_at is_inline f p ≡ false
  not_inline_p = (may_say f p list order_f m.held m.up m.is_list).place

  not_listed_p : is_at is_listed f p ≡ false
  not_listed_p = elim (cases_Bool (is_at is_listed f p)) [
    | inl is ↦ elim (list_or_item f p is) [
      | inl in_list ↦ absurd (grind (arith, in_list, no_list f g p list m none))
      | inr item ↦ absurd (grind (arith, item, none))
    ]
    | inr is ↦ is
  ]

  -- the tree of a list was in it
  record IsBack (around q : ℕ) : Type 0 where
    inside : is_within f around q ≡ true
    low : IsLow f q

  back : (around q : ℕ) → is_at is_list f around ≡ true → is_within left around q ≡ true → IsBack around q
  back around q is inside =
      rise left around order_left (IsBack around) (record {
        inside = is_within-self f around ∙ there_at is_list f around is;
        low = list_low f around is;
      }) (λ c b up higher r.
      let before : parent_of g c ≡ Some b = grind (arith, up, parent_of-take_out list g c order_g, eqb_tells c list) in
      let there : has b f ≡ true = grind (arith, r.low, there_at is_listed f b, there_at is_inline f b) in
      let other : eqb b p ≡ false = grind (arith, r.low, not_inline_p, not_listed_p, eqb_tells b p) in
      let f_up : parent_of f c ≡ Some b = child_before f g p list m none c b before there other in
      record { inside = within_below f around c b order_f f_up r.inside; low = low_below f c b m.held f_up r.low }) (ancestors left q) q refl inside

  -- a list that isn't in an item now wasn't in one
  outer_back : (around : ℕ) → around ≢ list → is_outermost left around ≡ true → is_outermost f around ≡ true
  outer_back around other outer =
      let is : is_at is_list f around ≡ true = sym (list_h f g p list m none around) ∙ grind (arith, outer) in
      let no_inline : is_at is_inline f around ≡ false = so_at is_list is_inline false (λ kind e. (list_tells kind e).1) f around is in
      let above : is_in_item f (parent_of f around) ≡ false = elim (cases_Bool (is_in_item f (parent_of f around))) [
        | inl in_item ↦ absurd (by_parent (parent_of f around) refl in_item no_inline)
        | inr out ↦ out
      ] in
      grind (arith, is, above) where
        by_parent : (o : Option ℕ) → parent_of f around ≡ o → is_in_item f o ≡ true → is_at is_inline f around ≡ false → ⊥
        by_parent None up item no_inline = absurd (cc)
        by_parent (Some b) up item no_inline =
            let among : is_among around (children_of f b) ≡ true = child_of f b around order_f up in
            let away : eqb b p ≡ false = grind (arith, item, none, eqb_tells b p) in
            let still : is_among around (children_of g b) ≡ true = elim (cases_Bool (is_among b (lines_of f list))) [
              | inl line ↦
                  ap (is_among around) (m.all.left b line) ∙ is_among-filter (λ c. not (is_at is_inline f c)) around (children_of f b)
                  ∙ grind (arith, among, no_inline)
              | inr none ↦ ap (is_among around) (m.all.others b (there_at is_item f b item) away none) ∙ among
            ] in
            let now : parent_of left around ≡ Some b =
            parent_of-take_out list g around order_g
            ∙ grind (arith, parent_here g b around order_g still, other, eqb_tells around list) in
            let in_item : is_in_item left (parent_of left around) ≡ true = ap (is_in_item left) now ∙ item_h f g p list m none b ∙ item in
            absurd (grind (arith, outer, in_item))

  -- the list found around a line was found around it
  found_back : (line around : ℕ) → around ≢ list → outermost_above left line ≡ Some around → outermost_above f line ≡ Some around
  found_back line around other found = elim (cases_option (parent_of left line)) [
    | inl top ↦
        let bad : None ≡ Some around = sym (ap (find (is_outermost left)) (ancestors-top left line top)) ∙ found in absurd (cc)
    | inr (b, up) ↦
        let outer : is_outermost left around ≡ true = found_passes (is_outermost left) (ancestors left line) around found in
        let among : is_among around (ancestors left line) ≡ true = found_among (is_outermost left) (ancestors left line) around found in
        let inside : is_within left around line ≡ true =
        is_within-ancestors left around line order_left (has-child left line b up) ∙ more_among line around (ancestors left line) among in
        let above : is_within left around b ≡ true =
        is_within-ancestors left around b order_left (has-parent_of left line b up) ∙ sym (ap (is_among around) (ancestors-step left line b order_left up))
        ∙ among in
        let apart : line ≢ around = λ same.
        absurd (grind (arith, above, ap (λ k. is_within left k b) (sym same) ∙ is_within-parent left line b order_left up)) in
        let was : is_outermost f around ≡ true = outer_back around other outer in
        (inner f around line order_f m.held was (back around line (grind (arith, was)) inside).inside).found apart
  ]

  -- a point is in what a line's list was around, if it is in what that is around
  pub spared_still : (ks : List ℕ) (q : ℕ) → q ≢ list → (is_within g list q ≡ true → q ≡ list) → is_among q (lines_of f list) ≡ false → Spared f ks q
      → Spared left ks q
  spared_still ks q other clear away spared line around among found inside = elim (eqb_tells around list) [
    | inl same ↦
        let now : is_within left list q ≡ true = ap (λ k. is_within left k q) (sym same.1) ∙ inside in
        absurd (other (clear (grind (arith, now, is_within-take_out list g list q order_g))))
    | inr elsewhere ↦
        let outer : is_outermost left around ≡ true = found_passes (is_outermost left) (ancestors left line) around found in
        let was : is_outermost f around ≡ true = outer_back around elsewhere.1 outer in
        let there : is_within f around q ≡ true = (back around q (grind (arith, was)) inside).inside in
        place_still f g p list m none q other away (spared line around among (found_back line around elsewhere.1 found) there)
  ]
