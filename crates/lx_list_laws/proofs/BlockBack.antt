-- The list of one item that a block became is removed: a paragraph has the item's children, in the block's place.
use Rattle.std.proofs.Common.{◌≡◌, ◌≢◌, ◌∙◌, ℕ, Bool, true, false, cond, eqb, ◌&&◌, not, List, [], ◌∷◌, Some, Ok, refl, sym, ap, ap₂, arith, inl, inr}
use Rattle.std.specs.Prelude.{is_some, option_map, find}
use Rattle.std.specs.List.{filter, list_all}
use Rattle.std.proofs.lemmas.Bool.{cases_Bool}
use Rattle.std.proofs.lemmas.Bool.Decides.{eqb_tells}
use Rattle.lx_trees.specs.Siblings.{is_among, NoRepeats, names_without}
use Rattle.lx_trees.proofs.Siblings.{is_among-names_with, names_without-absent_list}
use Rattle.lx_node.specs.Kinds.{may_hold, is_inline, is_item, is_list, is_text_block}
use Rattle.lx_node.specs.Plain.{plain_element}
use Rattle.lx_node.specs.declared.kind.Kind.{Kind}
use Rattle.lx_node.specs.declared.kind.Kind.TheVariants.{Paragraph, Item, List as ListKind}
use Rattle.lx_node.specs.declared.kind.ListType.{ListType}
use Rattle.lx_node.specs.declared.cause.Point.{Point}
use Rattle.lx_select.specs.declared.selection.Selection.{Selection}
use Rattle.lx_select.specs.Selection.{each_point, has_point_on}
use Rattle.lx_select.specs.Rules.{moved_to}
use Rattle.lx_forest.specs.Forest.{Forest, Label}
use Rattle.lx_forest.specs.Lookups.{has, label_of, parent_of, children_of, is_within, is_attached, IsForest, IsHeld}
use Rattle.lx_forest.specs.Edits.{take_out}
use Rattle.lx_forest.proofs.Lookups.{NoRepeats-children_of, label_of-take_out, children_of-take_out, has-child, has-parent_of}
use Rattle.lx_forest.proofs.Walks.{ancestors-step}
use Rattle.lx_forest.proofs.Within.{is_within-self}
use Rattle.lx_links.proofs.Detached.{is_among-filter, NoRepeats-filter}
use Rattle.lx_draft.specs.Working.{Working}
use Rattle.lx_draft.specs.Faults.{after}
use Rattle.lx_draft.specs.Steps.{new_step}
use Rattle.lx_draft.specs.Beside.{put_before_step}
use Rattle.lx_draft.proofs.Gaps.{child_of, parent_here}
use Rattle.lx_draft.proofs.Touched.{is_some-kind_of}
use Rattle.lx_edit.specs.InTurn.{in_turn}
use Rattle.lx_edit.specs.Edits.{pointed, element_point, remove_step}
use Rattle.lx_edit.proofs.Climbed.{first_part}
use Rattle.lx_edit.proofs.Paths.{put_before_path}
use Rattle.lx_edit_laws.specs.Reading.{in_place_of}
use Rattle.lx_edit_laws.proofs.WrapLists.{in_its_place, filter-kept}
use Rattle.lx_edit_laws.proofs.WrapSteps.{was_same}
use Rattle.lx_edit_laws.proofs.WrapTurns.{removed_alone}
use Rattle.lx_blocks.specs.Blocks.{passes, is_at, is_line}
use Rattle.lx_list.specs.Dissolving.{emptied_into, paragraph_made, dissolved, dissolved_if, is_in_item, is_outermost, outermost_above, dissolved_around}
use Rattle.lx_list_laws.specs.Reading.{IsSoundDraft}
use Rattle.lx_list_laws.specs.Returning.{BecomesList, StandsInPlaceOf}
use Rattle.lx_list_laws.proofs.BlockMade.{label_new, label_before, label_each, IsMade, no_item_above}
use Rattle.lx_list_laws.proofs.BlockPoints.{starts_each, sent_off, sent_off_other, sent_start}
use Rattle.lx_list_laws.proofs.BlockSelected.{IsInlineBlock, all-one, inline_in, line}
use Rattle.lx_list_laws.proofs.LevelPoints.{before_stays, removed_stays}
use Rattle.lx_list_laws.proofs.LevelSteps.{was_made}
use Rattle.lx_list_laws.proofs.ReadDissolved.{lines_of, among_lines, within_below, may_say}
use Rattle.lx_list_laws.proofs.ReadEdits.{so_at, parent_made}
use Rattle.lx_list_laws.proofs.ReadLines.{inline_no_block, list_no_line}
use Rattle.lx_list_laws.proofs.ReadSaid.{inlines, IsSaid, is_said}
use Rattle.lx_list_laws.proofs.ReadSound.{sound_path, is_free}
use Rattle.lx_list_laws.proofs.StayBetween.{below}

-- ---- lists of names

-- what is in the place of a name that came in the place of another
replaced_twice : (b list : ℕ) (new ks : List ℕ) → is_among list ks ≡ false → in_place_of list new (in_place_of b (list ∷ []) ks) ≡ in_place_of b new ks
replaced_twice b list new [] away = refl
replaced_twice b list new (x ∷ xs) away = grind (arith, away, eqb_tells x b, eqb_tells list list, eqb_tells x list, replaced_twice b list new xs)

-- a list without repeats that has one name alone
only_one : (k : ℕ) (xs : List ℕ) → NoRepeats xs → ((q : ℕ) → is_among q xs ≡ eqb q k) → xs ≡ k ∷ []
only_one k [] once each = absurd (grind (arith, each k, eqb_tells k k))
only_one k (x ∷ []) once each = let same : x ≡ k = grind (arith, each x, eqb_tells x x, eqb_tells x k) in ap (λ n. n ∷ []) same
only_one k (x ∷ y ∷ ys) once each =
    absurd (grind (arith, once.0, each x, each y, eqb_tells x x, eqb_tells y y, eqb_tells x k, eqb_tells y k, eqb_tells y x))

-- ---- the new list

-- all that holds of the draft in between
pub record IsListed (f g : Forest) (type : ListType) (p b list item : ℕ) : Type 0 where
  pub h : IsForest f
  pub held : IsHeld may_hold f
  pub becomes : BecomesList type f p b
  pub made : IsMade f g type p b list item
  pub still : IsHeld may_hold g
  pub there : is_attached g item ≡ true

list_is_list : (type : ListType) → is_list (ListKind type) ≡ true
unfolding is_list
list_is_list type = refl

item_is : (is_text_block Item ≡ true) × (is_item Item ≡ true)
unfolding is_text_block is_item
item_is = (refl, refl)

module _ (f g : Forest) (type : ListType) (p b list item : ℕ) (s : IsListed f g type p b list item) where
  m : IsMade f g type p b list item
  m = s.made

  order : IsForest g
  order = m.order

  pub item_up : parent_of g item ≡ Some list
  item_up = parent_here g list item order (ap (is_among item) m.list_holds ∙ grind (arith, eqb_tells item item))

  at : (test : Kind → Bool) (q : ℕ) → has q f ≡ true → is_at test g q ≡ is_at test f q
  at test q there = ap (λ o. passes test (option_map (λ (l : Label). l.kind) o)) (m.labels q there)

  list_is : is_at is_list g list ≡ true
  list_is = ap (passes is_list) m.list_kind ∙ list_is_list type

  -- each child of the item is inline
  children_inline : list_all (is_at is_inline g) (children_of g item) ≡ true
  children_inline = ap (list_all (is_at is_inline g)) m.item_holds ∙ each (children_of f b) (λ q among. among) s.becomes.inline where
    each : (xs : List ℕ) → ((q : ℕ) → is_among q xs ≡ true → is_among q (children_of f b) ≡ true) → list_all (is_at is_inline f) xs ≡ true
        → list_all (is_at is_inline g) xs ≡ true
    each [] inside all = refl
    each (x ∷ xs) inside all =
        let there : has x f ≡ true = has-child f x b (parent_here f b x s.h (inside x (grind (arith, eqb_tells x x)))) in
        grind (arith, at is_inline x there, all, each xs (λ q among. inside q (grind (arith, among))))

  pub item_block : IsInlineBlock g item
  item_block = record {
    order = order;
    held = s.still;
    there = s.there;
    block = ap (passes is_text_block) m.item_kind ∙ item_is.0;
    inline = children_inline;
  }

  pub p_there : has p f ≡ true
  p_there = has-parent_of f b p s.becomes.up

  above_no_item : is_at is_item g p ≡ false
  above_no_item = at is_item p p_there ∙ no_item_above f b p s.held s.becomes.up s.becomes.is_block

  -- the list isn't in an item, and so it is the outermost one
  outer : is_outermost g list ≡ true
  outer = ap₂ (λ x y. x && not y) list_is (ap (is_in_item g) m.list_up ∙ above_no_item)

  pub found : outermost_above g item ≡ Some list
  found = ap (find (is_outermost g)) (ancestors-step g item list order item_up) ∙ grind (arith, outer)

  -- the item is its one line
  within_list : is_within g list item ≡ true
  within_list = within_below g list item list order item_up (is_within-self g list ∙ has-child g list p m.list_up)

  not_line : (q : ℕ) → q ≢ item → is_within g list q ≡ true → is_line g q ≡ false
  not_line q other inside = elim (eqb_tells q list) [
    | inl same ↦ ap (is_line g) same.1 ∙ list_no_line g list list_is
    | inr away ↦
        let found = below g list q order inside away.1 in
        let is : found.0 ≡ item =
        (let among : is_among found.0 (item ∷ []) ≡ true = ap (is_among found.0) (sym m.list_holds) ∙ child_of g list found.0 order found.1 in
        grind (arith, among, eqb_tells item found.0)) in
        let inline : is_at is_inline g q ≡ true = inline_in g item item_block q (ap (λ n. is_within g n q) (sym is) ∙ found.2) other in
        grind (arith, so_at is_inline is_text_block false inline_no_block g q inline)
  ]

  pub one_line : lines_of g list ≡ item ∷ []
  one_line = only_one item (lines_of g list) (may_say g p list order s.still m.list_up list_is).once (λ q. among_lines g list q ∙ elim (eqb_tells q item) [
    | inl same ↦ rw (same.0, same.1) (ap₂ (λ x y. x && y) within_list (line g item item_block))
    | inr other ↦ elim (cases_Bool (is_within g list q)) [
      | inl inside ↦ rw other.0 (grind (arith, not_line q other.1 inside))
      | inr out ↦ rw (other.0, out) refl
    ]
  ])

  all_inline : inlines g item ≡ children_of f b
  all_inline =
      filter-kept (is_at is_inline g) (children_of g item) (λ q among. all-one (is_at is_inline g) (children_of g item) q children_inline among) ∙ m.item_holds

  -- ---- the paragraph comes, and the list goes

  module _ (x u : Forest) (n : ℕ) (a : IsSaid g x p list item n)
      (label : (q : ℕ) → label_of x q ≡ cond (eqb q n) (Some (record { key = n; kind = Paragraph; fields = plain_element })) (label_of g q))
      (is : u ≡ take_out list x) where
    x_order : IsForest x
    x_order = a.told.behind

    g_has : (q : ℕ) → has q f ≡ true → has q g ≡ true
    g_has q there =
        sym (is_some-kind_of g q) ∙ ap (λ o. is_some (option_map (λ (l : Label). l.kind) o)) (m.labels q there) ∙ is_some-kind_of f q ∙ there

    not_new : (q : ℕ) → has q f ≡ true → eqb q n ≡ false
    not_new q there = grind (arith, g_has q there, a.free, eqb_tells q n)

    n_not_list : n ≢ list
    n_not_list same = absurd (grind (arith, same, a.free, has-child g list p m.list_up))

    no_list_in : (q : ℕ) → is_among list (children_of f q) ≡ false
    no_list_in q = elim (cases_Bool (is_among list (children_of f q))) [
      | inl inside ↦ absurd (grind (arith, m.new_list, has-child f list q (parent_here f q list s.h inside)))
      | inr away ↦ away
    ]

    u_children : (q : ℕ) → children_of u q ≡ names_without list (children_of x q)
    u_children q = ap (λ z. children_of z q) is ∙ children_of-take_out list x q x_order

    place : children_of u p ≡ in_place_of b (n ∷ []) (children_of f p)
    place =
        u_children p ∙ ap (names_without list) a.here
        ∙ in_its_place list (n ∷ []) (children_of g p) (NoRepeats-children_of g p order) (child_of g p list order m.list_up)
        (grind (arith, n_not_list, eqb_tells n list))
        ∙ ap (in_place_of list (n ∷ [])) m.place ∙ replaced_twice b list (n ∷ []) (children_of f p) (no_list_in p)

    children : children_of u n ≡ children_of f b
    children = u_children n ∙ ap (names_without list) (a.filled ∙ all_inline) ∙ names_without-absent_list list (children_of f b) (no_list_in b)

    u_label : (q : ℕ) → label_of u q ≡ cond (eqb q n) (Some (record { key = n; kind = Paragraph; fields = plain_element })) (label_of g q)
    u_label q = ap (λ z. label_of z q) is ∙ label_of-take_out list x q x_order ∙ label q

    others : (q : ℕ) → has q f ≡ true → q ≢ p → q ≢ b → children_of u q ≡ children_of f q
    others q there not_p not_b =
        let same : children_of x q ≡ children_of f q =
        a.others q (grind (arith, not_p, eqb_tells q p)) (not_new q there) (grind (arith, there, m.new_item, eqb_tells q item))
        ∙ m.others q there not_p not_b in
        u_children q ∙ ap (names_without list) same ∙ names_without-absent_list list (children_of f q) (no_list_in q)

    pub stands : StandsInPlaceOf f u p b n
    stands = record {
      new = grind (arith, a.free, g_has n);
      paragraph = u_label n ∙ grind (arith, eqb_tells n n);
      place = place;
      children = children;
      labels = λ q there. u_label q ∙ ap (λ t. cond t (Some (record { key = n; kind = Paragraph; fields = plain_element })) (label_of g q)) (not_new q there)
          ∙ m.labels q there;
      others = others;
    }

-- ---- the step

label_paragraph : (list item : ℕ) (w v : Working) (q : ℕ) → IsSoundDraft w → paragraph_made list item w ≡ Ok v
    → label_of v.forest q ≡ cond (eqb q w.next_key) (Some (record { key = w.next_key; kind = Paragraph; fields = plain_element })) (label_of w.forest q)
unfolding paragraph_made emptied_into
label_paragraph list item w v q s e =
    let n : ℕ = w.next_key in
    let a = first_part (new_step Paragraph plain_element w) (λ o. after (put_before_step n list o) (emptied_into n item)) v e in
    let b = first_part (put_before_step n list a.0) (emptied_into n item) v a.2 in
    let made = sound_path.new Paragraph plain_element w a.0 s a.1 in
    let put = put_before_path sound_path n list tt a.0 b.0 made.sound b.1 in
    label_each n (filter (is_at is_inline b.0.forest) (children_of b.0.forest item)) (pointed (moved_to item (element_point n 0)) b.0) v q
    put.sound.ready.in_order b.2
    ∙ label_before n list a.0 b.0 q made.sound.ready.in_order b.1 ∙ label_new Paragraph plain_element w a.0 q s a.1

-- what removing the list of the one item comes to
pub record IsUndone (list item : ℕ) (v u : Working) : Type 0 where
  pub mid : Working
  pub paragraph : paragraph_made list item v ≡ Ok mid
  pub removed : remove_step list mid ≡ Ok u

pub undone : (f : Forest) (type : ListType) (p b list item : ℕ) (v u : Working) → IsListed f v.forest type p b list item → dissolved_around item v ≡ Ok u
    → IsUndone list item v u
unfolding dissolved_around dissolved in_turn
undone f type p b list item v u s e =
    let g : Forest = v.forest in
    let around : dissolved list v ≡ Ok u = ap (λ o. dissolved_if o v) (sym (found f g type p b list item s)) ∙ e in
    let each : after (in_turn (paragraph_made list) (item ∷ []) v) (remove_step list) ≡ Ok u =
    ap (λ ks. after (in_turn (paragraph_made list) ks v) (remove_step list)) (sym (one_line f g type p b list item s)) ∙ around in
    let a = first_part (in_turn (paragraph_made list) (item ∷ []) v) (remove_step list) u each in
    let c = first_part (paragraph_made list item v) (in_turn (paragraph_made list) []) a.0 a.1 in
    record { mid = c.0; paragraph = c.1; removed = ap (remove_step list) (was_same c.0 a.0 c.2) ∙ a.2 }

pub stands_undone : (f : Forest) (type : ListType) (p b list item : ℕ) (v u : Working) → IsSoundDraft v → IsListed f v.forest type p b list item
    → IsUndone list item v u → StandsInPlaceOf f u.forest p b v.next_key
stands_undone f type p b list item v u sound s t =
    let g : Forest = v.forest in
    let n : ℕ = v.next_key in
    let x : Forest = t.mid.forest in
    let item_there : has item g ≡ true = has-child g item list (item_up f g type p b list item s) in
    let apart : eqb item p ≡ false = grind (arith, s.made.new_item, p_there f g type p b list item s, eqb_tells item p) in
    let a = is_said p list item v t.mid sound s.made.list_up item_there apart t.paragraph in
    let among : is_among n (children_of x p) ≡ true =
    ap (is_among n) a.here ∙ is_among-names_with (Some list) (n ∷ []) (children_of g p) n ∙ grind (arith, eqb_tells n n) in
    let other : n ≢ list = λ same. absurd (grind (arith, same, a.free, has-child g list p s.made.list_up)) in
    let is : u.forest ≡ take_out list x = removed_alone list p n t.mid u a.told.behind (a.up ∙ s.made.list_up) among other t.removed in
    stands f g type p b list item s x u.forest n a (λ q. label_paragraph list item v t.mid q sound t.paragraph) is

-- points on the item go to the start of the paragraph, and all others stay
paragraph_points : (list item p : ℕ) (t : Selection) (w v : Working) → IsSoundDraft w → parent_of w.forest list ≡ Some p → has item w.forest ≡ true
    → paragraph_made list item w ≡ Ok v
    → w.selection ≡ t → has_point_on p t ≡ false → has_point_on w.next_key t ≡ false
    → v.selection ≡ each_point (moved_to item (element_point w.next_key 0)) t
unfolding paragraph_made emptied_into
paragraph_points list item p t w v s up there e is off_p off_new =
    let n : ℕ = w.next_key in
    let a = first_part (new_step Paragraph plain_element w) (λ o. after (put_before_step n list o) (emptied_into n item)) v e in
    let b = first_part (put_before_step n list a.0) (emptied_into n item) v a.2 in
    let made = sound_path.new Paragraph plain_element w a.0 s a.1 in
    let h : IsForest b.0.forest = (put_before_path sound_path n list tt a.0 b.0 made.sound b.1).sound.ready.in_order in
    let first : a.0.selection ≡ t = (was_made Paragraph plain_element w a.0 a.1).selection ∙ is in
    let second : b.0.selection ≡ t =
    before_stays n list p a.0 b.0 made.sound.ready.in_order (parent_made Paragraph plain_element w a.0 list s a.1 ∙ up) b.1 (ap (has_point_on p) first ∙ off_p)
    ∙ first in
    let to : Point = element_point n 0 in
    let other : n ≢ item = λ same. absurd (grind (arith, there, same, is_free w s)) in
    starts_each n item (inlines b.0.forest item) (each_point (moved_to item to) t) (pointed (moved_to item to) b.0) v h
    (NoRepeats-filter (is_at is_inline b.0.forest) (children_of b.0.forest item) (NoRepeats-children_of b.0.forest item h))
    (λ q among. parent_here b.0.forest item q h (grind (arith, is_among-filter (is_at is_inline b.0.forest) q (children_of b.0.forest item), among))) b.2
    (ap (each_point (moved_to item to)) second) (sent_off item to t other) (sent_start item n t off_new)

pub points_undone : (f : Forest) (type : ListType) (p b list item : ℕ) (t : Selection) (v u : Working) → IsSoundDraft v → IsListed f v.forest type p b list item
    → IsUndone list item v u → v.selection ≡ t → has_point_on p t ≡ false → has_point_on list t ≡ false → has_point_on v.next_key t ≡ false
    → u.selection ≡ each_point (moved_to item (element_point v.next_key 0)) t
points_undone f type p b list item t v u sound s done is off_p off_list off_new =
    let g : Forest = v.forest in
    let n : ℕ = v.next_key in
    let x : Forest = done.mid.forest in
    let item_there : has item g ≡ true = has-child g item list (item_up f g type p b list item s) in
    let apart : eqb item p ≡ false = grind (arith, s.made.new_item, p_there f g type p b list item s, eqb_tells item p) in
    let a = is_said p list item v done.mid sound s.made.list_up item_there apart done.paragraph in
    let among : is_among n (children_of x p) ≡ true =
    ap (is_among n) a.here ∙ is_among-names_with (Some list) (n ∷ []) (children_of g p) n ∙ grind (arith, eqb_tells n n) in
    let other : n ≢ list = λ same. absurd (grind (arith, same, a.free, has-child g list p s.made.list_up)) in
    let not_p : n ≢ p = λ same. absurd (grind (arith, same, a.free, has-parent_of g list p s.made.list_up)) in
    let to : Point = element_point n 0 in
    let mid : done.mid.selection ≡ each_point (moved_to item to) t =
    paragraph_points list item p t v done.mid sound s.made.list_up item_there done.paragraph is off_p off_new in
    removed_stays list p n done.mid u a.told.behind (a.up ∙ s.made.list_up) among other done.removed
    (ap (has_point_on list) mid ∙ sent_off_other item list to t other off_list) (ap (has_point_on p) mid ∙ sent_off_other item p to t not_p off_p)
    ∙ mid
