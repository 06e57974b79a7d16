-- A block that becomes the item of a new list: where its children are then.
use Rattle.std.proofs.Common.{◌≡◌, ◌≢◌, ◌∙◌, ℕ, true, false, cond, eqb, List, [], ◌∷◌, ◌++◌, Option, None, Some, Result, Ok, refl, sym, ap, subst, arith, inl, inr}
use Rattle.std.specs.Prelude.{option_map, slice_get}
use Rattle.std.proofs.lemmas.Bool.{cases_Bool}
use Rattle.std.proofs.lemmas.Bool.Decides.{eqb_tells}
use Rattle.lx_trees.specs.Siblings.{is_among, names_without, names_with}
use Rattle.lx_trees.proofs.Siblings.{names_without-absent_list}
use Rattle.lx_node.specs.Kinds.{may_hold, is_item, is_list, is_text, is_text_block}
use Rattle.lx_node.specs.declared.kind.Kind.{Kind}
use Rattle.lx_node.specs.declared.kind.Kind.TheVariants as kinds
use Rattle.lx_node.specs.declared.kind.Kind.TheVariants.{Item, List as ListKind}
use Rattle.lx_node.specs.declared.kind.ListType.{ListType}
use Rattle.lx_node.specs.declared.cause.Cause.{Cause}
use Rattle.lx_node.specs.declared.fields.Fields.{Fields}
use Rattle.lx_select.specs.declared.selection.Selection.{Selection}
use Rattle.lx_select.specs.Selection.{has_point_on}
use Rattle.lx_forest.specs.Forest.{Forest, Label}
use Rattle.lx_forest.specs.Lookups.{has, kind_of, label_of, parent_of, children_of, size_of, previous_of, IsForest, IsHeld}
use Rattle.lx_forest.specs.Edits.{take_out}
use Rattle.lx_forest.proofs.Lookups.{NoRepeats-children_of, parent_of-self, label_of-with_new, label_of-put_in, label_of-take_out, parent_of-take_out, children_of-take_out, has-child, has-parent_of}
use Rattle.lx_forest.proofs.Order.{IsForest-take_out}
use Rattle.lx_draft.specs.Working.{Working}
use Rattle.lx_draft.specs.Faults.{after}
use Rattle.lx_draft.specs.Steps.{new_step, put_step}
use Rattle.lx_draft.specs.Beside.{put_before_step}
use Rattle.lx_draft.proofs.Gaps.{child_of, parent_here}
use Rattle.lx_edit.specs.InTurn.{in_turn}
use Rattle.lx_edit.specs.Edits.{moved_to_end, children_step, sent_away, remove_step}
use Rattle.lx_edit.proofs.Climbed.{first_part}
use Rattle.lx_edit.proofs.Paths.{put_before_path}
use Rattle.lx_edit_laws.specs.Reading.{in_place_of}
use Rattle.lx_edit_laws.proofs.WrapLists.{in_its_place}
use Rattle.lx_edit_laws.proofs.WrapSteps.{was_put, was_put_before, before_below, was_moved_to_end, was_same}
use Rattle.lx_edit_laws.proofs.WrapTold.{WentAll, went_all}
use Rattle.lx_edit_laws.proofs.WrapTrees.{not_child, IsForest-moved, label_of-moved}
use Rattle.lx_edit_laws.proofs.WrapTurns.{left_alone, removed_alone}
use Rattle.lx_blocks.specs.Blocks.{passes, is_at}
use Rattle.lx_caret.proofs.Fit.{each_still}
use Rattle.lx_list.specs.Making.{list_fields, item_fields, unchecked}
use Rattle.lx_list.specs.Listing.{is_list_of, item_made, list_made, itemized, listed}
use Rattle.lx_list_laws.specs.Reading.{IsSoundDraft}
use Rattle.lx_list_laws.specs.Returning.{BecomesList}
use Rattle.lx_list_laws.proofs.BlockPoints.{MovesOn, moves_each, GoesAlong, goes_along, left_first, still_off}
use Rattle.lx_list_laws.proofs.LevelPoints.{put_stays, before_stays, removed_stays}
use Rattle.lx_list_laws.proofs.LevelSteps.{was_made}
use Rattle.lx_list_laws.proofs.ReadEdits.{parent_made, born_at, born_last}
use Rattle.lx_list_laws.proofs.ReadForests.{CameNew, came_here, came_elsewhere, came_empty}
use Rattle.lx_list_laws.proofs.ReadLines.{inline_no_block, list_tells}
use Rattle.lx_list_laws.proofs.ReadSaid.{both_kinds, has_still}
use Rattle.lx_list_laws.proofs.ReadSound.{stays_then, sound_path, new_forest, is_free}
use Rattle.lx_list_laws.proofs.StayBetween.{IsGiven, given}
use Rattle.lx_list_laws.proofs.StayKeys.{EachKey, each_same, same_new, same_take, same_put, same_before, same_each, keys_brought}
use Rattle.lx_list_laws.proofs.StayUnder.{Sends, keys_sent}

-- ---- labels

pub label_new : (kind : Kind) (fields : Fields) (w v : Working) (q : ℕ) → IsSoundDraft w → new_step kind fields w ≡ Ok v
    → label_of v.forest q ≡ cond (eqb q w.next_key) (Some (record { key = w.next_key; kind = kind; fields = fields })) (label_of w.forest q)
label_new kind fields w v q s e =
    let l : Label = record { key = w.next_key; kind = kind; fields = fields } in
    ap (λ f. label_of f q) (new_forest kind fields w v e) ∙ label_of-with_new l w.forest q s.ready.in_order (is_free w s)

pub label_put : (k p index : ℕ) (w v : Working) (q : ℕ) → IsForest w.forest → put_step k p index w ≡ Ok v → label_of v.forest q ≡ label_of w.forest q
label_put k p index w v q h e =
    let was = was_put k p index w v e in
    ap (λ f. label_of f q) was.1 ∙ label_of-put_in p (slice_get (children_of w.forest p) index) k w.forest q h was.0

pub label_before : (k other : ℕ) (w v : Working) (q : ℕ) → IsForest w.forest → put_before_step k other w ≡ Ok v → label_of v.forest q ≡ label_of w.forest q
label_before k other w v q h e =
    let below = before_below k other w v e in
    let was = was_put_before k other below.0 w v h below.1 e in
    ap (λ f. label_of f q) was.1 ∙ label_of-put_in below.0 (Some other) k w.forest q h was.0

pub label_each : (to : ℕ) (ks : List ℕ) (w v : Working) (q : ℕ) → IsForest w.forest → in_turn (moved_to_end to) ks w ≡ Ok v
    → label_of v.forest q ≡ label_of w.forest q
unfolding in_turn
label_each to [] w v q h e = ap (λ (x : Working). label_of x.forest q) (sym (was_same w v e))
label_each to (k ∷ ks) w v q h e =
    let a = first_part (moved_to_end to k w) (in_turn (moved_to_end to) ks) v e in
    let m = was_moved_to_end to k w a.0 a.1 in
    label_each to ks a.0 v q (IsForest-moved w.forest a.0.forest to k None h m) a.2 ∙ label_of-moved w.forest a.0.forest to k None h m q

-- ---- what is left

-- b, below p, became the item of a new list in its place
pub record IsMade (f g : Forest) (type : ListType) (p b list item : ℕ) : Type 0 where
  pub order : IsForest g
  pub new_list : has list f ≡ false
  pub new_item : has item f ≡ false
  pub two : list ≢ item
  pub place : children_of g p ≡ in_place_of b (list ∷ []) (children_of f p)
  pub list_holds : children_of g list ≡ item ∷ []
  pub item_holds : children_of g item ≡ children_of f b
  pub list_up : parent_of g list ≡ Some p
  pub labels : (q : ℕ) → has q f ≡ true → label_of g q ≡ label_of f q
  pub list_kind : kind_of g list ≡ Some (ListKind type)
  pub item_kind : kind_of g item ≡ Some Item
  pub others : (q : ℕ) → has q f ≡ true → q ≢ p → q ≢ b → children_of g q ≡ children_of f q

list_no_text : (type : ListType) → is_text (ListKind type) ≡ false
unfolding is_text
list_no_text type = refl

item_no_text : is_text Item ≡ false
unfolding is_text
item_no_text = refl

-- the forests in between: the list came, then the item, the children went over, and b was taken out
module _ (type : ListType) (p b list item : ℕ) (f one two three : Forest) (up : parent_of f b ≡ Some p)
    (c : CameNew f one list p (Some b)) (d : CameNew one two item list None) (all : WentAll two three b item) where
  h : IsForest f
  h = c.told.before

  old : (k q : ℕ) → has k f ≡ false → has q f ≡ true → eqb q k ≡ false
  old k q free there = grind (arith, free, there, eqb_tells q k)

  b_there : has b f ≡ true
  b_there = has-child f b p up

  p_there : has p f ≡ true
  p_there = has-parent_of f b p up

  p_not_b : p ≢ b
  p_not_b same = absurd (grind (arith, up, same, parent_of-self f b h, eqb_tells p b))

  -- b's children, still in b
  b_holds : has item f ≡ false → children_of two b ≡ children_of f b
  b_holds free =
      came_elsewhere one two item list None d b (old list b c.free b_there)
      ∙ came_elsewhere f one list p (Some b) c b (grind (arith, p_not_b, eqb_tells b p))

  no_child_of : (k q : ℕ) → has k f ≡ false → is_among k (children_of f q) ≡ false
  no_child_of k q free = elim (cases_Bool (is_among k (children_of f q))) [
    | inl is ↦ absurd (grind (arith, free, has-child f k q (parent_here f q k h is)))
    | inr is ↦ is
  ]

  list_two : children_of two list ≡ item ∷ []
  list_two = came_here one two item list None d ∙ ap (names_with None (item ∷ [])) (came_empty f one list p (Some b) c)

  module _ (free : has item f ≡ false) (g : Forest) (is : g ≡ take_out b three) where
    order : IsForest three
    order = all.over.in_order

    item_not_list : item ≢ list
    item_not_list same = absurd (grind (arith, d.other, same, eqb_tells item list))

    kept : (q : ℕ) → is_among b (children_of three q) ≡ false → children_of g q ≡ children_of three q
    kept q away = ap (λ x. children_of x q) is ∙ children_of-take_out b three q order ∙ names_without-absent_list b (children_of three q) away

    not_item : (q : ℕ) → has q f ≡ true → q ≢ item
    not_item q there same = absurd (grind (arith, free, there, same))

    three_others : (q : ℕ) → has q f ≡ true → q ≢ b → children_of three q ≡ children_of one q
    three_others q there other =
        all.over.others q other (not_item q there) ∙ came_elsewhere one two item list None d q (old list q c.free there)

    made_place : children_of g p ≡ in_place_of b (list ∷ []) (children_of f p)
    made_place =
        ap (λ x. children_of x p) is ∙ children_of-take_out b three p order
        ∙ ap (names_without b) (three_others p p_there p_not_b ∙ came_here f one list p (Some b) c)
        ∙ in_its_place b (list ∷ []) (children_of f p) (NoRepeats-children_of f p h) (child_of f p b h up)
        (grind (arith, old list b c.free b_there, eqb_tells list b))

    made_list : children_of g list ≡ item ∷ []
    made_list =
        let before : children_of three list ≡ item ∷ [] =
        all.over.others list (λ same. absurd (grind (arith, same, c.free, b_there))) (λ same. item_not_list (sym same)) ∙ list_two in
        kept list (ap (is_among b) before ∙ grind (arith, not_item b b_there, eqb_tells item b)) ∙ before

    made_item : children_of g item ≡ children_of f b
    made_item =
        let before : children_of three item ≡ children_of f b =
        all.over.there ∙ ap (λ ks. ks ++ children_of two b) (came_empty one two item list None d) ∙ b_holds free in
        kept item (ap (is_among b) before ∙ not_child f b p b h up p_not_b) ∙ before

    made_others : (q : ℕ) → has q f ≡ true → q ≢ p → q ≢ b → children_of g q ≡ children_of f q
    made_others q there a other =
        let before : children_of three q ≡ children_of f q =
        three_others q there other ∙ came_elsewhere f one list p (Some b) c q (grind (arith, a, eqb_tells q p)) in
        kept q (ap (is_among b) before ∙ not_child f b p q h up (λ same. a (sym same))) ∙ before

    made_up : parent_of g list ≡ Some p
    made_up =
        let first : parent_of two list ≡ Some p =
        d.up list ∙ grind (arith, c.up list, item_not_list, eqb_tells list item, eqb_tells list list) in
        let stays : is_among list (children_of two b) ≡ false = ap (is_among list) (b_holds free) ∙ no_child_of list b c.free in
        let second : parent_of three list ≡ Some p = all.over.up list ∙ ap (λ t. cond t (Some item) (parent_of two list)) stays ∙ first in
        let away : eqb list b ≡ false = grind (arith, old list b c.free b_there, eqb_tells list b, eqb_tells b list) in
        ap (λ x. parent_of x list) is ∙ parent_of-take_out b three list order ∙ ap (λ t. cond t None (parent_of three list)) away ∙ second

-- ---- the step

pub record BecameList (w v : Working) (type : ListType) (p b : ℕ) : Type 1 where
  pub list : ℕ
  pub item : ℕ
  pub is : IsMade w.forest v.forest type p b list item
  -- points go along
  pub keys : (P Q : ℕ → Type 0) → (P b → Q item) → ((q : ℕ) → q ≢ b → P q → Q q) → EachKey P w → EachKey Q v
  pub points : (s : Selection) → w.selection ≡ s → has_point_on p s ≡ false → has_point_on list s ≡ false → has_point_on item s ≡ false
      → GoesAlong b item s v.selection

-- the drafts in between, and the edits that led from one to the next
record IsMadeBy (type : ListType) (b : ℕ) (w v : Working) : Type 0 where
  first : Working
  one : Working
  next : Working
  two : Working
  three : Working
  new_list : new_step (ListKind type) list_fields w ≡ Ok first
  put_list : put_before_step w.next_key b first ≡ Ok one
  new_item : new_step Item (item_fields (unchecked type)) one ≡ Ok next
  put_item : put_step one.next_key w.next_key (size_of next.forest w.next_key) next ≡ Ok two
  give : children_step b one.next_key two ≡ Ok three
  remove : remove_step b three ≡ Ok v

made_by : (type : ListType) (b : ℕ) (w v : Working) → list_made type b w ≡ Ok v → IsMadeBy type b w v
unfolding list_made item_made
made_by type b w v e =
    let list : ℕ = w.next_key in
    let fields : Fields = item_fields (unchecked type) in
    let make_item : Working → Result Working Cause = λ x.
    after (new_step Item fields x) (λ m. after (put_step x.next_key list (size_of m.forest list) m) (λ y.
    after (children_step b x.next_key y) (remove_step b))) in
    let a = first_part (new_step (ListKind type) list_fields w) (λ m. after (put_before_step list b m) make_item) v e in
    let one = first_part (put_before_step list b a.0) make_item v a.2 in
    let item : ℕ = one.0.next_key in
    let handed : Working → Result Working Cause = λ y. after (children_step b item y) (remove_step b) in
    let m = first_part (new_step Item fields one.0) (λ x. after (put_step item list (size_of x.forest list) x) handed) v one.2 in
    let two = first_part (put_step item list (size_of m.0.forest list) m.0) handed v m.2 in
    let three = first_part (children_step b item two.0) (remove_step b) v two.2 in
    record {
      first = a.0;
      one = one.0;
      next = m.0;
      two = two.0;
      three = three.0;
      new_list = a.1;
      put_list = one.1;
      new_item = m.1;
      put_item = two.1;
      give = three.1;
      remove = three.2;
    }

became_by : (type : ListType) (p b : ℕ) (w v : Working) → IsSoundDraft w → parent_of w.forest b ≡ Some p → IsMadeBy type b w v → BecameList w v type p b
became_by type p b w v s up o =
    let f : Forest = w.forest in
    let list : ℕ = w.next_key in
    let item : ℕ = o.one.next_key in
    let fields : Fields = item_fields (unchecked type) in
    let made = sound_path.new (ListKind type) list_fields w o.first s o.new_list in
    let put = stays_then w o.first o.one made (put_before_path sound_path list b tt o.first o.one made.sound o.put_list) in
    let born = born_at (ListKind type) list_fields w o.first o.one b p s (list_no_text type) up o.new_list o.put_list in
    let born_item = born_last Item fields o.one o.next o.two list put.sound item_no_text o.new_item o.put_item in
    let c = born.came in
    let d = born_item.came in
    let there : has b f ≡ true = has-child f b p up in
    let was : (q : ℕ) → has q f ≡ true → label_of o.one.forest q ≡ label_of f q = λ q so.
    label_before list b o.first o.one q made.sound.ready.in_order o.put_list ∙ label_new (ListKind type) list_fields w o.first q s o.new_list
    ∙ grind (arith, so, c.free, eqb_tells q list) in
    let free : has item f ≡ false = grind (arith, d.free, has_still f o.one.forest put.kinds item) in
    let apart : b ≢ item = λ same. absurd (grind (arith, same, free, there)) in
    let all = went_all b item o.two o.three d.told.behind apart o.give in
    let up_two : parent_of o.two.forest b ≡ Some p =
    d.up b ∙ grind (arith, c.up b, up, apart, c.free, there, eqb_tells b item, eqb_tells b list) in
    let other : list ≢ b = λ same. absurd (grind (arith, same, c.free, there)) in
    let two_up : (q : ℕ) → is_among q (children_of o.two.forest b) ≡ false → parent_of o.three.forest q ≡ parent_of o.two.forest q =
    λ q away. all.over.up q ∙ ap (λ t. cond t (Some item) (parent_of o.two.forest q)) away in
    let not_own : is_among b (children_of o.two.forest b) ≡ false =
    not_child o.two.forest b p b d.told.behind up_two (p_not_b type p b list item f o.one.forest o.two.forest o.three.forest up c d all) in
    let list_two_up : parent_of o.two.forest list ≡ Some p =
    d.up list ∙ grind (arith, c.up list, d.other, eqb_tells list item, eqb_tells item list, eqb_tells list list) in
    let list_away : is_among list (children_of o.two.forest b) ≡ false =
    not_child o.two.forest list p b d.told.behind list_two_up (p_not_b type p b list item f o.one.forest o.two.forest o.three.forest up c d all) in
    let stands : is_among list (children_of o.three.forest p) ≡ true =
    child_of o.three.forest p list all.over.in_order (two_up list list_away ∙ list_two_up) in
    let up_three : parent_of o.three.forest b ≡ Some p = two_up b not_own ∙ up_two in
    let is : v.forest ≡ take_out b o.three.forest = removed_alone b p list o.three v all.over.in_order up_three stands other o.remove in
    let went : IsGiven b item o.two o.three = given b item o.two o.three o.give in
    let label : (q : ℕ) → label_of v.forest q ≡ label_of o.two.forest q =
    λ q. ap (λ x. label_of x q) is ∙ label_of-take_out b o.three.forest q all.over.in_order ∙ all.over.label q in
    let in_order : IsForest o.next.forest = (sound_path.new Item fields o.one o.next put.sound o.new_item).sound.ready.in_order in
    let was_next : (q : ℕ) → eqb q item ≡ false → label_of o.next.forest q ≡ label_of o.one.forest q =
    λ q away. grind (arith, label_new Item fields o.one o.next q put.sound o.new_item, away) in
    let kind : (q : ℕ) → kind_of v.forest q ≡ kind_of o.two.forest q = λ q. ap (option_map (λ (l : Label). l.kind)) (label q) in
    record {
      list = list;
      item = item;
      is = record {
        order = subst IsForest (sym is) (IsForest-take_out b o.three.forest all.over.in_order);
        new_list = c.free;
        new_item = free;
        two = λ same. absurd (grind (arith, d.other, same, eqb_tells item list));
        place = made_place type p b list item f o.one.forest o.two.forest o.three.forest up c d all free v.forest is;
        list_holds = made_list type p b list item f o.one.forest o.two.forest o.three.forest up c d all free v.forest is;
        item_holds = made_item type p b list item f o.one.forest o.two.forest o.three.forest up c d all free v.forest is;
        list_up = made_up type p b list item f o.one.forest o.two.forest o.three.forest up c d all free v.forest is;
        labels = λ q so.
            let away : eqb q item ≡ false = grind (arith, so, free, eqb_tells q item) in
            label q ∙ label_put item list (size_of o.next.forest list) o.next o.two q in_order o.put_item
            ∙ was_next q away ∙ was q so;
        list_kind = kind list ∙ grind (arith, born_item.kinds list, born.kinds list, d.other, eqb_tells list item, eqb_tells item list, eqb_tells list list);
        item_kind = kind item ∙ grind (arith, born_item.kinds item, eqb_tells item item);
        others = made_others type p b list item f o.one.forest o.two.forest o.three.forest up c d all free v.forest is;
      };
      keys = λ P Q goes stays each.
          let before : EachKey P o.two =
          each_same P w o.two
          (same_put item list (size_of o.next.forest list) o.next o.two o.put_item ∙ same_new Item fields o.one o.next o.new_item
          ∙ same_before list b o.first o.one o.put_list ∙ same_new (ListKind type) list_fields w o.first o.new_list) each in
          let along : EachKey (λ q. Q q × (q ≢ b)) o.three =
          subst (EachKey (λ q. Q q × (q ≢ b))) went.is
          (keys_brought P (λ q. Q q × (q ≢ b)) b item (size_of o.two.forest item) o.two.selection went.mid.selection (λ so. (goes so, λ same. apart (sym same)))
          (λ q other so. (stays q other so, other)) (same_each item (children_of o.two.forest b) o.two went.mid went.moved) before) in
          let alone = left_alone b p list o.three v all.over.in_order up_three stands other o.remove in
          each_same Q (sent_away b o.three) v (same_take b (sent_away b o.three) v alone)
          (keys_sent Q b p o.three all.over.in_order up_three
          (each_still (λ x. Q x.key × (x.key ≢ b)) (λ x. Sends Q o.three.forest b p x.key) o.three.selection
          (λ x so. record { here = λ same. absurd (so.1 same); away = λ away. so.0 }) along));
      points = λ t is_t off_p off_list off_item.
          let first : o.one.selection ≡ t =
          before_stays list b p o.first o.one made.sound.ready.in_order (parent_made (ListKind type) list_fields w o.first b s o.new_list ∙ up) o.put_list
          (ap (has_point_on p) ((was_made (ListKind type) list_fields w o.first o.new_list).selection ∙ is_t) ∙ off_p)
          ∙ (was_made (ListKind type) list_fields w o.first o.new_list).selection ∙ is_t in
          let before : o.next.selection ≡ t = (was_made Item fields o.one o.next o.new_item).selection ∙ first in
          let second : o.two.selection ≡ t =
          put_stays item list (size_of o.next.forest list) o.next o.two o.put_item (ap (has_point_on list) before ∙ off_list) ∙ before in
          let moved : MovesOn b item o.two.selection went.mid.selection =
          moves_each item b (children_of o.two.forest b) o.two went.mid d.told.behind (NoRepeats-children_of o.two.forest b d.told.behind)
          (λ q among. parent_here o.two.forest b q d.told.behind among) went.moved in
          let along : GoesAlong b item o.two.selection o.three.selection =
          subst (λ (x : Working). GoesAlong b item o.two.selection x.selection) went.is
          (goes_along b item (size_of o.two.forest item) o.two.selection went.mid.selection moved) in
          let third : GoesAlong b item t o.three.selection = subst (λ x. GoesAlong b item x o.three.selection) second along in
          let not_p : p ≢ item = λ same. absurd (grind (arith, ap (λ k. has k f) same, free, has-parent_of f b p up)) in
          let same : v.selection ≡ o.three.selection =
          removed_stays b p list o.three v all.over.in_order up_three stands other o.remove (left_first b item t o.three.selection third apart off_item)
          (still_off b item p t o.three.selection third not_p off_item off_p) in
          subst (GoesAlong b item t) (sym same) third;
    }

pub became_list : (type : ListType) (p b : ℕ) (w v : Working) → IsSoundDraft w → parent_of w.forest b ≡ Some p → list_made type b w ≡ Ok v
    → BecameList w v type p b
became_list type p b w v s up e = became_by type p b w v s up (made_by type b w v e)

-- ---- the command's step at the block

-- what holds a text block that is no item is no item
above_block : (outer inner : Kind) → may_hold outer inner ≡ true → is_text_block inner ≡ true → is_item outer ≡ false
unfolding may_hold is_item
above_block kinds.Item inner may block = absurd (grind (arith, may, block, inline_no_block inner, λ (e : is_list inner ≡ true). (list_tells inner e).0))
above_block outer inner may block = cc

pub no_item_above : (f : Forest) (b p : ℕ) → IsHeld may_hold f → parent_of f b ≡ Some p → is_at is_text_block f b ≡ true → is_at is_item f p ≡ false
no_item_above f b p held up block =
    let k = both_kinds (λ outer inner. is_text_block inner ≡ true → is_item outer ≡ false) f b p held up
    (λ outer inner x y h e. above_block outer inner h e) in
    ap (passes is_item) k.2 ∙ k.4 (sym (ap (passes is_text_block) k.3) ∙ block)

itemized_alone : (type : ListType) (b : ℕ) (o : Option ℕ) (w v : Working) → ((list : ℕ) → o ≡ Some list → is_at (is_list_of type) w.forest list ≡ false)
    → itemized type b o w ≡ Ok v → list_made type b w ≡ Ok v
itemized_alone type b None w v alone e = e
itemized_alone type b (Some list) w v alone e = rw (alone list refl) at e

-- a block that becomes a list is made one
pub listed_alone : (type : ListType) (p b : ℕ) (w v : Working) → BecomesList type w.forest p b → listed type b w ≡ Ok v → list_made type b w ≡ Ok v
unfolding listed
listed_alone type p b w v becomes e =
    itemized_alone type b (previous_of w.forest b) w v becomes.alone (rw (becomes.no_item, becomes.inline) at e)
