-- An item between items that aren't nesting goes a level deeper, into a new list in a new item, and up again.
use Rattle.std.proofs.Common.{◌≡◌, ◌≢◌, ◌∙◌, ℕ, ◌+◌, ◌==◌, true, false, cond, eqb, List, [], length, Option, None, Some, Result, Ok, refl, sym, ap, ap₂, subst, arith}
use Rattle.std.specs.Prelude.{option_map, slice_get}
use Rattle.std.proofs.lemmas.Bool.Decides.{eqb_tells}
use Rattle.lx_trees.specs.Siblings.{is_among, is_named, first_of, names_without}
use Rattle.lx_node.specs.Kinds.{is_item, is_list, may_be_empty}
use Rattle.lx_node.specs.declared.kind.Kind.{Kind}
use Rattle.lx_node.specs.declared.kind.Kind.TheVariants.{Item}
use Rattle.lx_node.specs.declared.cause.Cause.{Cause}
use Rattle.lx_select.specs.Selection.{has_point_on}
use Rattle.lx_forest.specs.Forest.{Forest, Label}
use Rattle.lx_forest.specs.Lookups.{has, label_of, kind_of, parent_of, children_of, size_of, first_child, is_within, IsForest}
use Rattle.lx_forest.specs.Edits.{with_new, take_out, put_in, drop_detached, CanPut}
use Rattle.lx_forest.proofs.Edits.{count-with_new, has-root}
use Rattle.lx_forest.proofs.Lookups.{has-parent_of, kind_of-take_out, parent_of-take_out, parent_of-put_in, children_of-take_out}
use Rattle.lx_forest.proofs.Order.{IsForest-with_new, IsForest-take_out}
use Rattle.lx_forest.proofs.Walks.{no_parent}
use Rattle.lx_forest.proofs.Within.{alone-with_new, is_within-parent}
use Rattle.lx_links.proofs.Ordered.{there_within}
use Rattle.lx_draft.specs.Working.{Working}
use Rattle.lx_draft.specs.Covering.{IsReady}
use Rattle.lx_draft.specs.Faults.{after}
use Rattle.lx_draft.specs.Steps.{new_step, put_step}
use Rattle.lx_draft.specs.Beside.{put_before_step}
use Rattle.lx_draft.proofs.Gaps.{child_of}
use Rattle.lx_edit.specs.Edits.{moved_before, moved_to_end, goes_next, may_not_be_left, remove_step}
use Rattle.lx_edit.proofs.Climbed.{first_part, climbed}
use Rattle.lx_blocks.specs.Blocks.{passes, is_at}
use Rattle.lx_list.specs.Making.{with_like, item_fields}
use Rattle.lx_list.specs.Indenting.{wrapped_like, wrapped_in}
use Rattle.lx_list.specs.Outdenting.{moved_out, gone_if_empty, out_of, outdented}
use Rattle.lx_list.proofs.Above.{list_above}
use Rattle.lx_edit_laws.proofs.Reading.{absent as is_absent}
use Rattle.lx_edit_laws.proofs.WrapSteps.{was_same, was_put, was_put_before, was_moved_to_end, was_moved_before}
use Rattle.lx_edit_laws.proofs.WrapTrees.{own, different, WasMoved, beside, MayStandBefore, not_new, beside-order, beside-up, beside-elsewhere}
use Rattle.lx_edit_laws.proofs.WrapTurns.{removed_alone}
use Rattle.lx_list_laws.specs.Levels.{nested_before, nested_behind, GoesAndComes, PointsStay}
use Rattle.lx_list_laws.proofs.LevelWraps.{prepared, HasSunk, x_not_item, x_not_list, now_order, now_kind, x_up, list_up, item_up, item_holds, sunk_list, left_list, risen, back_again_in}
use Rattle.lx_list_laws.proofs.LevelPoints.{off_outside, before_stays, put_stays, to_end_stays, moved_before_stays, sent_stays, removed_stays}
use Rattle.lx_list_laws.proofs.LevelBeside.{deeper_by}
use Rattle.lx_list_laws.proofs.LevelSteps.{label_known, was_made, two_order, two_kind, two_parent, two_children, was_removed}

-- ---- down

-- the two new nodes, and what was done with them
pub record WentDown (w v : Working) (p x : ℕ) : Type 0 where
  pub item : Label
  pub list : Label
  pub item_free : has item.key w.forest ≡ false
  pub list_new : has list.key w.forest ≡ false
  pub list_free : has list.key (with_new item w.forest) ≡ false
  pub is_item : item.kind ≡ Item
  pub like : kind_of w.forest p ≡ Some list.kind
  pub sunk : HasSunk (with_new list (with_new item w.forest)) v.forest p x item.key list.key
  pub stays : has_point_on p w.selection ≡ false → has_point_on item.key w.selection ≡ false → has_point_on list.key w.selection ≡ false
      → v.selection ≡ w.selection

later_free : (w : Working) (l : Label) (m : ℕ) → IsReady w → l.key ≡ w.next_key → m ≡ w.next_key + 1 → has m (with_new l w.forest) ≡ false
later_free w l m ready first next = grind (arith, first, next, ready.free m (omega (arith, next)), count-with_new m l w.forest, eqb_tells l.key m)

pub went_down : (x p : ℕ) (l : Label) (w v : Working) → IsReady w → parent_of w.forest x ≡ Some p → label_of w.forest p ≡ Some l
    → wrapped_like x (Some l) w ≡ Ok v → WentDown w v p x
went_down x p l w v ready up like e =
    let n : ℕ = w.next_key in
    let f : Forest = w.forest in
    let into : ℕ → ℕ → Working → Result Working Cause =
    λ outer inner u. after (put_before_step outer x u) (λ put. after (put_step inner outer 0 put) (moved_to_end inner x)) in
    let a = first_part (new_step Item (item_fields None) w) (with_like (Some l) (into n)) v e in
    let m : ℕ = a.0.next_key in
    let b = first_part (new_step l.kind l.fields a.0) (into n m) v a.2 in
    let c = first_part (put_before_step n x b.0) (λ put. after (put_step m n 0 put) (moved_to_end m x)) v b.2 in
    let d = first_part (put_step m n 0 c.0) (moved_to_end m x) v c.2 in
    let made = was_made Item (item_fields None) w a.0 a.1 in
    let made_list = was_made l.kind l.fields a.0 b.0 b.1 in
    let nl : Label = record { key = n; kind = Item; fields = item_fields None } in
    let ml : Label = record { key = m; kind = l.kind; fields = l.fields } in
    let free_n : has n f ≡ false = ready.free n (omega arith) in
    let free_m : has m (with_new nl f) ≡ false = later_free w nl m ready refl made.next in
    let two : n ≢ m = λ same. absurd (omega (arith, same, made.next)) in
    let new : Forest = with_new ml (with_new nl f) in
    let order : IsForest new = two_order f nl ml ready.in_order free_n free_m in
    let empty : (q : ℕ) → has q f ≡ false → children_of new q ≡ [] =
    λ q free. two_children f nl ml ready.in_order free_n free_m q ∙ (is_absent f q free).children in
    let up_new : parent_of new x ≡ Some p = two_parent f nl ml ready.in_order free_n free_m x ∙ up in
    let is_new : b.0.forest ≡ new = made_list.forest ∙ ap (with_new ml) made.forest in
    let put = was_put_before n x p b.0 c.0 (subst IsForest (sym is_new) order) (ap (λ z. parent_of z x) is_new ∙ up_new) c.1 in
    let may : MayStandBefore new p x n = record { in_order = order; up = up_new; can = subst (CanPut p n) is_new put.0 } in
    let is_put : c.0.forest ≡ beside p x n new = put.1 ∙ ap (put_in p (Some x) n) is_new in
    let none : children_of c.0.forest n ≡ [] =
    ap (λ z. children_of z n) is_put ∙ beside-elsewhere new p x n may n (λ same. not_new new p x n may (sym same)) ∙ empty n free_n in
    let above : parent_of c.0.forest x ≡ Some p = ap (λ z. parent_of z x) is_put ∙ beside-up new p x n may in
    let nested = was_put m n 0 c.0 d.0 d.1 in
    let is_nested : d.0.forest ≡ prepared p x n m new = nested.1 ∙ ap (λ ks. put_in n (slice_get ks 0) m c.0.forest) none ∙ ap (put_in n None m) is_put in
    record {
      item = nl;
      list = ml;
      item_free = free_n;
      list_new = ready.free m (omega (arith, made.next));
      list_free = free_m;
      is_item = refl;
      like = ap (option_map (λ (y : Label). y.kind)) like;
      sunk = record {
        may = may;
        can = subst (CanPut n m) is_put nested.0;
        two = two;
        item_empty = empty n free_n;
        list_empty = empty m (ready.free m (omega (arith, made.next)));
        moved = subst (λ z. WasMoved z v.forest m x None) is_nested (was_moved_to_end m x d.0 v d.2);
      };
      stays = λ off_p off_n off_m.
          let sel_b : b.0.selection ≡ w.selection = made_list.selection ∙ made.selection in
          let sel_c : c.0.selection ≡ w.selection =
          before_stays n x p b.0 c.0 (subst IsForest (sym is_new) order) (ap (λ z. parent_of z x) is_new ∙ up_new) c.1 (ap (has_point_on p) sel_b ∙ off_p)
          ∙ sel_b in
          let sel_d : d.0.selection ≡ w.selection = put_stays m n 0 c.0 d.0 d.1 (ap (has_point_on n) sel_c ∙ off_n) ∙ sel_c in
          let here : parent_of d.0.forest x ≡ Some p =
          ap (λ z. parent_of z x) nested.1
          ∙ parent_of-put_in n (slice_get (children_of c.0.forest n) 0) m c.0.forest x (subst IsForest (sym is_put) (beside-order new p x n may)) nested.0
          ∙ ap (λ b. cond b (Some n) (parent_of c.0.forest x))
          (different x m (λ same. absurd (grind (arith, up, no_parent f m (ready.free m (omega (arith, made.next))), ap (parent_of f) same)))) ∙ above in
          to_end_stays m x p d.0 v d.2 here (ap (has_point_on p) sel_d ∙ off_p) (ap (has_point_on m) sel_d ∙ off_m) ∙ sel_d;
    }

-- ---- up

-- a new item without its list isn't left
item_goes : (list : Kind) → (is_item Item ≡ true) × (is_list list ≡ true → may_not_be_left (Some Item) (Some list) ≡ true)
unfolding may_be_empty is_item
item_goes list = (refl, λ is. is)

module _ (w v : Working) (p x : ℕ) (h : IsForest w.forest) (s : WentDown w v p x) where
  abbrev item : ℕ
  item = s.item.key

  abbrev list : ℕ
  list = s.list.key

  abbrev new : Forest
  new = with_new s.list (with_new s.item w.forest)

  item_order : IsForest (with_new s.item w.forest)
  item_order = IsForest-with_new s.item w.forest h s.item_free

  new_kind : (q : ℕ) → kind_of new q ≡ cond (eqb q list) (Some s.list.kind) (cond (eqb q item) (Some s.item.kind) (kind_of w.forest q))
  new_kind = two_kind w.forest s.item s.list h s.item_free s.list_free

  item_kind : kind_of new item ≡ Some Item
  item_kind = new_kind item ∙ grind (arith, s.sunk.two, eqb_tells item list, eqb_tells item item) ∙ ap Some s.is_item

  list_kind : kind_of new list ≡ Some s.list.kind
  list_kind = new_kind list ∙ ap (λ b. cond b (Some s.list.kind) (cond (eqb list item) (Some s.item.kind) (kind_of w.forest list))) (own list)

  x_kind : kind_of new x ≡ kind_of w.forest x
  x_kind =
      new_kind x ∙ grind (arith, x_not_item new v.forest p x item list s.sunk, x_not_list new v.forest p x item list s.sunk, eqb_tells x item, eqb_tells x list)

  -- what is removed once x has come out
  module _ (r u : Working) (up : WasMoved v.forest r.forest p x (Some item)) (list_is : is_list s.list.kind ≡ true) (e : remove_step list r ≡ Ok u) where
    rose : WasMoved (prepared p x item list new) r.forest p x (Some item)
    rose = risen new v.forest p x item list s.sunk r.forest up

    r_order : IsForest r.forest
    r_order = now_order new v.forest p x item list s.sunk r.forest p (Some item) rose

    two : item ≢ list
    two = s.sunk.two

    both_gone : (u.forest ≡ take_out item (take_out list r.forest))
        × (has_point_on p r.selection ≡ false → has_point_on item r.selection ≡ false → has_point_on list r.selection ≡ false → u.selection ≡ r.selection)
    both_gone =
        let f : Forest = r.forest in
        let there = list_up new v.forest p x item list s.sunk r.forest p (Some item) rose in
        let a = was_removed list item r u r_order there e in
        let g : Forest = a.0.forest in
        let gone : g ≡ take_out list f = a.2 in
        let order : IsForest g = subst IsForest (sym gone) (IsForest-take_out list f r_order) in
        let still : (q : ℕ) → q ≢ list → parent_of f q ≡ Some p → parent_of g q ≡ Some p =
        λ q other up. ap (λ z. parent_of z q) gone ∙ grind (arith, parent_of-take_out list f q r_order, other, up, eqb_tells q list) in
        let above : parent_of g item ≡ Some p = still item two (item_up new v.forest p x item list s.sunk r.forest p (Some item) rose) in
        let empty : children_of g item ≡ [] =
        ap (λ z. children_of z item) gone ∙ children_of-take_out list f item r_order
        ∙ ap (names_without list) (item_holds new v.forest p x item list s.sunk r.forest p (Some item) rose (not_new new p x item s.sunk.may))
        ∙ grind (arith, eqb_tells list list) in
        let outer : kind_of g item ≡ Some Item =
        ap (λ z. kind_of z item) gone ∙ kind_of-take_out list f item r_order ∙ now_kind new v.forest p x item list s.sunk r.forest p (Some item) rose item
        ∙ item_kind in
        let inner : kind_of f list ≡ Some s.list.kind = now_kind new v.forest p x item list s.sunk r.forest p (Some item) rose list ∙ list_kind in
        let goes : may_not_be_left (kind_of g item) (kind_of f list) ≡ true = ap₂ may_not_be_left outer inner ∙ (item_goes s.list.kind).1 list_is in
        let next : Some item ≡ goes_next (kind_of f list) g (parent_of f list) =
        sym (ap (goes_next (kind_of f list) g) there ∙ grind (arith, empty, above, goes)) in
        let rest : remove_step item a.0 ≡ Ok u = climbed list r a.0 (Some item) r_order a.1 next ∙ e in
        let above_x = still x (x_not_list new v.forest p x item list s.sunk) (x_up new v.forest p x item list s.sunk r.forest p (Some item) rose) in
        let among : is_among x (children_of g p) ≡ true = child_of g p x order above_x in
        let other : x ≢ item = x_not_item new v.forest p x item list s.sunk in (
          removed_alone item p x a.0 u order above among other rest ∙ ap (take_out item) gone,
          λ off_p off_n off_m.
              let mid : a.0.selection ≡ r.selection = sent_stays list item r a.0 a.1 there off_m off_n in
              removed_stays item p x a.0 u order above among other rest (ap (has_point_on item) mid ∙ off_n) (ap (has_point_on p) mid ∙ off_p) ∙ mid,
        )

    all_back : u.forest ≡ new
    all_back = both_gone.0 ∙ back_again_in new v.forest p x item list s.sunk r.forest up

  -- up, from the list in the item
  pub went_up : (u : Working) → is_at is_item w.forest x ≡ true → is_list s.list.kind ≡ true → outdented x v ≡ Ok u
      → (u.forest ≡ new)
      × (has_point_on p v.selection ≡ false → has_point_on item v.selection ≡ false → has_point_on list v.selection ≡ false → u.selection ≡ v.selection)
  unfolding outdented out_of moved_out
  went_up u is list_is e =
      let g : Forest = v.forest in
      let x_is : is_at is_item g x ≡ true = ap (passes is_item) (now_kind new g p x item list s.sunk g list None s.sunk.moved x ∙ x_kind) ∙ is in
      let item_is : is_at is_item g item ≡ true =
      ap (passes is_item) (now_kind new g p x item list s.sunk g list None s.sunk.moved item ∙ item_kind) ∙ (item_goes Item).0 in
      let up_x = x_up new g p x item list s.sunk g list None s.sunk.moved in
      let up_list = list_up new g p x item list s.sunk g list None s.sunk.moved in
      let out : out_of x list item v ≡ Ok u = rw (x_is, up_x, up_list, item_is) at e in
      let x_first : is_named (first_child g list) x ≡ true = ap (λ ks. is_named (first_of ks) x) (sunk_list new g p x item list s.sunk) ∙ own x in
      let list_first : is_named (first_child g item) list ≡ true =
      ap (λ ks. is_named (first_of ks) list) (item_holds new g p x item list s.sunk g list None s.sunk.moved (λ e. s.sunk.two (sym e))) ∙ own list in
      let a = first_part (moved_before item x v) (gone_if_empty list) u (rw (x_first, list_first) at out) in
      let up : WasMoved g a.0.forest p x (Some item) =
      was_moved_before item x p v a.0 (now_order new g p x item list s.sunk g list None s.sunk.moved)
      (item_up new g p x item list s.sunk g list None s.sunk.moved) (λ same. x_not_item new g p x item list s.sunk (sym same)) a.1 in
      let left : (size_of a.0.forest list == 0) ≡ true = ap (λ (ks : List ℕ). length ks == 0) (left_list new g p x item list s.sunk a.0.forest up) in
      let removes : remove_step list a.0 ≡ Ok u = rw left at a.2 in (
        all_back a.0 u up list_is removes,
        λ off_p off_n off_m.
            let mid : a.0.selection ≡ v.selection =
            moved_before_stays item x list p v a.0 (now_order new g p x item list s.sunk g list None s.sunk.moved)
            (item_up new g p x item list s.sunk g list None s.sunk.moved) (λ same. x_not_item new g p x item list s.sunk (sym same)) a.1
            (x_up new g p x item list s.sunk g list None s.sunk.moved) off_m off_p in
            (both_gone a.0 u up list_is removes).1 (ap (has_point_on p) mid ∙ off_p) (ap (has_point_on item) mid ∙ off_n) (ap (has_point_on list) mid
            ∙ off_m) ∙ mid,
      )

  -- the new ones aren't in the root's tree
  pub tree_kept : drop_detached new ≡ drop_detached w.forest
  unfolding drop_detached
  tree_kept =
      let root : (l : Label) (f : Forest) → IsForest f → has l.key f ≡ false → 0 ≢ l.key =
      λ l f order free same. absurd (grind (arith, has-root f order, free, same)) in
      alone-with_new s.list (with_new s.item w.forest) 0 (root s.list (with_new s.item w.forest) item_order s.list_free)
      ∙ alone-with_new s.item w.forest 0 (root s.item w.forest h s.item_free)

-- ---- both

absent : (f : Forest) (x q : ℕ) → has q f ≡ false → is_within f x q ≡ false
absent f x q free = grind (arith, free, there_within f x q)

wrapped_and_back : (x : ℕ) (w v u : Working) → GoesAndComes x w v u → (o : Option ℕ) → parent_of w.forest x ≡ o → wrapped_in x o w ≡ Ok v
    → (drop_detached u.forest ≡ drop_detached w.forest) × PointsStay x w v u
unfolding outdented
wrapped_and_back x w v u s None top e =
    let same : w ≡ v = was_same w v e in
    let again : outdented x w ≡ Ok u = ap (outdented x) same ∙ s.up in
    let stays : w ≡ u = was_same w u (rw (s.item, top) at again) in (
      ap (λ (z : Working). drop_detached z.forest) (sym stays),
      λ points. (ap (λ (z : Working). z.selection) (sym same), ap (λ (z : Working). z.selection) (sym stays)),
    )
wrapped_and_back x w v u s (Some p) up e =
    let f : Forest = w.forest in
    let h : IsForest f = s.ready.in_order in
    let known = label_known f p (has-parent_of f x p up) in
    let down = went_down x p known.0 w v s.ready up known.1 (sym (ap (λ l. wrapped_like x l w) known.1) ∙ e) in
    let list_is : is_list down.list.kind ≡ true = sym (ap (passes is_list) down.like) ∙ list_above f x p s.held s.item up in
    let goes = went_up w v p x h down u s.item list_is s.up in (
      ap drop_detached goes.0 ∙ tree_kept w v p x h down,
      λ points.
          let off : (q : ℕ) → is_within f x q ≡ false → has_point_on q w.selection ≡ false = λ q outside. off_outside f x q w.selection points outside in
          let off_p : has_point_on p w.selection ≡ false = off p (is_within-parent f x p h up) in
          let off_item : has_point_on down.item.key w.selection ≡ false = off down.item.key (absent f x down.item.key down.item_free) in
          let off_list : has_point_on down.list.key w.selection ≡ false = off down.list.key (absent f x down.list.key down.list_new) in
          let first : v.selection ≡ w.selection = down.stays off_p off_item off_list in (
            first,
            goes.1 (ap (has_point_on p) first ∙ off_p) (ap (has_point_on down.item.key) first ∙ off_item) (ap (has_point_on down.list.key) first ∙ off_list)
                ∙ first,
          ),
    )

pub alone_and_back : (x : ℕ) (w v u : Working) → GoesAndComes x w v u → nested_before w.forest x ≡ None → nested_behind w.forest x ≡ None
    → (drop_detached u.forest ≡ drop_detached w.forest) × PointsStay x w v u
alone_and_back x w v u s before behind = wrapped_and_back x w v u s (parent_of w.forest x) refl (deeper_by x w v None None s.item s.deeper before behind)
