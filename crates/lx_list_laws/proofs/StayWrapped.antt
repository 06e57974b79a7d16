-- An item that goes into a new list in a new item leaves each point of a range in the tree; and so does every line that goes a
-- level deeper.
use Rattle.std.proofs.Common.{◌≡◌, ◌≢◌, ◌∙◌, ℕ, ◌⊎◌, Bool, true, false, cond, eqb, ◌||◌, [], ◌∷◌, Option, None, Some, Result, Ok, refl, sym, ap, subst, arith, inl, inr}
use Rattle.std.proofs.lemmas.Bool.Decides.{eqb_tells}
use Rattle.lx_trees.proofs.Siblings.{names_without-absent_list}
use Rattle.lx_node.specs.Kinds.{is_item, is_list}
use Rattle.lx_node.specs.declared.cause.Cause.{Cause}
use Rattle.lx_node.specs.declared.kind.Kind.TheVariants.{Item}
use Rattle.lx_forest.specs.Forest.{Forest, Label}
use Rattle.lx_forest.specs.Lookups.{has, kind_of, parent_of, children_of, previous_of, next_of, is_within, is_attached, IsForest}
use Rattle.lx_forest.specs.Edits.{with_new}
use Rattle.lx_forest.proofs.Lookups.{has-child, has-parent_of}
use Rattle.lx_links.proofs.Ordered.{there_within}
use Rattle.lx_draft.specs.Working.{Working}
use Rattle.lx_draft.specs.Faults.{after}
use Rattle.lx_draft.specs.Selecting.{lies_in}
use Rattle.lx_draft.specs.Steps.{new_step, put_step}
use Rattle.lx_draft.specs.Beside.{put_before_step}
use Rattle.lx_edit.specs.Edits.{moved_to_end}
use Rattle.lx_edit.proofs.Climbed.{first_part}
use Rattle.lx_edit_laws.proofs.WrapSteps.{was_same}
use Rattle.lx_edit_laws.proofs.WrapTrees.{not_child}
use Rattle.lx_blocks.specs.Blocks.{passes, is_at}
use Rattle.lx_blocks.specs.Ranges.{lies}
use Rattle.lx_caret.proofs.Fit.{each_both, each_still, Fit, stays_new, stays_put}
use Rattle.lx_caret.proofs.Lies.{both}
use Rattle.lx_caret.proofs.Moves.{was_put, stays_before, put_before_in, stays_moved}
use Rattle.lx_list.specs.Making.{item_fields, with_like, with_indent, change_step}
use Rattle.lx_list.specs.Nesting.{nested_in}
use Rattle.lx_list.specs.Indenting.{wrapped_like, wrapped_in, nested_by, deeper, indented}
use Rattle.lx_list.proofs.Above.{list_above}
use Rattle.lx_list_laws.specs.Staying.{is_behind_list}
use Rattle.lx_list_laws.proofs.LevelAlone.{WentDown, went_down}
use Rattle.lx_list_laws.proofs.LevelSteps.{label_known, two_kind, two_parent, two_children}
use Rattle.lx_list_laws.proofs.LevelWraps.{HasSunk, now_order, now_kind, now_parent, now_children, nested_children, item_holds}
use Rattle.lx_list_laws.proofs.ReadDissolved.{within_below}
use Rattle.lx_list_laws.proofs.StayAhead.{Outside, behind_tells, outside_carried}
use Rattle.lx_list_laws.proofs.StayBetween.{Ahead, apart_kinds}
use Rattle.lx_list_laws.proofs.StayIndented.{changed_ahead, near_before, near_behind, to_end_ahead, to_front_ahead, between_ahead}
use Rattle.lx_list_laws.proofs.StayKeys.{keys_of, EachKey, each_same, same_new, same_put, same_before, same_to_end}
use Rattle.lx_list_laws.proofs.StayUnder.{list_no_item}

-- ---- the draft goes on

record IsWrapped (w v : Working) : Type 0 where
  fit : Fit v
  same : keys_of v.selection ≡ keys_of w.selection

wrapped_fits : (x : ℕ) (l : Label) (w v : Working) → Fit w → is_attached w.forest x ≡ true → wrapped_like x (Some l) w ≡ Ok v → IsWrapped w v
wrapped_fits x l w v fit there e =
    let n : ℕ = w.next_key in
    let into : ℕ → ℕ → Working → Result Working Cause =
    λ outer inner u. after (put_before_step outer x u) (λ put. after (put_step inner outer 0 put) (moved_to_end inner x)) in
    let a = first_part (new_step Item (item_fields None) w) (with_like (Some l) (into n)) v e in
    let m : ℕ = a.0.next_key in
    let b = first_part (new_step l.kind l.fields a.0) (into n m) v a.2 in
    let c = first_part (put_before_step n x b.0) (λ put. after (put_step m n 0 put) (moved_to_end m x)) v b.2 in
    let d = first_part (put_step m n 0 c.0) (moved_to_end m x) v c.2 in
    let one = stays_new Item (item_fields None) w a.0 fit a.1 in
    let two = stays_new l.kind l.fields a.0 b.0 one.fit b.1 in
    let three = stays_before n x b.0 c.0 two.fit c.1 in
    let beside = put_before_in n x b.0 c.0 two.fit (two.attached x (one.attached x there)) c.1 in
    let four = stays_put m n 0 c.0 d.0 three.fit d.1 in
    let inner : is_attached d.0.forest m ≡ true = (was_put m n 0 c.0 d.0 three.fit.ready.in_order d.1).attached beside.attached in
    record {
      fit = (stays_moved m x d.0 v four.fit inner d.2).fit;
      same = same_to_end m x d.0 v d.2 ∙ same_put m n 0 c.0 d.0 d.1 ∙ same_before n x b.0 c.0 c.1 ∙ same_new l.kind l.fields a.0 b.0 b.1
          ∙ same_new Item (item_fields None) w a.0 a.1;
    }

-- ---- where the new ones are counted at the list that the item left

module _ (w v : Working) (p x : ℕ) (h : IsForest w.forest) (d : WentDown w v p x) (up : parent_of w.forest x ≡ Some p)
    (is : is_at is_list w.forest p ≡ true) where
  abbrev f : Forest
  f = w.forest

  abbrev g : Forest
  g = v.forest

  abbrev i : ℕ
  i = d.item.key

  abbrev l : ℕ
  l = d.list.key

  abbrev base : Forest
  base = with_new d.list (with_new d.item f)

  s : HasSunk base g p x i l
  s = d.sunk

  abbrev place : ℕ → ℕ
  place q = cond (eqb q i || eqb q l) p q

  place_old : (q : ℕ) → has q f ≡ true → place q ≡ q
  place_old q there = grind (arith, there, d.item_free, d.list_new, eqb_tells q i, eqb_tells q l)

  place_item : place i ≡ p
  place_item = grind (arith, eqb_tells i i)

  place_list : place l ≡ p
  place_list = grind (arith, eqb_tells l l)

  above : (q : ℕ) → parent_of g q ≡ cond (eqb q x) (Some l) (cond (eqb q l) (Some i) (cond (eqb q i) (Some p) (parent_of f q)))
  above q =
      now_parent base g p x i l s g l None s.moved q
      ∙ ap (λ o. cond (eqb q x) (Some l) (cond (eqb q l) (Some i) (cond (eqb q i) (Some p) o))) (two_parent f d.item d.list h d.item_free d.list_free q)

  kind : (q : ℕ) → kind_of g q ≡ cond (eqb q l) (Some d.list.kind) (cond (eqb q i) (Some d.item.kind) (kind_of f q))
  kind q = now_kind base g p x i l s g l None s.moved q ∙ two_kind f d.item d.list h d.item_free d.list_free q

  kind_old : (q : ℕ) → q ≢ l → q ≢ i → kind_of g q ≡ kind_of f q
  kind_old q a b = grind (arith, kind q, a, b, eqb_tells q l, eqb_tells q i)

  list_kind : is_list d.list.kind ≡ true
  list_kind = sym (ap (passes is_list) d.like) ∙ is

  children_old : (q : ℕ) → q ≢ l → q ≢ i → is_at is_item f q ≡ true → children_of g q ≡ children_of f q
  children_old q a b item =
      let other : p ≢ q = apart_kinds f p q is item in
      let kept = names_without-absent_list x (children_of f q) (not_child f x p q h up other) in
      now_children base g p x i l s g l None s.moved q
      ∙ grind (
        arith,
        a,
        b,
        other,
        kept,
        nested_children base g p x i l s q,
        two_children f d.item d.list h d.item_free d.list_free q,
        eqb_tells q l,
        eqb_tells q i,
        eqb_tells q p,
      )

  items : (q : ℕ) → is_at is_item g q ≡ true → ((is_at is_item f q ≡ true) × (children_of g q ≡ children_of f q)) ⊎ ((c : ℕ) × (children_of g q ≡ c ∷ []))
  items q item = elim (eqb_tells q l) [
    | inl same ↦
        let now : kind_of g q ≡ Some d.list.kind = grind (arith, kind q, same.0) in
        absurd (grind (arith, list_no_item d.list.kind list_kind, sym (ap (passes is_item) now) ∙ item))
    | inr away ↦ elim (eqb_tells q i) [
      | inl same ↦ inr (l, ap (children_of g) same.1 ∙ item_holds base g p x i l s g l None s.moved (λ e. away.1 (same.1 ∙ sym e)))
      | inr other ↦
          let was : is_at is_item f q ≡ true = sym (ap (passes is_item) (kind_old q away.1 other.1)) ∙ item in
          inl (was, children_old q away.1 other.1 was)
    ]
  ]

  step : (k q b : ℕ) → is_behind_list f k ≡ true → parent_of g q ≡ Some b → is_within f k (place b) ≡ true → is_within f k (place q) ≡ true
  step k q b e q_up inside = elim (eqb_tells q x) [
    | inl same ↦
        let is_l : l ≡ b = grind (arith, above q, q_up, same.0) in
        let in_p : is_within f k p ≡ true = ap (is_within f k) (sym place_list ∙ ap place is_l) ∙ inside in
        ap (λ n. is_within f k (place n)) same.1 ∙ ap (is_within f k) (place_old x (has-child f x p up)) ∙ within_below f k x p h up in_p
    | inr not_x ↦ elim (eqb_tells q l) [
      | inl same ↦
          let is_i : i ≡ b = grind (arith, above q, q_up, not_x.0, same.0) in
          ap (is_within f k) (ap place same.1 ∙ place_list ∙ sym place_item ∙ ap place is_i) ∙ inside
      | inr not_l ↦ elim (eqb_tells q i) [
        | inl same ↦
            let is_p : p ≡ b = grind (arith, above q, q_up, not_x.0, not_l.0, same.0) in
            ap (is_within f k) (ap place same.1 ∙ place_item ∙ sym (place_old p (has-parent_of f x p up)) ∙ ap place is_p) ∙ inside
        | inr not_i ↦
            let before : parent_of f q ≡ Some b = grind (arith, above q, q_up, not_x.0, not_l.0, not_i.0) in
            ap (is_within f k) (place_old q (has-child f q b before))
            ∙ within_below f k q b h before (ap (is_within f k) (sym (place_old b (has-parent_of f q b before))) ∙ inside)
      ]
    ]
  ]

  wrapped_outside : (q : ℕ) → has q f ≡ true → Outside f q → Outside g q
  wrapped_outside q there out =
      outside_carried f g place (record {
        keep = record {
          before = h;
          behind = now_order base g p x i l s g l None s.moved;
          lists = λ c was.
              ap (passes is_list) (kind_old c (λ e. absurd (grind (arith, was, e, d.list_new))) (λ e. absurd (grind (arith, was, e, d.item_free))));
          items = items;
        };
        own = λ k e. let b = behind_tells f k e in place_old k (has-child f k b.item b.up);
        step = step;
      }) q (subst (Outside f) (sym (place_old q there)) out)

-- each point is on a node that is there
keys_there : (w : Working) → Fit w → EachKey (λ q. has q w.forest ≡ true) w
keys_there w fit =
    each_still (λ x. lies w.forest x ≡ true) (λ x. has x.key w.forest ≡ true) w.selection
    (λ x so. there_within w.forest 0 x.key (both (is_attached w.forest x.key) (lies_in w.forest x) so).0) fit.lying

wrapped_in_ahead : (x : ℕ) (o : Option ℕ) (w v : Working) → Ahead w → is_attached w.forest x ≡ true → is_at is_item w.forest x ≡ true → parent_of w.forest x ≡ o
    → wrapped_in x o w ≡ Ok v → Ahead v
wrapped_in_ahead x None w v r there item up e = subst Ahead (was_same w v e) r
wrapped_in_ahead x (Some p) w v r there item up e =
    let f : Forest = w.forest in
    let l = label_known f p (has-parent_of f x p up) in
    let like : wrapped_like x (Some l.0) w ≡ Ok v = ap (λ o. wrapped_like x o w) (sym l.1) ∙ e in
    let wrapped = wrapped_fits x l.0 w v r.fit there like in
    let down = went_down x p l.0 w v r.fit.ready up l.1 like in
    let P : ℕ → Type 0 = λ q. (has q f ≡ true) × Outside f q in
    record {
      fit = wrapped.fit;
      places = each_still (λ y. P y.key) (λ y. Outside v.forest y.key) v.selection
          (λ y so. wrapped_outside w v p x r.fit.ready.in_order down up (list_above f x p r.fit.held item up) y.key so.0 so.1)
          (each_same P w v wrapped.same (each_both (λ y. has y.key f ≡ true) (λ y. Outside f y.key) w.selection (keys_there w r.fit) r.places));
    }

-- ---- a line

nested_ahead : (before behind : Option ℕ) (x : ℕ) (w v : Working) → Ahead w → is_attached w.forest x ≡ true → is_at is_item w.forest x ≡ true
    → nested_in w.forest (previous_of w.forest x) ≡ before → nested_in w.forest (next_of w.forest x) ≡ behind → nested_by before behind x w ≡ Ok v
    → Ahead v
nested_ahead (Some list) (Some further) x w v r there item a b e =
    between_ahead x list further w v r there item (near_before w.forest x list r.fit.ready.in_order r.fit.held item a)
    (near_behind w.forest x further r.fit.ready.in_order r.fit.held item b) e
nested_ahead (Some list) None x w v r there item a b e =
    to_end_ahead x list w v r there (near_before w.forest x list r.fit.ready.in_order r.fit.held item a) e
nested_ahead None (Some list) x w v r there item a b e =
    to_front_ahead x list w v r there (near_behind w.forest x list r.fit.ready.in_order r.fit.held item b) e
nested_ahead None None x w v r there item a b e = wrapped_in_ahead x (parent_of w.forest x) w v r there item refl e

pub indented_ahead : (x : ℕ) (w v : Working) → Ahead w → is_attached w.forest x ≡ true → indented x w ≡ Ok v → Ahead v
unfolding indented
indented_ahead x w v r there e = by_test (is_at is_item w.forest x) refl e where
  by_test : (b : Bool) → is_at is_item w.forest x ≡ b
      → cond b (nested_by (nested_in w.forest (previous_of w.forest x)) (nested_in w.forest (next_of w.forest x)) x w) (change_step (with_indent deeper) x w)
      ≡ Ok v → Ahead v
  by_test true item e =
      nested_ahead (nested_in w.forest (previous_of w.forest x)) (nested_in w.forest (next_of w.forest x)) x w v r there item refl refl e
  by_test false item e = changed_ahead (with_indent deeper) x w v r e
