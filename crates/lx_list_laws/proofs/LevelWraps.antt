-- A node that goes into a new list in a new item in its place, and comes back before that item, in a forest.
use Rattle.std.proofs.Common.{◌≡◌, ◌≢◌, ◌∙◌, ℕ, false, cond, eqb, List, [], ◌∷◌, Option, None, Some, sym, ap, arith, inl, inr}
use Rattle.std.specs.Prelude.{option_map}
use Rattle.std.proofs.lemmas.Bool.Decides.{eqb_tells}
use Rattle.lx_trees.specs.Siblings.{is_among, names_without, names_with}
use Rattle.lx_trees.proofs.Siblings.{names_without-absent_list, is_among-names_with, is_among-names_without}
use Rattle.lx_forest.specs.Forest.{Forest, Label}
use Rattle.lx_forest.specs.Lookups.{label_of, kind_of, parent_of, children_of, IsForest}
use Rattle.lx_forest.specs.Edits.{take_out, put_in, CanPut}
use Rattle.lx_forest.proofs.Lookups.{is_among-children_of, NoRepeats-children_of, label_of-put_in, label_of-take_out, parent_of-put_in, parent_of-take_out, children_of-put_in, children_of-take_out}
use Rattle.lx_forest.proofs.Order.{IsForest-take_out, IsForest-put_in}
use Rattle.lx_edit_laws.proofs.WrapLists.{swapped}
use Rattle.lx_edit_laws.proofs.WrapTrees.{not_child, same_reads, WasMoved, IsForest-moved, label_of-moved, parent_of-moved, children_of-moved, moved_twice, beside, MayStandBefore, not_new, apart, beside-order, beside-label, beside-parent, beside-children}

-- the new item before x with the new list in it
abbrev pub prepared : ℕ → ℕ → ℕ → ℕ → Forest → Forest
prepared p x item list f = put_in item None list (beside p x item f)

-- x went into the list
pub record HasSunk (f g : Forest) (p x item list : ℕ) : Type 0 where
  pub may : MayStandBefore f p x item
  pub can : CanPut item list (beside p x item f)
  pub two : item ≢ list
  pub item_empty : children_of f item ≡ []
  pub list_empty : children_of f list ≡ []
  pub moved : WasMoved (prepared p x item list f) g list x None

module _ (f g : Forest) (p x item list : ℕ) (s : HasSunk f g p x item list) where
  h : IsForest f
  h = s.may.in_order

  -- x, its parent and the two new ones are four
  pub x_not_item : x ≢ item
  x_not_item = apart f p x item s.may

  list_detached : parent_of f list ≡ None
  list_detached = grind (arith, s.can.detached, beside-parent f p x item s.may list, s.two, eqb_tells list item)

  pub x_not_list : x ≢ list
  x_not_list e = absurd (grind (arith, e, s.may.up, list_detached))

  not_list : p ≢ list
  not_list e = absurd (grind (arith, e, s.list_empty, is_among-children_of f x p h, s.may.up, eqb_tells p p))

  -- ---- the two new ones

  nested_order : IsForest (prepared p x item list f)
  nested_order = IsForest-put_in item None list (beside p x item f) (beside-order f p x item s.may) s.can

  nested_label : (q : ℕ) → label_of (prepared p x item list f) q ≡ label_of f q
  nested_label q =
      label_of-put_in item None list (beside p x item f) q (beside-order f p x item s.may) s.can ∙ beside-label f p x item s.may q

  nested_parent : (q : ℕ) → parent_of (prepared p x item list f) q ≡ cond (eqb q list) (Some item) (cond (eqb q item) (Some p) (parent_of f q))
  nested_parent q =
      parent_of-put_in item None list (beside p x item f) q (beside-order f p x item s.may) s.can
      ∙ ap (cond (eqb q list) (Some item)) (beside-parent f p x item s.may q)

  -- the item has the list, p has the item before x, and any other node has what it had
  pub nested_children : (q : ℕ) → children_of (prepared p x item list f) q
      ≡ cond (eqb q item) (list ∷ []) (cond (eqb q p) (names_with (Some x) (item ∷ []) (children_of f q)) (children_of f q))
  nested_children q =
      children_of-put_in item None list (beside p x item f) q (beside-order f p x item s.may) s.can
      ∙ grind (arith, beside-children f p x item s.may q, not_new f p x item s.may, s.item_empty, eqb_tells q item, eqb_tells q p)

  -- ---- x goes from there into the list, or up again

  module _ (u : Forest) (to : ℕ) (before : Option ℕ) (m : WasMoved (prepared p x item list f) u to x before) where
    pub now_order : IsForest u
    now_order = IsForest-moved (prepared p x item list f) u to x before nested_order m

    pub now_label : (q : ℕ) → label_of u q ≡ label_of f q
    now_label q = label_of-moved (prepared p x item list f) u to x before nested_order m q ∙ nested_label q

    pub now_kind : (q : ℕ) → kind_of u q ≡ kind_of f q
    now_kind q = ap (option_map (λ (l : Label). l.kind)) (now_label q)

    pub now_parent : (q : ℕ) → parent_of u q ≡ cond (eqb q x) (Some to) (cond (eqb q list) (Some item) (cond (eqb q item) (Some p) (parent_of f q)))
    now_parent q = parent_of-moved (prepared p x item list f) u to x before nested_order m q ∙ ap (cond (eqb q x) (Some to)) (nested_parent q)

    pub now_children : (q : ℕ) → children_of u q ≡ cond (eqb q to) (names_with before (x ∷ []) (names_without x (children_of (prepared p x item list f) q)))
        (names_without x (children_of (prepared p x item list f) q))
    now_children = children_of-moved (prepared p x item list f) u to x before nested_order m

    pub x_up : parent_of u x ≡ Some to
    x_up = grind (arith, now_parent x, eqb_tells x x)

    pub list_up : parent_of u list ≡ Some item
    list_up = grind (arith, now_parent list, x_not_list, eqb_tells list x, eqb_tells list list)

    pub item_up : parent_of u item ≡ Some p
    item_up = grind (arith, now_parent item, x_not_item, s.two, eqb_tells item x, eqb_tells item list, eqb_tells item item)

    pub item_holds : to ≢ item → children_of u item ≡ list ∷ []
    item_holds other =
        grind (arith, now_children item, nested_children item, x_not_list, other, eqb_tells item item, eqb_tells list x, eqb_tells item to)

    list_holds : children_of u list ≡ cond (eqb list to) (names_with before (x ∷ []) []) []
    list_holds =
        grind (arith, now_children list, nested_children list, not_list, s.two, s.list_empty, eqb_tells list item, eqb_tells list p, eqb_tells list to)

  pub sunk_list : children_of g list ≡ x ∷ []
  sunk_list = grind (arith, list_holds g list None s.moved, eqb_tells list list)

  -- ---- up again

  abbrev held : ℕ → List ℕ
  held q = children_of (prepared p x item list f) q

  nobodys : (q : ℕ) → (is_among list (children_of f q) ≡ false) × (is_among item (children_of f q) ≡ false)
  nobodys q = (grind (arith, list_detached, is_among-children_of f list q h), grind (arith, s.may.can.detached, is_among-children_of f item q h))

  left : (q : ℕ)
      → names_without item (names_without list (cond (eqb q p) (names_with (Some item) (x ∷ []) (names_without x (held q))) (names_without x (held q))))
      ≡ children_of f q
  left q = elim (eqb_tells q p) [
    | inl own ↦
        let xs : List ℕ = names_with (Some x) (item ∷ []) (children_of f q) in
        let here : children_of (prepared p x item list f) q ≡ xs = grind (arith, nested_children q, own, not_new f p x item s.may, eqb_tells q item) in
        let came = is_among-names_with (Some x) (item ∷ []) (children_of f q) list in
        let gone : is_among list (names_with (Some item) (x ∷ []) (names_without x xs)) ≡ false =
        is_among-names_with (Some item) (x ∷ []) (names_without x xs) list
        ∙ grind (arith, is_among-names_without x list xs, came, (nobodys q).0, s.two, x_not_list, eqb_tells x list, eqb_tells item list) in
        rw (own.0, here) (
        ap (names_without item) (names_without-absent_list list _ gone)
        ∙ swapped x item (children_of f q) (NoRepeats-children_of f q h)
        (is_among-children_of f x q h ∙ grind (arith, s.may.up, own, eqb_tells q p)) (nobodys q).1 x_not_item
        )
    | inr other ↦
        let away = not_child f x p q h s.may.up (λ e. other.1 (sym e)) in
        let gone : (c : ℕ) → is_among c (children_of f q) ≡ false → names_without c (children_of f q) ≡ children_of f q =
        λ c. names_without-absent_list c (children_of f q) in
        grind (
          arith,
          other.0,
          nested_children q,
          nobodys q,
          away,
          s.item_empty,
          x_not_list,
          eqb_tells q item,
          eqb_tells list list,
          eqb_tells list x,
          gone x,
          gone list,
          gone item,
        )
  ]

  module _ (r : Forest) (up : WasMoved g r p x (Some item)) where
    pub risen : WasMoved (prepared p x item list f) r p x (Some item)
    risen = moved_twice (prepared p x item list f) g list x None nested_order s.moved r p (Some item) up

    pub left_list : children_of r list ≡ []
    left_list = grind (arith, list_holds r p (Some item) risen, not_list, eqb_tells list p)

    -- the two are taken out: the forest is the old one
    pub back_again_in : take_out item (take_out list r) ≡ f
    back_again_in =
        let order : IsForest r = now_order r p (Some item) risen in
        let out = λ (q : ℕ). parent_of-take_out list r q order in
        let mid : IsForest (take_out list r) = IsForest-take_out list r order in
        same_reads (take_out item (take_out list r)) f (IsForest-take_out item (take_out list r) mid) h
        (λ q. label_of-take_out item (take_out list r) q mid ∙ label_of-take_out list r q order ∙ now_label r p (Some item) risen q)
        (λ q. parent_of-take_out item (take_out list r) q mid
        ∙ grind (
          arith,
          out q,
          now_parent r p (Some item) risen q,
          s.may.can.detached,
          s.may.up,
          list_detached,
          eqb_tells q item,
          eqb_tells q list,
          eqb_tells q x,
        ))
        (λ q. children_of-take_out item (take_out list r) q mid ∙ ap (names_without item) (children_of-take_out list r q order)
        ∙ ap (λ ks. names_without item (names_without list ks)) (now_children r p (Some item) risen q) ∙ left q)
