-- An item beside one that is nesting goes a level deeper, into the list there, and up again.
use Rattle.std.proofs.Common.{◌≡◌, ◌≢◌, ◌∙◌, ℕ, ◌==◌, true, false, cond, List, [], ◌∷◌, ◌++◌, length, Option, None, Some, Ok, refl, sym, ap, subst, arith, inl, inr}
use Rattle.std.specs.Prelude.{option_map}
use Rattle.std.proofs.lemmas.Bool.Decides.{eqb_tells}
use Rattle.lx_trees.specs.Siblings.{is_among, is_named, first_of, next_in, previous_from, previous_in, names_without, names_with}
use Rattle.lx_node.specs.Kinds.{is_item, is_list}
use Rattle.lx_trees.proofs.Siblings.{first_of-among, names_without-absent_list, next_in-names_without}
use Rattle.lx_select.specs.Selection.{has_point_on}
use Rattle.lx_forest.specs.Forest.{Forest, Label}
use Rattle.lx_forest.specs.Lookups.{kind_of, parent_of, children_of, children_below, size_of, first_child, next_of, is_within, IsForest}
use Rattle.lx_forest.proofs.Lookups.{NoRepeats-children_of, children_of-take_out, has-child, parent_of-self}
use Rattle.lx_forest.proofs.Siblings.{parent_of-previous, parent_of-next}
use Rattle.lx_forest.proofs.Walks.{cases_option}
use Rattle.lx_forest.proofs.Within.{is_within-parent, is_within-self, is_within-up}
use Rattle.lx_draft.specs.Working.{Working}
use Rattle.lx_draft.proofs.Gaps.{parent_here}
use Rattle.lx_edit.specs.Edits.{moved_before, moved_behind, moved_to_end}
use Rattle.lx_edit.proofs.Climbed.{first_part}
use Rattle.lx_blocks.specs.Blocks.{passes, is_at}
use Rattle.lx_list.specs.Nesting.{if_list, nested_in}
use Rattle.lx_list.specs.Indenting.{moved_to_front, nested_by, indented}
use Rattle.lx_list.specs.Outdenting.{moved_out, gone_if_empty, out_of, outdented}
use Rattle.lx_list.proofs.Above.{list_above}
use Rattle.lx_list.proofs.Itemless.{item_below}
use Rattle.lx_edit_laws.proofs.JoinSteps.{next_apart}
use Rattle.lx_edit_laws.proofs.WrapLists.{names_with-end}
use Rattle.lx_edit_laws.proofs.WrapTrees.{own, different, not_child, WasMoved, IsForest-moved, label_of-moved, parent_of-moved, children_of-moved, take-moved, moved_twice, moved_back}
use Rattle.lx_edit_laws.proofs.WrapSteps.{was_same, was_moved_to_end, was_moved_before}
use Rattle.lx_list_laws.specs.Levels.{nested_before, nested_behind, has_points_within, GoesAndComes, PointsStay}
use Rattle.lx_list_laws.proofs.LevelPoints.{off_outside, to_end_stays, to_front_stays, moved_before_stays, moved_behind_stays}
use Rattle.lx_list_laws.proofs.LevelSteps.{was_moved_behind, was_moved_to_front}

-- ---- lists of names

-- no name comes right before itself

pub before_itself : (before : Option ℕ) (x : ℕ) (xs : List ℕ) → is_named before x ≡ false → previous_from before xs x ≢ Some x
before_itself before x [] apart e = absurd (cc)
before_itself before x (y ∷ ys) apart e =
    elim (eqb_tells y x) [
      | inl same ↦ absurd (grind (arith, same, apart, e, eqb_tells x x))
      | inr other ↦ before_itself (Some y) x ys (grind (arith, other.0, eqb_tells x y, eqb_tells y x)) (grind (arith, other.0, e))
    ]

at_front : (x : ℕ) (xs : List ℕ) → names_with (first_of xs) (x ∷ []) xs ≡ x ∷ xs
at_front x [] = refl
at_front x (y ∷ ys) = grind (arith, eqb_tells y y)

-- nothing comes after what is put at the end
last_behind : (x : ℕ) (xs : List ℕ) → is_among x xs ≡ false → next_in (xs ++ (x ∷ [])) x ≡ None
last_behind x [] absent = grind (arith, eqb_tells x x)
last_behind x (y ∷ ys) absent = grind (arith, absent, last_behind x ys)

-- and where there were some, it isn't the first
not_first : (x : ℕ) (xs : List ℕ) → xs ≢ [] → is_among x xs ≡ false → is_named (first_of (xs ++ (x ∷ []))) x ≡ false
not_first x [] some absent = absurd (some refl)
not_first x (y ∷ ys) some absent = grind (arith, absent, eqb_tells x y, eqb_tells y x)

not_none : (xs : List ℕ) → xs ≢ [] → (length xs == 0) ≡ false
not_none [] some = absurd (some refl)
not_none (x ∷ xs) some = grind arith

-- ---- what nests

-- a list is the first child of this node
pub record Nests (f : Forest) (o : Option ℕ) (list : ℕ) : Type 0 where
  pub holder : ℕ
  pub is : o ≡ Some holder
  pub first : first_child f holder ≡ Some list

pub nests : (f : Forest) (o : Option ℕ) (list : ℕ) → nested_in f o ≡ Some list → Nests f o list
nests f None list e = absurd (cc)
nests f (Some k) list e = by_first (first_child f k) refl e where
  by_first : (c : Option ℕ) → first_child f k ≡ c → if_list f c ≡ Some list → Nests f (Some k) list
  by_first None is e = absurd (cc)
  by_first (Some c) is e = record { holder = k; is = refl; first = is ∙ grind (arith, e) }

-- ---- the item goes into the list of a neighbour

-- x, a child of p as holder is, whose first child is the list, which isn't empty, went into that list at a place
pub record WentIn (x list p holder : ℕ) (w v : Working) : Type 0 where
  pub in_order : IsForest w.forest
  pub item : is_at is_item w.forest x ≡ true
  pub holder_item : is_at is_item w.forest holder ≡ true
  pub up : parent_of w.forest x ≡ Some p
  pub holder_up : parent_of w.forest holder ≡ Some p
  pub apart : holder ≢ x
  pub first : first_child w.forest holder ≡ Some list
  pub some : children_of w.forest list ≢ []
  pub place : Option ℕ
  pub went : WasMoved w.forest v.forest list x place
  pub stays : has_point_on p w.selection ≡ false → has_point_on list w.selection ≡ false → v.selection ≡ w.selection

module _ (x list p holder : ℕ) (w v : Working) (s : WentIn x list p holder w v) where
  abbrev f : Forest
  f = w.forest

  abbrev g : Forest
  g = v.forest

  list_up : parent_of f list ≡ Some holder
  list_up = parent_here f holder list s.in_order (first_of-among (children_of f holder) list s.first)

  p_not_holder : p ≢ holder
  p_not_holder e = absurd (grind (arith, e, s.holder_up, parent_of-self f p s.in_order, eqb_tells holder p, eqb_tells p p))

  list_not_holder : list ≢ holder
  list_not_holder e = absurd (grind (arith, e, list_up, parent_of-self f list s.in_order, eqb_tells holder list, eqb_tells list list))

  -- the list isn't above its own holder
  list_not_p : list ≢ p
  list_not_p e =
      let above : parent_of f p ≡ Some holder = sym (ap (parent_of f) e) ∙ list_up in
      absurd (grind (
        arith,
        is_within-parent f holder p s.in_order s.holder_up,
        is_within-up f holder p holder s.in_order above p_not_holder,
        is_within-self f holder,
        has-child f holder p s.holder_up,
      ))

  -- x isn't the list, which is in the neighbour
  list_not_x : list ≢ x
  list_not_x e = absurd (let same : Some holder ≡ Some p = sym list_up ∙ ap (parent_of f) e ∙ s.up in grind (arith, same, p_not_holder))

  absent : is_among x (children_of f list) ≡ false
  absent = not_child f x p list s.in_order s.up (λ e. list_not_p (sym e))

  g_order : IsForest g
  g_order = IsForest-moved f g list x s.place s.in_order s.went

  g_kind : (q : ℕ) → kind_of g q ≡ kind_of f q
  g_kind q = ap (option_map (λ (l : Label). l.kind)) (label_of-moved f g list x s.place s.in_order s.went q)

  g_parent : (q : ℕ) → q ≢ x → parent_of g q ≡ parent_of f q
  g_parent q other = parent_of-moved f g list x s.place s.in_order s.went q ∙ ap (λ b. cond b (Some list) (parent_of f q)) (different q x other)

  x_in : parent_of g x ≡ Some list
  x_in = parent_of-moved f g list x s.place s.in_order s.went x ∙ ap (λ b. cond b (Some list) (parent_of f x)) (own x)

  list_still : parent_of g list ≡ Some holder
  list_still = g_parent list list_not_x ∙ list_up

  pub holder_still : parent_of g holder ≡ Some p
  holder_still = g_parent holder s.apart ∙ s.holder_up

  g_children : (q : ℕ) → q ≢ list → children_of g q ≡ names_without x (children_of f q)
  g_children q other =
      let xs : List ℕ = names_without x (children_of f q) in
      children_of-moved f g list x s.place s.in_order s.went q ∙ ap (λ b. cond b (names_with s.place (x ∷ []) xs) xs) (different q list other)

  -- the list has x at the place, the neighbour has what it had, and their parent has lost x
  pub list_holds : children_of g list ≡ names_with s.place (x ∷ []) (children_of f list)
  list_holds =
      let xs : List ℕ = names_without x (children_of f list) in
      children_of-moved f g list x s.place s.in_order s.went list ∙ ap (λ b. cond b (names_with s.place (x ∷ []) xs) xs) (own list)
      ∙ ap (names_with s.place (x ∷ [])) (names_without-absent_list x (children_of f list) absent)

  pub first_still : first_child g holder ≡ Some list
  first_still =
      let same : children_of g holder ≡ children_of f holder =
      g_children holder (λ e. list_not_holder (sym e))
      ∙ names_without-absent_list x (children_of f holder) (not_child f x p holder s.in_order s.up p_not_holder) in
      ap first_of same ∙ s.first

  -- so it comes out of the list again
  pub out : (u : Working) → outdented x v ≡ Ok u → out_of x list holder v ≡ Ok u
  unfolding outdented
  out u e =
      let x_is : is_at is_item g x ≡ true = ap (passes is_item) (g_kind x) ∙ s.item in
      let holder_is : is_at is_item g holder ≡ true = ap (passes is_item) (g_kind holder) ∙ s.holder_item in
      rw (x_is, x_in, list_still, holder_is) at e

  -- and where it comes back to its place, every node is where it was
  pub came_back : (y u : Working) → WasMoved g y.forest p x (next_in (children_of f p) x) → gone_if_empty list y ≡ Ok u
      → (has_point_on list v.selection ≡ false → has_point_on p v.selection ≡ false → y.selection ≡ v.selection) → (u.forest ≡ f) × PointsStay x w v u
  came_back y u came e comes =
      let same : y.forest ≡ f =
      moved_back f y.forest p x s.in_order s.up (moved_twice f g list x s.place s.in_order s.went y.forest p (next_in (children_of f p) x) came) in
      let some : (size_of y.forest list == 0) ≡ false = ap (λ z. size_of z list == 0) same ∙ not_none (children_of f list) s.some in
      let stays : y ≡ u = was_same y u (rw some at e) in
      let off : (q : ℕ) → has_points_within f x w.selection ≡ true → is_within f x q ≡ false → has_point_on q w.selection ≡ false =
      λ q points outside. off_outside f x q w.selection points outside in
      let p_outside : is_within f x p ≡ false = is_within-parent f x p s.in_order s.up in
      let list_outside : is_within f x list ≡ false =
      is_within-up f x list holder s.in_order list_up list_not_x ∙ is_within-up f x holder p s.in_order s.holder_up s.apart ∙ p_outside in (
        sym (ap (λ (z : Working). z.forest) stays) ∙ same,
        λ points.
            let first : v.selection ≡ w.selection = s.stays (off p points p_outside) (off list points list_outside) in
            let last : y.selection ≡ v.selection =
            comes (ap (has_point_on list) first ∙ off list points list_outside) (ap (has_point_on p) first ∙ off p points p_outside) in
            (first, sym (ap (λ (z : Working). z.selection) stays) ∙ last ∙ first),
      )

-- ---- after a nesting item

back_behind : (x list p holder : ℕ) (w v u : Working) (s : WentIn x list p holder w v) → s.place ≡ None → previous_in (children_of w.forest p) x ≡ Some holder
    → outdented x v ≡ Ok u → (u.forest ≡ w.forest) × PointsStay x w v u
unfolding out_of moved_out
back_behind x list p holder w v u s at previous e =
    let f : Forest = w.forest in
    let g : Forest = v.forest in
    let xs : List ℕ = children_of f p in
    let there : children_of g list ≡ children_of f list ++ (x ∷ []) =
    list_holds x list p holder w v s ∙ ap (λ o. names_with o (x ∷ []) (children_of f list)) at ∙ names_with-end x (children_of f list) in
    let gone : is_among x (children_of f list) ≡ false = absent x list p holder w v s in
    let later : is_named (first_child g list) x ≡ false = ap (λ ks. is_named (first_of ks) x) there ∙ not_first x (children_of f list) s.some gone in
    let last : next_of g x ≡ None =
    ap (λ o. next_in (children_below g o) x) (x_in x list p holder w v s) ∙ ap (λ ks. next_in ks x) there ∙ last_behind x (children_of f list) gone in
    let a = first_part (moved_behind holder x v) (gone_if_empty list) u (rw (later, last) at (out x list p holder w v s u e)) in
    let moved = was_moved_behind holder x p v a.0 (g_order x list p holder w v s) (holder_still x list p holder w v s) s.apart a.1 in
    let place : next_in (names_without x (children_of g p)) holder ≡ next_in xs x =
    ap (λ ks. next_in ks holder)
    (sym (children_of-take_out x g p (g_order x list p holder w v s))
    ∙ ap (λ z. children_of z p) (take-moved f g list x s.place s.in_order s.went) ∙ children_of-take_out x f p s.in_order)
    ∙ next_in-names_without x holder xs (NoRepeats-children_of f p s.in_order) (different holder x s.apart)
    ∙ ap (λ o. cond (is_named o holder) (next_in xs x) (next_in xs holder)) previous
    ∙ ap (λ b. cond b (next_in xs x) (next_in xs holder)) (own holder) in
    came_back x list p holder w v s a.0 u (subst (λ o. WasMoved g a.0.forest p x o) place moved) a.2
    (moved_behind_stays holder x list p v a.0 (g_order x list p holder w v s) (holder_still x list p holder w v s) s.apart a.1 (x_in x list p holder w v s))

-- ---- before one

back_ahead : (x list p holder : ℕ) (w v u : Working) (s : WentIn x list p holder w v) → s.place ≡ first_of (children_of w.forest list)
    → next_in (children_of w.forest p) x ≡ Some holder → outdented x v ≡ Ok u → (u.forest ≡ w.forest) × PointsStay x w v u
unfolding out_of moved_out
back_ahead x list p holder w v u s at next e =
    let f : Forest = w.forest in
    let g : Forest = v.forest in
    let there : children_of g list ≡ x ∷ children_of f list =
    list_holds x list p holder w v s ∙ ap (λ o. names_with o (x ∷ []) (children_of f list)) at ∙ at_front x (children_of f list) in
    let x_first : is_named (first_child g list) x ≡ true = ap (λ ks. is_named (first_of ks) x) there ∙ own x in
    let list_first : is_named (first_child g holder) list ≡ true = ap (λ o. is_named o list) (first_still x list p holder w v s) ∙ own list in
    let a = first_part (moved_before holder x v) (gone_if_empty list) u (rw (x_first, list_first) at (out x list p holder w v s u e)) in
    let moved = was_moved_before holder x p v a.0 (g_order x list p holder w v s) (holder_still x list p holder w v s) s.apart a.1 in
    came_back x list p holder w v s a.0 u (subst (λ o. WasMoved g a.0.forest p x o) (sym next) moved) a.2
    (moved_before_stays holder x list p v a.0 (g_order x list p holder w v s) (holder_still x list p holder w v s) s.apart a.1 (x_in x list p holder w v s))

-- ---- the laws

-- a neighbour has a parent, and so has the item
neighbour_up : (f : Forest) (x holder : ℕ) (side : List ℕ → ℕ → Option ℕ) → side [] x ≡ None → side (children_below f (parent_of f x)) x ≡ Some holder
    → (p : ℕ) × (parent_of f x ≡ Some p) × (side (children_of f p) x ≡ Some holder)
neighbour_up f x holder side none e =
    elim (cases_option (parent_of f x)) [
      | inl top ↦ absurd (let no : None ≡ Some holder = sym none ∙ sym (ap (λ o. side (children_below f o) x) top) ∙ e in cc)
      | inr (p, up) ↦ (p, up, sym (ap (λ o. side (children_below f o) x) up) ∙ e)
    ]

pub deeper_by : (x : ℕ) (w v : Working) (before behind : Option ℕ) → is_at is_item w.forest x ≡ true → indented x w ≡ Ok v
    → nested_before w.forest x ≡ before → nested_behind w.forest x ≡ behind → nested_by before behind x w ≡ Ok v
unfolding indented
deeper_by x w v before behind item e is_before is_behind = rw (item, is_before, is_behind) at e

-- a nesting item is beside x, on a side of it
record HasBeside (x list : ℕ) (side : List ℕ → ℕ → Option ℕ) (f : Forest) : Type 0 where
  pub holder : ℕ
  pub p : ℕ
  pub up : parent_of f x ≡ Some p
  pub at : side (children_of f p) x ≡ Some holder
  pub first : first_child f holder ≡ Some list
  pub holder_up : parent_of f holder ≡ Some p
  pub holder_item : is_at is_item f holder ≡ true

beside : (x list : ℕ) (w v u : Working) (side : List ℕ → ℕ → Option ℕ) → GoesAndComes x w v u → side [] x ≡ None
    → ((holder p : ℕ) → parent_of w.forest x ≡ Some p → side (children_below w.forest (parent_of w.forest x)) x ≡ Some holder → parent_of w.forest holder ≡ Some p)
    → nested_in w.forest (side (children_below w.forest (parent_of w.forest x)) x) ≡ Some list → HasBeside x list side w.forest
beside x list w v u side s none up_too nested =
    let f : Forest = w.forest in
    let nest = nests f (side (children_below f (parent_of f x)) x) list nested in
    let at = neighbour_up f x nest.holder side none nest.is in
    let holder_up : parent_of f nest.holder ≡ Some at.0 = up_too nest.holder at.0 at.1 nest.is in
    let is_up : is_at is_list f at.0 ≡ true = list_above f x at.0 s.held s.item at.1 in
    record {
      holder = nest.holder;
      p = at.0;
      up = at.1;
      at = at.2;
      first = nest.first;
      holder_up = holder_up;
      holder_item = item_below f at.0 nest.holder s.held is_up holder_up;
    }

abbrev went_in : (x list : ℕ) (w v u : Working) (side : List ℕ → ℕ → Option ℕ) → GoesAndComes x w v u → (b : HasBeside x list side w.forest) → b.holder ≢ x
    → children_of w.forest list ≢ [] → (place : Option ℕ) → WasMoved w.forest v.forest list x place
    → (has_point_on b.p w.selection ≡ false → has_point_on list w.selection ≡ false → v.selection ≡ w.selection) → WentIn x list b.p b.holder w v
went_in x list w v u side s b apart some place went stays = record {
  in_order = s.ready.in_order;
  item = s.item;
  holder_item = b.holder_item;
  up = b.up;
  holder_up = b.holder_up;
  apart = apart;
  first = b.first;
  some = some;
  place = place;
  went = went;
  stays = stays;
}

pub behind_and_back : (x list : ℕ) (w v u : Working) → GoesAndComes x w v u → nested_before w.forest x ≡ Some list → nested_behind w.forest x ≡ None
    → children_of w.forest list ≢ [] → (u.forest ≡ w.forest) × PointsStay x w v u
behind_and_back x list w v u s before behind some =
    let f : Forest = w.forest in
    let b : HasBeside x list previous_in f =
    beside x list w v u previous_in s refl (λ holder p up is. parent_of-previous f x holder p s.ready.in_order up is) before in
    let step : moved_to_end list x w ≡ Ok v = deeper_by x w v (Some list) None s.item s.deeper before behind in
    let went : WentIn x list b.p b.holder w v =
    went_in x list w v u previous_in s b (λ e. before_itself None x (children_of f b.p) refl (b.at ∙ ap Some e)) some None
    (was_moved_to_end list x w v step) (to_end_stays list x b.p w v step b.up) in
    back_behind x list b.p b.holder w v u went refl b.at s.up

pub ahead_and_back : (x list : ℕ) (w v u : Working) → GoesAndComes x w v u → nested_before w.forest x ≡ None → nested_behind w.forest x ≡ Some list
    → children_of w.forest list ≢ [] → (u.forest ≡ w.forest) × PointsStay x w v u
ahead_and_back x list w v u s before behind some =
    let f : Forest = w.forest in
    let b : HasBeside x list next_in f =
    beside x list w v u next_in s refl (λ holder p up is. parent_of-next f x holder p s.ready.in_order up is) behind in
    let step : moved_to_front list x w ≡ Ok v = deeper_by x w v None (Some list) s.item s.deeper before behind in
    let went : WentIn x list b.p b.holder w v =
    went_in x list w v u next_in s b (λ e. next_apart (children_of f b.p) x b.holder (NoRepeats-children_of f b.p s.ready.in_order) b.at (sym e)) some
    (first_of (names_without x (children_of f list))) (was_moved_to_front list x w v s.ready.in_order step) (to_front_stays list x b.p w v step b.up) in
    back_ahead x list b.p b.holder w v u went (ap first_of (names_without-absent_list x (children_of f list) (absent x list b.p b.holder w v went))) b.at s.up
