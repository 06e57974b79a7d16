-- Lines that go a level deeper leave each point of a range in the tree, where none is in what comes after the list with which
-- an item begins.
use Rattle.std.proofs.Common.{◌≡◌, ◌≢◌, ◌∙◌, ℕ, Bool, true, false, cond, eqb, List, [], ◌∷◌, Option, None, Some, Ok, refl, sym, ap, subst, arith, inl, inr}
use Rattle.std.specs.Option.{option_or}
use Rattle.std.proofs.lemmas.Bool.Decides.{eqb_tells}
use Rattle.lx_trees.specs.Siblings.{first_of, previous_in, next_in}
use Rattle.lx_trees.proofs.Siblings.{first_of-among}
use Rattle.lx_node.specs.Kinds.{may_hold, is_item, is_list}
use Rattle.lx_node.specs.Strings.{characters_of}
use Rattle.lx_node.specs.declared.fields.Fields.{Fields}
use Rattle.lx_node.specs.declared.fields.Fields.TheVariants as fields
use Rattle.lx_node.specs.declared.fields.ElementFields.{ElementFields}
use Rattle.lx_node.specs.declared.cause.Point.{Point}
use Rattle.lx_text.specs.Texts.{within}
use Rattle.lx_select.specs.Rules.{set_moves}
use Rattle.lx_forest.specs.Forest.{Forest}
use Rattle.lx_forest.specs.Lookups.{kind_of, fields_of, parent_of, children_of, children_below, first_child, previous_of, next_of, is_attached, IsForest, IsHeld}
use Rattle.lx_forest.specs.Edits.{with_fields}
use Rattle.lx_forest.proofs.Lookups.{kind_of-with_fields, parent_of-with_fields, children_of-with_fields, NoRepeats-children_of}
use Rattle.lx_forest.proofs.Siblings.{parent_of-next, parent_of-previous}
use Rattle.lx_forest.proofs.Walks.{cases_option, is_attached-up}
use Rattle.lx_links.specs.Faults.{set_fault}
use Rattle.lx_draft.specs.Working.{Working}
use Rattle.lx_draft.specs.Faults.{over_limits}
use Rattle.lx_draft.specs.Steps.{fields_written, set_points, set_step, take_step, put_step}
use Rattle.lx_draft.proofs.Covered.{answered}
use Rattle.lx_draft.proofs.Gaps.{parent_here}
use Rattle.lx_edit.specs.Edits.{moved_to_end, remove_step, children_step}
use Rattle.lx_edit.proofs.Climbed.{first_part}
use Rattle.lx_edit_laws.proofs.JoinSteps.{next_apart}
use Rattle.lx_edit_laws.proofs.WrapSteps.{was_moved_to_end, was_same}
use Rattle.lx_edit_laws.proofs.WrapTrees.{WasMoved}
use Rattle.lx_blocks.specs.Blocks.{passes, is_at}
use Rattle.lx_caret.proofs.Fit.{each_still, Fit}
use Rattle.lx_caret.proofs.Moves.{stays_placed, stays_moved}
use Rattle.lx_list.specs.Making.{element_fields_changed, set_changed, change_step}
use Rattle.lx_list.specs.Nesting.{if_list, nested_in}
use Rattle.lx_list.specs.Indenting.{taken_from, moved_between, moved_to_front}
use Rattle.lx_list.proofs.Above.{list_above}
use Rattle.lx_list.proofs.Itemless.{item_below}
use Rattle.lx_list.proofs.Written.{stays_change}
use Rattle.lx_list_laws.proofs.LevelBeside.{before_itself}
use Rattle.lx_list_laws.proofs.LevelSteps.{was_moved_to_front}
use Rattle.lx_list_laws.proofs.ReadSound.{set_forest}
use Rattle.lx_list_laws.proofs.StayAhead.{Outside, GoUnder, outside_under, level_beside}
use Rattle.lx_list_laws.proofs.StayBetween.{Ahead, apart_kinds, moved_under, AreNesting, ahead_removed}
use Rattle.lx_list_laws.proofs.StayKeys.{keys_of, each_same, same_moved, same_take, same_put, same_to_end}

-- ---- fields alone

set_key : (k : ℕ) (text : List ℕ) (x : Point) → (set_moves k text x).key ≡ x.key
unfolding set_moves
set_key k text x = by_test (eqb x.key k) where
  by_test : (b : Bool) → (cond b (record x { offset = within text x.offset }) x).key ≡ x.key
  by_test true = refl
  by_test false = refl

same_set : (k : ℕ) (x : Fields) (w v : Working) → set_step k x w ≡ Ok v → keys_of v.selection ≡ keys_of w.selection
unfolding set_step
same_set k x w v e =
    let told = answered (option_or (set_fault k x w.forest) (over_limits (characters_of x) w)) (fields_written k x (characters_of x) (set_points k x) w) v e in
    ap (λ (u : Working). keys_of u.selection) (sym told.1) ∙ by_fields x where
      by_fields : (y : Fields) → keys_of (set_points k y w.selection) ≡ keys_of w.selection
      by_fields (fields.Text text) = same_moved (set_moves k text.text) w.selection (set_key k text.text)
      by_fields other = refl

-- where the nodes are as they were, so is what comes after a list
written_outside : (f g : Forest) (k : ℕ) (x : Fields) → IsForest f → IsForest g → g ≡ with_fields k x f → (q : ℕ) → Outside f q → Outside g q
written_outside f g k x h order is =
    outside_under f g 0 0 [] (record {
      before = h;
      behind = order;
      kinds = λ q. ap (λ z. kind_of z q) is ∙ kind_of-with_fields k x f q;
      up = λ q. ap (λ z. parent_of z q) is ∙ parent_of-with_fields k x f q;
      came = λ q among. absurd (cc);
      items = λ i item. ap (λ z. children_of z i) is ∙ children_of-with_fields k x f i;
      level = λ c behind inside. inside;
    })

set_ahead : (k : ℕ) (x : Fields) (w v : Working) → Ahead w → Fit v → set_step k x w ≡ Ok v → Ahead v
set_ahead k x w v r fit e = record {
  fit = fit;
  places = each_still (λ p. Outside w.forest p.key) (λ p. Outside v.forest p.key) v.selection
      (λ p out. written_outside w.forest v.forest k x r.fit.ready.in_order fit.ready.in_order (set_forest k x w v e) p.key out)
      (each_same (Outside w.forest) w v (same_set k x w v e) r.places);
}

changed_by : (change : ElementFields → ElementFields) (k : ℕ) (o : Option Fields) (w v : Working) → Ahead w → Fit v → set_changed change k o w ≡ Ok v → Ahead v
changed_by change k None w v r fit e = subst Ahead (was_same w v e) r
changed_by change k (Some x) w v r fit e = set_ahead k (element_fields_changed change x) w v r fit e

pub changed_ahead : (change : ElementFields → ElementFields) (k : ℕ) (w v : Working) → Ahead w → change_step change k w ≡ Ok v → Ahead v
unfolding change_step
changed_ahead change k w v r e = changed_by change k (fields_of w.forest k) w v r (stays_change change k w v r.fit e).fit e

-- ---- a nesting item beside the item

-- a node that begins with a list
record Nesting (f : Forest) (o : Option ℕ) (list : ℕ) : Type 0 where
  holder : ℕ
  is : o ≡ Some holder
  first : first_child f holder ≡ Some list
  is_list : is_at is_list f list ≡ true

nesting : (f : Forest) (o : Option ℕ) (list : ℕ) → nested_in f o ≡ Some list → Nesting f o list
nesting f None list e = absurd (cc)
nesting f (Some k) list e = by_first (first_child f k) refl e where
  by_first : (c : Option ℕ) → first_child f k ≡ c → if_list f c ≡ Some list → Nesting f (Some k) list
  by_first None is e = absurd (cc)
  by_first (Some c) is e = by_test (is_at is_list f c) refl e where
    by_test : (b : Bool) → is_at is_list f c ≡ b → cond b (Some c) None ≡ Some list → Nesting f (Some k) list
    by_test true so e =
        let same : c ≡ list = cc in
        record { holder = k; is = refl; first = is ∙ ap (λ n. Some n) same; is_list = ap (is_at is_list f) (sym same) ∙ so }
    by_test false so e = absurd (cc)

-- an item beside x, in its list
pub record HasNear (f : Forest) (x list : ℕ) : Type 0 where
  p : ℕ
  up : parent_of f x ≡ Some p
  is : is_at is_list f p ≡ true
  holder : ℕ
  holder_up : parent_of f holder ≡ Some p
  other : x ≢ holder
  first : first_child f holder ≡ Some list
  is_list : is_at is_list f list ≡ true

near_by : (f : Forest) (x list : ℕ) (side : Option ℕ) → IsHeld may_hold f → is_at is_item f x ≡ true
    → ((s p : ℕ) → parent_of f x ≡ Some p → side ≡ Some s → (parent_of f s ≡ Some p) × (x ≢ s)) → (parent_of f x ≡ None → side ≡ None)
    → nested_in f side ≡ Some list → HasNear f x list
near_by f x list side held item beside none e =
    let nest = nesting f side list e in
    elim (cases_option (parent_of f x)) [
      | inl top ↦ let bad : None ≡ Some nest.holder = sym (none top) ∙ nest.is in absurd (cc)
      | inr (p, up) ↦ record {
        p = p;
        up = up;
        is = list_above f x p held item up;
        holder = nest.holder;
        holder_up = (beside nest.holder p up nest.is).0;
        other = (beside nest.holder p up nest.is).1;
        first = nest.first;
        is_list = nest.is_list;
      }
    ]

pub near_before : (f : Forest) (x list : ℕ) → IsForest f → IsHeld may_hold f → is_at is_item f x ≡ true
    → nested_in f (previous_of f x) ≡ Some list → HasNear f x list
near_before f x list h held item e =
    near_by f x list (previous_of f x) held item (λ s p up is. (
      parent_of-previous f x s p h up is,
      λ same. before_itself None x (children_of f p) refl (sym (ap (λ o. previous_in (children_below f o) x) up) ∙ is ∙ ap (λ n. Some n) (sym same)),
    )) (λ top. grind (arith, top)) e

pub near_behind : (f : Forest) (x list : ℕ) → IsForest f → IsHeld may_hold f → is_at is_item f x ≡ true
    → nested_in f (next_of f x) ≡ Some list → HasNear f x list
near_behind f x list h held item e =
    near_by f x list (next_of f x) held item (λ s p up is. (
      parent_of-next f x s p h up is,
      next_apart (children_of f p) x s (NoRepeats-children_of f p h) (sym (ap (λ o. next_in (children_below f o) x) up) ∙ is),
    )) (λ top. grind (arith, top)) e

module _ (f : Forest) (x list : ℕ) (h : IsForest f) (n : HasNear f x list) where
  near_list_up : parent_of f list ≡ Some n.holder
  near_list_up = parent_here f n.holder list h (first_of-among (children_of f n.holder) list n.first)

  near_attached : is_attached f x ≡ true → is_attached f list ≡ true
  near_attached there =
      is_attached-up f list n.holder h near_list_up ∙ is_attached-up f n.holder n.p h n.holder_up ∙ sym (is_attached-up f x n.p h n.up) ∙ there

  near_under : (g : Forest) (before : Option ℕ) → WasMoved f g list x before → GoUnder f g n.p list (x ∷ [])
  near_under g before m = moved_under f g x n.p list before h m n.up n.is n.is_list (level_beside f n.holder n.p list h n.holder_up n.is n.first)

-- x went into the list, and points on their nodes
moved_ahead : (x list : ℕ) (w v : Working) (before : Option ℕ) → Ahead w → HasNear w.forest x list → WasMoved w.forest v.forest list x before → Fit v
    → keys_of v.selection ≡ keys_of w.selection
    → Ahead v
moved_ahead x list w v before r n m fit same = record {
  fit = fit;
  places = each_still (λ p. Outside w.forest p.key) (λ p. Outside v.forest p.key) v.selection
      (λ p out. outside_under w.forest v.forest n.p list (x ∷ []) (near_under w.forest x list r.fit.ready.in_order n v.forest before m) p.key out)
      (each_same (Outside w.forest) w v same r.places);
}

pub to_end_ahead : (x list : ℕ) (w v : Working) → Ahead w → is_attached w.forest x ≡ true → HasNear w.forest x list → moved_to_end list x w ≡ Ok v → Ahead v
to_end_ahead x list w v r there n e =
    moved_ahead x list w v None r n (was_moved_to_end list x w v e)
    (stays_moved list x w v r.fit (near_attached w.forest x list r.fit.ready.in_order n there) e).fit (same_to_end list x w v e)

pub to_front_ahead : (x list : ℕ) (w v : Working) → Ahead w → is_attached w.forest x ≡ true → HasNear w.forest x list → moved_to_front list x w ≡ Ok v → Ahead v
unfolding moved_to_front
to_front_ahead x list w v r there n e =
    let a = first_part (take_step x w) (put_step x list 0) v e in
    moved_ahead x list w v _ r n (was_moved_to_front list x w v r.fit.ready.in_order e)
    (stays_placed x list 0 w a.0 v r.fit (near_attached w.forest x list r.fit.ready.in_order n there) a.1 a.2).fit
    (same_put x list 0 a.0 v a.2 ∙ same_take x w a.0 a.1)

-- ---- between two of them

pub between_ahead : (x list further : ℕ) (w v : Working) → Ahead w → is_attached w.forest x ≡ true → is_at is_item w.forest x ≡ true → HasNear w.forest x list
    → HasNear w.forest x further
    → moved_between list further x w ≡ Ok v → Ahead v
unfolding moved_between
between_ahead x list further w v r there item n m e =
    let a = first_part (moved_to_end list x w) (λ u. taken_from list further (parent_of u.forest further) u) v e in
    let f : Forest = w.forest in
    let u : Working = a.0 in
    let g : Forest = u.forest in
    let h : IsForest f = r.fit.ready.in_order in
    let moved : Ahead u = to_end_ahead x list w u r there n a.1 in
    let under = near_under f x list h n g None (was_moved_to_end list x w u a.1) in
    let up_still : (q : ℕ) → x ≢ q → parent_of g q ≡ parent_of f q = λ q other. grind (arith, under.up q, other, eqb_tells x q) in
    let not_list : x ≢ further = λ same. apart_kinds f further x m.is_list item (sym same) in
    let further_up : parent_of g further ≡ Some m.holder = up_still further not_list ∙ near_list_up f x further h m in
    let stays = stays_moved list x w u r.fit (near_attached f x list h n there) a.1 in
    let rest : taken_from list further (Some m.holder) u ≡ Ok v = ap (λ o. taken_from list further o u) (sym further_up) ∙ a.2 in
    let b = first_part (children_step further list u) (remove_step m.holder) v rest in
    let same_p : m.p ≡ n.p = (let both : Some m.p ≡ Some n.p = sym m.up ∙ n.up in cc) in
    let two_item : is_at is_item f m.holder ≡ true = item_below f m.p m.holder r.fit.held m.is m.holder_up in
    let one_item : is_at is_item f n.holder ≡ true = item_below f n.p n.holder r.fit.held n.is n.holder_up in
    let kinds : (q : ℕ) → kind_of g q ≡ kind_of f q = under.kinds in
    let nest : AreNesting g n.p n.holder list m.holder further = record {
      is = ap (passes is_list) (kinds n.p) ∙ n.is;
      one_up = up_still n.holder n.other ∙ n.holder_up;
      two_up = up_still m.holder m.other ∙ m.holder_up ∙ ap (λ q. Some q) same_p;
      first = ap first_of (under.items n.holder one_item) ∙ n.first;
      second = ap first_of (under.items m.holder two_item) ∙ m.first;
      list_is = ap (passes is_list) (kinds list) ∙ n.is_list;
      further_is = ap (passes is_list) (kinds further) ∙ m.is_list;
      item_is = ap (passes is_item) (kinds m.holder) ∙ two_item;
    } in
    ahead_removed u b.0 n.p n.holder list m.holder further moved nest (stays.attached list (near_attached f x list h n there)) b.1 v b.2
