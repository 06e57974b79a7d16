-- An item goes a level deeper between two nesting items: the second one's list goes to the first one's, and it is removed.
use Rattle.std.proofs.Common.{◌≡◌, ◌≢◌, ◌∙◌, ℕ, ◌⊎◌, Bool, true, false, cond, eqb, [], ◌∷◌, Option, None, Some, Ok, refl, sym, ap, subst, arith, inl, inr}
use Rattle.std.specs.Prelude.{is_some, option_map}
use Rattle.std.specs.Option.{option_or}
use Rattle.std.proofs.lemmas.Bool.{cases_Bool}
use Rattle.std.proofs.lemmas.Bool.Decides.{eqb_tells}
use Rattle.lx_trees.specs.Siblings.{is_among, is_named, first_of}
use Rattle.lx_trees.proofs.Siblings.{first_of-among, names_without-absent_list}
use Rattle.lx_node.specs.Kinds.{is_element, is_item, is_list}
use Rattle.lx_node.specs.declared.kind.Kind.{Kind}
use Rattle.lx_node.specs.declared.cause.Cause.{Cause}
use Rattle.lx_select.specs.Selection.{ends_of}
use Rattle.lx_forest.specs.Forest.{Forest, Label}
use Rattle.lx_forest.specs.Lookups.{has, kind_of, parent_of, children_of, first_child, size_of, ancestors, is_within, is_attached, IsForest}
use Rattle.lx_forest.specs.Edits.{take_out}
use Rattle.lx_forest.proofs.Lookups.{has-child}
use Rattle.lx_forest.proofs.Within.{is_within-self, is_within-up, is_within-parent, is_within-leaf}
use Rattle.lx_links.specs.Faults.{unknown}
use Rattle.lx_draft.specs.Working.{Working}
use Rattle.lx_draft.specs.Selecting.{unlike}
use Rattle.lx_draft.specs.Steps.{take_step}
use Rattle.lx_draft.proofs.Gaps.{child_of, parent_here}
use Rattle.lx_draft.proofs.Put.{both_none}
use Rattle.lx_edit.specs.InTurn.{in_turn}
use Rattle.lx_edit.specs.Conditions.{inside, misfit_among, children_fault}
use Rattle.lx_edit.specs.Edits.{moved_to_end, brought, children_moved, children_step, sent_away, remove_step}
use Rattle.lx_edit.proofs.Climbed.{first_part, taken-forest, sent_away-forest}
use Rattle.lx_edit_laws.proofs.WrapSteps.{was_allowed, was_same}
use Rattle.lx_edit_laws.proofs.WrapTold.{went_all}
use Rattle.lx_edit_laws.proofs.WrapTrees.{not_child, WasMoved, IsForest-moved, label_of-moved, parent_of-moved, children_of-moved}
use Rattle.lx_edit_laws.proofs.WrapTurns.{WentOver, left_alone}
use Rattle.lx_blocks.specs.Blocks.{passes, is_at}
use Rattle.lx_caret.proofs.Fit.{each_still, Fit}
use Rattle.lx_caret.proofs.Removes.{IsClear, remove_fits}
use Rattle.lx_list.specs.Nesting.{if_list, is_nesting}
use Rattle.lx_list.proofs.Emptied.{children_gone}
use Rattle.lx_list_laws.specs.Staying.{is_behind_list}
use Rattle.lx_list_laws.proofs.ReadDissolved.{within_below}
use Rattle.lx_list_laws.proofs.ReadEdits.{so_at}
use Rattle.lx_list_laws.proofs.StayAhead.{Outside, behind_is, none_in_list, GoUnder, outside_under, level_beside, outside_taken}
use Rattle.lx_list_laws.proofs.StayKeys.{EachKey, each_same, same_take, same_each, keys_brought}
use Rattle.lx_list_laws.proofs.StayUnder.{rise, list_no_item, Sends, keys_sent}

-- a draft on which a command goes on, and no point of which is in what comes after the list with which an item begins
pub record Ahead (w : Working) : Type 0 where
  pub fit : Fit w
  pub places : EachKey (Outside w.forest) w

-- lists aren't items
pub apart_kinds : (f : Forest) (list item : ℕ) → is_at is_list f list ≡ true → is_at is_item f item ≡ true → list ≢ item
apart_kinds f list item is other same =
    absurd (grind (arith, other, sym (ap (is_at is_item f) same) ∙ so_at is_list is_item false list_no_item f list is))

-- ---- an item that goes below a list

pub moved_under : (f g : Forest) (x p list : ℕ) (before : Option ℕ) → IsForest f → WasMoved f g list x before → parent_of f x ≡ Some p
    → is_at is_list f p ≡ true → is_at is_list f list ≡ true
    → ((k : ℕ) → is_behind_list f k ≡ true → is_within f k list ≡ true → is_within f k p ≡ true)
    → GoUnder f g p list (x ∷ [])
moved_under f g x p list before h m up is_p is_list level = record {
  before = h;
  behind = IsForest-moved f g list x before h m;
  kinds = λ q. ap (option_map (λ (l : Label). l.kind)) (label_of-moved f g list x before h m q);
  up = λ q. grind (arith, parent_of-moved f g list x before h m q, eqb_tells q x, eqb_tells x q);
  came = λ q among. let same : x ≡ q = grind (arith, among, eqb_tells x q) in ap (parent_of f) (sym same) ∙ up;
  items = λ i item.
      let other : eqb i list ≡ false = grind (arith, apart_kinds f list i is_list item, eqb_tells i list) in
      let kept = names_without-absent_list x (children_of f i) (not_child f x p i h up (apart_kinds f p i is_p item)) in
      grind (arith, children_of-moved f g list x before h m i, other, kept);
  level = level;
}

-- ---- two items in one list, each of which begins with a list

pub record AreNesting (f : Forest) (p one list two further : ℕ) : Type 0 where
  pub is : is_at is_list f p ≡ true
  pub one_up : parent_of f one ≡ Some p
  pub two_up : parent_of f two ≡ Some p
  pub first : first_child f one ≡ Some list
  pub second : first_child f two ≡ Some further
  pub list_is : is_at is_list f list ≡ true
  pub further_is : is_at is_list f further ≡ true
  pub item_is : is_at is_item f two ≡ true

-- what children_step asks
not_inside : (f : Forest) (from to : ℕ) (b : Bool) → is_within f from to ≡ b → inside f from to ≡ None → is_within f from to ≡ false
not_inside f from to false is none = is
not_inside f from to true is none = absurd (grind (arith, is, none))

two_lists : (f : Forest) (from to : ℕ) → has to f ≡ true → children_fault from to f ≡ None → from ≢ to
two_lists f from to there none same =
    let five : Option Cause = misfit_among f (kind_of f to) (children_of f from) in
    let four : Option Cause = option_or (inside f from to) five in
    let three : Option Cause = option_or (unlike is_element (kind_of f to)) four in
    let two : Option Cause = option_or (unlike is_element (kind_of f from)) three in
    let one = both_none (unknown f from) (option_or (unknown f to) two) none in
    let second = both_none (unknown f to) two one.1 in
    let third = both_none (unlike is_element (kind_of f from)) three second.1 in
    let fourth = both_none (unlike is_element (kind_of f to)) four third.1 in
    let out = not_inside f from to (is_within f from to) refl (both_none (inside f from to) five fourth.1).0 in
    absurd (grind (arith, out, ap (λ k. is_within f k to) same ∙ is_within-self f to, there))

-- in a node's tree is the node, or what is in a child's tree
pub below : (f : Forest) (k q : ℕ) → IsForest f → is_within f k q ≡ true → q ≢ k → (c : ℕ) × (parent_of f c ≡ Some k) × (is_within f c q ≡ true)
below f k q h inside other = elim (rise f k h Here (inl refl) step (ancestors f q) q refl inside) [
  | inl same ↦ absurd (other same)
  | inr found ↦ found
] where
  Here : ℕ → Type 0
  Here x = (x ≡ k) ⊎ ((c : ℕ) × (parent_of f c ≡ Some k) × (is_within f c x ≡ true))

  step : (x b : ℕ) → parent_of f x ≡ Some b → is_within f k b ≡ true → Here b → Here x
  step x b up higher so = elim so [
    | inl same ↦ inr (x, up ∙ ap (λ n. Some n) same, is_within-self f x ∙ has-child f x b up)
    | inr found ↦ inr (found.0, found.1, within_below f found.0 x b h up found.2)
  ]

-- what giving children to another node does
pub record IsGiven (from to : ℕ) (u y : Working) : Type 0 where
  pub fault : children_fault from to u.forest ≡ None
  pub mid : Working
  pub moved : in_turn (moved_to_end to) (children_of u.forest from) u ≡ Ok mid
  pub is : brought from to (size_of u.forest to) (ends_of u.selection) mid ≡ y

pub given : (from to : ℕ) (u y : Working) → children_step from to u ≡ Ok y → IsGiven from to u y
unfolding children_step
given from to u y e =
    let allowed = was_allowed (children_fault from to u.forest) u y (children_moved from to) e in
    let after_it : Working → Working = λ v. brought from to (size_of u.forest to) (ends_of u.selection) v in
    let a = first_part (in_turn (moved_to_end to) (children_of u.forest from) u) (λ v. Ok (after_it v)) y allowed.1 in
    record { fault = allowed.0; mid = a.0; moved = a.1; is = was_same (after_it a.0) y a.2 }

-- ---- the second one's items go to the first one's list

module _ (u y : Working) (p one list two further : ℕ) (r : Ahead u) (n : AreNesting u.forest p one list two further)
    (place : is_attached u.forest list ≡ true) (e : children_step further list u ≡ Ok y) where
  abbrev g : Forest
  g = u.forest

  h : IsForest g
  h = r.fit.ready.in_order

  list_up : parent_of g list ≡ Some one
  list_up = parent_here g one list h (first_of-among (children_of g one) list n.first)

  further_up : parent_of g further ≡ Some two
  further_up = parent_here g two further h (first_of-among (children_of g two) further n.second)

  taken_all : IsGiven further list u y
  taken_all = given further list u y e

  apart : further ≢ list
  apart = two_lists g further list (has-child g list one list_up) taken_all.fault

  over : WentOver g y.forest further list (children_of g further)
  over = (went_all further list u y h apart e).over

  kinds : (test : Kind → Bool) (q : ℕ) → is_at test y.forest q ≡ is_at test g q
  kinds test q = ap (λ o. passes test (option_map (λ (l : Label). l.kind) o)) (over.label q)

  items_kept : (i : ℕ) → is_at is_item g i ≡ true → children_of y.forest i ≡ children_of g i
  items_kept i item = over.others i (λ same. apart_kinds g further i n.further_is item (sym same)) (λ same. apart_kinds g list i n.list_is item (sym same))

  level : (k : ℕ) → is_behind_list g k ≡ true → is_within g k list ≡ true → is_within g k further ≡ true
  level k b inside =
      let above : is_within g k p ≡ true = level_beside g one p list h n.one_up n.is n.first k b inside in
      let other : two ≢ k = λ same. absurd (grind (arith, b, ap (is_behind_list g) (sym same) ∙ none_in_list g two p n.two_up n.is)) in
      within_below g k further two h further_up (is_within-up g k two p h n.two_up other ∙ above)

  went : GoUnder g y.forest further list (children_of g further)
  went = record {
    before = h;
    behind = over.in_order;
    kinds = λ q. ap (option_map (λ (l : Label). l.kind)) (over.label q);
    up = over.up;
    came = λ q among. parent_here g further q h among;
    items = items_kept;
    level = level;
  }

  -- points on the second list go to the first one
  keys_given : EachKey (λ q. Outside y.forest q × (q ≢ further)) y
  keys_given =
      subst (EachKey (λ q. Outside y.forest q × (q ≢ further))) taken_all.is
      (keys_brought (Outside g) (λ q. Outside y.forest q × (q ≢ further)) further list (size_of g list) u.selection taken_all.mid.selection
      (λ out. (
        outside_under g y.forest further list (children_of g further) went list (list_outside out),
        λ same. apart (sym same),
      ))
      (λ q other out. (outside_under g y.forest further list (children_of g further) went q out, other))
      (same_each list (children_of g further) u taken_all.mid taken_all.moved) r.places) where
        list_outside : Outside g further → Outside g list
        list_outside out k b = elim (cases_Bool (is_within g k list)) [
          | inl is ↦ absurd (grind (arith, out k b, level k b is))
          | inr is ↦ is
        ]

  -- so none is below the second item
  fit_given : Fit y
  fit_given = (children_gone further list u y r.fit place e).stays.fit

  two_holds : children_of y.forest two ≡ children_of g two
  two_holds = items_kept two n.item_is

  nests_two : is_nesting y.forest two ≡ true
  nests_two = ap (λ o. is_some (if_list y.forest o)) (ap first_of two_holds ∙ n.second) ∙ grind (arith, kinds is_list further, n.further_is)

  clear_at : (q : ℕ) → Outside y.forest q × (q ≢ further) → is_within y.forest two q ≡ true → q ≡ two
  clear_at q so inside = elim (eqb_tells q two) [
    | inl same ↦ same.1
    | inr other ↦
        let found = below y.forest two q over.in_order inside other.1 in
        let c : ℕ = found.0 in
        elim (eqb_tells c further) [
          | inl same ↦
              let empty : children_of y.forest further ≡ [] = (children_gone further list u y r.fit place e).none in
              let leaf = is_within-leaf y.forest further q over.in_order empty in
              let in_it : is_within y.forest further q ≡ true = ap (λ k. is_within y.forest k q) (sym same.1) ∙ found.2 in
              absurd (so.1 (grind (arith, leaf, in_it, eqb_tells q further)))
          | inr away ↦
              let named : is_named (first_child y.forest two) c ≡ false =
              ap (λ o. is_named o c) (ap first_of two_holds ∙ n.second) ∙ grind (arith, away.0, eqb_tells further c) in
              let b : is_behind_list y.forest c ≡ true = behind_is y.forest c two found.1 (kinds is_item two ∙ n.item_is) nests_two named in
              absurd (grind (arith, so.0 c b, found.2))
        ]
  ]

  clear : IsClear two y
  clear =
      each_still (λ x. Outside y.forest x.key × (x.key ≢ further)) (λ x. is_within y.forest two x.key ≡ true → x.key ≡ two) y.selection
      (λ x so inside. clear_at x.key so inside) keys_given

  -- ---- and the second item is removed

  stays_up : (q : ℕ) → parent_of g q ≡ Some p → parent_of y.forest q ≡ Some p
  stays_up q up = elim (cases_Bool (is_among q (children_of g further))) [
    | inl among ↦
        let same : p ≡ further = grind (arith, up, parent_here g further q h among) in
        let out : is_within g further two ≡ false = is_within-parent g further two h further_up in
        let other : two ≢ further = λ e. apart_kinds g further two n.further_is n.item_is (sym e) in
        let own : is_within g further p ≡ true = ap (is_within g further) same ∙ is_within-self g further ∙ has-child g further two further_up in
        absurd (grind (arith, out, is_within-up g further two p h n.two_up other, own))
    | inr away ↦ over.up q ∙ ap (λ b. cond b (Some list) (parent_of g q)) away ∙ up
  ]

  others : one ≢ two
  others same =
      let both : Some list ≡ Some further = sym n.first ∙ ap (first_child g) same ∙ n.second in
      let is : list ≡ further = cc in absurd (apart (sym is))

  pub ahead_removed : (v : Working) → remove_step two y ≡ Ok v → Ahead v
  ahead_removed v rest =
      let f : Forest = y.forest in
      let up : parent_of f two ≡ Some p = stays_up two n.two_up in
      let is_p : is_at is_list f p ≡ true = kinds is_list p ∙ n.is in
      let alone : take_step two (sent_away two y) ≡ Ok v =
      left_alone two p one y v over.in_order up (child_of f p one over.in_order (stays_up one n.one_up)) others rest in
      let P : ℕ → Type 0 = Outside (take_out two f) in
      let taken : (q : ℕ) → Outside f q → P q = outside_taken f two p over.in_order up is_p in
      let above : Outside f two → Outside f p = λ out k b.
      let other : two ≢ k = λ same. absurd (grind (arith, b, ap (is_behind_list f) (sym same) ∙ none_in_list f two p up is_p)) in
      sym (is_within-up f k two p over.in_order up other) ∙ out k b in
      let next : Outside f p → (s : ℕ) → parent_of f s ≡ Some p → Outside f s = λ out s s_up k b.
      let other : s ≢ k = λ same. absurd (grind (arith, b, ap (is_behind_list f) (sym same) ∙ none_in_list f s p s_up is_p)) in
      is_within-up f k s p over.in_order s_up other ∙ out k b in
      let sent : EachKey P (sent_away two y) =
      keys_sent P two p y over.in_order up
      (each_still (λ x. Outside f x.key × (x.key ≢ further)) (λ x. Sends P f two p x.key) y.selection (λ x so. record {
        here = λ same.
            let at : Outside f p = above (subst (Outside f) same so.0) in
            (taken p at, λ s s_up. taken s (next at s s_up));
        away = λ other. taken x.key so.0;
      }) keys_given) in
      let same : take_out two f ≡ v.forest = sym (taken-forest two (sent_away two y) v alone ∙ ap (take_out two) (sent_away-forest two y)) in
      record {
        fit = remove_fits two y v fit_given clear rest;
        places = subst (λ (x : Forest). EachKey (Outside x) v) same (each_same P (sent_away two y) v (same_take two (sent_away two y) v alone) sent);
      }
