-- Some nodes are taken out, one after another, each of which has a sibling that stays.
use Rattle.lx_caret.proofs.Fit.{after_tells}
use Rattle.lx_caret.specs.Removing.{removed_below}
use Rattle.lx_caret_laws.proofs.WentOut.{took_it}
use Rattle.lx_draft.specs.Working.{Working}
use Rattle.lx_edit.specs.Edits.{remove_step, text_point}
use Rattle.lx_edit.specs.InTurn.{in_turn}
use Rattle.lx_edit_laws.proofs.WrapLists.{filter-kept, filter-without}
use Rattle.lx_edit_laws.proofs.WrapSteps.{was_same}
use Rattle.lx_edit_laws.proofs.WrapTurns.{left_alone, removed_alone}
use Rattle.lx_forest.proofs.Lookups.{children_of-take_out, label_of-take_out, parent_of-take_out}
use Rattle.lx_forest.proofs.Order.{IsForest-take_out}
use Rattle.lx_forest.proofs.Within.{is_within-take_out}
use Rattle.lx_forest.specs.Edits.{take_out}
use Rattle.lx_forest.specs.Forest.{Forest}
use Rattle.lx_forest.specs.Lookups.{IsForest, children_of, is_within, label_of, parent_of}
use Rattle.lx_select.specs.declared.selection.Selection.TheVariants.{Range}
use Rattle.lx_trees.proofs.Siblings.{is_among-names_without}
use Rattle.lx_trees.specs.Siblings.{NoRepeats, is_among}
use Rattle.std.proofs.Common.{List, Ok, Some, [], ap, arith, cond, false, not, refl, subst, sym, true, ℕ, ◌∙◌, ◌∷◌, ◌≡◌, ◌≢◌}
use Rattle.std.proofs.lemmas.Bool.Decides.{eqb_tells}
use Rattle.std.specs.Prelude.{filter, is_some}

-- a node has a parent, of which a child stays
pub record Leaves (f : Forest) (ks : List ℕ) (k : ℕ) : Type 0 where
  pub parent : ℕ
  pub up : parent_of f k ≡ Some parent
  pub sibling : ℕ
  pub at : is_among sibling (children_of f parent) ≡ true
  pub stays : is_among sibling ks ≡ false

-- these nodes went, and the others have their order
pub record AllOut (ks : List ℕ) (w v : Working) : Type 0 where
  pub ordered : IsForest v.forest
  pub label : (q : ℕ) → label_of v.forest q ≡ label_of w.forest q
  pub children : (q : ℕ) → children_of v.forest q ≡ filter (λ c. not (is_among c ks)) (children_of w.forest q)
  pub within : (x y : ℕ) → ((k : ℕ) → is_among k ks ≡ true → is_within w.forest k y ≡ false) → is_within v.forest x y ≡ is_within w.forest x y
  pub caret : (s i format : ℕ) → is_among s ks ≡ false → w.selection ≡ Range (text_point s i) (text_point s i) format → v.selection ≡ w.selection
  pub written : v.written ≡ w.written

pub all_out : (ks : List ℕ) (w v : Working) → IsForest w.forest → NoRepeats ks → ((k : ℕ) → is_among k ks ≡ true → Leaves w.forest ks k)
    → in_turn removed_below ks w ≡ Ok v → AllOut ks w v
unfolding in_turn removed_below
all_out [] w v h once each e = subst (AllOut [] w) (was_same w v e) (record {
  ordered = h;
  label = λ q. refl;
  children = λ q. sym (filter-kept (λ c. true) (children_of w.forest q) (λ c at. refl));
  within = λ x y out. refl;
  caret = λ s i format out at. refl;
  written = refl;
})
all_out (k ∷ ks) w v h once each e =
    let f : Forest = w.forest in
    let first = after_tells (removed_below k w) (in_turn removed_below ks) v e in
    let u : Working = first.0 in
    let l = each k (grind (arith, eqb_tells k k)) in
    let goes : remove_step k w ≡ Ok u = sym (ap (λ o. cond (is_some o) (remove_step k w) (Ok w)) l.up) ∙ first.1.0 in
    let other : l.sibling ≢ k = λ same. absurd (grind (arith, l.stays, same, eqb_tells k l.sibling)) in
    let alone = left_alone k l.parent l.sibling w u h l.up l.at other goes in
    let forest : u.forest ≡ take_out k f = removed_alone k l.parent l.sibling w u h l.up l.at other goes in
    let order : IsForest u.forest = subst IsForest (sym forest) (IsForest-take_out k f h) in
    let later : (x : ℕ) → is_among x ks ≡ true → Leaves u.forest ks x = λ x at.
    let m = each x (grind (arith, at)) in
    let apart : x ≢ k = λ same. absurd (grind (arith, once.0, at, ap (λ y. is_among y ks) same)) in
    let stays : m.sibling ≢ k = λ same. absurd (grind (arith, m.stays, same, eqb_tells k m.sibling)) in
    record {
      parent = m.parent;
      up = ap (λ g. parent_of g x) forest ∙ parent_of-take_out k f x h ∙ grind (arith, apart, m.up, eqb_tells x k);
      sibling = m.sibling;
      at = ap (λ g. is_among m.sibling (children_of g m.parent)) forest ∙ ap (is_among m.sibling) (children_of-take_out k f m.parent h)
          ∙ is_among-names_without k m.sibling (children_of f m.parent) ∙ grind (arith, m.at, stays, eqb_tells m.sibling k);
      stays = grind (arith, m.stays);
    } in
    let rest = all_out ks u v order once.1 later first.1.1 in
    record {
      ordered = rest.ordered;
      label = λ q. rest.label q ∙ ap (λ g. label_of g q) forest ∙ label_of-take_out k f q h;
      children = λ q.
          rest.children q
          ∙ ap (filter (λ c. not (is_among c ks))) (ap (λ g. children_of g q) forest ∙ children_of-take_out k f q h)
          ∙ filter-without k ks (children_of f q);
      within = λ x y out.
          let far : is_within f k y ≡ false = out k (grind (arith, eqb_tells k k)) in
          let one : (x : ℕ) → is_within u.forest x y ≡ is_within f x y =
          λ x. ap (λ g. is_within g x y) forest ∙ is_within-take_out k f x y h ∙ grind (arith, far) in
          rest.within x y (λ z at. one z ∙ out z (grind (arith, at))) ∙ one x;
      caret = λ s i format out at.
          let apart : s ≢ k = λ same. absurd (grind (arith, out, same, eqb_tells k s)) in
          let took = took_it k s w u apart alone in
          rest.caret s i format (grind (arith, out)) (took.caret i format at ∙ at) ∙ took.caret i format at;
      written = rest.written ∙ (took_it k l.sibling w u other alone).written;
    }
