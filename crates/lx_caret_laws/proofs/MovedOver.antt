-- Nodes that go to the end of another, one after another: a text that is in none of them stays where it was, and so does a caret in it.
use Rattle.lx_caret_laws.proofs.WentOut.{took_caret, took_written}
use Rattle.lx_draft.proofs.Covered.{answered}
use Rattle.lx_draft.specs.Faults.{over_counts, put_fault}
use Rattle.lx_draft.specs.Steps.{node_placed, put_step, take_step}
use Rattle.lx_draft.specs.Working.{Working}
use Rattle.lx_edit.proofs.Climbed.{first_part}
use Rattle.lx_edit.specs.Edits.{moved_to_end, text_point}
use Rattle.lx_edit.specs.InTurn.{in_turn}
use Rattle.lx_edit_laws.proofs.WrapSteps.{was_moved_to_end, was_same}
use Rattle.lx_edit_laws.proofs.WrapTrees.{IsForest-moved, WasMoved}
use Rattle.lx_forest.proofs.Order.{IsForest-take_out}
use Rattle.lx_forest.proofs.Within.{is_within-put_in, is_within-take_out}
use Rattle.lx_forest.specs.Edits.{take_out}
use Rattle.lx_forest.specs.Forest.{Forest}
use Rattle.lx_forest.specs.Lookups.{IsForest, is_within, size_of}
use Rattle.lx_select.specs.Rules.{is_behind, is_counting_children, put_moves}
use Rattle.lx_select.specs.Selection.{each_point}
use Rattle.lx_select.specs.declared.selection.Selection.TheVariants.{Range}
use Rattle.lx_trees.specs.Siblings.{is_among}
use Rattle.std.proofs.Common.{List, None, Ok, [], ap, arith, false, refl, subst, sym, true, ℕ, ◌∙◌, ◌∷◌, ◌≡◌}
use Rattle.std.proofs.lemmas.Bool.Decides.{eqb_tells}
use Rattle.std.specs.Option.{option_or}

pub record MovedOver (ks : List ℕ) (s : ℕ) (w v : Working) : Type 0 where
  pub within : (x : ℕ) → is_within v.forest x s ≡ is_within w.forest x s
  pub caret : (i format : ℕ) → w.selection ≡ Range (text_point s i) (text_point s i) format → v.selection ≡ w.selection
  pub written : v.written ≡ w.written

put_point : (p index s i : ℕ) → put_moves p index (text_point s i) ≡ text_point s i
unfolding put_moves is_behind is_counting_children
put_point p index s i = refl

put_caret : (k p index s i format : ℕ) (w v : Working) → w.selection ≡ Range (text_point s i) (text_point s i) format → put_step k p index w ≡ Ok v
    → v.selection ≡ w.selection
unfolding put_step
put_caret k p index s i format w v at e =
    let told = answered (option_or (put_fault k p index w.forest) (over_counts w)) (node_placed k p index w) v e in
    ap (λ (u : Working). u.selection) (sym told.1) ∙ ap (each_point (put_moves p index)) at
    ∙ ap (λ q. Range q q format) (put_point p index s i) ∙ sym at

put_written : (k p index : ℕ) (w v : Working) → put_step k p index w ≡ Ok v → v.written ≡ w.written
unfolding put_step
put_written k p index w v e =
    let told = answered (option_or (put_fault k p index w.forest) (over_counts w)) (node_placed k p index w) v e in
    ap (λ (u : Working). u.written) (sym told.1)

moved_within : (f g : Forest) (to k s x : ℕ) → IsForest f → WasMoved f g to k None → is_within f k s ≡ false → is_within g x s ≡ is_within f x s
moved_within f g to k s x h m out =
    let t : Forest = take_out k f in
    let order : IsForest t = IsForest-take_out k f h in
    ap (λ u. is_within u x s) m.is ∙ is_within-put_in to None k t x s order m.can
    ∙ grind (arith, out, is_within-take_out k f k s h, is_within-take_out k f x s h)

pub moved_over : (to s : ℕ) (ks : List ℕ) (w v : Working) → IsForest w.forest
    → ((k : ℕ) → is_among k ks ≡ true → is_within w.forest k s ≡ false) → in_turn (moved_to_end to) ks w ≡ Ok v → MovedOver ks s w v
unfolding in_turn moved_to_end
moved_over to s [] w v h out e =
    subst (MovedOver [] s w) (was_same w v e) (record { within = λ x. refl; caret = λ i format at. refl; written = refl })
moved_over to s (k ∷ ks) w v h out e =
    let a = first_part (moved_to_end to k w) (in_turn (moved_to_end to) ks) v e in
    let u : Working = a.0 in
    let parts = first_part (take_step k w) (λ x. put_step k to (size_of x.forest to) x) u a.1 in
    let m = was_moved_to_end to k w u a.1 in
    let own = out k (grind (arith, eqb_tells k k)) in
    let one : (x : ℕ) → is_within u.forest x s ≡ is_within w.forest x s = λ x. moved_within w.forest u.forest to k s x h m own in
    let rest = moved_over to s ks u v (IsForest-moved w.forest u.forest to k None h m) (λ x at. one x ∙ out x (grind (arith, at))) a.2 in
    record {
      within = λ x. rest.within x ∙ one x;
      caret = λ i format at.
          let took = took_caret k s i format w parts.0 at parts.1 in
          let put = put_caret k to (size_of parts.0.forest to) s i format parts.0 u (took ∙ at) parts.2 in
          rest.caret i format (put ∙ took ∙ at) ∙ put ∙ took;
      written = rest.written ∙ put_written k to (size_of parts.0.forest to) parts.0 u parts.2 ∙ took_written k w parts.0 parts.1;
    }
