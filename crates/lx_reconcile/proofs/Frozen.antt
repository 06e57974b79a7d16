-- What is frozen of a draft: the tree that the sweep leaves, alone, and the marks of the whole update.
use Rattle.std.proofs.Common.{◌≡◌, ◌∙◌, ℕ, true, [], ◌∷◌, Option, None, Some, is_some, option_map, refl, ap, sym, arith}
use Rattle.lx_trees.specs.Spots.{Spot}
use Rattle.lx_trees.proofs.NamedTrees.{names-alone}
use Rattle.lx_select.specs.declared.selection.Selection.{Selection}
use Rattle.lx_marks.specs.Marks.{Marked}
use Rattle.lx_forest.specs.Forest.{Label, Forest}
use Rattle.lx_forest.specs.Lookups.{key_of, has, spot, kind_of, roots, alone, IsForest}
use Rattle.lx_forest.specs.Edits.{drop_detached}
use Rattle.lx_forest.proofs.Edits.{has-root, is_some-spot}
use Rattle.lx_draft.specs.Working.{Working}
use Rattle.lx_draft.specs.Freezing.{Freezes, freeze_step, freeze_fault, swept}
use Rattle.lx_draft.specs.Covering.{KindsStay}
use Rattle.lx_draft.proofs.Covered.{answered}

-- ---- what is frozen

-- the forest swept, and the marks of the whole update
pub frozen_parts : (w : Working) (f : Forest) (selection : Selection) (marks : Marked) (next_key : ℕ) → Freezes w f selection marks next_key
    → (drop_detached w.forest ≡ f) × (w.marks ≡ marks)
unfolding freeze_step swept
frozen_parts w f selection marks next_key frozen =
    let left : Working = record (swept w) { forest = f; selection = selection; marks = marks; next_key = next_key } in
    let same = (answered (freeze_fault (swept w)) (swept w) left frozen).1 in
    (ap (λ (v : Working). v.forest) same, ap (λ (v : Working). v.marks) same)

-- the sweep leaves one tree
pub one_left : (f : Forest) → IsForest f → roots (drop_detached f) ≡ 0 ∷ []
unfolding drop_detached
one_left f order = names-alone key_of 0 f (grind (arith, order.once 0, has-root f order))

-- ---- its marks

pub swept_alone : (f : Forest) → alone 0 f ≡ drop_detached f
unfolding drop_detached
swept_alone f = refl

pub kind_stays : (f g : Forest) (q : ℕ) → KindsStay f g → has q f ≡ true → kind_of f q ≡ kind_of g q
kind_stays f g q stays there = from_spot (spot f q) refl where
  from_spot : (o : Option (Spot Label)) → spot f q ≡ o → kind_of f q ≡ kind_of g q
  from_spot None at = absurd (let none = ap is_some at in let e = is_some-spot f q in cc)
  from_spot (Some x) at =
      let own : kind_of f q ≡ Some x.label.kind = ap (λ o. option_map (λ (l : Label). l.kind) (option_map (λ (s : Spot Label). s.label) o)) at in
      own ∙ sym (stays.each q x.label.kind own)
