-- Each edit leaves children of kinds that their parents' kinds may hold, put on its own condition; and the root alone holds none.
use Rattle.std.proofs.Common.{◌≡◌, ℕ, Bool, true, false, cond, eqb, [], Option, None, Some, refl, sym, ◌∙◌, arith, inl, inr}
use Rattle.std.proofs.lemmas.Bool.Decides.{eqb_tells}
use Rattle.lx_node.specs.declared.kind.Kind.{Kind}
use Rattle.lx_node.specs.declared.fields.Fields.{Fields}
use Rattle.lx_trees.specs.Spots.{parent_at}
use Rattle.lx_forest.specs.Forest.{Label, Forest, root_alone, root_label}
use Rattle.lx_forest.specs.Lookups.{has, kind_of, parent_of, is_attached, holds, IsForest, IsHeld}
use Rattle.lx_forest.specs.Edits.{with_new, with_fields, take_out, put_in, drop_detached, CanPut}
use Rattle.lx_forest.proofs.Lookups.{has-parent_of, has-child, kind_of-with_new, kind_of-with_fields, kind_of-take_out, kind_of-put_in, kind_of-drop_detached, parent_of-with_new, parent_of-with_fields, parent_of-take_out, parent_of-put_in, parent_of-drop_detached}
use Rattle.lx_forest.proofs.Walks.{is_attached-up}

module _ (may_hold : Kind → Kind → Bool) (f : Forest) (h : IsForest f) (held : IsHeld may_hold f) where
  pub IsHeld-with_new : (l : Label) → has l.key f ≡ false → IsHeld may_hold (with_new l f)
  IsHeld-with_new l free = record {
    each = λ q p up.
        let up' : parent_of f q ≡ Some p = sym (parent_of-with_new l f q h free) ∙ up in
        let child : eqb q l.key ≡ false = grind (arith, free, has-child f q p up', eqb_tells q l.key) in
        let parent : eqb p l.key ≡ false = grind (arith, free, has-parent_of f q p up', eqb_tells p l.key) in
        rw (kind_of-with_new l f q h free, kind_of-with_new l f p h free, child, parent) (held.each q p up');
  }

  pub IsHeld-with_fields : (k : ℕ) (fields : Fields) → IsHeld may_hold (with_fields k fields f)
  IsHeld-with_fields k fields = record {
    each = λ q p up. rw (kind_of-with_fields k fields f q, kind_of-with_fields k fields f p) (held.each q p (sym (parent_of-with_fields k fields f q) ∙ up));
  }

  pub IsHeld-take_out : (k : ℕ) → IsHeld may_hold (take_out k f)
  IsHeld-take_out k = record {
    each = λ q p up.
        let up' : parent_of f q ≡ Some p = grind (arith, up, parent_of-take_out k f q h) in
        rw (kind_of-take_out k f q h, kind_of-take_out k f p h) (held.each q p up');
  }

  pub IsHeld-put_in : (p : ℕ) (before : Option ℕ) (k : ℕ) → CanPut p k f → holds may_hold (kind_of f p) (kind_of f k) ≡ true
      → IsHeld may_hold (put_in p before k f)
  IsHeld-put_in p before k c fits = record {
    each = λ q r up.
        rw (kind_of-put_in p before k f q h c, kind_of-put_in p before k f r h c)
        (elim (eqb_tells q k) [
          | inl own ↦
              let place : r ≡ p = grind (arith, up, parent_of-put_in p before k f q h c, own) in
              rw (own.1, place) fits
          | inr other ↦ held.each q r (sym (parent_of-put_in p before k f q h c ∙ rw other.0) ∙ up)
        ]);
  }

  pub IsHeld-drop_detached : IsHeld may_hold (drop_detached f)
  IsHeld-drop_detached = record {
    each = λ q p up.
        let up' : parent_of f q ≡ Some p = grind (arith, up, parent_of-drop_detached f q h) in
        let attached : is_attached f q ≡ true = grind (arith, up, parent_of-drop_detached f q h) in
        rw (kind_of-drop_detached f q h, kind_of-drop_detached f p h, attached, sym (is_attached-up f q p h up') ∙ attached) (held.each q p up');
  }

nothing_above : (b : Bool) → parent_at (cond b (Some (record { label = root_label; parent = None; children = [] })) None) ≡ None
nothing_above true = refl
nothing_above false = refl

pub IsHeld-root_alone : (may_hold : Kind → Kind → Bool) → IsHeld may_hold root_alone
IsHeld-root_alone may_hold = record { each = λ q p e. let none : None ≡ Some p = sym (nothing_above (eqb 0 q)) ∙ e in cc }
