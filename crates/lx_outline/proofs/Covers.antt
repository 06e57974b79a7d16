-- Marks that cover two trees more widely, with the neighbours of a node too, cover them.
use Rattle.std.proofs.Common.{◌≡◌, ℕ, true, inl, inr}
use Rattle.std.proofs.lemmas.Bool.{cases_Bool}
use Rattle.lx_forest.specs.Forest.{Forest}
use Rattle.lx_forest.specs.Covered.{AreCovered}
use Rattle.lx_marks.specs.Marks.{Marked, is_touched, is_noted}
use Rattle.lx_outline.specs.Events.{IsUpdated}
use Rattle.lx_outline.specs.Covers.{IsCovered}

-- what covers two trees with their nodes' neighbours covers them
pub covered_widely : (old new : Forest) (m : Marked) → AreCovered old new (record { touched = is_touched m; noted = is_noted m }) → IsCovered old new m
covered_widely old new m wide = record { kinds = wide.kinds; changed = changed; made = λ q created. wide.made q created.0 created.1; above = wide.above } where
  changed : (q : ℕ) → IsUpdated old new q → is_touched m q ≡ true
  changed q updated = elim (cases_Bool (is_touched m q)) [
    | inl marked ↦ marked
    | inr plain ↦
        let alike = wide.alike q updated.0 updated.1 plain in
        absurd (updated.2 (record { kind = wide.kinds q updated.0 updated.1; fields = alike.fields; parent = alike.parent; children = alike.children }))
  ]
