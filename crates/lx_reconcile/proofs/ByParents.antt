-- Marks that cover neighbours cover by parents too.
use Rattle.lx_forest.specs.Forest.{Forest}
use Rattle.lx_forest.specs.Covered.{Marking, AreCovered}
use Rattle.lx_reconcile.specs.Covering.{AreCoveredByParents}

pub by_parents : (old new : Forest) (mk : Marking) → AreCovered old new mk → AreCoveredByParents old new mk
by_parents old new mk covered = record {
  kinds = covered.kinds;
  alike = λ q was is plain.
      let alike = covered.alike q was is plain in
      record { fields = alike.fields; parent = alike.parent; children = alike.children };
  made = covered.made;
  above = covered.above;
}
