-- The test of equality shows equality.
use Rattle.std.proofs.Common.{◌≡◌, refl, ap}
use Rattle.std.specs.Bool.{Decides}
use Rattle.std.proofs.lemmas.Bool.Decides.{Decides-eqb, Decides-and, Decides-like}
use Rattle.lx_node.proofs.Same.{same_text-Decides}
use Rattle.lx_node.specs.declared.cause.Point.{Point}
use Rattle.lx_node.specs.declared.cause.PointKind.{PointKind}
use Rattle.lx_node.specs.declared.cause.PointKind.TheVariants as point
use Rattle.lx_select.specs.declared.selection.Selection.{Selection}
use Rattle.lx_select.specs.declared.selection.Selection.TheVariants.{Nothing, Range, Nodes, Cells}
use Rattle.lx_select.specs.Same.{same_point_kind, same_point, same_selection}

point_kind-Decides : (a b : PointKind) → Decides (same_point_kind a b) (a ≡ b)
point_kind-Decides point.Text point.Text = (λ e. refl, λ e. refl)
point_kind-Decides point.Element point.Element = (λ e. refl, λ e. refl)
point_kind-Decides _ _ = (λ e. cc, λ e. cc)

point-Decides : (a b : Point) → Decides (same_point a b) (a ≡ b)
point-Decides a b =
    Decides-like _ (λ e. λ i. record { key = e.0 i; offset = e.1.0 i; kind = e.1.1 i })
    (λ e. (ap (λ (p : Point). p.key) e, (ap (λ (p : Point). p.offset) e, ap (λ (p : Point). p.kind) e)))
    (Decides-and _ _ (Decides-eqb a.key b.key) (Decides-and _ _ (Decides-eqb a.offset b.offset) (point_kind-Decides a.kind b.kind)))

pub selection-Decides : (s t : Selection) → Decides (same_selection s t) (s ≡ t)
unfolding same_selection
selection-Decides Nothing Nothing = (λ e. refl, λ e. refl)
selection-Decides (Range a b format) (Range c d other_format) =
    Decides-like _ (λ e. cc (e.0, e.1.0, e.1.1)) (λ e. (cc, (cc, cc)))
    (Decides-and _ _ (point-Decides a c) (Decides-and _ _ (point-Decides b d) (Decides-eqb format other_format)))
selection-Decides (Nodes keys) (Nodes other_keys) = Decides-like _ (ap (λ ks. Nodes ks)) (λ e. cc) (same_text-Decides keys other_keys)
selection-Decides (Cells table a b) (Cells other_table c d) =
    Decides-like _ (λ e. cc (e.0, e.1.0, e.1.1)) (λ e. (cc, (cc, cc)))
    (Decides-and _ _ (Decides-eqb table other_table) (Decides-and _ _ (Decides-eqb a c) (Decides-eqb b d)))
selection-Decides _ _ = (λ e. cc, λ e. cc)
