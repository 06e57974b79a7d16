use Rattle.std.proofs.Common.{◌∙◌, sym}
use Rattle.std.proofs.lemmas.Bool.Decides.{same_from_decides}
use Rattle.lx_reconcile.proofs.CountedNodes.{and_kept}
use Rattle.lx_reconcile.proofs.UnkeptNodes.{is_tag-Decides}
use Rattle.lx_reconcile.proofs.counting.was_here.Goals as goal

pub returns-then-is_below : goal.returns-then-is_below
returns-then-is_below c = and_kept _ _ _ (sym c.is_below.ensures ∙ c.if-is_below.true) (same_from_decides _ _ c.has_same_tag.ensures (is_tag-Decides _ _))
