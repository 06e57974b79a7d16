use Rattle.std.proofs.lemmas.Bool.Decides.{Decides-eqb}
use Rattle.std.proofs.lemmas.Slice.Eq.{slice_eq-Decides}
use Rattle.lx_select.proofs.keys.are_equal.Goals as goal

pub returns : goal.returns
returns c = let h = slice_eq-Decides Decides-eqb _ _ _ c.eq.ensures in rw (← c.items.ensures, ← c.items-2.ensures) h
