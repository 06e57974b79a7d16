use Rattle.lx_script.proofs.selection.put_selection.Goals as goal

pub returns-in-Range : goal.returns-in-Range
returns-in-Range c = rw c.in-Range.is c.put_range.ensures
