-- New nodes like others.
use Rattle.std.specs.Prelude.{Option, None, Some, Result, Ok}
use Rattle.lx_node.specs.declared.cause.Cause.{Cause}
use Rattle.lx_forest.specs.Forest.{Label}
use Rattle.lx_draft.specs.Working.{Working}
use Rattle.lx_draft.specs.Steps.{new_step}

-- a new node with the kind and the fields of another, if there is one
abbrev pub new_like : Option Label → Working → Result Working Cause
new_like None w = Ok w
new_like (Some l) w = new_step l.kind l.fields w
