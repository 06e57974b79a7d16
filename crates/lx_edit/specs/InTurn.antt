-- A step for each of a list, in turn.
use Rattle.std.specs.Prelude.{List, [], ◌∷◌, Result, Ok}
use Rattle.lx_node.specs.declared.cause.Cause.{Cause}
use Rattle.lx_draft.specs.Working.{Working}
use Rattle.lx_draft.specs.Faults.{after}

-- a step for each of a list, one after another, as long as none is refused
unfoldable pub in_turn : {A : Type 0} → (A → Working → Result Working Cause) → List A → Working → Result Working Cause
in_turn step [] w = Ok w
in_turn step (a ∷ rest) w = after (step a w) (in_turn step rest)
