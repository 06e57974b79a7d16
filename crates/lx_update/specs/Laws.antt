-- What holds of the caret's commands as they are dispatched.
use Rattle.lx_step.specs.declared.built_in.BuiltIn.TheVariants.{Caret}
use Rattle.lx_step.specs.declared.built_in.CaretCommand.{CaretCommand}
use Rattle.lx_step.specs.declared.command.Payload.{Payload}
use Rattle.lx_caret.specs.Lying.{LeavesLying}
use Rattle.lx_update.specs.Commands.{command_step}

-- each command at the caret, with whatever is sent, leaves a selection that lies in the tree if it isn't refused: `insert-paragraph`
-- also where an item without children ends its list
abbrev pub CaretCommandsLie : Type 0
CaretCommandsLie = (command : CaretCommand) (sent : Payload) → LeavesLying (command_step (Caret command) sent)
