-- The code of a cause.
use Rattle.std.specs.Prelude.{ℕ}
use Rattle.lx_node.specs.declared.cause.Cause.{Cause}
use Rattle.lx_node.specs.declared.cause.Cause.TheVariants.{BadLine, BadCommand, UnknownNode, WrongKind, BadPlace, NoSelection, SelectionLost, NoRest, StepLimit, DispatchDepth, TooLarge, UnknownType, BadState, EmptyState, HistoryInside, TooManyRules}

-- the number of a cause, 1 to 16
unfoldable pub code_of : Cause → ℕ
code_of BadLine = 1
code_of BadCommand = 2
code_of (UnknownNode named) = 3
code_of (WrongKind kind) = 4
code_of (BadPlace number) = 5
code_of (NoSelection kind) = 6
code_of (SelectionLost lost) = 7
code_of NoRest = 8
code_of StepLimit = 9
code_of DispatchDepth = 10
code_of (TooLarge limit reached) = 11
code_of (UnknownType type) = 12
code_of (BadState place) = 13
code_of EmptyState = 14
code_of HistoryInside = 15
code_of TooManyRules = 16
