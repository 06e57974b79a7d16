-- How the process ends for each status of a run.
use Rattle.std.specs.Prelude.{ℕ, List, Option, None, Some, codes}
use Rattle.lx_cli.specs.declared.status.Status.{Status}
use Rattle.lx_cli.specs.declared.status.Status.TheVariants.{Done, Usage, ReadFault, WriteFault, Memory, InputTooLong}

-- the exit status of the process
abbrev pub number_of_status : Status → ℕ
number_of_status Done = 0
number_of_status Usage = 2
number_of_status ReadFault = 3
number_of_status WriteFault = 4
number_of_status Memory = 5
number_of_status InputTooLong = 6

-- what is said of a run that isn't done: how the program is called, where its arguments weren't taken
abbrev pub message_of : Status → Option (List ℕ)
message_of Done = None
message_of Usage = Some (codes "lexical: usage")
message_of ReadFault = Some (codes "lexical: read fault")
message_of WriteFault = Some (codes "lexical: write fault")
message_of Memory = Some (codes "lexical: memory")
message_of InputTooLong = Some (codes "lexical: input too long")
