use Rattle.std.proofs.Common.{arith}
use Rattle.lx_arguments.proofs.Asked.{number_if_read}
use Rattle.lx_arguments.specs.Arguments.{most_lines}
use Rattle.std.specs.Prelude.{codes}
use Rattle.std.specs.Str.Parse.{ExplainsUnsignedError, HasUnsignedDigitsIfOk, ParsesUnsigned}
use Rattle.clap.specs.Matches.{found_of}
use Rattle.lx_arguments.proofs.options.found_lines.Goals as goal

pub returns : goal.returns
returns c =
    let read = number_if_read (λ bs r. ParsesUnsigned 32 10 bs r × ExplainsUnsignedError 10 bs r × HasUnsignedDigitsIfOk bs r) (λ u x g. g.0)
    (found_of c.args.matches.now) (codes "generate") 1 most_lines c.get_one.result c.requires (omega arith) c.get_one.ensures.none c.get_one.ensures.value in
    record { said = read.0; within = read.1 }
