use Rattle.lx_arguments.proofs.Asked.{number_read}
use Rattle.std.specs.Str.Parse.{ExplainsUnsignedError, HasUnsignedDigitsIfOk, ParsesUnsigned}
use Rattle.lx_arguments.proofs.options.found_delay.Goals as goal

pub returns-clause-said : goal.returns-clause-said
returns-clause-said c =
    number_read (λ bs r. ParsesUnsigned 32 10 bs r × ExplainsUnsignedError 10 bs r × HasUnsignedDigitsIfOk bs r) (λ u x g. g.0) _ _
    c.get_one.result c.unwrap.result c.requires.1 (c.get_one.ensures.value _ c.requires.1) c.unwrap.ensures
