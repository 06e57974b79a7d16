use Rattle.std.proofs.Common.{◌≡◌, ◌∙◌, arith}
use Rattle.std.specs.String.{string_bytes}
use Rattle.lx_generator.specs.Sessions.{letter}
use Rattle.lx_generator.proofs.Commands.{spelled}
use Rattle.lx_generator.proofs.lines.letter.Goals as goal

pub returns : goal.returns
returns c =
    let bytes : string_bytes c.push.new.self ≡ letter c.args.number =
    cc (c.in_ok-push.ensures.bytes, c.new-text.ensures.bytes, c.in_ok-push.ensures.ascii (omega arith)) in
    c.of.ensures ∙ spelled (string_bytes c.push.new.self) c.args.number c.requires bytes
