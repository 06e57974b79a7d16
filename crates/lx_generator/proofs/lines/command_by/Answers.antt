use Rattle.std.proofs.Common.{◌∙◌, ◌/◌, ◌%◌, refl, codes, arith}
use Rattle.lx_step.specs.declared.command.Payload.TheVariants.{Nothing}
use Rattle.lx_generator.specs.Sessions.{letter}
use Rattle.lx_generator.proofs.Commands.{as_bytes, as_sent, as_told, bold, deleted, paragraph, typed, undone}
use Rattle.lx_generator.proofs.lines.command_by.Goals as goal

pub returns-in-0 : goal.returns-in-0
returns-in-0 c =
    as_told c.command_alone.result (codes "insert-paragraph") Nothing c.args.half refl (paragraph c.args.half c.in-0.is) c.command_alone.ensures

pub returns-in_ok-new-in-1 : goal.returns-in_ok-new-in-1
returns-in_ok-new-in-1 c =
    as_sent c.named_command.result (codes "format-text") c.in_ok-new-in-1.field-0 (codes "bold") c.args.half refl
    (c.in_ok-new-in-1.ensures ∙ as_bytes (codes "bold") refl) (bold c.args.half c.in-1.is) c.named_command.ensures

pub returns-in_ok-new-in-2 : goal.returns-in_ok-new-in-2
returns-in_ok-new-in-2 c =
    as_sent c.named_command-in-2.result (codes "delete-character") c.in_ok-new-in-2.field-0 (codes "back") c.args.half refl
    (c.in_ok-new-in-2.ensures ∙ as_bytes (codes "back") refl) (deleted c.args.half c.in-2.is) c.named_command-in-2.ensures

pub returns-in-3 : goal.returns-in-3
returns-in-3 c =
    as_told c.command_alone-in-3.result (codes "undo") Nothing c.args.half refl (undone c.args.half c.in-3.is) c.command_alone-in-3.ensures

pub returns-in_ok-letter-in_default : goal.returns-in_ok-letter-in_default
returns-in_ok-letter-in_default c =
    as_sent c.named_command-in_default.result (codes "insert-text") c.in_ok-letter-in_default.field-0 (letter ((c.args.half / 8) % 26)) c.args.half refl
    c.in_ok-letter-in_default.ensures (typed c.args.half (λ e. omega arith) (λ e. omega arith) (λ e. omega arith) (λ e. omega arith))
    c.named_command-in_default.ensures
