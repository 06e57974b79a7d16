use Rattle.std.proofs.Common.{◌∙◌}
use Rattle.lx_draft.proofs.Spliced.{fault_of_text}
use Rattle.lx_draft.proofs.draft.Draft.piece_at.Goals as goal

pub returns-in-Ok-piece_at-clause-placed : goal.returns-in-Ok-piece_at-clause-placed
returns-in-Ok-piece_at-clause-placed c = record { text = c.in-Ok.text.now; text_is = c.in-Ok.ensures.found; cut = c.in-Ok-piece_at.ensures.cut }

pub returns-in-Ok-piece_at-clause-allowed : goal.returns-in-Ok-piece_at-clause-allowed
returns-in-Ok-piece_at-clause-allowed c =
    fault_of_text c.args.self.now.forest c.args.key c.in-Ok.text.now c.args.from c.args.to c.in-Ok.ensures.found
    ∙ c.in-Ok-piece_at.ensures.allowed

pub returns-in-Err-piece_at-clause-refused : goal.returns-in-Err-piece_at-clause-refused
returns-in-Err-piece_at-clause-refused c =
    fault_of_text c.args.self.now.forest c.args.key c.in-Ok.text.now c.args.from c.args.to c.in-Ok.ensures.found
    ∙ c.in-Err-piece_at.ensures.refused
