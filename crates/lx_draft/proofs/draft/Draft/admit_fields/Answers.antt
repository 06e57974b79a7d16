use Rattle.lx_node.specs.Strings.{characters_of}
use Rattle.lx_draft.proofs.Capped.{admitted_capped}
use Rattle.lx_draft.proofs.draft.Draft.admit_fields.Goals as goal

pub returns-in-Ok-clause-ok : goal.returns-in-Ok-clause-ok
returns-in-Ok-clause-ok c =
    admitted_capped c.in-Ok.more c.characters.result (characters_of c.args.fields.now) c.args.self.now c.characters.ensures c.in-Ok.ensures.ok
