use Rattle.lx_draft.specs.Inside.{working_of}
use Rattle.lx_draft.proofs.Drafted.{drafted_failed}
use Rattle.lx_draft.proofs.draft.Draft.take_round.Goals as goal

pub invariant_of-self : goal.invariant_of-self
invariant_of-self c =
    drafted_failed (working_of c.self.inside) c.self.inside.loose.leaves c.self.inside.loose.leaves c.fail.new.self c.fail.ensures c.self.invariant
