use Rattle.lx_editor.proofs.Said.{still_said}
use Rattle.lx_editor.proofs.Told.{told}
use Rattle.lx_editor.proofs.change.TellingSaying.say_refused.Goals as goal

pub returns : goal.returns
returns c =
    let still = still_said c.write_reply.result (λ said. said.items) _ c.args.self.now c.write_reply.ensures in
    record { said = told c.write_reply.result _ _ still (λ bytes is. λ handled. is) }
