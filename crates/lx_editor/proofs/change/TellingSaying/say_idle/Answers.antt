use Rattle.lx_editor.proofs.Said.{still_said}
use Rattle.lx_editor.proofs.change.TellingSaying.say_idle.Goals as goal

pub returns : goal.returns
returns c = record { said = still_said c.write_reply.result (λ said. said.items) _ c.args.self.now c.write_reply.ensures }
