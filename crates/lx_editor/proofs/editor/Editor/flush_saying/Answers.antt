use Rattle.lx_editor.proofs.Told.{told}
use Rattle.lx_editor.proofs.Updated.{is_flushed}
use Rattle.lx_editor.proofs.editor.Editor.flush_saying.Goals as goal

pub returns-clause-flushed : goal.returns-clause-flushed
returns-clause-flushed g c =
    told c.update_saying.result _ _ c.update_saying.ensures.updated
    (λ said (outcome, updated, tells). (outcome, is_flushed c.args.self.now c.args.how outcome c.update_saying.new.self updated, tells))
