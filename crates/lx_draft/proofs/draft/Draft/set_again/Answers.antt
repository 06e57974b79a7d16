use Rattle.lx_draft.proofs.Again.{again_told, refused_told, gone_told}
use Rattle.lx_draft.proofs.draft.Draft.set_again.Goals as goal

pub returns-in-Ok-clause-ok : goal.returns-in-Ok-clause-ok
returns-in-Ok-clause-ok c = λ fields own.
    again_told _ c.args.key c.args.self.now _ c.keep_points.new.self fields c.in-Ok.ensures.allowed c.note_edit.ensures.noted c.keep_points.ensures.kept own

pub returns-in-Err-clause-err : goal.returns-in-Err-clause-err
returns-in-Err-clause-err c = λ fields own. refused_told _ _ _ fields c.in-Err.ensures.err own

pub returns-in-Err-clause-gone : goal.returns-in-Err-clause-gone
returns-in-Err-clause-gone c = λ gone fields. gone_told _ _ _ fields c.in-Err.ensures.err gone
