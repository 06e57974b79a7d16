use Rattle.std.proofs.lemmas.Result.{IfOk-weaker}
use Rattle.lx_generator.proofs.Told.{is_told}
use Rattle.lx_generator.proofs.session.tell_session.Goals as goal

pub returns : goal.returns
returns c =
    IfOk-weaker c.write_summary.result _ _
    (λ bytes is. is_told c.args.session c.args.delay c.in_ok-editor.editor c.run_lines.new.editor c.in_ok-tally.tally c.in_ok-summary.summary bytes.items
    c.in_ok-editor.ensures c.in_ok-tally.ensures c.in_ok-summary.ensures is) c.write_summary.ensures
