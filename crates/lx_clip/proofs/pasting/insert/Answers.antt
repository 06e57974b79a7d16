use Rattle.serde_json.specs.View.{view}
use Rattle.lx_caret.proofs.Lying.{still_lies}
use Rattle.lx_clip.proofs.Lying.{lies-insert}
use Rattle.lx_clip.proofs.pasting.insert.Goals as goal

pub returns-clause-lying : goal.returns-clause-lying
returns-clause-lying c =
    still_lies c.put_slice.result
    (λ e lying. lies-insert (view c.args.slice.now) c.args.draft.now c.put_slice.new.draft c.in_ok-ready.ensures.ready c.ready.ensures.held c.ready.ensures.short lying e)
    c.put_slice.ensures.ok
