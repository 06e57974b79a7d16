use Rattle.std.specs.Prelude.{chars}
use Rattle.lx_caret.proofs.Lying.{still_lies}
use Rattle.lx_clip.proofs.Lying.{lies-paste}
use Rattle.lx_clip.proofs.pasting.paste.Goals as goal

pub returns-clause-lying : goal.returns-clause-lying
returns-clause-lying c =
    still_lies c.put_text.result
    (λ e. lies-paste (chars c.args.text.now) c.args.draft.now c.put_text.new.draft c.in_ok-ready.ensures.ready c.ready.ensures.held c.ready.ensures.short e)
    c.put_text.ensures.ok
