use Rattle.std.proofs.Common.{ap}
use Rattle.lx_caret.specs.Paragraphs.{draft_left}
use Rattle.lx_caret.proofs.Lying.{gives_lying}
use Rattle.lx_caret.proofs.Breaks.{lies-insert_paragraph}
use Rattle.lx_caret.proofs.EmptyItems.{items_left}
use Rattle.lx_caret.proofs.commands.insert_paragraph.Goals as goal

pub returns-clause-lying : goal.returns-clause-lying
returns-clause-lying c =
    gives_lying _ _ _ c.break_block.result
    (λ item e. lies-insert_paragraph c.args.draft.now c.break_block.new.draft c.in_ok-ready.ensures.ready c.ready.ensures.held c.ready.ensures.short (ap draft_left e))
    c.break_block.ensures

pub returns-clause-item : goal.returns-clause-item
returns-clause-item c = items_left c.args.draft.now c.break_block.new.draft c.break_block.result c.break_block.ensures
