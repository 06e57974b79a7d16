use Rattle.std.proofs.Common.{◌∙◌}
use Rattle.lx_draft.proofs.Gaps.{gap_refused}
use Rattle.lx_draft.proofs.draft.Draft.gap_fault.Goals as goal

pub returns : goal.returns
returns c = c.put_fault.ensures ∙ gap_refused c.args.self.now.forest c.args.key c.args.parent c.args.before c.requires
