use Rattle.lx_caret.proofs.Labelled.{link_there, link_below}
use Rattle.lx_caret.proofs.parting.part_at.Goals as goal

pub make_like-requires-clause-there : goal.make_like-requires-clause-there
make_like-requires-clause-there c = link_there c.args.draft.now.forest c.args.key c.requires

pub make_like-requires-clause-other : goal.make_like-requires-clause-other
make_like-requires-clause-other c = link_below c.args.draft.now.forest c.args.key c.requires
