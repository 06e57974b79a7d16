use Rattle.lx_reconcile.proofs.Attached.{tree_found, tree_sound}
use Rattle.lx_reconcile.proofs.looks.TalliedLookTally.look.Goals as goal

pub returns-clause-found : goal.returns-clause-found
returns-clause-found g c = λ there. tree_found (g.R.Records.forest c.args.tally.now.source.now) c.args.key _ c.read.ensures.sound c.read.ensures.found there

pub returns-clause-sound : goal.returns-clause-sound
returns-clause-sound g c = tree_sound (g.R.Records.forest c.args.tally.now.source.now) c.read.ensures.sound
