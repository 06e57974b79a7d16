use Rattle.std.proofs.Common.{◌≢◌, rules}
use Rattle.lx_trees.specs.Trees.{nil}
use Rattle.lx_editor.proofs.Gathered.{gathered_none}
use Rattle.lx_editor.proofs.marking.keys_of_type.Goals as goal

pub loop-at-init : goal.loop-at-init
loop-at-init c =
    let f = c.args.links.now in
    let living : f ≢ nil = search rules in
    rw (c.root.ensures, c.new-keys.ensures.items) (gathered_none c.args.on f (c.has_failed.ensures.sound.in_order living))
