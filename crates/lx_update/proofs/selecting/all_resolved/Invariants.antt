use Rattle.std.proofs.Common.{◌≡◌, drop}
use Rattle.lx_update.specs.Scripts.{scripted, all_resolved}
use Rattle.lx_update.proofs.Gathered.{gathered}
use Rattle.lx_update.proofs.selecting.all_resolved.Given as goal

-- the keys so far, and then those of the references that are left
abbrev pub invariant-loop-node : goal.invariant-loop-node
invariant-loop-node l =
    all_resolved l.nodes (scripted l.draft l.names) ≡ gathered l.keys.items (drop l.node-index l.nodes) (scripted l.draft l.names)
