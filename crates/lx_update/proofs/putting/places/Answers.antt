use Rattle.std.proofs.Common.{◌≡◌, Some, rules, arith}
use Rattle.lx_forest.specs.Lookups.{parent_of}
use Rattle.lx_update.proofs.Beside.{beside_child}
use Rattle.lx_update.proofs.putting.places.Goals as goal

pub overflow_sub-result : goal.overflow_sub-result
overflow_sub-result c =
    let below : parent_of c.args.links.now c.args.key ≡ Some c.args.parent = search rules in
    omega (arith, c.size-size.ensures.size, beside_child c.args.links.now c.args.key c.args.parent c.parent.ensures.sound below)
