use Rattle.std.proofs.Common.{◌<◌, arith}
use Rattle.lx_forest.specs.Lookups.{size_of}
use Rattle.lx_update.specs.Scripts.{point_at}
use Rattle.lx_update.proofs.Beyond.{placed_beyond}
use Rattle.lx_update.proofs.selecting.beyond.Goals as goal

pub returns : goal.returns
returns c =
    let few : size_of c.args.links.now c.args.key < c.args.point.now.offset = grind (arith, c.if-prove.false, c.from.ensures, c.size-children.ensures.size) in
    placed_beyond c.args.links.now (point_at c.args.key c.args.point.now) c.requires few
