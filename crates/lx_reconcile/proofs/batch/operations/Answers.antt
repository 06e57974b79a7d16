use Rattle.std.proofs.Common.{rules}
use Rattle.lx_reconcile.proofs.ByParents.{by_parents}
use Rattle.lx_reconcile.proofs.batch.operations.Goals as goal

pub batch_of-requires : goal.batch_of-requires
batch_of-requires g c =
    let covered = by_parents _ _ _ c.requires.covered in
    search rules
