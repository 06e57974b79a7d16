-- What a batch is seen as.
use Rattle.std.specs.Prelude.{ℕ, List}
use Rattle.lx_host.specs.declared.op.Op.{Op}

-- operations in their order, and how many reads they were found by
pub record Told : Type 0 where
  pub ops : List Op
  pub reads : ℕ
