use Rattle.std.proofs.Common.{◌≤◌, length}
use Rattle.lx_host.specs.Stocked.{AreRoomy}
use Rattle.lx_host.proofs.stock.Stock.fill.Given as goal

abbrev pub invariant-loop : goal.invariant-loop
invariant-loop l = record {
  roomy : AreRoomy l.self-inside.vectors.items;
  filled : l.counter ≤ length l.self-inside.vectors.items;
  kept : length l.initial.self-inside.vectors.items ≤ length l.self-inside.vectors.items;
}
