use Rattle.std.proofs.Common.{◌≡◌, ◌+◌, ◌≤◌, ℕ, cond, nat_eq, take}
use Rattle.std.specs.Prelude.{sum_by}
use Rattle.std.specs.Map.{lookup}
use Rattle.lx_trees.specs.Siblings.{is_among}
use Rattle.lx_outline.specs.Outline.{heading_at}
use Rattle.lx_outline.specs.Reading.{heading_reads}
use Rattle.lx_outline.proofs.applying.renew.Given as goal

abbrev pub invariant-loop-key : goal.invariant-loop-key
invariant-loop-key g l = record {
  same : g.R.Records.forest l.records ≡ g.R.Records.forest l.fn.records;
  headings : (q : ℕ)
      → lookup (nat_eq q) l.headings
      ≡ cond (is_among q (take l.key-index l.keys)) (heading_at (g.R.Records.forest l.fn.records) q) (lookup (nat_eq q) l.fn.headings);
  reads : g.R.Records.count l.records ≤ g.R.Records.count l.fn.records + sum_by (heading_reads (g.R.Records.forest l.fn.records)) (take l.key-index l.keys);
}
