use Rattle.std.proofs.Common.{◌≡◌, ◌≤◌, ℕ, Some, rules}
use Rattle.lx_forest.specs.Lookups.{depth}
use Rattle.lx_node.specs.Limits.{most_depth}
use Rattle.lx_draft.proofs.Depths.{no_depth_fault}
use Rattle.lx_draft.proofs.draft.Draft.depth_fault.Goals as goal

pub returns-then-is_shallow : goal.returns-then-is_shallow
returns-then-is_shallow c =
    let few : (q d : ℕ) → depth c.args.self.now.forest q ≡ Some d → d ≤ most_depth = search rules in
    no_depth_fault c.args.self.now.forest few
