use Rattle.lx_compare.proofs.Covering.{covered}
use Rattle.lx_compare.proofs.comparing.differences.Goals as goal

pub returns-clause-covered : goal.returns-clause-covered
returns-clause-covered c =
    covered c.args.old.now c.args.new.now c.mark_differences.new.marks c.requires.old_order c.requires.new_order c.in_ok-mark_differences.ensures.founded
    c.in_ok-mark_differences.ensures.settled
