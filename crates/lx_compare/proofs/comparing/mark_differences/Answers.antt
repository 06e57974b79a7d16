use Rattle.lx_store.specs.Differing.{first_after}
use Rattle.lx_compare.proofs.Settled.{compared_more, compared_all}
use Rattle.lx_compare.proofs.comparing.mark_differences.Goals as goal

pub loop-key-preserved : goal.loop-key-preserved
loop-key-preserved c =
    let made = c.in_ok-settle.ensures in
    compared_more c.args.old.now c.args.new.now c.loop-key.marks c.settle.new.marks (first_after c.loop-key.last) c.in-Some.key c.loop-key.invariant
    c.in-Some.ensures made.founded made.grows made.settled

pub returns-clause-settled : goal.returns-clause-settled
returns-clause-settled c = compared_all c.args.old.now c.args.new.now c.loop-key.marks (first_after c.loop-key.last) c.loop-key.invariant c.in_default.ensures
