use Rattle.std.proofs.Common.{sym}
use Rattle.lx_compare.proofs.Covering.{covered}
use Rattle.lx_compare.proofs.Settled.{all_among}
use Rattle.lx_compare.proofs.comparing.differences_at.Goals as goal

pub returns-in_ok-mark_among-in-Some-Some-2-clause-covered : goal.returns-in_ok-mark_among-in-Some-Some-2-clause-covered
returns-in_ok-mark_among-in-Some-Some-2-clause-covered c =
    let first = c.in_ok-mark_among-in-Some-Some.ensures in
    let later = c.in_ok-mark_among-in-Some-Some-2.ensures in
    covered c.args.old.now c.args.new.now c.mark_among-in-Some-Some.new.marks c.requires.old_order c.requires.new_order later.founded
    (all_among c.args.old.now c.args.new.now c.mark_among.new.marks c.mark_among-in-Some-Some.new.marks c.args.places.now c.args.since.now _ _
    (sym c.in-Some-Some.ensures) (sym c.in-Some-Some.ensures') c.requires.told first.settled later.grows later.settled)
