use Rattle.lx_compare.proofs.Raised.{Adds, founded_more, all_ok}
use Rattle.lx_compare.proofs.marking.mark_node.Goals as goal

pub returns-clause-founded : goal.returns-clause-founded
returns-clause-founded c =
    let adds : Adds c.args.key c.args.marks.now c.mark_itself.new.marks =
    record { touched = c.in_ok-mark_itself.ensures.touched; noted = c.in_ok-mark_itself.ensures.noted } in
    all_ok c.mark_above.result c.mark_above.ensures.raised c.mark_above.ensures.touched c.mark_above.ensures.noted
    (λ raised touched noted. founded_more c.args.old.now c.args.new.now c.args.key c.args.marks.now c.mark_itself.new.marks c.mark_above.new.marks
    c.requires.affected c.requires.founded adds touched noted raised)
