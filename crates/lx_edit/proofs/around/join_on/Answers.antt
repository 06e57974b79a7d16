use Rattle.std.proofs.Common.{arith}
use Rattle.lx_edit.specs.Texts.{enough, join_on}
use Rattle.lx_edit.proofs.Joined.{Grows, remove_grows, join_grows, at_first, on_done, on_removed, on_joined, on_removing, on_joining}
use Rattle.lx_edit.proofs.around.join_on.Goals as goal

pub on-init : goal.on-init
on-init c = at_first join_on c.args.key c.args.draft.now

pub returns-in-Nothing : goal.returns-in-Nothing
returns-in-Nothing c =
    on_done c.args.key c.on.draft (join_on enough c.args.key c.args.draft.now) c.in-Nothing.ensures.counts c.in-Nothing.ensures.found c.on.invariant

pub on-smaller-in-Ok : goal.on-smaller-in-Ok
on-smaller-in-Ok c =
    let g : Grows c.on.draft c.remove.new.draft = remove_grows c.in-Empty.other c.on.draft c.remove.new.draft c.in-Ok.ensures c.in-Empty.ensures.counts in
    omega (arith, g.more, g.within)

pub on-preserved-in-Ok : goal.on-preserved-in-Ok
on-preserved-in-Ok c =
    on_removed c.args.key c.in-Empty.other c.on.draft c.remove.new.draft (join_on enough c.args.key c.args.draft.now) c.in-Empty.ensures.counts
    c.in-Empty.ensures.found c.in-Ok.ensures c.on.invariant

pub returns-in-Err : goal.returns-in-Err
returns-in-Err c =
    on_removing c.args.key c.in-Empty.other c.on.draft (join_on enough c.args.key c.args.draft.now) c.in-Empty.ensures.counts c.in-Empty.ensures.found
    c.in-Err.ensures c.on.invariant

pub on-smaller : goal.on-smaller
on-smaller c =
    let g : Grows c.on.draft c.join_texts.new.draft =
    join_grows c.args.key c.in-Alike.other c.on.draft c.join_texts.new.draft c.in-Ok-join_texts.ensures c.in-Alike.ensures.counts in
    omega (arith, g.more, g.within)

pub on-preserved : goal.on-preserved
on-preserved c =
    on_joined c.args.key c.in-Alike.other c.on.draft c.join_texts.new.draft (join_on enough c.args.key c.args.draft.now) c.in-Alike.ensures.counts
    c.in-Alike.ensures.found c.in-Ok-join_texts.ensures c.on.invariant

pub returns-in-Err-join_texts : goal.returns-in-Err-join_texts
returns-in-Err-join_texts c =
    on_joining c.args.key c.in-Alike.other c.on.draft (join_on enough c.args.key c.args.draft.now) c.in-Alike.ensures.counts c.in-Alike.ensures.found
    c.in-Err-join_texts.ensures c.on.invariant
