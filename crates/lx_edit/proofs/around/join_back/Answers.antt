use Rattle.std.proofs.Common.{Result, subst, arith}
use Rattle.lx_node.specs.declared.cause.Cause.{Cause}
use Rattle.lx_draft.specs.Working.{Working}
use Rattle.lx_edit.specs.Standing.{Does}
use Rattle.lx_edit.specs.Texts.{enough, join_back}
use Rattle.lx_edit.proofs.Joined.{Grows, remove_grows, join_grows, at_first, back_done, back_removed, back_joined, back_removing, back_joining}
use Rattle.lx_edit.proofs.around.join_back.Goals as goal

pub back-init : goal.back-init
back-init c = at_first join_back c.args.key c.args.draft.now

pub returns-in-Nothing : goal.returns-in-Nothing
returns-in-Nothing c =
    let P : Result Working Cause → Type 0 = λ whole. Does whole c.join_on.new.draft c.join_on.result in
    subst P (back_done c.back.at c.back.draft (join_back enough c.args.key c.args.draft.now) c.in-Nothing.ensures.counts c.in-Nothing.ensures.found
    c.back.invariant) c.join_on.ensures

pub back-smaller-in-Ok : goal.back-smaller-in-Ok
back-smaller-in-Ok c =
    let g : Grows c.back.draft c.remove.new.draft = remove_grows c.in-Empty.other c.back.draft c.remove.new.draft c.in-Ok.ensures c.in-Empty.ensures.counts in
    omega (arith, g.more, g.within)

pub back-preserved-in-Ok : goal.back-preserved-in-Ok
back-preserved-in-Ok c =
    back_removed c.back.at c.in-Empty.other c.back.draft c.remove.new.draft (join_back enough c.args.key c.args.draft.now) c.in-Empty.ensures.counts
    c.in-Empty.ensures.found c.in-Ok.ensures c.back.invariant

pub returns-in-Err : goal.returns-in-Err
returns-in-Err c =
    back_removing c.back.at c.in-Empty.other c.back.draft (join_back enough c.args.key c.args.draft.now) c.in-Empty.ensures.counts c.in-Empty.ensures.found
    c.in-Err.ensures c.back.invariant

pub back-smaller : goal.back-smaller
back-smaller c =
    let g : Grows c.back.draft c.join_texts.new.draft =
    join_grows c.in-Alike.other c.back.at c.back.draft c.join_texts.new.draft c.in-Ok-join_texts.ensures c.in-Alike.ensures.counts in
    omega (arith, g.more, g.within)

pub back-preserved : goal.back-preserved
back-preserved c =
    back_joined c.back.at c.in-Alike.other c.back.draft c.join_texts.new.draft (join_back enough c.args.key c.args.draft.now) c.in-Alike.ensures.counts
    c.in-Alike.ensures.found c.in-Ok-join_texts.ensures c.back.invariant

pub returns-in-Err-join_texts : goal.returns-in-Err-join_texts
returns-in-Err-join_texts c =
    back_joining c.back.at c.in-Alike.other c.back.draft (join_back enough c.args.key c.args.draft.now) c.in-Alike.ensures.counts c.in-Alike.ensures.found
    c.in-Err-join_texts.ensures c.back.invariant
