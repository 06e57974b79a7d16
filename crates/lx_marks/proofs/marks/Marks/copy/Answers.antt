use Rattle.std.proofs.Common.{◌∙◌, ap}
use Rattle.lx_marks.specs.Marks.{absorbed}
use Rattle.lx_marks.proofs.Told.{absorbed-unmarked}
use Rattle.lx_marks.proofs.marks.Marks.copy.Goals as goal

pub returns : goal.returns
returns c =
    c.in_ok-absorb.ensures.absorbed ∙ ap (absorbed c.args.self.now) c.in_ok-made.ensures ∙ absorbed-unmarked c.args.self.now c.absorb.ensures.each_once
