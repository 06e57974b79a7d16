use Rattle.std.proofs.Common.{◌∙◌}
use Rattle.lx_editor.proofs.Changed.{noted_as, state_is, unasked}
use Rattle.lx_editor.proofs.change.Telling.note.Goals as goal

pub returns-then-not-self : goal.returns-then-not-self
returns-then-not-self c = unasked c.args.self.now.asked c.args.batch.now.ops c.args.before.now c.args.marks.now c.args.self.now.change c.if-not-self.true

pub returns : goal.returns
returns c =
    let before = c.in_ok-before.before in
    noted_as c.args.self.now.asked c.args.batch.now.ops c.args.before.now c.args.marks.now c.set.new.self.change
    (record { ops = c.into_vec-ops.result; before = before; marks = c.in_ok-marks.marks }) c.set.ensures.change
    (c.into_vec-ops.ensures ∙ c.in_ok-copy_ops.ensures) (state_is before c.args.before.now c.in_ok-before.ensures.links c.in_ok-before.ensures.selection)
    c.in_ok-marks.ensures
