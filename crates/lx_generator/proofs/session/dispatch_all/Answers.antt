use Rattle.std.proofs.Common.{arith}
use Rattle.lx_generator.proofs.Leading.{one_more}
use Rattle.lx_generator.proofs.session.dispatch_all.Goals as goal

pub loop-line-preserved : goal.loop-line-preserved
loop-line-preserved c = record {
  comes = one_more c.args.count c.args.number c.args.editor.now c.args.tally.now c.loop-line.line c.loop-line.current c.next_number-current.result
      c.loop-line.editor c.dispatch.new.self c.loop-line.tally c.count.new.self c.in_ok-command.command c.none.result
      c.in_ok-_handled.outcome c.in_ok-_handled._handled c.loop-line-test.true c.loop-line.invariant.comes c.next_number-current.ensures
      c.in_ok-command.ensures c.none.ensures c.in_ok-_handled.ensures.dispatched c.count.ensures.counted;
  room = omega (arith, c.loop-line.invariant.room, c.loop-line-test.true, c.dispatch.ensures.commits);
  counts = omega (arith, c.loop-line.invariant.counts, c.loop-line-test.true, c.count.ensures.few);
}
