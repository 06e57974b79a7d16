use Rattle.std.proofs.Common.{ℕ, sym, subst, arith}
use Rattle.lx_serving.specs.Passing.{MayFollow}
use Rattle.lx_serving.proofs.Moving.{moves_line, may_follow}
use Rattle.lx_serving.proofs.passing.pass_line.Goals as goal

pub follow-requires : goal.follow-requires
follow-requires c = record {
  may = subst (λ (n : ℕ). MayFollow n c.line.new.self c.args.hub.now) (sym c.commits-before.ensures)
      (may_follow c.args.editor.now c.line.new.self c.args.hub.now c.requires.level
      (moves_line c.args.editor.now c.args.line c.in_ok-reply.reply.items c.line.new.self c.in_ok-reply.ensures.replies));
  room = omega (arith, c.requires.level.commits, c.requires.room);
}
