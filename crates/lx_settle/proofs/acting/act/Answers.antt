use Rattle.std.proofs.Common.{arith}
use Rattle.lx_forest.specs.Views.{view_of}
use Rattle.lx_settle.proofs.Made.{replace_made, wrap_made, before_made, after_made, child_made}
use Rattle.lx_settle.proofs.acting.act.Goals as goal

pub replace_by_new-requires : goal.replace_by_new-requires
replace_by_new-requires c = replace_made (view_of c.args.draft.now.forest c.args.key) c.in-Replace.new (grind (arith, c.in-Replace.is, c.requires))

pub wrap_in_new-requires : goal.wrap_in_new-requires
wrap_in_new-requires c = wrap_made (view_of c.args.draft.now.forest c.args.key) c.in-Wrap.new (grind (arith, c.in-Wrap.is, c.requires))

pub put_new_before-requires : goal.put_new_before-requires
put_new_before-requires c = before_made (view_of c.args.draft.now.forest c.args.key) c.in-Before.new (grind (arith, c.in-Before.is, c.requires))

pub put_new_behind-requires : goal.put_new_behind-requires
put_new_behind-requires c = after_made (view_of c.args.draft.now.forest c.args.key) c.in-After.new (grind (arith, c.in-After.is, c.requires))

pub put_new_child-requires : goal.put_new_child-requires
put_new_child-requires c = child_made (view_of c.args.draft.now.forest c.args.key) c.in-Child.new (grind (arith, c.in-Child.is, c.requires))
