use Rattle.std.proofs.Common.{◌∙◌, sym, subst, arith}
use Rattle.lx_trees.specs.Siblings.{NoRepeats}
use Rattle.lx_marks.proofs.Named.{NoRepeats-behind}
use Rattle.lx_marks.proofs.names.name_leaf.Goals as goal

pub fill-requires-clause-once : goal.fill-requires-clause-once
fill-requires-clause-once c =
    subst NoRepeats (sym (c.as_slice.ensures.value ∙ c.in_ok-push.ensures.items)) (NoRepeats-behind c.args.key _ (grind (arith, c.has_name.ensures, c.if-not-has_name.true)) c.requires.once)

pub returns-in_ok-push-clause-once : goal.returns-in_ok-push-clause-once
returns-in_ok-push-clause-once c =
    subst NoRepeats (sym c.in_ok-push.ensures.items) (NoRepeats-behind c.args.key _ (grind (arith, c.has_name.ensures, c.if-not-has_name.true)) c.requires.once)
