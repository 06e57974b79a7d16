use Rattle.std.proofs.Common.{◌∙◌, None, refl, ap}
use Rattle.lx_forest.specs.Lookups.{alone, is_attached}
use Rattle.lx_reconcile.specs.Allowed.{unkept}
use Rattle.lx_reconcile.proofs.Attached.{tree_there}
use Rattle.lx_reconcile.proofs.UnkeptKeys.{counted_told}
use Rattle.lx_reconcile.proofs.counting.unkept.Goals as goal

pub count_child-all-requires-clause-in_tree : goal.count_child-all-requires-clause-in_tree
count_child-all-requires-clause-in_tree g c = λ kept.
    ap (is_attached (g.R.Records.forest c.args.before.now)) c.root.ensures ∙ tree_there (g.R.Records.forest c.args.before.now) c.requires.rooted_before

pub returns-clause-told : goal.returns-clause-told
returns-clause-told g c =
    let old = g.R.Records.forest c.args.before.now in
    let new = g.R.Records.forest c.args.after.now in
    let all = c.count_child-all.ensures in
    counted_told old new c.count_child-all.result.0 c.requires.rooted_before c.requires.rooted_after (all.sound_before refl) all.sound_after
    (all.count ∙ ap (λ key. unkept (alone 0 old) None (alone key new)) c.root.ensures)
