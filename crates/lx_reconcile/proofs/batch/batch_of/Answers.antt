use Rattle.std.proofs.Common.{◌∙◌, ◌+◌, ◌≤◌, ap, arith, rules, None}
use Rattle.lx_forest.specs.Lookups.{alone, has}
use Rattle.lx_reconcile.specs.Allowed.{marked_children, staying, unkept}
use Rattle.lx_reconcile.specs.Allowing.{marking}
use Rattle.lx_reconcile.proofs.Attached.{tree_there, tree_alone}
use Rattle.lx_reconcile.proofs.batch.batch_of.Goals as goal

pub returns-clause-told : goal.returns-clause-told
returns-clause-told g c =
    let count = g.R.Records.count in
    let forest = λ (x : _). alone 0 (g.R.Records.forest x) in
    let noted = (marking c.args.marks.now).noted in
    let told : count c.reconcile_root.new.before.source.now + count c.reconcile_root.new.after.source.now
    ≤ count c.args.before.now + count c.args.after.now + c.saturating_add-reads.result =
    omega (
      arith,
      c.reconcile_root.ensures.fits,
      c.reconcile_root.ensures.backing_before.0,
      c.reconcile_root.ensures.backing_after.0,
      c.reconcile_root.ensures.reads,
      ap count c.new-first.ensures.source,
      ap count c.new-second.ensures.source,
      c.new-first.ensures.none,
      c.new-second.ensures.none,
      ap (λ s. marked_children (staying noted (forest c.new-second.result.source.now)) (forest s)) c.new-first.ensures.source,
      ap (λ s. marked_children (staying noted (forest s)) (forest c.args.before.now)) c.new-second.ensures.source,
      ap (λ s. marked_children noted (forest s)) c.new-second.ensures.source,
      ap (λ s. unkept (forest s) None (forest c.new-second.result.source.now)) c.new-first.ensures.source,
      ap (λ s. unkept (forest c.args.before.now) None (forest s)) c.new-second.ensures.source,
      c.reads.ensures,
      c.reads-2.ensures,
      c.saturating_add-reads.ensures,
    ) in
    search rules

pub reconcile_root-requires-clause-rooted_before : goal.reconcile_root-requires-clause-rooted_before
reconcile_root-requires-clause-rooted_before g c =
    ap (λ x. has 0 (alone 0 (g.R.Records.forest x))) c.new-first.ensures.source ∙ tree_there (g.R.Records.forest c.args.before.now) c.requires.rooted_before

pub reconcile_root-requires-clause-alone_before : goal.reconcile_root-requires-clause-alone_before
reconcile_root-requires-clause-alone_before g c =
    tree_alone (g.R.Records.forest c.new-first.result.source.now) (ap (λ x. has 0 (g.R.Records.forest x)) c.new-first.ensures.source ∙ c.requires.rooted_before)

pub reconcile_root-requires-clause-rooted_after : goal.reconcile_root-requires-clause-rooted_after
reconcile_root-requires-clause-rooted_after g c =
    ap (λ x. has 0 (alone 0 (g.R.Records.forest x))) c.new-second.ensures.source ∙ tree_there (g.R.Records.forest c.args.after.now) c.requires.rooted_after

pub reconcile_root-requires-clause-alone_after : goal.reconcile_root-requires-clause-alone_after
reconcile_root-requires-clause-alone_after g c =
    tree_alone (g.R.Records.forest c.new-second.result.source.now)
    (ap (λ x. has 0 (g.R.Records.forest x)) c.new-second.ensures.source ∙ c.requires.rooted_after)
