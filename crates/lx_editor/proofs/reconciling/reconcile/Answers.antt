use Rattle.std.proofs.Common.{◌+◌, ◌≤◌, None, refl, sym, subst}
use Rattle.lx_node.specs.Limits.{last_u32}
use Rattle.lx_forest.specs.Lookups.{alone}
use Rattle.lx_marks.specs.Marks.{is_noted}
use Rattle.lx_forest.specs.Covered.{AreCovered}
use Rattle.lx_reconcile.specs.Allowed.{Shows, unkept}
use Rattle.lx_reconcile.specs.Allowing.{marking, IsAllowed}
use Rattle.lx_reconcile.specs.Reading.{most_reads}
use Rattle.lx_editor.proofs.Ids.{read_alone, read_root}
use Rattle.lx_editor.proofs.reconciling.reconcile.Goals as goal

pub operations-requires : goal.operations-requires
operations-requires c κs =
    let was = read_alone c.args.old.now c.new-before.result.forest c.new-before.ensures.forest c.requires.old c.requires.one_before in
    let is = read_alone c.args.new.now c.new-after.result.forest c.new-after.ensures.forest c.requires.new c.requires.one_after in
    let next = c.args.view.now.tree.next in (
      (refl, tt),
      (
        read_root c.args.old.now c.new-before.result.forest c.new-before.ensures.forest c.requires.old,
        (
          read_root c.args.new.now c.new-after.result.forest c.new-after.ensures.forest c.requires.new,
          (
            subst (λ f. AreCovered f (alone 0 c.new-after.result.forest) (marking c.args.marks.now)) (sym was)
                (subst (λ g. AreCovered c.args.old.now g (marking c.args.marks.now)) (sym is) c.requires.covered),
            (
              subst (Shows c.args.view.now.tree) (sym was) c.requires.shown,
              subst (λ f. next + unkept f None (alone 0 c.new-after.result.forest) ≤ last_u32) (sym was)
                  (subst (λ g. next + unkept c.args.old.now None g ≤ last_u32) (sym is) (c.in_ok-cause.ensures.room c.in_default.is)),
            ),
          ),
        ),
      ),
    )

pub returns-clause-allowed : goal.returns-clause-allowed
returns-clause-allowed c =
    let was = read_alone c.args.old.now c.new-before.result.forest c.new-before.ensures.forest c.requires.old c.requires.one_before in
    let is = read_alone c.args.new.now c.new-after.result.forest c.new-after.ensures.forest c.requires.new c.requires.one_after in
    subst (λ f. IsAllowed f c.args.new.now (marking c.args.marks.now) c.args.view.now.tree c.in_ok-operations.field-0.ops) was
    (subst (λ g. IsAllowed (alone 0 c.new-before.result.forest) g (marking c.args.marks.now) c.args.view.now.tree c.in_ok-operations.field-0.ops) is
    c.in_ok-operations.ensures.allowed)

pub returns-clause-few : goal.returns-clause-few
returns-clause-few c =
    let was = read_alone c.args.old.now c.new-before.result.forest c.new-before.ensures.forest c.requires.old c.requires.one_before in
    let is = read_alone c.args.new.now c.new-after.result.forest c.new-after.ensures.forest c.requires.new c.requires.one_after in
    subst (λ f. c.in_ok-operations.field-0.reads ≤ most_reads f c.args.new.now (is_noted c.args.marks.now)) was
    (subst (λ g. c.in_ok-operations.field-0.reads ≤ most_reads (alone 0 c.new-before.result.forest) g (is_noted c.args.marks.now)) is
    c.in_ok-operations.ensures.bounded)
