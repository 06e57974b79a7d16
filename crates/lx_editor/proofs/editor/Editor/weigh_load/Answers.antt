use Rattle.std.proofs.Common.{◌≡◌, ◌∙◌, ◌≤◌, None, Some, refl, sym, ap, subst}
use Rattle.lx_forest.specs.Lookups.{children_of}
use Rattle.lx_draft.specs.declared.state.Frozen.{Frozen}
use Rattle.lx_marks.specs.Marks.{Marked, is_noted}
use Rattle.lx_reconcile.specs.Allowing.{marking, IsAllowed}
use Rattle.lx_editor.specs.Editor.{Editor}
use Rattle.lx_editor.specs.Standing.{editor_of}
use Rattle.lx_editor.specs.Updated.{what_is_left, hosts_fault}
use Rattle.lx_reconcile.specs.Reading.{most_reads}
use Rattle.lx_editor.specs.Judged.{with_leaves, IsCoveredBy}
use Rattle.lx_editor.proofs.Shown.{is_anew, may_commit}
use Rattle.lx_editor.proofs.editor.Editor.weigh_load.Goals as goal

pub returns-in-Ok-clause-weighed : goal.returns-in-Ok-clause-weighed
returns-in-Ok-clause-weighed c =
    let e : Editor = editor_of c.self.inside in
    let now : Editor = c.args.self.now in
    let frozen = c.args.frozen.value in
    let links = frozen.state.links in
    let batch = c.in-Ok.batch in
    let marks = c.in_ok-shown.shown in
    let is : c.as_ref-left.result.now ≡ frozen = c.as_ref-left.ensures in
    let shown : marks ≡ with_leaves (children_of e.tree 0) frozen.marks =
    c.in_ok-shown.ensures ∙ ap (λ (f : Frozen). with_leaves (children_of e.tree 0) f.marks) is in
    let ids : hosts_fault now.tree links now.view ≡ None = subst (λ (d : Editor). hosts_fault d.tree links d.view ≡ None) c.self.view_is
    (subst (λ (f : Frozen). hosts_fault e.tree f.state.links e.view ≡ None) is c.in-Ok.ensures.ids) in
    let allowed : IsAllowed now.tree links (marking (with_leaves (children_of now.tree 0) frozen.marks)) now.view batch.ops =
    subst (λ (d : Editor). IsAllowed d.tree links (marking (with_leaves (children_of d.tree 0) frozen.marks)) d.view batch.ops) c.self.view_is
    (subst (λ (m : Marked). IsAllowed e.tree links (marking m) e.view batch.ops) shown
    (subst (λ (f : Frozen). IsAllowed e.tree f.state.links (marking marks) e.view batch.ops) is c.in-Ok.ensures.allowed)) in
    let few : batch.reads ≤ most_reads now.tree links (is_noted (with_leaves (children_of now.tree 0) frozen.marks)) =
    subst (λ (d : Editor). batch.reads ≤ most_reads d.tree links (is_noted (with_leaves (children_of d.tree 0) frozen.marks))) c.self.view_is
    (subst (λ (m : Marked). batch.reads ≤ most_reads e.tree links (is_noted m)) shown
    (subst (λ (f : Frozen). batch.reads ≤ most_reads e.tree f.state.links (is_noted marks)) is c.in-Ok.ensures.few)) in
    let gone : c.in_ok-shown-in-Ok.shown.value ≡ with_leaves (children_of now.tree 0) frozen.marks =
    c.in_ok-shown-in-Ok.ensures.ok ∙ shown ∙ ap (λ (d : Editor). with_leaves (children_of d.tree 0) frozen.marks) c.self.view_is in (
      refl,
      may_commit now (what_is_left now.rules frozen) (with_leaves (children_of now.tree 0)
          frozen.marks) batch c.requires.left c.requires.anew c.requires.shown ids c.requires.grown allowed few,
      subst (IsCoveredBy now links) (sym gone) c.requires.shown.covered,
    )

pub returns-in-Err-Cause-clause-weighed : goal.returns-in-Err-Cause-clause-weighed
returns-in-Err-Cause-clause-weighed c =
    let e : Editor = editor_of c.self.inside in
    let now : Editor = c.args.self.now in
    let frozen = c.args.frozen.value in
    record {
      anew = is_anew now (what_is_left now.rules frozen) c.requires.anew;
      fault =
          rw c.in-Err-Cause.field-0-is
          (subst (λ (d : Editor). hosts_fault d.tree frozen.state.links d.view ≡ Some c.in-Err-Cause.cause) c.self.view_is
          (subst (λ (f : Frozen). hosts_fault e.tree f.state.links e.view ≡ Some c.in-Err-Cause.cause) c.as_ref-left.ensures
          (rw c.in-Err-Cause.field-0-is at c.in-Err-Cause.ensures.refused)));
      no_step = refl;
      same = refl;
    }
