use Rattle.std.proofs.Common.{◌≡◌, ◌∙◌, List, sym, ap, subst}
use Rattle.lx_rules.specs.declared.any_rule.AnyRule.{AnyRule}
use Rattle.lx_editor.specs.Editor.{Editor}
use Rattle.lx_editor.specs.Gathering.{started_of}
use Rattle.lx_editor.specs.Standing.{IsValid}
use Rattle.lx_editor.specs.Updated.{what_is_left}
use Rattle.lx_editor.specs.Judged.{IsLeft, HasGrown, IsJudged, LeavesAtRest, IsSettledOf}
use Rattle.lx_editor.proofs.Began.{fresh_rests}
use Rattle.lx_editor.proofs.Updated.{fresh_started}
use Rattle.lx_editor.proofs.Told.{told}
use Rattle.lx_editor.proofs.editor.Editor.judge_draft.Goals as goal

pub rest-requires : goal.rest-requires
rest-requires c =
    let e : Editor = c.args.self.now in
    let valid : IsValid e = subst IsValid c.self.view_is c.self.invariant.valid in
    record { may = fresh_rests (started_of e) c.args.draft (fresh_started e valid) c.requires.covered }

pub weigh-requires : goal.weigh-requires
weigh-requires c =
    let e : Editor = c.args.self.now in
    let valid : IsValid e = subst IsValid c.self.view_is c.self.invariant.valid in
    let same : c.as_slice.result.now ≡ e.rules = c.as_slice.ensures.value ∙ ap (λ (d : Editor). d.rules) c.self.view_is in
    let stands = c.in-Ok.ensures.stands _ (fresh_started e valid) c.requires.covered in
    record {
      left = subst (λ (rules : List AnyRule). IsLeft (what_is_left rules c.in-Ok.frozen.value)) same stands.0;
      covered = stands.1;
      grown = subst (λ (rules : List AnyRule). HasGrown e.tree e.next_key (what_is_left rules c.in-Ok.frozen.value)) same stands.2;
    }

pub returns-in-Ok : goal.returns-in-Ok
returns-in-Ok c =
    let e : Editor = c.args.self.now in
    let same : c.as_slice.result.now ≡ e.rules = c.as_slice.ensures.value ∙ ap (λ (d : Editor). d.rules) c.self.view_is in
    let valid : IsValid e = subst IsValid c.self.view_is c.self.invariant.valid in
    let leaves : LeavesAtRest c.args.draft (what_is_left e.rules c.in-Ok.frozen.value) =
    subst (λ (rules : List AnyRule). LeavesAtRest c.args.draft (what_is_left rules c.in-Ok.frozen.value)) same c.in-Ok.ensures.left in
    let settles : IsSettledOf c.args.draft (what_is_left e.rules c.in-Ok.frozen.value) =
    subst (λ (rules : List AnyRule). IsSettledOf c.args.draft (what_is_left rules c.in-Ok.frozen.value)) same
    (c.in-Ok.ensures.stands _ (fresh_started e valid) c.requires.covered).3
    in
    record {
      judged =
          told c.weigh.result _ _ c.weigh.ensures.weighed
          (λ verdict weighed. subst (λ r. IsJudged r e verdict) (sym leaves.1)
          (settles (record { left = what_is_left e.rules c.in-Ok.frozen.value; marks = leaves.0 }) leaves.1, weighed));
    }
