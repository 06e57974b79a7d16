use Rattle.std.proofs.Common.{◌≡◌, ◌∙◌, List, Ok, sym, ap, subst}
use Rattle.serde_json.specs.View.{view}
use Rattle.lx_draft.specs.Faults.{TellsStep}
use Rattle.lx_rules.specs.declared.any_rule.AnyRule.{AnyRule}
use Rattle.lx_update.specs.Refusals.{TellsRefusal}
use Rattle.lx_json.specs.Importing.{imported, IsImported}
use Rattle.lx_editor.specs.Editor.{Editor}
use Rattle.lx_editor.specs.Standing.{IsValid}
use Rattle.lx_editor.specs.Loaded.{left_by_load}
use Rattle.lx_editor.specs.Updated.{what_is_left, rested_by}
use Rattle.lx_editor.specs.Judged.{IsJudged, IsLeftOfImport, LeavesAtRest, IsSettledOf}
use Rattle.lx_editor.proofs.Began.{import_rests}
use Rattle.lx_editor.proofs.Updated.{first_key, may_give_way, load_left}
use Rattle.lx_editor.proofs.Told.{told}
use Rattle.lx_editor.proofs.editor.Editor.judge_load.Goals as goal
use Rattle.lx_editor.proofs.editor.Editor.judge_load.Goals.{After-as_slice}

-- the rules under which the draft comes to rest are the editor's
same : (c : After-as_slice) → c.as_slice.result.now ≡ c.args.self.now.rules
same c = c.as_slice.ensures.value ∙ ap (λ (e : Editor). e.rules) c.self.view_is

-- so the load leaves what the draft leaves at rest under them
left : (c : After-as_slice) → left_by_load c.args.self.now (view c.args.document.now) ≡ rested_by c.as_slice.result.now c.in-Ok.draft
left c =
    let d = view c.args.document.now in
    let made : imported d c.args.self.now.next_key ≡ Ok c.in-Ok.draft =
    subst (λ (e : Editor). imported d e.next_key ≡ Ok c.in-Ok.draft) c.self.view_is c.in-Ok.ensures.ok in
    load_left c.args.self.now d c.in-Ok.draft made ∙ ap (λ (rules : List AnyRule). rested_by rules c.in-Ok.draft) (sym (same c))

pub import-requires-clause-first : goal.import-requires-clause-first
import-requires-clause-first c = let state = c.self.invariant.valid.state in first_key _ _ state.in_order state.start

pub returns-in-Err-clause-judged : goal.returns-in-Err-clause-judged
unfolding left_by_load
returns-in-Err-clause-judged c =
    let now : Editor = c.args.self.now in
    let d = view c.args.document.now in
    c.verdict_of_fault.ensures.judged now.rules (imported d now.next_key) now
    (subst (λ (e : Editor). TellsStep c.in-Err.fault (imported d e.next_key)) c.self.view_is c.in-Err.ensures.err)

pub rest-requires : goal.rest-requires
rest-requires c =
    let now : Editor = c.args.self.now in
    let import : IsImported now.next_key c.in-Ok.draft = subst (λ (e : Editor). IsImported e.next_key c.in-Ok.draft) c.self.view_is c.in-Ok.ensures.made in
    record { may = import_rests now.next_key c.in-Ok.draft import }

pub weigh_load-requires : goal.weigh_load-requires
weigh_load-requires c =
    let now : Editor = c.args.self.now in
    let draft = c.in-Ok.draft in
    let valid : IsValid now = subst IsValid c.self.view_is c.self.invariant.valid in
    let import : IsImported now.next_key draft = subst (λ (e : Editor). IsImported e.next_key draft) c.self.view_is c.in-Ok.ensures.made in
    let at = same (goal.at.weigh_load-requires c).After-as_slice in
    let stands =
    subst (λ (rules : List AnyRule). IsLeftOfImport draft (what_is_left rules c.in-Ok-rest.frozen.value)) at c.in-Ok-rest.ensures.imported now.next_key import in
    let place = stands.3 now.tree (may_give_way now valid) in
    record { left = stands.0; shown = place.0; grown = place.1; anew = stands.1 }

pub returns-in-Ok-rest-clause-judged : goal.returns-in-Ok-rest-clause-judged
returns-in-Ok-rest-clause-judged c =
    let at = (goal.at.returns-in-Ok-rest-clause-judged c).After-as_slice in
    let now : Editor = c.args.self.now in
    let draft = c.in-Ok.draft in
    let import : IsImported now.next_key draft = subst (λ (e : Editor). IsImported e.next_key draft) c.self.view_is c.in-Ok.ensures.made in
    let leaves : LeavesAtRest draft (what_is_left now.rules c.in-Ok-rest.frozen.value) =
    subst (λ (rules : List AnyRule). LeavesAtRest draft (what_is_left rules c.in-Ok-rest.frozen.value)) (same at) c.in-Ok-rest.ensures.left in
    let settles : IsSettledOf draft (what_is_left now.rules c.in-Ok-rest.frozen.value) =
    subst (λ (rules : List AnyRule). IsSettledOf draft (what_is_left rules c.in-Ok-rest.frozen.value)) (same at)
    (c.in-Ok-rest.ensures.imported now.next_key import).2 in
    let is = left at ∙ ap (λ (rules : List AnyRule). rested_by rules draft) (same at) ∙ leaves.1 in
    told c.weigh_load.result _ _ c.weigh_load.ensures.weighed
    (λ verdict weighed. subst (λ r. IsJudged r now verdict) (sym is)
    (settles (record { left = what_is_left now.rules c.in-Ok-rest.frozen.value; marks = leaves.0 }) leaves.1, weighed))

pub returns-in-Err-rest-clause-judged : goal.returns-in-Err-rest-clause-judged
returns-in-Err-rest-clause-judged c =
    let at = (goal.at.returns-in-Err-rest-clause-judged c).After-as_slice in
    c.verdict_of.ensures.judged _ c.args.self.now (subst (TellsRefusal c.in-Err-rest.refusal) (sym (left at)) c.in-Err-rest.ensures.refused)
