use Rattle.std.proofs.Common.{◌≡◌, ◌∙◌, sym, None}
use Rattle.serde_json.specs.View.{view}
use Rattle.lx_draft.specs.Freezing.{limits_fault}
use Rattle.lx_json.proofs.Drafting.{import_refused, import_beyond, import_within, whole_growth, may_start, is_imported}
use Rattle.lx_json.proofs.importing.import.Goals as goal

pub returns-in-Err-clause-err : goal.returns-in-Err-clause-err
returns-in-Err-clause-err c = import_refused (view c.args.document.now) c.args.next_key c.in-Err.fault c.in-Err.ensures.err

pub limits_fault-requires-clause-whole : goal.limits_fault-requires-clause-whole
limits_fault-requires-clause-whole c = whole_growth (view c.args.document.now) c.args.next_key c.in-Ok.growth c.in-Ok.ensures.ok

pub returns-in-Some-clause-err : goal.returns-in-Some-clause-err
returns-in-Some-clause-err c =
    import_beyond (view c.args.document.now) c.args.next_key c.in-Ok.growth c.in-Some.cause c.in-Ok.ensures.ok (sym c.limits_fault.ensures ∙ c.in-Some.is)

pub drafted-requires : goal.drafted-requires
drafted-requires c =
    let none : limits_fault c.in-Ok.growth.links c.in-Ok.growth.next ≡ None = sym c.limits_fault.ensures ∙ c.in_default.is in
    may_start c.in-Ok.growth c.in-Ok.ensures.growing (whole_growth (view c.args.document.now) c.args.next_key c.in-Ok.growth c.in-Ok.ensures.ok) none

pub returns-in-Ok-drafted-clause-ok : goal.returns-in-Ok-drafted-clause-ok
returns-in-Ok-drafted-clause-ok c =
    import_within (view c.args.document.now) c.args.next_key c.in-Ok.growth c.in-Ok-drafted.draft c.in-Ok.ensures.ok
    (sym c.limits_fault.ensures ∙ c.in_default.is) c.in-Ok-drafted.ensures

pub returns-in-Ok-drafted-clause-made : goal.returns-in-Ok-drafted-clause-made
returns-in-Ok-drafted-clause-made c =
    let none : limits_fault c.in-Ok.growth.links c.in-Ok.growth.next ≡ None = sym c.limits_fault.ensures ∙ c.in_default.is in
    let start =
    may_start c.in-Ok.growth c.in-Ok.ensures.growing (whole_growth (view c.args.document.now) c.args.next_key c.in-Ok.growth c.in-Ok.ensures.ok) none in
    is_imported (view c.args.document.now) c.args.next_key c.in-Ok.growth c.in-Ok-drafted.draft c.in-Ok.ensures.ok c.in-Ok.ensures.growing start
    c.in-Ok-drafted.ensures
