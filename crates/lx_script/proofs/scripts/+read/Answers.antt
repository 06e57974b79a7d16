use Rattle.std.proofs.Common.{◌≡◌, ◌∙◌, sym, ap, arith, codes, None, Some, option_map, option_and_then}
use Rattle.std.proofs.lemmas.Grind.{common_steps}
use Rattle.serde_json.specs.View.{view, items_view}
use Rattle.lx_step.specs.Spelled.{script_of}
use Rattle.lx_script.specs.Steps.{script_from, script_in, step_for, step_of}
use Rattle.lx_fields.specs.Values.{all_of, required}
use Rattle.lx_fields.proofs.Looked.{depth-listed, depth-item}
use Rattle.lx_script.proofs.Listed.{step_of-found, member-listed, script_from-all}
use Rattle.lx_script.proofs.scripts.+read.Goals as goal

pub member_script-script_of-requires : goal.member_script-script_of-requires
member_script-script_of-requires t c =
    (omega (arith, depth-listed c.args.name.now (view c.args.value.now) (items_view c.in-Some.items.now) (sym c.in-Some.ensures)), tt)

pub member_script-returns-in-Ok : goal.member_script-returns-in-Ok
member_script-returns-in-Ok t c =
    c.in-Ok.ensures ∙ ap (option_and_then (script_from c.args.inside)) c.in-Some.ensures
    ∙ sym (member-listed c.args.inside c.args.name.now (view c.args.value.now))

pub member_script-returns-in-None : goal.member_script-returns-in-None
member_script-returns-in-None t c =
    ap (option_and_then (script_from c.args.inside)) c.in-None.ensures ∙ sym (member-listed c.args.inside c.args.name.now (view c.args.value.now))

pub script_of-step_of-requires : goal.script_of-step_of-requires
script_of-step_of-requires t c =
    (omega (arith, depth-item c.args.items.now c.items.item-index c.item-item.result c.items-test.true c.item-item.is), tt)

pub script_of-returns-in-Ok-None : goal.script_of-returns-in-Ok-None
script_of-returns-in-Ok-None t c =
    let none : None ≡ all_of (step_of c.args.inside) (items_view c.args.items.now) = grind (arith, common_steps) in
    ap (option_map script_of) none ∙ sym (script_from-all c.args.inside (items_view c.args.items.now))

pub script_of-returns : goal.script_of-returns
script_of-returns t c =
    let all : Some c.items.made.items ≡ all_of (step_of c.args.inside) (items_view c.args.items.now) = grind (arith, common_steps) in
    ap (λ made. Some made) c.of.ensures.steps ∙ ap (option_map script_of) all ∙ sym (script_from-all c.args.inside (items_view c.args.items.now))

pub step_of-returns-in-Ok : goal.step_of-returns-in-Ok
step_of-returns-in-Ok t c =
    c.in-Ok.ensures
    ∙ ap (option_and_then
    (λ verb. step_for c.args.inside verb (view c.args.value.now) (required (script_in c.args.inside) (codes "later") (view c.args.value.now))))
    c.in-Some.ensures
    ∙ sym (step_of-found c.args.inside (view c.args.value.now))

pub step_of-returns-in-None : goal.step_of-returns-in-None
step_of-returns-in-None t c =
    ap (option_and_then
    (λ verb. step_for c.args.inside verb (view c.args.value.now) (required (script_in c.args.inside) (codes "later") (view c.args.value.now))))
    c.in-None.ensures
    ∙ sym (step_of-found c.args.inside (view c.args.value.now))
