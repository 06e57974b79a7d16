use Rattle.std.proofs.Common.{◌∙◌, ◌≡◌, ap, ap₂, refl, codes, true}
use Rattle.std.proofs.lemmas.Result.{IfOk-weaker}
use Rattle.clap.specs.Simple.{Shape, app_of, app_of_fields, new_app, on_top, with_rule}
use Rattle.lx_arguments.specs.Arguments.{delay_rule, generate_rule, hub_rule, lexical_app, outline_rule, seed_rule, view_rule}
use Rattle.lx_arguments.proofs.command.lexical_command.Goals as goal

abbrev unnamed : Shape → Shape
unnamed s = record s { no_binary_name = true }

abbrev helpless : Shape → Shape
helpless s = record s { disable_help_flag = true }

are_rules :
    with_rule (with_rule (with_rule (with_rule (with_rule (with_rule (on_top helpless (on_top unnamed (new_app (codes "lexical"))))
    view_rule) delay_rule) hub_rule) outline_rule) generate_rule) seed_rule
    ≡ lexical_app
unfolding lexical_app
are_rules = refl

pub returns : goal.returns
returns c =
    let unnamed_is : app_of c.no_binary_name.result ≡ on_top unnamed (new_app (codes "lexical")) =
    ap app_of_fields c.no_binary_name.ensures ∙ ap (on_top unnamed) c.new.ensures.app in
    let plain_is : app_of c.disable_help_flag.result ≡ on_top helpless (on_top unnamed (new_app (codes "lexical"))) =
    ap app_of_fields c.disable_help_flag.ensures ∙ ap (on_top helpless) unnamed_is in
    let view_is = c.in_ok-arg.ensures.shape c.view_flag.ensures.local ∙ ap₂ with_rule plain_is c.view_flag.ensures.rule in
    let delay_is = c.in_ok-arg-2.ensures.shape c.delay_option.ensures.local ∙ ap₂ with_rule view_is c.delay_option.ensures.rule in
    let hub_is = c.in_ok-arg-3.ensures.shape c.hub_flag.ensures.local ∙ ap₂ with_rule delay_is c.hub_flag.ensures.rule in
    let outline_is = c.in_ok-arg-4.ensures.shape c.outline_flag.ensures.local ∙ ap₂ with_rule hub_is c.outline_flag.ensures.rule in
    let generate_is = c.in_ok-arg-5.ensures.shape c.generate_option.ensures.local ∙ ap₂ with_rule outline_is c.generate_option.ensures.rule in
    IfOk-weaker c.arg-6.result _ _ (λ command added. added.shape c.seed_option.ensures.local
    ∙ (ap₂ with_rule generate_is c.seed_option.ensures.rule ∙ are_rules)) c.arg-6.ensures
