use Rattle.std.proofs.Common.{◌∙◌}
use Rattle.lx_arguments.proofs.Asked.{not_taken, options_are, refusal, usage_is}
use Rattle.lx_arguments.proofs.Numbers.{has_numbers}
use Rattle.lx_arguments.proofs.options.options_of.Goals as goal

pub options_in-requires : goal.options_in-requires
options_in-requires c = record {
  numbers = has_numbers c.in-Ok.command c.in-Ok-try_get_matches_from.matches c.in-Ok.ensures c.in-Ok-try_get_matches_from.ensures.parsed;
}

pub returns-in-Ok-try_get_matches_from-clause-ok : goal.returns-in-Ok-try_get_matches_from-clause-ok
returns-in-Ok-try_get_matches_from-clause-ok c =
    options_are c.options_in.result _ _ c.in-Ok-try_get_matches_from.matches c.in-Ok.ensures c.in-Ok-try_get_matches_from.ensures.matches
    c.in-Ok-try_get_matches_from.ensures.kinds c.options_in.ensures.mode c.options_in.ensures.view c.options_in.ensures.delay

pub returns-in-Ok-try_get_matches_from-clause-usage : goal.returns-in-Ok-try_get_matches_from-clause-usage
returns-in-Ok-try_get_matches_from-clause-usage c =
    usage_is c.options_in.result _ _ c.in-Ok-try_get_matches_from.matches c.in-Ok.ensures c.in-Ok-try_get_matches_from.ensures.matches
    c.options_in.ensures.usage

pub returns-in-Err-try_get_matches_from-clause-usage : goal.returns-in-Err-try_get_matches_from-clause-usage
returns-in-Err-try_get_matches_from-clause-usage c =
    refusal c.refused_by.result _ c.kind.result c.refused_by.ensures.usage
    (λ other. not_taken _ _ c.in-Err-try_get_matches_from.error c.in-Ok.ensures c.in-Err-try_get_matches_from.ensures.kinds
    (λ memory. other (c.kind.ensures ∙ memory)))
