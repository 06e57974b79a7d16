use Rattle.lx_list.specs.Listing.{make_list_step}
use Rattle.lx_caret.proofs.Lying.{does_lie}
use Rattle.lx_list.proofs.Itemized.{lies-make_list}
use Rattle.lx_list.proofs.commands.make_list.Goals as goal

pub returns-clause-lying : goal.returns-clause-lying
unfolding make_list_step
returns-clause-lying c =
    does_lie _ _ c.edit_lines.result
    (λ e. lies-make_list c.args.list_type c.args.draft.now c.edit_lines.new.draft c.in_ok-ready.ensures.ready c.ready.ensures.held c.ready.ensures.short e)
    c.edit_lines.ensures
