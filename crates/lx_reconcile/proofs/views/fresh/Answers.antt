use Rattle.std.proofs.Common.{◌∙◌, sym, subst}
use Rattle.lx_host.specs.Hosts.{HostTree, FitInTurn, Leads}
use Rattle.lx_reconcile.proofs.FromNothing.{fresh_fits, fresh_shows, fresh_rooted, fresh_next}
use Rattle.lx_reconcile.proofs.views.fresh.Goals as goal

pub apply-requires-clause-fit : goal.apply-requires-clause-fit
apply-requires-clause-fit c =
    subst (λ (v : HostTree). FitInTurn v c.in_ok-ops.ops.items) (sym (c.reserve.ensures.same ∙ c.in_ok-view.ensures))
    (fresh_fits c.args.state.now.links _ c.operations.ensures.sound c.in_ok-ops.ensures.living c.in_ok-ops.ensures.ops)

pub returns-clause-shows : goal.returns-clause-shows
returns-clause-shows c =
    fresh_shows c.args.state.now.links c.in_ok-ops.ops.items _ c.operations.ensures.sound c.in_ok-ops.ensures.living c.in_ok-ops.ensures.ops
    (subst (λ (v : HostTree). Leads v c.in_ok-ops.ops.items c.apply.new.self.tree) (c.reserve.ensures.same ∙ c.in_ok-view.ensures) c.apply.ensures)

pub returns-clause-next : goal.returns-clause-next
returns-clause-next c =
    fresh_next c.args.state.now.links c.in_ok-ops.ops.items _ c.operations.ensures.sound c.in_ok-ops.ensures.living c.in_ok-ops.ensures.ops
    (subst (λ (v : HostTree). Leads v c.in_ok-ops.ops.items c.apply.new.self.tree) (c.reserve.ensures.same ∙ c.in_ok-view.ensures) c.apply.ensures)

pub returns-clause-rooted : goal.returns-clause-rooted
returns-clause-rooted c =
    fresh_rooted c.args.state.now.links c.in_ok-ops.ops.items _ c.operations.ensures.sound c.in_ok-ops.ensures.living c.in_ok-ops.ensures.ops
    (subst (λ (v : HostTree). Leads v c.in_ok-ops.ops.items c.apply.new.self.tree) (c.reserve.ensures.same ∙ c.in_ok-view.ensures) c.apply.ensures)
