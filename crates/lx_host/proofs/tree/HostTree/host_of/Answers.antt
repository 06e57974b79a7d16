use Rattle.std.proofs.Common.{ap, sym, ◌∙◌, arith, cond, nat_eq, None, Some}
use Rattle.std.specs.Option.{option_copied}
use Rattle.indexmap.specs.IndexMap.{get}
use Rattle.lx_host.specs.Html.{first_tree}
use Rattle.lx_host.specs.Lookups.{host_of}
use Rattle.lx_host.specs.Room.{Held}
use Rattle.lx_host.proofs.Kept.{host_none, host_one, few_shown, one_below}
use Rattle.lx_host.proofs.tree.HostTree.host_of.Goals as goal

pub returns-in_default : goal.returns-in_default
returns-in_default c =
    let at = ap (λ k. get nat_eq c.self.inside.keys k) (sym c.number.ensures) ∙ sym c.get.ensures.value ∙ ap option_copied c.in_default.is in
    host_none c.self.inside.keys c.self.inside.next_id c.args.key c.self.inside.grove.hosts c.in_order.ensures.ordered c.self.invariant at
    ∙ ap (λ (v : Held). host_of c.args.key (first_tree v.tree.hosts)) c.self.view_is

pub overflow_cast-id : goal.overflow_cast-id
overflow_cast-id c =
    let at = ap (λ k. get nat_eq c.self.inside.keys k) (sym c.number.ensures) ∙ sym c.get.ensures.value ∙ ap option_copied c.in-Some.is in
    let few = few_shown c.self.inside.keys c.self.inside.next_id c.args.key c.self.inside.grove.hosts c.in-Some.shown.now c.self.invariant (omega arith) at in
    omega (arith, one_below c.self.inside.keys c.self.inside.next_id c.args.key c.self.inside.grove.hosts c.in-Some.shown.now c.self.invariant few at, c.next_id-next.ensures.next, c.next_id-next.type_inv, ap (λ (v : Held). v.tree.next) c.self.view_is)

pub returns-then-is_within : goal.returns-then-is_within
returns-then-is_within c =
    let at = ap (λ k. get nat_eq c.self.inside.keys k) (sym c.number.ensures) ∙ sym c.get.ensures.value ∙ ap option_copied c.in-Some.is in
    let few = few_shown c.self.inside.keys c.self.inside.next_id c.args.key c.self.inside.grove.hosts c.in-Some.shown.now c.self.invariant (omega arith) at in
    let is =
    host_one c.self.inside.keys c.self.inside.next_id c.args.key c.self.inside.grove.hosts c.in-Some.shown.now c.is_within.ensures.ordered c.self.invariant
    few at in
    sym (ap (λ (v : Held). host_of c.args.key (first_tree v.tree.hosts)) (sym c.self.view_is) ∙ is
    ∙ ap (λ b. cond b (Some c.in-Some.shown.now.ids) None) (sym c.is_within.ensures.within ∙ c.if-is_within.true))

pub returns-else-is_within : goal.returns-else-is_within
returns-else-is_within c =
    let at = ap (λ k. get nat_eq c.self.inside.keys k) (sym c.number.ensures) ∙ sym c.get.ensures.value ∙ ap option_copied c.in-Some.is in
    let few = few_shown c.self.inside.keys c.self.inside.next_id c.args.key c.self.inside.grove.hosts c.in-Some.shown.now c.self.invariant (omega arith) at in
    let is =
    host_one c.self.inside.keys c.self.inside.next_id c.args.key c.self.inside.grove.hosts c.in-Some.shown.now c.is_within.ensures.ordered c.self.invariant
    few at in
    sym (ap (λ (v : Held). host_of c.args.key (first_tree v.tree.hosts)) (sym c.self.view_is) ∙ is
    ∙ ap (λ b. cond b (Some c.in-Some.shown.now.ids) None) (sym c.is_within.ensures.within ∙ c.if-is_within.false))
