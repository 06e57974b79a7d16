use Rattle.std.proofs.Common.{ap, sym, ◌∙◌, ◌+◌, drop, arith}
use Rattle.std.proofs.lemmas.List.{drop_all}
use Rattle.lx_host.specs.Least.{least_in, shows_attached}
use Rattle.lx_host.specs.Lookups.{lesser}
use Rattle.lx_host.proofs.Least.{least_step, least_host, lesser-None}
use Rattle.lx_host.proofs.scan.least_shown.Goals as goal

pub loop-place-preserved : goal.loop-place-preserved
loop-place-preserved c =
    let grove = c.args.grove.now in
    ap (λ o. lesser o (least_in (shows_attached c.args.key grove.hosts) (drop (c.loop-place.place + 1) grove.ids)))
    (c.lesser_of-least.ensures ∙ ap (lesser c.loop-place.least) c.shown_at-own.ensures)
    ∙ least_step (shows_attached c.args.key grove.hosts) c.loop-place.place grove.ids c.loop-place.least
    ∙ c.loop-place.invariant

pub returns : goal.returns
returns c =
    let grove = c.args.grove.now in
    sym (lesser-None c.loop-place.least)
    ∙ sym (ap (λ ids. lesser c.loop-place.least (least_in (shows_attached c.args.key grove.hosts) ids)) (drop_all c.loop-place.place grove.ids (omega arith)))
    ∙ c.loop-place.invariant
    ∙ least_host c.args.key grove.hosts grove.ids c.in_order.ensures.ordered c.in_order.ensures.ids
