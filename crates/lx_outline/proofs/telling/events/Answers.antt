use Rattle.std.proofs.Common.{◌∙◌, ◌++◌, map, ap}
use Rattle.lx_outline.specs.declared.keys.Change.TheVariants as change
use Rattle.lx_outline.specs.Events.{event_of}
use Rattle.lx_outline.proofs.Told.{events_told}
use Rattle.lx_outline.proofs.telling.events.Goals as goal

pub returns : goal.returns
returns c =
    let gone = c.in_ok-destroyed.destroyed in
    events_told c.args.before.now.links c.args.after.now.links c.args.marks.now c.requires.before c.requires.after c.requires.one_tree c.requires.covered
    c.as_slice-marked.result.now (c.as_slice-marked.ensures.value ∙ c.in_ok-keys.ensures)
    c.tell-3.new.events.items c.tell.new.events.items c.tell-2.new.events.items gone c.in_ok-created.created c.in_ok-updated.updated
    c.in_ok-destroyed.ensures.gone c.in_ok-destroyed.ensures.told c.in_ok-created.ensures c.in_ok-updated.ensures
    c.in_ok-tell.ensures.ascending c.in_ok-tell-2.ensures.ascending c.in_ok-tell-3.ensures.ascending
    (c.in_ok-tell.ensures.told ∙ ap (λ es. es ++ map (event_of change.Destroyed) gone) c.new-events.ensures.items)
    c.in_ok-tell-2.ensures.told c.in_ok-tell-3.ensures.told
