use Rattle.std.proofs.Common.{◌∙◌, sym, ap, Some, option_map}
use Rattle.lx_render.specs.Render.{tag_of}
use Rattle.lx_reconcile.proofs.CountedNodes.{and_kept, kept_none, kept_some, kept_inside}
use Rattle.lx_reconcile.proofs.counting.is_kept.Goals as goal

pub returns-in-Some-clause-kept : goal.returns-in-Some-clause-kept
returns-in-Some-clause-kept g c =
    let own = c.if-not-kept.false in
    let read = ap (λ n. Some n) c.node.ensures ∙ sym (ap (option_map g.L.Item.Looked.lent) c.in-Some.is) ∙ c.look.ensures.whole_found in
    and_kept c.args.kept _ _ own
    (c.was_here.ensures
    ∙ kept_some (g.L.Look.backing c.args.before.now).whole c.args.parent c.args.key c.look.ensures.whole_sound (c.requires.in_tree own)
    (tag_of c.args.now.now.kind c.args.now.now.fields) c.node.result.now read)

pub returns-in-Some-clause-in_tree : goal.returns-in-Some-clause-in_tree
returns-in-Some-clause-in_tree g c = λ so.
    let own = c.if-not-kept.false in
    let read = ap (λ n. Some n) c.node.ensures ∙ sym (ap (option_map g.L.Item.Looked.lent) c.in-Some.is) ∙ c.look.ensures.whole_found in
    let whole = (g.L.Look.backing c.args.before.now).whole in
    let tag = tag_of c.args.now.now.kind c.args.now.now.fields in
    kept_inside whole c.args.parent c.args.key c.look.ensures.whole_sound (c.requires.in_tree own) tag
    (sym (c.was_here.ensures ∙ kept_some whole c.args.parent c.args.key c.look.ensures.whole_sound (c.requires.in_tree own) tag c.node.result.now read) ∙ so)

pub returns-in-None-clause-kept : goal.returns-in-None-clause-kept
returns-in-None-clause-kept g c =
    let own = c.if-not-kept.false in
    and_kept c.args.kept _ _ own
    (kept_none (g.L.Look.backing c.args.before.now).whole c.args.parent c.args.key c.look.ensures.whole_sound (c.requires.in_tree own)
    (tag_of c.args.now.now.kind c.args.now.now.fields)
    (sym (ap (option_map g.L.Item.Looked.lent) c.in-None.is) ∙ c.look.ensures.whole_found))
