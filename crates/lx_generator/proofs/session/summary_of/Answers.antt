use Rattle.std.proofs.Common.{◌∙◌, List, ℕ, ap, length}
use Rattle.std.specs.Prelude.{min, encode_utf8_all}
use Rattle.lx_node.specs.Limits.{last_u32}
use Rattle.lx_trees.specs.NamedTrees.{total}
use Rattle.lx_host.specs.Hosts.{HostTree, shape_of}
use Rattle.lx_host.specs.Html.{first_tree, html_of}
use Rattle.lx_forest.specs.Forest.{Forest}
use Rattle.lx_forest.specs.Weights.{weight}
use Rattle.lx_links.specs.Characters.{characters_in}
use Rattle.lx_generator.proofs.Told.{characters_are, printed, summary_is}
use Rattle.lx_generator.proofs.session.summary_of.Goals as goal

pub returns : goal.returns
returns c =
    let e = c.args.editor.now in
    let state = c.state-state.ensures.state in
    let tree_is = c.state-state.ensures.tree in
    let characters = c.characters.ensures ∙ ap (λ (f : Forest). min (weight characters_in f) last_u32) tree_is
    ∙ characters_are e.tree e.selection e.next_key state in
    let nodes = c.len.ensures.len ∙ ap total tree_is in
    let html = c.in_ok-html.ensures.html ∙ ap (λ (v : HostTree). html_of (first_tree (shape_of v.hosts))) c.hosts.ensures.view
    ∙ printed e.tree e.selection e.next_key e.view state c.hosts.ensures.shows in
    let view = ap (λ (t : List ℕ). length t) (c.as_str.ensures.bytes ∙ ap encode_utf8_all html) in
    summary_is c.args.lines e c.args.tally c.characters.result c.len.result c.depths-undo.result.1 c.depths-undo.result.0 (length c.as_str.result.now)
    characters nodes c.depths-undo.ensures.told.1 c.depths-undo.ensures.told.0 view
