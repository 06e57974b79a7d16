use Rattle.std.proofs.Common.{◌≡◌, ◌∙◌, ◌++◌, sym, ap}
use Rattle.lx_forest.specs.Forest.{Forest}
use Rattle.lx_forest.specs.Lookups.{children_of}
use Rattle.lx_links.proofs.Seen.{seen_in}
use Rattle.lx_outline.specs.Reading.{with_below, gathered}
use Rattle.lx_outline.proofs.HeadingText.{heading_read}
use Rattle.lx_outline.proofs.headings.read_heading.Goals as goal

pub returns-clause-heading : goal.returns-clause-heading
returns-clause-heading g c =
    let f = g.R.Records.forest c.args.records.now in
    let read = g.R.Records.forest c.read.new.self in
    let key = c.args.key in
    let text : c.into_text.result ≡ c.new-text.result ++ gathered (with_below read) (children_of read key) =
    c.into_text.ensures ∙ c.in_ok-add_all.ensures.text in
    heading_read f key c.in-Some.node.now c.in-Some-level_of.level c.into_text.result c.read.ensures.sound
    (seen_in c.read.result c.in-Some.node f key c.read.ensures.found c.in-Some.is)
    (sym c.level_of.ensures ∙ c.in-Some-level_of.is)
    (text ∙ ap (λ t. t ++ gathered (with_below read) (children_of read key)) c.new-text.ensures
    ∙ ap (λ (f : Forest). gathered (with_below f) (children_of f key)) c.read.ensures.same)
