use Rattle.lx_links.proofs.Spliced.{edited_in_place}
use Rattle.lx_links.proofs.splices.TextSpliceEditNode.edit.Goals as goal

pub returns-in-Text-clause-edited : goal.returns-in-Text-clause-edited
returns-in-Text-clause-edited c =
    edited_in_place c.splice.result c.args.self c.args.node.now c.in-Text.old c.splice.new.self c.in-Text.is c.requires c.splice.ensures.spliced
