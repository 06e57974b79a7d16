use Rattle.std.proofs.Common.{◌∙◌, ap}
use Rattle.serde_json.specs.View.{view}
use Rattle.lx_forest.specs.Lookups.{has}
use Rattle.lx_forest.proofs.Edits.{has-root}
use Rattle.lx_json.proofs.BackDocument.{document_written, document_reads_back}
use Rattle.lx_json.proofs.exporting.export.Goals as goal

pub tree_value-requires : goal.tree_value-requires
tree_value-requires c = record { there = ap (λ k. has k c.args.state.now.links) c.root.ensures ∙ has-root c.args.state.now.links c.requires.order }

pub returns-clause-written : goal.returns-clause-written
returns-clause-written c =
    document_written c.args.state.now.links c.root.result (view c.in_ok-root.root) (view c.in_ok-document.document) c.root.ensures c.requires.order
    c.requires.alone c.in_ok-root.ensures.written c.in_ok-document.ensures

pub returns-clause-back : goal.returns-clause-back
returns-clause-back c = λ next first room some within.
    document_reads_back next c.args.state.now.links c.root.result (view c.in_ok-root.root) (view c.in_ok-document.document) c.root.ensures c.requires.order
    c.requires.alone c.in_ok-root.ensures.written c.in_ok-document.ensures
    c.in_ok-root.ensures.told c.in_ok-root.ensures.sound first room some within
