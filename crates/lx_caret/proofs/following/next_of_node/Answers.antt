use Rattle.std.proofs.Common.{Some, sym, subst}
use Rattle.lx_node.specs.OfKind.{IsOfKind}
use Rattle.lx_node.specs.declared.kind.Kind.TheVariants.{Paragraph, Item}
use Rattle.lx_caret.proofs.Labelled.{block_other}
use Rattle.lx_blocks.proofs.Labelled.{paragraph_suits}
use Rattle.lx_caret.proofs.Nexts.{plain_suits, item_suits}
use Rattle.lx_caret.proofs.following.next_of_node.Goals as goal

pub returns-in-Heading-clause-of_kind : goal.returns-in-Heading-clause-of_kind
returns-in-Heading-clause-of_kind c = subst (IsOfKind Paragraph) (sym c.plain_element.ensures) paragraph_suits

pub returns-in-Quote-clause-of_kind : goal.returns-in-Quote-clause-of_kind
returns-in-Quote-clause-of_kind c =
    subst (λ kind. IsOfKind kind c.plain_element-in-Quote.result) (sym c.next_of_quote.ensures)
    (subst (IsOfKind _) (sym c.plain_element-in-Quote.ensures) (plain_suits _))

pub returns-in-Item-clause-of_kind : goal.returns-in-Item-clause-of_kind
returns-in-Item-clause-of_kind c = subst (IsOfKind Item) (sym c.next_item.ensures) (item_suits (Some c.args.node.now.fields))

pub returns-in_ok-copy-in_default-clause-other : goal.returns-in_ok-copy-in_default-clause-other
returns-in_ok-copy-in_default-clause-other c = block_other c.args.node.now.kind c.requires.text_block
