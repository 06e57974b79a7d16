-- Rules that every editor has.
use Rattle.std.specs.Prelude.{ℕ, if◌then◌else◌, [], ◌∷◌}
use Rattle.lx_node.specs.Plain.{plain_element}
use Rattle.lx_node.specs.declared.kind.Kind.TheVariants.{List as ListKind, Paragraph, Cell}
use Rattle.lx_node.specs.declared.kind.ListType.TheVariants.{Bullet}
use Rattle.lx_step.specs.Types.{row_of}
use Rattle.lx_step.specs.declared.rule.SelfEdit.{SelfEdit}
use Rattle.lx_step.specs.declared.rule.SelfEdit.TheVariants.{Child, MergeNext}
use Rattle.lx_rules.specs.Answers.{Answers}
use Rattle.lx_rules.specs.Glances.{has_no_kinds}
use Rattle.lx_rules.specs.Types.{set_of_row, is_kind}
use Rattle.lx_rules.specs.declared.built_in.CellParagraph.{CellParagraph}
use Rattle.lx_rules.specs.declared.built_in.ListMerge.{ListMerge}

-- the types at which the rule of lists is asked: lists alone
abbrev pub list_rows : ListMerge → ℕ
list_rows rule = set_of_row (row_of (ListKind Bullet))

-- the rule of lists: a list takes in the list after it, where both are of one type
unfoldable pub list_merge : ListMerge → Answers
list_merge rule v = if is_kind v.next v.kind then MergeNext ∷ [] else []

-- the types at which the rule of cells is asked: cells alone
abbrev pub cell_rows : CellParagraph → ℕ
cell_rows rule = set_of_row (row_of Cell)

-- a new paragraph with nothing in it, as a child
abbrev pub empty_paragraph : SelfEdit
empty_paragraph = Child (record { kind = Paragraph; fields = plain_element })

-- the rule of cells: a cell without children gets a paragraph
unfoldable pub cell_paragraph : CellParagraph → Answers
cell_paragraph rule v = if has_no_kinds v.children then empty_paragraph ∷ [] else []
