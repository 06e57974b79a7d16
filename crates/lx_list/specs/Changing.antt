-- One thing of an element is changed.
use Rattle.lx_node.specs.declared.fields.ElementFields.{ElementFields}
use Rattle.lx_list.specs.declared.changing.Change.{Change}
use Rattle.lx_list.specs.declared.changing.Change.TheVariants as changes
use Rattle.lx_list.specs.Making.{with_indent, with_extra_changed, with_number, checked_as}
use Rattle.lx_list.specs.Indenting.{deeper}
use Rattle.lx_list.specs.Outdenting.{shallower}

-- what a change makes of an element: another number, another check mark, one more or less of indentation
abbrev pub element_changed : Change → ElementFields → ElementFields
element_changed (changes.Number n) = with_extra_changed (with_number n)
element_changed (changes.Check check) = with_extra_changed (checked_as check)
element_changed changes.Deeper = with_indent deeper
element_changed changes.Shallower = with_indent shallower
