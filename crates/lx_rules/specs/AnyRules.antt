-- What any rule is of, and answers.
use Rattle.std.specs.Prelude.{ℕ}
use Rattle.lx_rules.specs.Answers.{Answers, script_rows, script_acts}
use Rattle.lx_rules.specs.BuiltIn.{list_rows, list_merge, cell_rows, cell_paragraph}
use Rattle.lx_rules.specs.declared.any_rule.AnyRule.{AnyRule}
use Rattle.lx_rules.specs.declared.any_rule.AnyRule.TheVariants.{Merge, Fill, Script}

-- the rule by which a list takes in the list after it
abbrev pub merge_rule : AnyRule
merge_rule = Merge (record {})

-- the rule by which a cell without children gets a paragraph
abbrev pub cell_rule : AnyRule
cell_rule = Fill (record {})

-- the types at which a rule is asked
abbrev pub any_rows : AnyRule → ℕ
any_rows (Merge rule) = list_rows rule
any_rows (Fill rule) = cell_rows rule
any_rows (Script rule) = script_rows rule

-- what a rule answers
abbrev pub any_acts : AnyRule → Answers
any_acts (Merge rule) = list_merge rule
any_acts (Fill rule) = cell_paragraph rule
any_acts (Script rule) = script_acts rule
