-- What a rule answers at a view.
use Rattle.std.specs.Prelude.{ℕ, ◌≡◌, ◌==◌, ◌&&◌, Bool, true, false, nat_lt, is_none, if◌then◌else◌, List, [], Option, None, Some}
use Rattle.std.specs.List.{list_all}
use Rattle.lx_node.specs.Kinds.{is_text}
use Rattle.lx_node.specs.Same.{same_text}
use Rattle.lx_node.specs.declared.kind.Kind.{Kind}
use Rattle.lx_node.specs.declared.fields.TextFields.{TextFields}
use Rattle.lx_node.specs.declared.node.View.{View}
use Rattle.lx_text.specs.Texts.{length_told}
use Rattle.lx_step.specs.declared.rule.Condition.{Condition}
use Rattle.lx_step.specs.declared.rule.Condition.TheVariants.{Text, Contains, Shorter, Format, Parent, Previous, Next, Childless}
use Rattle.lx_step.specs.declared.rule.Rule.{Rule}
use Rattle.lx_step.specs.declared.rule.TypeRow.{TypeRow}
use Rattle.lx_step.specs.declared.rule.SelfEdit.{SelfEdit}
use Rattle.lx_rules.specs.Glances.{glance_of, text_fields_in}
use Rattle.lx_rules.specs.Pieces.{has_piece}
use Rattle.lx_rules.specs.declared.glance.Glance.{Glance}
use Rattle.lx_rules.specs.Types.{is_of_row, is_on, set_of_row}

-- ---- conditions

-- what a condition asks of a text; one on what is around the node asks nothing of it
abbrev pub text_meets : Condition → TextFields → Bool
text_meets (Text text) own = same_text own.text text
text_meets (Contains piece) own = has_piece piece own.text
text_meets (Shorter limit) own = nat_lt (length_told own.text) limit
text_meets (Format format) own = own.format == format
text_meets condition own = true

-- whether a neighbour is of a type, or there is none where none is asked for
abbrev pub is_beside : Option TypeRow → Option Kind → Bool
is_beside None kind = is_none kind
is_beside (Some row) kind = is_of_row row.0 kind

-- whether there is a text, and it is what a condition asks of it
abbrev pub is_met_by : Option TextFields → Condition → Bool
is_met_by None condition = false
is_met_by (Some own) condition = text_meets condition own

-- Whether a condition holds at a node that is seen so at a glance, and of its text. One on a text holds of no other
-- node, nor of a tab.
abbrev pub meets_at : Glance → Option TextFields → Condition → Bool
meets_at g own (Parent row) = is_of_row row.0 g.parent
meets_at g own (Previous row) = is_beside row g.prev
meets_at g own (Next row) = is_beside row g.next
meets_at g own Childless = g.is_childless
meets_at g own condition = is_text g.kind && is_met_by own condition

-- whether a condition holds at a view
abbrev pub meets : View → Condition → Bool
meets v condition = meets_at (glance_of v) (text_fields_in v.fields) condition

-- ---- answers

-- What a rule is to those who ask it: an answer to each view.
abbrev pub Answers : Type 0
Answers = View → List SelfEdit

-- the answer of a rule of some types, which has none at others
abbrev pub asked : ℕ → Answers → Answers
asked rows acts v = if is_on rows v.kind then acts v else []

-- edits are what is answered at each view that shows this at a glance, and this text where it is one
abbrev pub AreAnswers : Answers → Glance → Option TextFields → List SelfEdit → Type 0
AreAnswers acts glance own edits = (v : View) → glance_of v ≡ glance → text_fields_in v.fields ≡ own → acts v ≡ edits

-- the set of the one type that a rule of a script is of
abbrev pub script_rows : Rule → ℕ
script_rows rule = set_of_row rule.on.0

-- what a rule of a script answers: its edits, where all its conditions hold
unfoldable pub script_acts : Rule → Answers
script_acts rule v = if list_all (meets v) rule.conditions then rule.edits else []
