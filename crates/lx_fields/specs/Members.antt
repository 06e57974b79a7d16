-- The members of nodes' fields, and what JSON values give them.
use Rattle.std.specs.Prelude.{Option, None, Some, option_map}
use Rattle.std.specs.Option.{option_or}
use Rattle.serde_json.specs.Data.{Data, null}
use Rattle.serde_json.specs.Find.{as_bool}
use Rattle.lx_node.specs.declared.fields.Direction.{Direction}
use Rattle.lx_node.specs.declared.fields.Direction.TheVariants as direction
use Rattle.lx_step.specs.declared.member.Member.{Member}
use Rattle.lx_step.specs.declared.member.Member.TheVariants.{Align, Indent, TextFormat, TextStyle, Start, Checked, Rel, Target, Title, Url, HeaderState, ColSpan, RowSpan, Background, Text, Format, Style, Detail, Mode, Src}
use Rattle.lx_step.specs.declared.member.Member.TheVariants as member
use Rattle.lx_fields.specs.declared.words.Name.{Name}
use Rattle.lx_fields.specs.declared.words.Name.TheVariants as name
use Rattle.lx_fields.specs.Values.{named, string_of, number_within, or_null_of}
use Rattle.lx_fields.specs.Words.{directions, aligns, modes}

-- a direction: null, or a word
abbrev pub direction_of : Data → Option Direction
direction_of null = Some direction.Unset
direction_of d = named directions d

-- What a member gives that scripts set, where the value is one that it takes. A format is an alignment or a number.
unfoldable pub settable : Name → Data → Option Member
settable name.Direction d = option_map (λ direction. member.Direction direction) (direction_of d)
settable name.Format d = option_or (option_map (λ align. Align align) (named aligns d)) (option_map (λ format. Format format) (number_within 0 65535 d))
settable name.Indent d = option_map (λ indent. Indent indent) (number_within 0 65535 d)
settable name.TextFormat d = option_map (λ format. TextFormat format) (number_within 0 65535 d)
settable name.TextStyle d = option_map (λ style. TextStyle style) (string_of d)
settable name.Tag d = None
settable name.ListType d = None
settable name.Start d = option_map (λ start. Start start) (number_within 0 1000000 d)
settable name.Checked d = option_map (λ checked. Checked checked) (or_null_of as_bool d)
settable name.Value d = None
settable name.Rel d = option_map (λ rel. Rel rel) (or_null_of string_of d)
settable name.Target d = option_map (λ target. Target target) (or_null_of string_of d)
settable name.Title d = option_map (λ title. Title title) (or_null_of string_of d)
settable name.Url d = option_map (λ url. Url url) (string_of d)
settable name.HeaderState d = option_map (λ header. HeaderState header) (number_within 0 3 d)
settable name.ColSpan d = option_map (λ span. ColSpan span) (number_within 1 1000 d)
settable name.RowSpan d = option_map (λ span. RowSpan span) (number_within 1 1000 d)
settable name.Background d = option_map (λ background. Background background) (or_null_of string_of d)
settable name.Text d = option_map (λ text. Text text) (string_of d)
settable name.Style d = option_map (λ style. Style style) (string_of d)
settable name.Detail d = option_map (λ detail. Detail detail) (number_within 0 3 d)
settable name.Mode d = option_map (λ mode. Mode mode) (named modes d)
settable name.Src d = option_map (λ source. Src source) (string_of d)
