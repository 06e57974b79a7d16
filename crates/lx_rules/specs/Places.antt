-- The places that members are written into: of two of one place the later one stays.
use Rattle.std.specs.Prelude.{Bool, true, false}
use Rattle.lx_step.specs.declared.member.Member.{Member}
use Rattle.lx_step.specs.declared.member.Member.TheVariants.{Direction, Align, Indent, TextFormat, TextStyle, Start, Checked, Rel, Target, Title, Url, HeaderState, ColSpan, RowSpan, Background, Text, Format, Style, Detail, Mode, Src, Other}

-- whether another member is written into the place of one
unfoldable pub rewrites : Member → Member → Bool
rewrites (Direction new) (Direction other) = true
rewrites (Align new) (Align other) = true
rewrites (Indent new) (Indent other) = true
rewrites (TextFormat new) (TextFormat other) = true
rewrites (TextStyle new) (TextStyle other) = true
rewrites (Start new) (Start other) = true
rewrites (Checked new) (Checked other) = true
rewrites (Rel new) (Rel other) = true
rewrites (Target new) (Target other) = true
rewrites (Title new) (Title other) = true
rewrites (Url new) (Url other) = true
rewrites (HeaderState new) (HeaderState other) = true
rewrites (ColSpan new) (ColSpan other) = true
rewrites (RowSpan new) (RowSpan other) = true
rewrites (Background new) (Background other) = true
rewrites (Text new) (Text other) = true
rewrites (Format new) (Format other) = true
rewrites (Style new) (Style other) = true
rewrites (Detail new) (Detail other) = true
rewrites (Mode new) (Mode other) = true
rewrites (Src new) (Src other) = true
rewrites (Other new) (Other other) = true
rewrites member other = false
