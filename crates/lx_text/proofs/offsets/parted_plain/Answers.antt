use Rattle.std.proofs.Common.{◌≡◌, ◌∙◌, sym, ap, subst, length}
use Rattle.std.specs.Str.{chars}
use Rattle.lx_node.specs.Units.{units}
use Rattle.lx_text.proofs.Ascii.{ascii-boundary, ascii-place, ascii-front, ascii-rest, ascii-left}
use Rattle.lx_text.proofs.offsets.parted_plain.Goals as goal

pub split_at-requires : goal.split_at-requires
split_at-requires c = ascii-boundary c.args.text.now c.args.offset c.utf8.text c.requires.plain c.requires.inside

pub returns-clause-place : goal.returns-clause-place
returns-clause-place c = ascii-place c.args.text.now c.args.offset c.utf8.text c.requires.plain c.requires.inside

pub returns-clause-front : goal.returns-clause-front
returns-clause-front c = ap chars c.split_at.ensures.front ∙ ascii-front c.args.text.now c.args.offset c.utf8.text c.requires.plain c.requires.inside

pub returns-clause-rest : goal.returns-clause-rest
returns-clause-rest c = ap chars c.split_at.ensures.back ∙ ascii-rest c.args.text.now c.args.offset c.utf8.text c.requires.plain c.requires.inside

pub returns-clause-plain : goal.returns-clause-plain
returns-clause-plain c =
    subst (λ bytes. units (chars bytes) ≡ length bytes) (sym c.split_at.ensures.back)
    (ascii-left c.args.text.now c.args.offset c.utf8.text c.requires.plain c.requires.inside)
