use Rattle.std.proofs.Common.{◌∙◌, ◌-◌, sym, ap, chars}
use Rattle.lx_text.specs.Texts.{is_offset, front_of, rest_of, slice_of}
use Rattle.lx_text.proofs.Told.{rest-further}
use Rattle.lx_text.proofs.Faults.{no_fault}
use Rattle.lx_text.proofs.offsets.pieces_plain.Goals as goal

pub returns-clause-fine : goal.returns-clause-fine
returns-clause-fine c =
    no_fault c.args.from c.args.to (chars c.args.text.now) c.parted_plain.ensures.place c.requires.order
    (ap (is_offset (c.args.to - c.args.from)) (sym c.parted_plain.ensures.rest) ∙ c.parted_plain-2.ensures.place)

pub returns-clause-within : goal.returns-clause-within
unfolding slice_of
returns-clause-within c = c.parted_plain-2.ensures.front ∙ ap (front_of (c.args.to - c.args.from)) c.parted_plain.ensures.rest

pub returns-clause-behind : goal.returns-clause-behind
returns-clause-behind c =
    c.parted_plain-2.ensures.rest ∙ ap (rest_of (c.args.to - c.args.from)) c.parted_plain.ensures.rest
    ∙ rest-further c.args.from c.args.to (chars c.args.text.now) c.parted_plain.ensures.place c.requires.order
