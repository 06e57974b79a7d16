use Rattle.std.proofs.Common.{◌∙◌, ◌-◌, sym, ap, chars}
use Rattle.lx_text.specs.Texts.{is_offset, front_of, rest_of, slice_of}
use Rattle.lx_text.proofs.Told.{rest-further}
use Rattle.lx_text.proofs.Faults.{fault_behind, no_fault}
use Rattle.lx_text.proofs.offsets.pieces.Goals as goal

pub returns-in_default-parted-clause-wrong : goal.returns-in_default-parted-clause-wrong
returns-in_default-parted-clause-wrong c =
    let from = c.args.from in
    fault_behind from c.args.to (chars c.args.text.now) (sym c.in-Some.ensures.found) c.if-to-from.false
    (ap (is_offset (c.args.to - from)) (sym c.in-Some.ensures.rest) ∙ sym c.in_default-parted.ensures.found)

pub returns-clause-fine : goal.returns-clause-fine
returns-clause-fine c =
    let from = c.args.from in
    no_fault from c.args.to (chars c.args.text.now) (sym c.in-Some.ensures.found) c.if-to-from.false
    (ap (is_offset (c.args.to - from)) (sym c.in-Some.ensures.rest) ∙ sym c.in-Some-parted.ensures.found)

pub returns-clause-within : goal.returns-clause-within
unfolding slice_of
returns-clause-within c = c.in-Some-parted.ensures.front ∙ ap (front_of (c.args.to - c.args.from)) c.in-Some.ensures.rest

pub returns-clause-behind : goal.returns-clause-behind
returns-clause-behind c =
    c.in-Some-parted.ensures.rest ∙ ap (rest_of (c.args.to - c.args.from)) c.in-Some.ensures.rest
    ∙ rest-further c.args.from c.args.to (chars c.args.text.now) (sym c.in-Some.ensures.found) c.if-to-from.false
