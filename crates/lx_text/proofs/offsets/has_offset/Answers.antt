use Rattle.std.proofs.Common.{◌<◌, ◌≤◌, ◌∙◌, ap, eqb, subst}
use Rattle.lx_text.specs.Texts.{text_length, within, is_offset}
use Rattle.lx_text.proofs.Appended.{told_past, told_plain}
use Rattle.lx_text.proofs.offsets.has_offset.Goals as goal

pub returns-then-from-units : goal.returns-then-from-units
unfolding text_length
returns-then-from-units c =
    ap (λ n. eqb n c.units-units.result) c.from-then-from-units.ensures
    ∙ told_past c.args.offset c.units-units.result c.args.text.now c.units-units.ensures c.ranges.offset.fits
    (subst (λ n. c.units-units.result ≤ n) c.from.ensures c.if-from-units.true)

pub returns-then-units-lt18446744073709551615 : goal.returns-then-units-lt18446744073709551615
unfolding text_length
returns-then-units-lt18446744073709551615 c =
    told_plain c.args.offset c.characters.result c.units-units.result c.args.text.now c.characters.ensures c.units-units.ensures c.if-characters-units.true
    c.if-units-lt18446744073709551615.true
    (subst (λ n. n < c.units-units.result) c.from.ensures c.if-from-units.false)

pub returns : goal.returns
unfolding is_offset
returns c = ap (λ n. eqb n c.args.offset) (c.within.ensures ∙ ap (λ t. within t c.args.offset) c.as_str.ensures.text)
