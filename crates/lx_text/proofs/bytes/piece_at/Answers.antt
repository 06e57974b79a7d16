use Rattle.std.proofs.Common.{rules, ◌≡◌, ◌∙◌, sym, ap, subst, length, encode_utf8_all}
use Rattle.lx_node.specs.Cuts.{Cuts}
use Rattle.lx_node.specs.Strings.{capped}
use Rattle.lx_text.specs.Texts.{text_length, front_of, rest_of, slice_of, slice_fault}
use Rattle.lx_text.proofs.Appended.{at_end, cut-end, no_fault_at_end}
use Rattle.lx_text.proofs.Told.{pieces-whole}
use Rattle.lx_text.proofs.bytes.piece_at.Goals as goal

pub returns-then-from-units-clause-cut : goal.returns-then-from-units-clause-cut
unfolding text_length
returns-then-from-units-clause-cut c =
    let text = c.args.text.now in
    let from = c.args.from in
    let counted : from ≡ capped (text_length text) = search rules in
    let same : from ≡ c.args.to = search rules in
    let bytes : c.byte_length.result ≡ length (encode_utf8_all text) = c.byte_length.ensures ∙ ap (λ cs. length (encode_utf8_all cs)) c.as_str.ensures.text in
    subst (λ to. Cuts c.byte_length.result 0 (front_of from text) (slice_of from to text) (rest_of to text) text) same
    (cut-end from c.byte_length.result text (at_end from _ c.ranges.from.fits counted) bytes)

pub returns-then-from-units-clause-allowed : goal.returns-then-from-units-clause-allowed
unfolding text_length
returns-then-from-units-clause-allowed c =
    let counted : c.args.from ≡ capped (text_length c.args.text.now) = search rules in
    let same : c.args.from ≡ c.args.to = search rules in
    ap (slice_fault c.args.text.now c.args.from) (sym same) ∙ no_fault_at_end c.args.from c.args.text.now (at_end c.args.from _ c.ranges.from.fits counted)

pub returns-in-Ok-clause-cut : goal.returns-in-Ok-clause-cut
returns-in-Ok-clause-cut c = record {
  whole = sym (pieces-whole c.args.from c.args.to c.args.text.now c.in-Ok.ensures.fine);
  front_is = ap (λ cs. length (encode_utf8_all cs)) (sym c.in-Ok.ensures.before) ∙ sym c.byte_length-in-Ok.ensures;
  piece_is = ap (λ cs. length (encode_utf8_all cs)) (sym c.in-Ok.ensures.within) ∙ sym c.byte_length-in-Ok-2.ensures;
}
