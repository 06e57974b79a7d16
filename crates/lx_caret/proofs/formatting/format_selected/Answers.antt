use Rattle.std.proofs.Common.{◌≡◌, ◌∙◌, sym, ap}
use Rattle.std.specs.List.{slice_get}
use Rattle.lx_blocks.specs.Ranges.{start_of, end_of}
use Rattle.lx_caret.specs.Formatting.{pieces}
use Rattle.lx_caret.proofs.Edged.{edged}
use Rattle.lx_caret.proofs.formatting.format_selected.Goals as goal

pub format_pieces-requires : goal.format_pieces-requires
format_pieces-requires c i p here behind =
    let start = c.in_order-start.ensures.start ∙ ap (λ f. start_of f c.in_ok-range.range) c.links.ensures.forest in
    let end = c.in_order-start.ensures.end ∙ ap (λ f. end_of f c.in_ok-range.range) c.links.ensures.forest in
    let are : c.deref.result.now
    ≡ pieces c.args.draft.now.forest (start_of c.args.draft.now.forest c.in_ok-range.range) (end_of c.args.draft.now.forest c.in_ok-range.range) =
    c.deref.ensures.value ∙ c.in_ok-pieces.ensures
    ∙ ap (λ x. pieces c.args.draft.now.forest x c.in_order-start.result.1) start
    ∙ ap (λ x. pieces c.args.draft.now.forest (start_of c.args.draft.now.forest c.in_ok-range.range) x) end in
    edged c.args.draft.now c.in_ok-range.range c.in_ok-range.ensures.gives i p (sym (ap (λ ps. slice_get ps i) are) ∙ here) behind
