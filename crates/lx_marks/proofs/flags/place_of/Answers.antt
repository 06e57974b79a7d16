use Rattle.std.proofs.Common.{ap, ◌∙◌, ◌==◌}
use Rattle.std.specs.Map.{keys_of}
use Rattle.std.specs.List.{position}
use Rattle.lx_marks.proofs.Tabled.{position-keys_of}
use Rattle.lx_marks.proofs.flags.place_of.Goals as goal

pub returns-then-is_empty : goal.returns-then-is_empty
returns-then-is_empty c =
    c.scanned.ensures ∙ position-keys_of c.args.key c.as_slice.result.now ∙ ap (λ es. position (λ k. k == c.args.key) (keys_of es)) c.as_slice.ensures.value
