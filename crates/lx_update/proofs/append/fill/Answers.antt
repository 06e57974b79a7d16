use Rattle.std.proofs.Common.{◌≢◌, [], ap, sym, subst, arith}
use Rattle.std.specs.Str.{chars}
use Rattle.lx_edit.specs.Standing.{Does}
use Rattle.lx_update.specs.Appending.{text_put}
use Rattle.lx_update.proofs.Composed.{no_chars, some_chars, filled_with}
use Rattle.lx_update.proofs.append.fill.Goals as goal

pub returns-then-is_empty : goal.returns-then-is_empty
returns-then-is_empty c =
    ap (λ text. text_put c.args.parent text c.args.draft.now) (no_chars c.args.text.now (grind (arith, c.is_empty.ensures, c.if-is_empty.true)))

pub returns-else-is_empty : goal.returns-else-is_empty
returns-else-is_empty c =
    let some : chars c.args.text.now ≢ [] = some_chars c.args.text.now c.utf8.text (grind (arith, c.is_empty.ensures, c.if-is_empty.false)) in
    subst (λ whole. Does whole c.append_text.new.draft c.append_text.result) (sym (filled_with (chars c.args.text.now) c.args.parent c.args.draft.now some))
    c.append_text.ensures
