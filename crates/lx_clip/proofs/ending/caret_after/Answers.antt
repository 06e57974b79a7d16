use Rattle.std.proofs.Common.{◌≡◌, ◌∙◌, ap, sym, rules, Some}
use Rattle.std.specs.Option.{option_copied}
use Rattle.lx_trees.specs.Siblings.{last_of}
use Rattle.lx_clip.proofs.Lasts.{last_got}
use Rattle.lx_clip.proofs.ending.caret_after.Goals as goal

pub returns-in-Some : goal.returns-in-Some
returns-in-Some c =
    let last : last_of c.args.keys.now ≡ Some c.in-Some.last.now =
    last_got c.args.keys.now c.in-Some.last.now (sym c.last.ensures.value ∙ ap option_copied c.in-Some.is) in
    search rules
