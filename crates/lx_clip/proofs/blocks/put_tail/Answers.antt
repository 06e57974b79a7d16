use Rattle.std.proofs.Common.{◌≡◌, ◌∙◌, ap, sym, rules, Some}
use Rattle.std.specs.Option.{option_copied}
use Rattle.lx_trees.specs.Siblings.{last_of}
use Rattle.lx_clip.proofs.Lasts.{last_got}
use Rattle.lx_clip.proofs.blocks.put_tail.Goals as goal

pub returns-in-Some-last : goal.returns-in-Some-last
returns-in-Some-last c =
    let last : last_of c.args.keys.now ≡ Some c.in-Some-last.last.now =
    last_got c.args.keys.now c.in-Some-last.last.now (sym c.last.ensures.value ∙ ap option_copied c.in-Some-last.is) in
    rw last (search rules)
