use Rattle.std.proofs.Common.{◌≡◌, false, rules}
use Rattle.lx_trees.specs.Siblings.{is_among}
use Rattle.lx_compare.proofs.Listed.{ended_apart}
use Rattle.lx_compare.proofs.places.Places.add.Goals as goal

pub returns-then-ends_with : goal.returns-then-ends_with
returns-then-ends_with c = λ q out.
    let apart : is_among q c.deref.result.now ≡ false = search rules in
    (out, ended_apart c.deref.result.now c.args.keys.now c.ends_with.result c.ends_with.ensures.value c.if-ends_with.true q apart)
