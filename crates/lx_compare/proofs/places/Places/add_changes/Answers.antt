use Rattle.std.proofs.Common.{subst}
use Rattle.lx_compare.specs.Places.{IsOutside}
use Rattle.lx_compare.proofs.Listed.{as_before, outside_told}
use Rattle.lx_compare.proofs.places.Places.add_changes.Goals as goal

pub returns-in-Ok : goal.returns-in-Ok
returns-in-Ok c = λ q out.
    let made = c.in-Ok.ensures in
    let told = outside_told c.self.inside.is_anywhere c.self.inside.keys.items c.add_marked.new.keys.items q made.kept out in
    let need = c.requires in
    (subst (λ o. IsOutside o q) c.self.view_is told.0, as_before c.args.old.now c.args.new.now c.args.marks.now need.old_order need.new_order need.alone need.covered c.add_marked.new.keys.items made.listed q told.1)
