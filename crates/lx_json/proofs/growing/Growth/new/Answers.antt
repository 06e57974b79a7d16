use Rattle.std.proofs.Common.{◌≡◌, ◌∙◌, ap}
use Rattle.lx_forest.specs.Forest.{root_alone}
use Rattle.lx_forest.specs.Edits.{with_fields}
use Rattle.lx_json.proofs.Rooted.{root_made}
use Rattle.lx_json.proofs.growing.Growth.new.Goals as goal

pub returns-in-Ok-clause-grown : goal.returns-in-Ok-clause-grown
returns-in-Ok-clause-grown c =
    let set : c.set.new.self ≡ with_fields 0 c.args.fields root_alone =
    c.in-Ok.ensures.set.1 ∙ ap (λ k. with_fields k c.args.fields c.in_ok-links.links) c.root.ensures ∙ ap (with_fields 0 c.args.fields) c.in_ok-links.ensures in
    (root_made c.args.fields c.args.next c.set.new.self set c.requires).0

pub returns-in-Ok-clause-growing : goal.returns-in-Ok-clause-growing
returns-in-Ok-clause-growing c =
    let set : c.set.new.self ≡ with_fields 0 c.args.fields root_alone =
    c.in-Ok.ensures.set.1 ∙ ap (λ k. with_fields k c.args.fields c.in_ok-links.links) c.root.ensures ∙ ap (with_fields 0 c.args.fields) c.in_ok-links.ensures in
    (root_made c.args.fields c.args.next c.set.new.self set c.requires).1
