use Rattle.std.proofs.Common.{◌≡◌, ◌∙◌, ◌∷◌, [], map-id, sym, ap, subst, chars, arith}
use Rattle.std.proofs.lemmas.Iterator.{YieldsList-from_chars}
use Rattle.std.proofs.lemmas.Iterator.Consumers.{YieldsList-end}
use Rattle.lx_node.specs.Counted.{AreCounted}
use Rattle.lx_node.specs.Units.{units}
use Rattle.lx_node.proofs.CodeUnits.{units-append, units-le_bytes}
use Rattle.lx_node.proofs.counts.count.Goals as goal

pub loop-character-preserved : goal.loop-character-preserved
loop-character-preserved c = λ few.
    c.with-counts.ensures c.loop-character.yielded (c.in-Some.character ∷ [])
    (c.loop-character.invariant (omega (arith, few, units-append c.loop-character.yielded (c.in-Some.character ∷ []))))
    c.one.ensures few

pub returns : goal.returns
returns c =
    let text : c.loop-character.yielded ≡ chars c.args.text.now =
    sym (map-id c.loop-character.yielded)
    ∙ (YieldsList-end (YieldsList-from_chars c.args.text.now c.utf8.text cc) c.loop-character.yielded _ c.loop-character.yielded_by _ _ c.in-None.is
    c.next.ensures.steps).0 in
    subst (AreCounted c.loop-character.counts) text
    (c.loop-character.invariant (omega (arith, ap units text, units-le_bytes c.args.text.now c.utf8.text, c.well_formed.0.0)))
