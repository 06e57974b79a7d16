use Rattle.std.proofs.Common.{◌≡◌, ◌∙◌, ◌+◌, ◌==◌, ◌&&◌, not, cond, arith, drop, filter, rules}
use Rattle.lx_forest.specs.Lookups.{has}
use Rattle.lx_history.specs.Few.{few_with}
use Rattle.lx_history.specs.Changes.{marked_elements}
use Rattle.lx_history.proofs.Finding.{stopped, elements_step}
use Rattle.lx_history.proofs.few.with_elements.Goals as goal

pub returns-then-is_several : goal.returns-then-is_several
returns-then-is_several c =
    let es = c.args.elements.now in
    let e = c.loop-key-item.result in
    let next : c.with_element-few.result ≡ cond ((e.1 && not (e.0 == 0)) && has e.0 c.args.links.now) (few_with e.0 c.loop-key.few) c.loop-key.few =
    grind (arith, c.with_element-few.ensures) in
    stopped (filter (λ k. has k c.args.links.now) (marked_elements (drop (c.loop-key.key-index + 1) es))) c.with_element-few.result _
    (search (rules, c.if-is_several.ensures))
    (elements_step (λ k. has k c.args.links.now) es c.loop-key.key-index e c.loop-key.few c.with_element-few.result c.loop-key-test.true c.loop-key-item.is next
    ∙ c.loop-key.invariant)

pub loop-key-preserved : goal.loop-key-preserved
loop-key-preserved c =
    let es = c.args.elements.now in
    let e = c.loop-key-item.result in
    let next : c.with_element-few.result ≡ cond ((e.1 && not (e.0 == 0)) && has e.0 c.args.links.now) (few_with e.0 c.loop-key.few) c.loop-key.few =
    grind (arith, c.with_element-few.ensures) in
    elements_step (λ k. has k c.args.links.now) es c.loop-key.key-index e c.loop-key.few c.with_element-few.result c.loop-key-test.true c.loop-key-item.is next
    ∙ c.loop-key.invariant
