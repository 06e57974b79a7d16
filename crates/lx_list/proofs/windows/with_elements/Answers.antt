use Rattle.std.proofs.Common.{◌≡◌, ◌∙◌, List, ℕ, Bool, sym, subst, take}
use Rattle.std.proofs.lemmas.List.{take_all}
use Rattle.lx_list.proofs.KeptLists.{element_more}
use Rattle.lx_list.proofs.WindowEnds.{IsWindowOf}
use Rattle.lx_list.proofs.windows.with_elements.Goals as goal

pub loop-key-preserved : goal.loop-key-preserved
loop-key-preserved c = λ w.
    let leaves : List ℕ = c.args.marks.now.leaves in
    subst (λ (es : List (ℕ × Bool)). IsWindowOf c.args.links.now (record { leaves = leaves; elements = es }) c.args.list c.widened_if-window.result)
    (sym (element_more c.elements-key-items.result.now c.loop-key.key-index c.loop-key-item.result c.loop-key-test.true c.loop-key-item.is))
    (c.widened_if-window.ensures (record { leaves = leaves; elements = take c.loop-key.key-index c.elements-key-items.result.now }) (c.loop-key.invariant w))

pub returns : goal.returns
returns c = λ w.
    let leaves : List ℕ = c.args.marks.now.leaves in
    let all : take c.loop-key.key-index c.elements-key-items.result.now ≡ c.args.marks.now.elements =
    take_all c.loop-key.key-index c.elements-key-items.result.now c.loop-key-test.false ∙ c.elements-key-items.ensures in
    subst (λ (es : List (ℕ × Bool)). IsWindowOf c.args.links.now (record { leaves = leaves; elements = es }) c.args.list c.loop-key.window) all
    (c.loop-key.invariant w)
