use Rattle.std.proofs.Common.{◌∙◌, ap, sym, take}
use Rattle.lx_list.proofs.KeptLists.{elements_kept, kept_element, element_more}
use Rattle.lx_list.proofs.touched.keep_of_elements.Goals as goal

pub loop-key-preserved : goal.loop-key-preserved
loop-key-preserved c = λ p kept.
    let es = c.args.elements.now in
    c.in_ok-keep_of_element.ensures _ (c.loop-key.invariant p kept)
    ∙ kept_element c.args.links.now (take c.loop-key.key-index es) c.loop-key-item.result p
    ∙ ap (elements_kept c.args.links.now p) (sym (element_more es c.loop-key.key-index c.loop-key-item.result c.loop-key-test.true c.loop-key-item.is))
