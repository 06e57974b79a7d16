use Rattle.lx_compare.proofs.Listed.{listed_more}
use Rattle.lx_compare.proofs.places.add_elements.Goals as goal

pub loop-key-preserved : goal.loop-key-preserved
loop-key-preserved c = record {
  kept = λ q there. c.in_ok-add_element.ensures.kept q (c.loop-key.invariant.kept q there);
  listed = λ q marked.
      listed_more c.args.old.now c.args.new.now _ _ c.args.elements.now c.loop-key.key-index c.loop-key-item.result q c.loop-key-test.true c.loop-key-item.is
      c.in_ok-add_element.ensures.kept c.in_ok-add_element.ensures.listed (c.loop-key.invariant.listed q marked);
}
