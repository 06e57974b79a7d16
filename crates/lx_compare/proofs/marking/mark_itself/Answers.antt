use Rattle.lx_compare.proofs.Raised.{adds_leaf, adds_element, on_ok}
use Rattle.lx_compare.proofs.marking.mark_itself.Goals as goal

pub returns-then-is_element : goal.returns-then-is_element
returns-then-is_element c = record {
  touched = on_ok c.mark_element.result c.mark_element.ensures.marked (λ is. (adds_element _ _ _ is).touched);
  noted = on_ok c.mark_element.result c.mark_element.ensures.marked (λ is. (adds_element _ _ _ is).noted);
}

pub returns-else-is_element : goal.returns-else-is_element
returns-else-is_element c = record {
  touched = on_ok c.mark_leaf.result c.mark_leaf.ensures.marked (λ is. (adds_leaf _ _ _ is).touched);
  noted = on_ok c.mark_leaf.result c.mark_leaf.ensures.marked (λ is. (adds_leaf _ _ _ is).noted);
}

pub returns-in-None : goal.returns-in-None
returns-in-None c = record {
  touched = on_ok c.mark_leaf-in-None.result c.mark_leaf-in-None.ensures.marked (λ is. (adds_leaf _ _ _ is).touched);
  noted = on_ok c.mark_leaf-in-None.result c.mark_leaf-in-None.ensures.marked (λ is. (adds_leaf _ _ _ is).noted);
}
