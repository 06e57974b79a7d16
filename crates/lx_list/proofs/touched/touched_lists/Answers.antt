use Rattle.std.proofs.Common.{◌≡◌, ◌∙◌, List, ℕ, ap, ap₂, sym, false}
use Rattle.std.specs.Prelude.{filter}
use Rattle.lx_forest.specs.Lookups.{preorder}
use Rattle.lx_list.specs.Touched.{touched_lists}
use Rattle.lx_list.proofs.KeptLists.{nothing_kept, leaves_kept, elements_kept, all_kept}
use Rattle.lx_list.proofs.touched.touched_lists.Goals as goal

pub returns : goal.returns
returns c =
    let f = c.links-links.result.now in
    let m = c.marks-marks.result.now in
    let begun : c.new-lists.result.items ≡ filter (λ q. false) (preorder f) = c.new-lists.ensures.items ∙ sym (nothing_kept (preorder f)) in
    let first : c.keep_of_leaves.new.keys.items ≡ filter (leaves_kept f m.leaves) (preorder f) =
    c.in_ok-keep_of_leaves.ensures (λ q. false) begun ∙ ap (λ (leaves : List ℕ). filter (leaves_kept f leaves) (preorder f)) c.leaves.ensures.leaves in
    c.in_ok-keep_of_elements.ensures (leaves_kept f m.leaves) first ∙ ap (elements_kept f (leaves_kept f m.leaves)) c.elements.ensures ∙ all_kept f m ∙ ap₂ touched_lists c.links-links.ensures.forest c.marks-marks.ensures
