use Rattle.std.proofs.Common.{◌∙◌, ap, subst}
use Rattle.lx_forest.specs.Suited.{IsSuited}
use Rattle.lx_forest.specs.Lookups.{fields_of, children_of}
use Rattle.lx_list.specs.Numbering.{list_start}
use Rattle.lx_list.proofs.Small.{numbers_small}
use Rattle.lx_list.proofs.numbering.number_list.Goals as goal

pub number_items-requires : goal.number_items-requires
number_items-requires c = record {
  few =
      numbers_small c.args.draft.now c.args.list c.start_of-first.result c.deref.result.now c.links.ensures.holds
      (subst IsSuited c.links.ensures.forest c.start_of-first.ensures.sound.suited)
      (c.start_of-first.ensures.start ∙ ap (λ f. list_start (fields_of f c.args.list)) c.links.ensures.forest)
      (c.deref.ensures.value ∙ c.in_ok-items.ensures.keys ∙ ap (λ f. children_of f c.args.list) c.links-2.ensures.forest);
}
