use Rattle.std.proofs.Common.{rules}
use Rattle.std.proofs.lemmas.List.Sorted.{answers_always}
use Rattle.lx_store.proofs.Sorted.{searched}
use Rattle.lx_store.proofs.table.place.Goals as goal

pub returns-clause-stands : goal.returns-clause-stands
returns-clause-stands g c =
    (searched c.args.chapters.now c.requires c.args.number c.binary_search_by_key.result c.binary_search_by_key.ensures.bound
    (c.binary_search_by_key.ensures.position (λ chapter. chapter.0) (answers_always _ _ _ (λ f a r g called. search rules)))).0

pub returns-clause-goes : goal.returns-clause-goes
returns-clause-goes g c =
    (searched c.args.chapters.now c.requires c.args.number c.binary_search_by_key.result c.binary_search_by_key.ensures.bound
    (c.binary_search_by_key.ensures.position (λ chapter. chapter.0) (answers_always _ _ _ (λ f a r g called. search rules)))).1
