use Rattle.std.proofs.Common.{◌∙◌, ◌<◌, ◌+◌, ◌++◌, ◌∷◌, suc, drop, sym, ap, subst, append-nil, add-one, drop-cons, drop_of_length-le}
use Rattle.std.specs.List.{AllByRecursion}
use Rattle.std.specs.Map.{keys_of}
use Rattle.std.specs.FinMap.{keys}
use Rattle.lx_store.specs.Tables.{items_of, slots_of}
use Rattle.lx_store.proofs.Chapters.{keys_mapped, one_chapter}
use Rattle.lx_store.proofs.Sorted.{all_at}
use Rattle.lx_store.proofs.table.Table.keys.Goals as goal

pub push_keys-requires : goal.push_keys-requires
push_keys-requires g c =
    subst (λ chapter. chapter.0 < 4194304) (sym c.chapter-item.is)
    (all_at (λ number. number < 4194304) c.deref-chapter-items.result.now c.loop-chapter.chapter-index c.chapter-item.result
    (subst (λ es. AllByRecursion (λ number. number < 4194304) (keys_of es)) (sym c.deref-chapter-items.ensures.value) c.self.invariant.1)
    c.loop-chapter-test.true)

pub loop-chapter-preserved : goal.loop-chapter-preserved
loop-chapter-preserved g c =
    one_chapter (keys_of (items_of slots_of c.deref-chapter-items.result.now)) (drop c.loop-chapter.chapter-index c.deref-chapter-items.result.now)
    (drop (c.loop-chapter.chapter-index + 1) c.deref-chapter-items.result.now) c.chapter-item.result.0 c.chapter-item.result.1 c.deref.result.now
    c.loop-chapter.keys.items c.push_keys.new.keys.items c.loop-chapter.invariant
    (drop-cons c.deref-chapter-items.result.now c.loop-chapter.chapter-index c.chapter-item.result c.loop-chapter-test.true
    ∙ ap (λ chapter. chapter ∷ drop (suc c.loop-chapter.chapter-index) c.deref-chapter-items.result.now) (sym c.chapter-item.is)
    ∙ ap (λ n. c.chapter-item.result ∷ drop n c.deref-chapter-items.result.now) (sym (add-one c.loop-chapter.chapter-index)))
    c.in_ok-push_keys.ensures c.deref.ensures

pub returns : goal.returns
returns g c =
    sym (append-nil c.loop-chapter.keys.items)
    ∙ ap (λ left. c.loop-chapter.keys.items ++ keys_of (items_of slots_of left))
    (sym (drop_of_length-le c.deref-chapter-items.result.now c.loop-chapter-test.false))
    ∙ c.loop-chapter.invariant ∙ ap (λ es. keys_of (items_of slots_of es)) c.deref-chapter-items.ensures.value
    ∙ sym (keys_mapped c.self.inside.chapters.items c.self.invariant.0) ∙ ap keys c.self.view_is
