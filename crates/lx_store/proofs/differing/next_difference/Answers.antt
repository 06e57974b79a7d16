use Rattle.std.proofs.Common.{◌*◌, arith}
use Rattle.std.specs.FinMap as map
use Rattle.std.specs.Option.{option_copied}
use Rattle.lx_store.specs.Differing.{item_in, first_after}
use Rattle.lx_store.proofs.SoFar.{same_more, still_other}
use Rattle.lx_store.proofs.differing.next_difference.Goals as goal

pub returns-then-at-lt-SLOTS : goal.returns-then-at-lt-SLOTS
returns-then-at-lt-SLOTS g c =
    let range = c.same_in_chapters-at.ensures.range in
    let so_far = c.loop-number.invariant in (
      omega (arith, so_far.0, range.0),
      same_more (map.get c.args.a.now) (map.get c.args.b.now) (item_in (option_copied c.chapter.result)) (item_in
          (option_copied c.chapter-in-loop-number.result)) (first_after c.args.after) (c.loop-number.number *
          1024) 1024 c.loop-number.slot c.same_in_chapters-at.result c.chapter.ensures c.chapter-in-loop-number.ensures range.1 so_far.2 c.same_in_chapters-at.ensures.same,
      still_other (map.get c.args.a.now) (map.get c.args.b.now) (item_in (option_copied c.chapter.result)) (item_in
          (option_copied c.chapter-in-loop-number.result)) (c.loop-number.number *
          1024) 1024 c.same_in_chapters-at.result c.chapter.ensures c.chapter-in-loop-number.ensures c.if-at-lt-SLOTS.true (c.same_in_chapters-at.ensures.differ
          c.if-at-lt-SLOTS.true),
    )

pub loop-number-preserved : goal.loop-number-preserved
loop-number-preserved g c =
    let range = c.same_in_chapters-at.ensures.range in
    let so_far = c.loop-number.invariant in
    let whole =
    same_more (map.get c.args.a.now) (map.get c.args.b.now) (item_in (option_copied c.chapter.result))
    (item_in (option_copied c.chapter-in-loop-number.result)) (first_after c.args.after) (c.loop-number.number * 1024) 1024 c.loop-number.slot
    c.same_in_chapters-at.result c.chapter.ensures c.chapter-in-loop-number.ensures range.1 so_far.2 c.same_in_chapters-at.ensures.same in (
      omega (arith, so_far.0, range.0, c.if-at-lt-SLOTS.false),
      omega arith,
      λ key up under. whole key up (omega (arith, under, range.1, c.if-at-lt-SLOTS.false)),
    )
