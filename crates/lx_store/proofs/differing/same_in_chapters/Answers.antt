use Rattle.std.proofs.Common.{◌≡◌, ◌+◌, ◌*◌, ◌/◌, ◌%◌, subst, arith}
use Rattle.std.specs.Option.{option_copied}
use Rattle.lx_store.specs.Differing.{item_in, AreSame}
use Rattle.lx_store.proofs.SoFar.{same_more}
use Rattle.lx_store.proofs.differing.same_in_chapters.Goals as goal

pub returns-then-slot-lt-SLOTS-clause-same : goal.returns-then-slot-lt-SLOTS-clause-same
returns-then-slot-lt-SLOTS-clause-same g c =
    let a = item_in (option_copied c.args.a) in
    let b = item_in (option_copied c.args.b) in
    let place : c.loop-at.at ≡ c.loop-at.at / 32 * 32 + c.loop-at.at % 32 = omega arith in
    same_more a b (item_in (option_copied c.page_in.result)) (item_in (option_copied c.page_in-in-loop-at.result)) c.args.from (c.loop-at.at / 32 * 32) 32
    (c.loop-at.at % 32) c.same_in_pages-slot.result
    c.page_in.ensures c.page_in-in-loop-at.ensures c.same_in_pages-slot.ensures.range.1 (subst (AreSame a b c.args.from) place c.loop-at.invariant.2)
    c.same_in_pages-slot.ensures.same

pub loop-at-preserved : goal.loop-at-preserved
loop-at-preserved g c =
    let a = item_in (option_copied c.args.a) in
    let b = item_in (option_copied c.args.b) in
    let range = c.same_in_pages-slot.ensures.range in
    let place : c.loop-at.at ≡ c.loop-at.at / 32 * 32 + c.loop-at.at % 32 = omega arith in (
      omega (arith, c.loop-at.invariant.0, range.0),
      omega (arith, c.loop-at-test.true, range.1),
      same_more a b (item_in (option_copied c.page_in.result)) (item_in (option_copied c.page_in-in-loop-at.result)) c.args.from (c.loop-at.at / 32 * 32) 32
          (c.loop-at.at % 32) c.same_in_pages-slot.result
          c.page_in.ensures c.page_in-in-loop-at.ensures range.1 (subst (AreSame a b c.args.from) place
          c.loop-at.invariant.2) c.same_in_pages-slot.ensures.same,
    )
