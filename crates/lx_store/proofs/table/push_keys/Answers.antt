use Rattle.std.proofs.Common.{◌≡◌, ◌*◌, ◌++◌, take, subst, arith}
use Rattle.std.specs.Option.{option_copied}
use Rattle.std.specs.Map.{keys_of}
use Rattle.lx_store.specs.Tables.{keyed}
use Rattle.lx_store.proofs.Chapters.{one_slot}
use Rattle.lx_store.proofs.table.push_keys.Goals as goal

pub loop-slot-preserved : goal.loop-slot-preserved
loop-slot-preserved g c =
    one_slot (c.args.number * 1024) c.loop-slot.slot c.args.chapter.now c.args.keys.now.items c.loop-slot.keys.items c.push_key.new.keys.items
    (option_copied c.get.result) c.loop-slot.invariant c.in_ok-push_key.ensures c.get.ensures.item

pub returns : goal.returns
returns g c =
    let all : c.loop-slot.slot ≡ 1024 = grind (arith, c.loop-slot.auto.slot-end, c.loop-slot-test.false) in
    subst (λ n. c.loop-slot.keys.items ≡ c.args.keys.now.items ++ keys_of (keyed (c.args.number * 1024) (take n c.args.chapter.now))) all
    c.loop-slot.invariant
