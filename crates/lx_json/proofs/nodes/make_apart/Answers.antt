use Rattle.std.proofs.Common.{rules}
use Rattle.lx_fields.proofs.Looked.{item_at}
use Rattle.lx_json.proofs.NodesMade.{apart_begins, apart_on, apart_told, apart_done}
use Rattle.lx_json.proofs.nodes.make_apart.Goals as goal

pub loop-index-init : goal.loop-index-init
loop-index-init c = apart_begins c.args.items.now c.args.kind c.args.draft.now c.new-keys.result.items (search rules)

pub returns-in-Err-clause-err : goal.returns-in-Err-clause-err
returns-in-Err-clause-err c =
    apart_told c.args.items.now c.loop-index.index _ c.args.kind _ c.loop-index.keys.items c.in-Err.fault c.under_index.result _
    (item_at c.args.items.now c.loop-index.index _ c.loop-index-test.true c.index-items-index.is) c.loop-index.invariant c.under_index.ensures
    c.in-Err.ensures.err

pub loop-index-preserved : goal.loop-index-preserved
loop-index-preserved c =
    apart_on c.args.items.now c.loop-index.index _ c.args.kind _ _ c.loop-index.keys.items _ c.in-Ok.key _
    (item_at c.args.items.now c.loop-index.index _ c.loop-index-test.true c.index-items-index.is) c.in-Ok.ensures.ok c.in-Ok.ensures.key
    c.in_ok-keep_key-in-Ok.ensures
    c.loop-index.invariant

pub returns-clause-ok : goal.returns-clause-ok
returns-clause-ok c = apart_done c.args.items.now c.loop-index.index c.args.kind _ c.loop-index.keys.items _ c.loop-index-test.false c.loop-index.invariant
