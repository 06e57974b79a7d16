use Rattle.std.proofs.Common.{◌≡◌, ◌∙◌, ℕ, ap, sym, arith, codes, Some, option_and_then}
use Rattle.serde_json.specs.Find.{get, as_array}
use Rattle.serde_json.specs.View.{view, items_view}
use Rattle.lx_fields.proofs.Looked.{depth-listed, depth-item, item_at}
use Rattle.lx_json.proofs.NodesMade.{given-list, given-none, given-leaf, node_done, node_untold, node_refused, below_refused, made_on, made_told, made_done}
use Rattle.lx_json.proofs.Told.{tells_same}
use Rattle.lx_json.proofs.nodes.+make.Goals as goal
use Rattle.lx_json.proofs.nodes.+make.Goals.{make_children-After-deref}

-- ---- the list of the children

list : {t : ℕ} (c : make_children-After-deref t)
    → option_and_then as_array (get (codes "children") (view c.args.object.now)) ≡ Some (items_view c.deref.result.now)
list c = sym c.in-Some.ensures ∙ ap (λ vs. Some (items_view vs)) (sym c.deref.ensures.value)

pub make_children-make_each-requires : goal.make_children-make_each-requires
make_children-make_each-requires t c = omega (arith, depth-listed (codes "children") (view c.args.object.now) (items_view c.deref.result.now) (list c))

pub make_children-returns-then-not-is_element-clause-ok : goal.make_children-returns-then-not-is_element-clause-ok
make_children-returns-then-not-is_element-clause-ok t c = given-leaf _ _ _ _ c.is_element.ensures c.if-not-is_element.true

pub make_children-returns-in-Ok-clause-ok : goal.make_children-returns-in-Ok-clause-ok
make_children-returns-in-Ok-clause-ok t c =
    given-list _ _ _ _ _ c.is_element.ensures c.if-not-is_element.false (list (goal.at.make_children-returns-in-Ok-clause-ok t c).After-deref)
    ∙ c.in-Ok.ensures.ok

pub make_children-returns-in-Err-clause-err : goal.make_children-returns-in-Err-clause-err
make_children-returns-in-Err-clause-err t c =
    tells_same c.in-Err.fault _ _
    (given-list _ _ _ _ _ c.is_element.ensures c.if-not-is_element.false (list (goal.at.make_children-returns-in-Err-clause-err t c).After-deref))
    c.in-Err.ensures.err

pub make_children-returns-in-None-clause-ok : goal.make_children-returns-in-None-clause-ok
make_children-returns-in-None-clause-ok t c = given-none _ _ _ _ c.is_element.ensures c.if-not-is_element.false (sym c.in-None.ensures)

-- ---- a node

pub make_node-returns-in-Err-clause-err : goal.make_node-returns-in-Err-clause-err
make_node-returns-in-Err-clause-err t c = node_untold _ _ _ _ c.in-Err.fault c.in-Err.ensures.err

pub make_node-returns-in-Err-make-clause-err : goal.make_node-returns-in-Err-make-clause-err
make_node-returns-in-Err-make-clause-err t c = node_refused _ _ _ _ _ c.in-Err-make.fault c.in-Ok.ensures.ok c.in-Err-make.ensures.err

pub make_node-returns-in-Ok-make_children-clause-ok : goal.make_node-returns-in-Ok-make_children-clause-ok
make_node-returns-in-Ok-make_children-clause-ok t c =
    node_done _ _ _ _ _ _ _ _ c.in-Ok.ensures.ok c.in-Ok-make.ensures.ok c.in-Ok-make.ensures.key c.in-Ok-make_children.ensures.ok

pub make_node-returns-in-Err-make_children-clause-err : goal.make_node-returns-in-Err-make_children-clause-err
make_node-returns-in-Err-make_children-clause-err t c =
    below_refused _ _ _ _ _ _ _ c.in-Err-make_children.fault c.in-Ok.ensures.ok c.in-Ok-make.ensures.ok c.in-Ok-make.ensures.key
    c.in-Err-make_children.ensures.err

-- ---- items

pub make_each-make_node-requires : goal.make_each-make_node-requires
make_each-make_node-requires t c = omega (arith, depth-item c.args.items.now c.loop-index.index _ c.loop-index-test.true c.index-items-index.is)

pub make_each-returns-in-Err-clause-err : goal.make_each-returns-in-Err-clause-err
make_each-returns-in-Err-clause-err t c =
    made_told c.args.items.now c.loop-index.index _ c.args.kind c.args.parent _ c.in-Err.fault c.under_child.result _
    (item_at c.args.items.now c.loop-index.index _ c.loop-index-test.true c.index-items-index.is) c.loop-index.invariant c.under_child.ensures
    c.in-Err.ensures.err

pub make_each-loop-index-preserved : goal.make_each-loop-index-preserved
make_each-loop-index-preserved t c =
    made_on c.args.items.now c.loop-index.index _ c.args.kind c.args.parent _ _
    (item_at c.args.items.now c.loop-index.index _ c.loop-index-test.true c.index-items-index.is) c.in-Ok.ensures.ok
    ∙ c.loop-index.invariant

pub make_each-returns-clause-ok : goal.make_each-returns-clause-ok
make_each-returns-clause-ok t c = sym c.loop-index.invariant ∙ made_done _ _ _ _ _ c.loop-index-test.false
