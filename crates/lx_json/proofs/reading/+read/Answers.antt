use Rattle.std.proofs.Common.{◌≡◌, ◌∙◌, ℕ, ap, sym, arith, codes, Some, option_and_then}
use Rattle.serde_json.specs.Find.{get, as_array}
use Rattle.serde_json.specs.View.{view, items_view}
use Rattle.lx_json.specs.Reading.{and_then, trees_of}
use Rattle.lx_json.specs.Growing.{grown_by, children_told}
use Rattle.lx_fields.proofs.Looked.{depth-listed, depth-item, item_at}
use Rattle.lx_json.proofs.Looked.{with_children, tree_of-node, children_told-list, children_told-none, children_told-leaf, none_left}
use Rattle.lx_json.proofs.Grown.{key_below, grown_by-none, node_grown, read_on, tells_all}
use Rattle.lx_json.proofs.Told.{tells_same, tells_on}
use Rattle.lx_json.proofs.reading.+read.Goals as goal
use Rattle.lx_json.proofs.reading.+read.Goals.{read_children-After-deref}

-- ---- the list of the children

-- the object has a list of them
list : {t : ℕ} (c : read_children-After-deref t)
    → option_and_then as_array (get (codes "children") (view c.args.object.now)) ≡ Some (items_view c.deref.result.now)
list c = sym c.in-Some.ensures ∙ ap (λ vs. Some (items_view vs)) (sym c.deref.ensures.value)

-- so it gives the trees of that list's items
told : {t : ℕ} (c : read_children-After-deref t) → children_told c.args.kind (view c.args.object.now) ≡ trees_of (items_view c.deref.result.now) 0 c.args.kind
told c = children_told-list _ _ _ c.is_element.ensures c.if-not-is_element.false (list c)

pub read_children-returns-then-not-is_element-clause-ok : goal.read_children-returns-then-not-is_element-clause-ok
read_children-returns-then-not-is_element-clause-ok t c = grown_by-none _ _ _ (children_told-leaf _ _ c.is_element.ensures c.if-not-is_element.true)

pub read_children-read_nodes-requires : goal.read_children-read_nodes-requires
read_children-read_nodes-requires t c =
    (omega (arith, depth-listed (codes "children") (view c.args.object.now) (items_view c.deref.result.now) (list c)), (c.requires.growing, c.requires.below))

pub read_children-returns-in-Ok-clause-ok : goal.read_children-returns-in-Ok-clause-ok
read_children-returns-in-Ok-clause-ok t c =
    ap (λ r. grown_by c.args.parent r c.args.growth.now) (told (goal.at.read_children-returns-in-Ok-clause-ok t c).After-deref) ∙ c.in-Ok.ensures.ok

pub read_children-returns-in-Err-clause-err : goal.read_children-returns-in-Err-clause-err
read_children-returns-in-Err-clause-err t c =
    tells_same c.in-Err.fault _ _ (told (goal.at.read_children-returns-in-Err-clause-err t c).After-deref) c.in-Err.ensures.err

pub read_children-returns-in-None-clause-ok : goal.read_children-returns-in-None-clause-ok
read_children-returns-in-None-clause-ok t c =
    grown_by-none _ _ _ (children_told-none _ _ c.is_element.ensures c.if-not-is_element.false (sym c.in-None.ensures))

-- ---- a node

pub read_node-read_children-requires : goal.read_node-read_children-requires
read_node-read_children-requires t c = (omega arith, (c.in-Ok-add.ensures.growing, key_below _ _ _ c.in-Ok-add.ensures.key c.in-Ok-add.ensures.grown))

pub read_node-returns-in-Ok-read_children-clause-ok : goal.read_node-returns-in-Ok-read_children-clause-ok
read_node-returns-in-Ok-read_children-clause-ok t c =
    node_grown _ _ _ c.requires.growing c.requires.below c.in-Ok.ensures.ok c.in-Ok-add.ensures.key c.in-Ok-add.ensures.grown c.in-Ok-read_children.ensures.ok

pub read_node-returns-in-Err-read_children-clause-err : goal.read_node-returns-in-Err-read_children-clause-err
read_node-returns-in-Err-read_children-clause-err t c =
    tells_same c.in-Err-read_children.fault _ _ (tree_of-node _ _ ∙ ap (λ r. and_then r (with_children (view c.args.value.now))) c.in-Ok.ensures.ok)
    (tells_on c.in-Err-read_children.fault _ _ c.in-Err-read_children.ensures.err)

pub read_node-returns-in-Err-clause-err : goal.read_node-returns-in-Err-clause-err
read_node-returns-in-Err-clause-err t c =
    tells_same c.in-Err.fault _ _ (tree_of-node _ _) (tells_on c.in-Err.fault _ (with_children (view c.args.value.now)) c.in-Err.ensures.err)

-- ---- nodes one after another

pub read_nodes-read_node-requires : goal.read_nodes-read_node-requires
read_nodes-read_node-requires t c =
    (omega (arith, depth-item c.args.items.now c.loop-index.index _ c.loop-index-test.true c.index-items-index.is), (c.loop-index.invariant.growing, c.loop-index.invariant.below))

pub read_nodes-returns-in-Err-clause-err : goal.read_nodes-returns-in-Err-clause-err
read_nodes-returns-in-Err-clause-err t c =
    tells_all c.args.items.now c.loop-index.index c.loop-index.index c.args.kind c.in-Err.fault c.under_child.result c.loop-index.invariant
    (item_at c.args.items.now c.loop-index.index _ c.loop-index-test.true c.index-items-index.is) c.under_child.ensures c.in-Err.ensures.err

pub read_nodes-loop-index-preserved : goal.read_nodes-loop-index-preserved
read_nodes-loop-index-preserved t c =
    read_on c.args.items.now c.loop-index.index c.loop-index.index c.args.kind c.loop-index.invariant
    (item_at c.args.items.now c.loop-index.index _ c.loop-index-test.true c.index-items-index.is) c.in-Ok.ensures.ok c.in-Ok.ensures.growing

pub read_nodes-returns-clause-ok : goal.read_nodes-returns-clause-ok
read_nodes-returns-clause-ok t c = sym c.loop-index.invariant.same ∙ grown_by-none _ _ _ (none_left _ _ _ _ c.loop-index-test.false)
