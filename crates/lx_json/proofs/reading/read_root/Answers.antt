use Rattle.std.proofs.Common.{◌≡◌, ◌∙◌, ap, sym, arith, refl, [], codes, None}
use Rattle.std.specs.Str.{chars}
use Rattle.serde_json.specs.View.{view}
use Rattle.lx_json.specs.Reading.{and_then, tree_of}
use Rattle.lx_json.specs.Importing.{if_filled}
use Rattle.lx_json.proofs.Spelled.{chars_plain}
use Rattle.lx_json.proofs.Looked.{with_children, tree_of-other}
use Rattle.lx_json.proofs.Rooted.{root_piece, rooted_next, root_told, root_grown, root_empty, root_refused, below_refused}
use Rattle.lx_json.proofs.Told.{tells_at}
use Rattle.lx_json.proofs.reading.read_root.Goals as goal
use Rattle.lx_json.proofs.reading.read_root.Goals.{In-Ok}

-- the value gives the root's fields, and then its children
told : (c : In-Ok) → tree_of (view c.args.value.now) None ≡ with_children (view c.args.value.now) (root_piece c.in-Ok.told.fields)
told c = root_told _ (sym c.is_object.ensures ∙ c.if-not-is_object.false) c.in-Ok.ensures.ok (c.in-Ok.ensures.kind.top refl)

pub returns-then-not-is_object-clause-err : goal.returns-then-not-is_object-clause-err
returns-then-not-is_object-clause-err c =
    tells_at [] (chars (codes "")) c.bad_state.result _ (chars_plain [] refl) c.bad_state.ensures
    (ap (λ r. and_then r if_filled) (tree_of-other (view c.args.value.now) None (sym c.is_object.ensures ∙ c.if-not-is_object.true)))

pub returns-in-Err-clause-err : goal.returns-in-Err-clause-err
returns-in-Err-clause-err c = root_refused _ c.in-Err.fault (sym c.is_object.ensures ∙ c.if-not-is_object.false) c.in-Err.ensures.err

pub read_children-requires-clause-below : goal.read_children-requires-clause-below
read_children-requires-clause-below c =
    omega (arith, c.root.ensures, c.requires, rooted_next c.args.next_key _ c.in_ok-growth.growth c.in_ok-growth.ensures.grown)

pub returns-in-Err-read_children-clause-err : goal.returns-in-Err-read_children-clause-err
returns-in-Err-read_children-clause-err c =
    below_refused _ _ c.in-Err-read_children.fault (told (goal.at.returns-in-Err-read_children-clause-err c).In-Ok) c.in-Err-read_children.ensures.err

pub returns-then-growth-next_key-clause-err : goal.returns-then-growth-next_key-clause-err
returns-then-growth-next_key-clause-err c =
    root_empty _ _ _ (told (goal.at.returns-then-growth-next_key-clause-err c).In-Ok) c.in_ok-growth.ensures.grown c.root.ensures
    c.in-Ok-read_children.ensures.ok c.if-growth-next_key.true

pub returns-clause-ok : goal.returns-clause-ok
returns-clause-ok c =
    root_grown _ _ _ (told (goal.at.returns-clause-ok c).In-Ok) c.in_ok-growth.ensures.grown c.root.ensures c.in-Ok-read_children.ensures.ok
    c.if-growth-next_key.false
