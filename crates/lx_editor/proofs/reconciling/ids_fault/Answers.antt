use Rattle.std.proofs.Common.{◌≡◌, ◌∙◌, None, refl, sym, subst}
use Rattle.lx_forest.specs.Lookups.{alone}
use Rattle.lx_reconcile.specs.Allowed.{unkept}
use Rattle.lx_editor.proofs.Ids.{read_alone, read_root, ok_same, ids_suffice, room_enough, ids_counted, room_counted}
use Rattle.lx_editor.proofs.reconciling.ids_fault.Goals as goal

pub returns-then-next-clause-fault : goal.returns-then-next-clause-fault
returns-then-next-clause-fault c =
    ids_suffice c.args.old.now c.args.new.now c.args.view.now.tree c.next_id-next.result c.next_id-next.ensures.next c.requires.few c.if-next.true

pub returns-then-next-clause-room : goal.returns-then-next-clause-room
returns-then-next-clause-room c none =
    room_enough c.args.old.now c.args.new.now c.args.view.now.tree c.next_id-next.result c.next_id-next.ensures.next c.requires.few c.if-next.true

pub unkept-requires : goal.unkept-requires
unkept-requires c κs = (
  (refl, tt),
  (
    read_root c.args.old.now c.new-before.result.forest c.new-before.ensures.forest c.requires.old,
    read_root c.args.new.now c.new-after.result.forest c.new-after.ensures.forest c.requires.new,
  ),
)

pub returns-clause-fault : goal.returns-clause-fault
returns-clause-fault c =
    let was = read_alone c.args.old.now c.new-before.result.forest c.new-before.ensures.forest c.requires.old c.requires.one_before in
    let is = read_alone c.args.new.now c.new-after.result.forest c.new-after.ensures.forest c.requires.new c.requires.one_after in
    let count : c.in_ok-more.more ≡ unkept c.args.old.now None c.args.new.now =
    subst (λ f. c.in_ok-more.more ≡ unkept f None c.args.new.now) was
    (subst (λ g. c.in_ok-more.more ≡ unkept (alone 0 c.new-before.result.forest) None g) is (ok_same _ _ c.in_ok-more.ensures.count))
    in
    c.over.ensures
    ∙ ids_counted c.args.old.now c.args.new.now c.args.view.now.tree c.next_id-next.result c.in_ok-more.more c.next_id-next.ensures.next c.next_id-next.type_inv
    c.requires.few count

pub returns-clause-room : goal.returns-clause-room
returns-clause-room c none =
    let was = read_alone c.args.old.now c.new-before.result.forest c.new-before.ensures.forest c.requires.old c.requires.one_before in
    let is = read_alone c.args.new.now c.new-after.result.forest c.new-after.ensures.forest c.requires.new c.requires.one_after in
    let count : c.in_ok-more.more ≡ unkept c.args.old.now None c.args.new.now =
    subst (λ f. c.in_ok-more.more ≡ unkept f None c.args.new.now) was
    (subst (λ g. c.in_ok-more.more ≡ unkept (alone 0 c.new-before.result.forest) None g) is (ok_same _ _ c.in_ok-more.ensures.count))
    in
    room_counted c.args.old.now c.args.new.now c.args.view.now.tree c.next_id-next.result c.in_ok-more.more c.next_id-next.ensures.next count
    (sym c.over.ensures ∙ none)
