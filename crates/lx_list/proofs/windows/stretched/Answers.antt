use Rattle.std.proofs.Common.{◌≡◌, ◌∙◌, ◌+◌, Some, None, length, sym, ap, arith}
use Rattle.lx_trees.proofs.Positions.{place_in}
use Rattle.lx_forest.specs.Forest.{Forest}
use Rattle.lx_forest.specs.Lookups.{siblings}
use Rattle.lx_list.proofs.WindowEnds.{steps, nearer, stepped_on, stepped_back, found_before, found_behind, found_ends}
use Rattle.lx_list.proofs.windows.stretched.Goals as goal
use Rattle.lx_list.proofs.windows.stretched.Goals.{else-is_none-via-then-is_none+else-is_none-2, else-is_none-via-else-is_none}

pub returns-then-eq : goal.returns-then-eq
returns-then-eq c = λ m list up.
    let found : c.previous-previous.result ≡ Some c.args.key = grind (arith, c.if-eq.true, c.eq.ensures) in
    found_before c.args.links.now m list c.args.first c.args.last c.loop-first.before c.loop-first.behind c.args.key c.requires c.loop-first.invariant
    (sym c.previous-previous.ensures.previous ∙ found)

pub returns-then-eq-2 : goal.returns-then-eq-2
returns-then-eq-2 c = λ m list up.
    let found : c.next-next.result ≡ Some c.args.key = grind (arith, c.if-eq-2.true, c.eq-in-loop-first.ensures) in
    found_behind c.args.links.now m list c.args.first c.args.last c.loop-first.before c.loop-first.behind c.args.key c.requires c.loop-first.invariant
    (sym c.next-next.ensures.next ∙ found)

pub returns-then-is_none-2 : goal.returns-then-is_none-2
returns-then-is_none-2 c = λ m list.
    let no_more_back : c.previous-previous.result ≡ None = grind (arith, c.if-is_none.true, c.is_none.ensures) in
    let no_more_on : c.next-next.result ≡ None = grind (arith, c.if-is_none-2.true, c.is_none-then-is_none.ensures) in
    found_ends c.args.links.now m list c.args.first c.args.last c.loop-first.before c.loop-first.behind c.args.key c.requires c.loop-first.invariant
    (sym c.previous-previous.ensures.previous ∙ no_more_back) (sym c.next-next.ensures.next ∙ no_more_on)

pub loop-first-smaller : goal.loop-first-smaller
loop-first-smaller c =
    let f : Forest = c.args.links.now in
    let back = stepped_back f c.args.first c.loop-first.before c.previous-previous.result c.requires c.loop-first.invariant.back
    (sym c.previous-previous.ensures.previous) in
    let on = stepped_on f c.args.last c.loop-first.behind c.next-next.result c.requires c.loop-first.invariant.on (sym c.next-next.ensures.next) in
    nearer (length (siblings f c.args.last)) (place_in (siblings f c.args.first) c.loop-first.before) (place_in (siblings f c.args.last) c.loop-first.behind)
    (place_in (siblings f c.args.first) c.unwrap_or-before.result) (place_in (siblings f c.args.last) c.unwrap_or-behind.result)
    c.previous-previous.result c.next-next.result
    (λ none_back none_on. elim c.else-is_none.branch [
      | else-is_none-via-then-is_none+else-is_none-2 w ↦ grind (arith, none_on, w.is_none-then-is_none.ensures, w.if-is_none-2.false)
      | else-is_none-via-else-is_none w ↦ grind (arith, none_back, c.is_none.ensures, w.if-is_none.false)
    ])
    (ap (λ k. place_in (siblings f c.args.first) k + steps c.previous-previous.result) c.unwrap_or-before.ensures ∙ back.1)
    (ap (place_in (siblings f c.args.last)) c.unwrap_or-behind.ensures ∙ on.1) on.2

pub loop-first-preserved : goal.loop-first-preserved
loop-first-preserved c =
    let f : Forest = c.args.links.now in
    let back = stepped_back f c.args.first c.loop-first.before c.previous-previous.result c.requires c.loop-first.invariant.back
    (sym c.previous-previous.ensures.previous) in
    let on = stepped_on f c.args.last c.loop-first.behind c.next-next.result c.requires c.loop-first.invariant.on (sym c.next-next.ensures.next) in
    rw (c.unwrap_or-before.ensures, c.unwrap_or-behind.ensures) (record {
      back = back.0;
      on = on.0;
      first_behind = omega (arith, back.1, c.loop-first.invariant.first_behind);
      last_before = omega (arith, on.1, c.loop-first.invariant.last_before);
    })
