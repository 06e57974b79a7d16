use Rattle.std.proofs.Common.{◌≡◌, ◌∙◌, sym, ap, arith, true}
use Rattle.lx_trees.specs.NamedTrees.{total}
use Rattle.lx_host.specs.Hosts.{id_of, has, without}
use Rattle.lx_trees.specs.Lookups.{is_within}
use Rattle.lx_trees.proofs.Within.{is_within-trans}
use Rattle.lx_host.proofs.Changed.{not_root, none_within, parent_stays, rest_stays, fewer_left, has_within}
use Rattle.lx_host.proofs.removal.remove_tree.Goals as goal

pub returns-in_default-clause-taken : goal.returns-in_default-clause-taken
returns-in_default-clause-taken c =
    absurd (none_within c.loop-at.grove.hosts c.args.id c.loop-at.at c.loop-at.invariant.ordered c.loop-at.invariant.within c.loop-at-test.true
    (sym c.parent.ensures.parent ∙ c.in_default.is))

pub remove_leaf-requires-clause-other : goal.remove_leaf-requires-clause-other
remove_leaf-requires-clause-other c =
    not_root c.loop-at.grove.hosts c.loop-at.at c.in-Some.parent c.loop-at.invariant.ordered (sym c.parent.ensures.parent ∙ c.in-Some.is)

pub leaf_below-at-requires-in-loop-at : goal.leaf_below-at-requires-in-loop-at
leaf_below-at-requires-in-loop-at c = record {
  there = ap (has c.in-Some.parent) c.remove_leaf.ensures.taken
      ∙ has_within (without c.loop-at.at c.loop-at.grove.hosts) c.args.id c.in-Some.parent
      (parent_stays c.loop-at.grove.hosts c.args.id c.loop-at.at c.in-Some.parent c.loop-at.invariant.ordered c.loop-at.invariant.within c.loop-at-test.true
      (sym c.parent.ensures.parent ∙ c.in-Some.is));
}

pub loop-at-smaller : goal.loop-at-smaller
loop-at-smaller c = omega (arith, ap total c.remove_leaf.ensures.taken, fewer_left c.loop-at.grove.hosts c.args.id c.loop-at.at c.loop-at.invariant.within)

pub loop-at-preserved : goal.loop-at-preserved
loop-at-preserved c =
    let kept =
    parent_stays c.loop-at.grove.hosts c.args.id c.loop-at.at c.in-Some.parent c.loop-at.invariant.ordered c.loop-at.invariant.within c.loop-at-test.true
    (sym c.parent.ensures.parent ∙ c.in-Some.is) in
    let above : is_within id_of c.remove_leaf.new.grove.hosts c.args.id c.in-Some.parent ≡ true =
    ap (λ f. is_within id_of f c.args.id c.in-Some.parent) c.remove_leaf.ensures.taken ∙ kept in
    record {
      rest = ap (without c.args.id) c.remove_leaf.ensures.taken
          ∙ rest_stays c.loop-at.grove.hosts c.args.id c.loop-at.at c.loop-at.invariant.ordered c.loop-at.invariant.within ∙ c.loop-at.invariant.rest;
      within =
          is_within-trans id_of c.remove_leaf.new.grove.hosts c.args.id c.in-Some.parent c.leaf_below-at-in-loop-at.result
          c.leaf_below-at-in-loop-at.ensures.ordered above c.leaf_below-at-in-loop-at.ensures.within;
      leaf = c.leaf_below-at-in-loop-at.ensures.leaf;
      room = omega (arith, c.loop-at.invariant.room, c.remove_leaf.ensures.room);
      ordered = c.leaf_below-at-in-loop-at.ensures.ordered;
      keyed = c.remove_leaf.ensures.keyed;
      keys_room = omega (arith, c.loop-at.invariant.keys_room, c.remove_leaf.ensures.keys_room);
    }
