use Rattle.std.proofs.Common.{◌≡◌, ◌≢◌, ◌∙◌, ℕ, Bool, ◌||◌, eqb, ap, sym, Some, None, Option, arith}
use Rattle.std.specs.Prelude.{filter, insert}
use Rattle.std.proofs.lemmas.Option.{slice_get-get_or}
use Rattle.std.specs.declared.cmp.Ordering.{Ordering}
use Rattle.std.specs.declared.cmp.Ordering.TheVariants.{Less, Equal, Greater}
use Rattle.lx_forest.specs.Lookups.{preorder, order_of}
use Rattle.lx_list.proofs.KeptLists.{IsTold, told_before, told_kept, told_behind, told_last}
use Rattle.lx_list.proofs.touched.place_of.Goals as goal
use Rattle.lx_list.proofs.touched.place_of.Goals.{After-index-keys-at}

-- what is known of the key at a place
told : (c : After-index-keys-at) → IsTold c.args.links.now c.args.keys.now c.args.list c.loop-at.at c.index-keys-at.result
told c = record {
  in_order = c.requires.in_order;
  attached = c.requires.attached;
  before = c.loop-at.invariant.before;
  here = slice_get-get_or c.args.keys.now c.loop-at.at c.index-keys-at.result c.loop-at-test.true ∙ ap (λ y. Some y) (sym c.index-keys-at.is);
}

pub loop-at-preserved : goal.loop-at-preserved
loop-at-preserved c = record {
  within = omega arith;
  before =
      told_before c.args.links.now c.args.keys.now c.args.list c.loop-at.at c.index-keys-at.result (told (goal.at.loop-at-preserved c).After-index-keys-at)
      (rw c.in-Less.is at c.in-Some.ensures.order);
}

pub returns-in-Equal-clause-place : goal.returns-in-Equal-clause-place
returns-in-Equal-clause-place c =
    told_kept c.args.links.now c.args.keys.now c.args.list c.loop-at.at c.index-keys-at.result
    (told (goal.at.returns-in-Equal-clause-place c).After-index-keys-at) (rw c.in-Equal.is at c.in-Some.ensures.order)

pub returns-clause-place : goal.returns-clause-place
returns-clause-place c =
    told_last c.args.links.now c.args.keys.now c.args.list c.loop-at.at c.requires.in_order c.requires.attached c.loop-at-test.false c.loop-at.invariant.before

-- it comes behind the list
behind : (c : After-index-keys-at) (o : Option Ordering) → o ≡ order_of c.args.links.now c.index-keys-at.result c.args.list → o ≢ Some Less → o ≢ Some Equal
    → (p : ℕ → Bool) → c.args.keys.now ≡ filter p (preorder c.args.links.now)
    → insert c.args.keys.now c.loop-at.at c.args.list ≡ filter (λ q. p q || eqb q c.args.list) (preorder c.args.links.now)
behind c o e not_less not_equal =
    told_behind c.args.links.now c.args.keys.now c.args.list c.loop-at.at c.index-keys-at.result (told c) (λ h. not_less (e ∙ h)) (λ h. not_equal (e ∙ h))

pub returns-in-Greater-clause-place : goal.returns-in-Greater-clause-place
returns-in-Greater-clause-place c =
    behind (goal.at.returns-in-Greater-clause-place c).After-index-keys-at (Some Greater) (rw c.in-Greater.is at c.in-Some.ensures.order) (λ h. cc) (λ h. cc)

pub returns-in_default-clause-place : goal.returns-in_default-clause-place
returns-in_default-clause-place c =
    behind (goal.at.returns-in_default-clause-place c).After-index-keys-at None c.in_default.ensures.order (λ h. cc) (λ h. cc)
