use Rattle.std.proofs.Common.{◌∙◌, ◌+◌, ◌≤◌, nat_eq, refl, ap, arith}
use Rattle.std.specs.Map.{lookup}
use Rattle.lx_trees.specs.NamedTrees.{total}
use Rattle.lx_forest.specs.Weights.{weight}
use Rattle.lx_outline.specs.Outline.{OutlineView, characters_in}
use Rattle.lx_outline.specs.Reading.{most_reads}
use Rattle.lx_outline.proofs.Applied.{AreBetween, are_between, IsMoved, few_before, few_after, short_before, short_after, nodes_moved, characters_moved, headings_are, reads_within}
use Rattle.lx_outline.proofs.outline.Outline.apply.Given.{Over}
use Rattle.lx_outline.proofs.outline.Outline.apply.Goals as goal
use Rattle.lx_outline.proofs.outline.Outline.apply.Goals.{After-look-2, After-touched_by, After-renew}

-- the two trees, with the events between them
between : (g : Over) (c : After-look-2 g) → AreBetween (g.R.Records.forest c.args.before.now) (g.R.Records.forest c.args.after.now) c.args.events.now
between g c = are_between _ _ _ c.look.ensures.sound c.look-2.ensures.sound c.requires.events

-- what the two numbers become
nodes : (g : Over) (c : After-touched_by g)
    → IsMoved c.self.inside.nodes c.sums_of-gone.result.nodes c.sums_of-come.result.nodes (total (g.R.Records.forest c.args.after.now))
nodes g c =
    nodes_moved _ _ _ (between g (goal.at.After-touched_by g c).After-look-2) _ _ _ _ _ c.look.ensures.same c.look-2.ensures.same c.requires.few_before
    c.requires.few_after
    (ap (λ (o : OutlineView). o.nodes) c.self.view_is ∙ c.requires.outline.nodes) c.sums_of-gone.ensures.nodes c.sums_of-come.ensures.nodes

characters : (g : Over) (c : After-touched_by g)
    → IsMoved c.self.inside.characters c.sums_of-gone.result.characters c.sums_of-come.result.characters
    (weight characters_in (g.R.Records.forest c.args.after.now))
characters g c =
    characters_moved _ _ _ (between g (goal.at.After-touched_by g c).After-look-2) _ _ _ _ _ c.look.ensures.same c.look-2.ensures.same c.requires.short_before
    c.requires.short_after
    (ap (λ (o : OutlineView). o.characters) c.self.view_is ∙ c.requires.outline.characters) c.sums_of-gone.ensures.characters c.sums_of-come.ensures.characters

-- no more is read than that
reads : (g : Over) (c : After-renew g)
    → g.R.Records.count c.sums_of-gone.new.records + g.R.Records.count c.renew.new.records
    ≤ g.R.Records.count c.args.before.now + g.R.Records.count c.args.after.now + most_reads c.args.events.now (g.R.Records.forest c.args.after.now)
reads g c =
    let at_come = c.sums_of-come.ensures.same ∙ c.look-2.ensures.same in
    let again = reads_within _ _ _ (between g (goal.at.After-renew g c).After-look-2) _ _ _ _ at_come (c.touched_by.ensures.same ∙ at_come)
    (c.as_slice.ensures.value ∙ c.in_ok-keys.ensures.keys) c.in_ok-touched.ensures.keys c.in_ok-keys.ensures.ascending in
    omega (
      arith,
      c.look.ensures.reads,
      c.look-2.ensures.reads,
      c.sums_of-gone.ensures.reads,
      c.sums_of-come.ensures.reads,
      c.touched_by.ensures.reads,
      c.renew.ensures.reads,
      again,
    )

pub sums_of-gone-requires : goal.sums_of-gone-requires
sums_of-gone-requires g c κs =
    let b = between g (goal.at.sums_of-gone-requires g c).After-look-2 in
    ((refl, tt), (few_before _ _ _ b _ c.look.ensures.same c.requires.few_before, short_before _ _ _ b _ c.look.ensures.same c.requires.short_before))

pub sums_of-come-requires : goal.sums_of-come-requires
sums_of-come-requires g c κs =
    let b = between g (goal.at.sums_of-come-requires g c).After-look-2 in
    ((refl, tt), (few_after _ _ _ b _ c.look-2.ensures.same c.requires.few_after, short_after _ _ _ b _ c.look-2.ensures.same c.requires.short_after))

pub returns-in_err-renew-clause-reads : goal.returns-in_err-renew-clause-reads
returns-in_err-renew-clause-reads g c = reads g (goal.at.returns-in_err-renew-clause-reads g c).After-renew

pub overflow_add-self : goal.overflow_add-self
overflow_add-self g c = omega (arith, (nodes g (goal.at.overflow_add-self g c).After-touched_by).fits)

pub overflow_sub-self : goal.overflow_sub-self
overflow_sub-self g c = (nodes g (goal.at.overflow_sub-self g c).After-touched_by).enough

pub overflow_add-self-2 : goal.overflow_add-self-2
overflow_add-self-2 g c = omega (arith, (characters g (goal.at.overflow_add-self-2 g c).After-touched_by).fits)

pub overflow_sub-self-2 : goal.overflow_sub-self-2
overflow_sub-self-2 g c = (characters g (goal.at.overflow_sub-self-2 g c).After-touched_by).enough

pub returns-clause-outline : goal.returns-clause-outline
returns-clause-outline g c =
    let at = (goal.at.returns-clause-outline g c).After-touched_by in
    let at_come = c.sums_of-come.ensures.same ∙ c.look-2.ensures.same in
    record {
      nodes = (nodes g at).left;
      characters = (characters g at).left;
      heading =
          headings_are _ _ _ (between g (goal.at.returns-clause-outline g c).After-look-2) _ _ _ _ c.self.inside.headings _ _ at_come
          (c.touched_by.ensures.same ∙ at_come)
          (c.as_slice.ensures.value ∙ c.in_ok-keys.ensures.keys) c.in_ok-touched.ensures.keys
          (λ q. ap (λ (o : OutlineView). lookup (nat_eq q) o.headings) c.self.view_is ∙ c.requires.outline.heading q) c.forget.ensures
          c.in_ok-renew.ensures.headings;
    }

pub returns-clause-reads : goal.returns-clause-reads
returns-clause-reads g c = reads g (goal.at.returns-clause-reads g c).After-renew
