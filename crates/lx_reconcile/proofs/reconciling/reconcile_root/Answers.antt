use Rattle.std.proofs.Common.{◌∙◌, ◌+◌, ◌<◌, ◌≤◌, Some, sym, ap, arith}
use Rattle.lx_node.specs.Limits.{last_u64}
use Rattle.lx_forest.specs.Lookups.{has}
use Rattle.lx_reconcile.specs.Allowing.{marking, IsTree}
use Rattle.lx_reconcile.specs.Making.{IsBetween}
use Rattle.lx_reconcile.specs.Reading.{most_reads}
use Rattle.lx_reconcile.proofs.Covered.{touched_noted}
use Rattle.lx_reconcile.proofs.Whole
use Rattle.lx_reconcile.proofs.reconciling.reconcile_root.Given.{Over}
use Rattle.lx_reconcile.proofs.reconciling.reconcile_root.Goals as goal
use Rattle.lx_reconcile.proofs.reconciling.reconcile_root.Goals.{After-found-now, After-reconcile_node}

-- both forests are trees of the root
trees : (g : Over) (c : After-found-now g) → IsTree (g.O.Look.forest c.args.before.now) × IsTree (g.N.Look.forest c.args.after.now)
trees g c = (Whole.is_tree _ c.found-was.ensures.sound c.requires.alone_before, Whole.is_tree _ c.found-now.ensures.sound c.requires.alone_after)

-- and the view shows the first of them
between : (g : Over) (c : After-found-now g)
    → IsBetween (g.O.Look.forest c.args.before.now) (g.N.Look.forest c.args.after.now) (marking c.args.marks.now) c.args.hosts.now.tree
between g c =
    let both = trees g c in
    Whole.are_between _ _ _ _ c.requires.covered (touched_noted c.args.marks.now) both.0 both.1 c.requires.shown c.next_id-next.ensures.numbered
    c.next_id-next.ensures.rooted

-- no sum of what there is to do is too large
fits : (g : Over) (c : After-found-now g)
    → most_reads (g.O.Look.forest c.args.before.now) (g.N.Look.forest c.args.after.now) (marking c.args.marks.now).noted < last_u64
fits g c = let both = trees g c in Whole.bound_fits _ _ _ both.0 both.1

-- no more is read than that
reads : (g : Over) (c : After-reconcile_node g)
    → g.O.Look.count c.reconcile_node.new.before + g.N.Look.count c.reconcile_node.new.after
    ≤ g.O.Look.count c.args.before.now + g.N.Look.count c.args.after.now
    + most_reads (g.O.Look.forest c.args.before.now) (g.N.Look.forest c.args.after.now) (marking c.args.marks.now).noted
reads g c =
    let both = trees g (goal.at.After-reconcile_node g c).After-found-now in
    let marked = sym c.is_noted.ensures ∙ c.if-not-is_noted.false in
    let most =
    Whole.reads_bound _ _ _ _ (marking c.args.marks.now).noted _ c.root-key.ensures c.found-was.ensures.same c.found-now.ensures.same both.0 both.1
    marked in
    omega (arith, c.reconcile_node.ensures.reads, c.found-was.ensures.reads, c.found-now.ensures.reads, most)

pub found-was-requires : goal.found-was-requires
found-was-requires g c = record { there = ap (λ k. has k (g.O.Look.forest c.args.before.now)) c.root-key.ensures ∙ c.requires.rooted_before }

pub found-now-requires : goal.found-now-requires
found-now-requires g c = record { there = ap (λ k. has k (g.N.Look.forest c.args.after.now)) c.root-key.ensures ∙ c.requires.rooted_after }

pub reconcile_node-requires-clause-between : goal.reconcile_node-requires-clause-between
reconcile_node-requires-clause-between g c =
    rw (← c.found-was.ensures.same, ← c.found-now.ensures.same) at (between g (goal.at.reconcile_node-requires-clause-between g c).After-found-now)

pub reconcile_node-requires-clause-wide : goal.reconcile_node-requires-clause-wide
reconcile_node-requires-clause-wide g c = rw (← c.found-was.ensures.same, ← c.found-now.ensures.same) at c.requires.wide

pub reconcile_node-requires-clause-was : goal.reconcile_node-requires-clause-was
reconcile_node-requires-clause-was g c = rw c.found-was.ensures.same (ap (λ n. Some n) c.node.ensures ∙ c.found-was.ensures.found)

pub reconcile_node-requires-clause-now : goal.reconcile_node-requires-clause-now
reconcile_node-requires-clause-now g c = rw c.found-now.ensures.same (ap (λ n. Some n) c.node-2.ensures ∙ c.found-now.ensures.found)

pub reconcile_node-requires-clause-tag : goal.reconcile_node-requires-clause-tag
reconcile_node-requires-clause-tag g c =
    let both = trees g (goal.at.reconcile_node-requires-clause-tag g c).After-found-now in
    Whole.root_same_tag _ _ _ _ _ c.root-key.ensures both.0 both.1 (ap (λ n. Some n) c.node.ensures ∙ c.found-was.ensures.found)
    (ap (λ n. Some n) c.node-2.ensures ∙ c.found-now.ensures.found)

pub reconcile_node-requires-clause-room : goal.reconcile_node-requires-clause-room
reconcile_node-requires-clause-room g c =
    let both = trees g (goal.at.reconcile_node-requires-clause-room g c).After-found-now in
    Whole.root_room c.args.hosts.now.tree _ _ _ _ _ _ c.root-key.ensures c.next_id-next.ensures.next c.found-was.ensures.same c.found-now.ensures.same both.1
    c.requires.room

pub returns-clause-allowed : goal.returns-clause-allowed
returns-clause-allowed g c =
    let at = (goal.at.returns-clause-allowed g c).After-found-now in
    let both = trees g at in
    Whole.root_allowed _ _ _ _ _ _ _ _ _ _ _ c.root-key.ensures c.next_id-next.ensures.next c.new.ensures.items c.found-was.ensures.same
    c.found-now.ensures.same both.0 both.1 (between g at) c.in_ok-reconcile_node.ensures.done

pub returns-then-not-is_noted-clause-allowed : goal.returns-then-not-is_noted-clause-allowed
returns-then-not-is_noted-clause-allowed g c =
    let at = (goal.at.returns-then-not-is_noted-clause-allowed g c).After-found-now in
    let both = trees g at in
    Whole.nothing_allowed _ _ _ _ _ _ c.root-key.ensures c.requires.none both.0 both.1 (between g at) (sym c.is_noted.ensures ∙ c.if-not-is_noted.true)

pub returns-clause-reads : goal.returns-clause-reads
returns-clause-reads g c = reads g (goal.at.returns-clause-reads g c).After-reconcile_node

pub returns-in_err-reconcile_node-clause-reads : goal.returns-in_err-reconcile_node-clause-reads
returns-in_err-reconcile_node-clause-reads g c = reads g (goal.at.returns-in_err-reconcile_node-clause-reads g c).After-reconcile_node

pub returns-clause-fits : goal.returns-clause-fits
returns-clause-fits g c = fits g (goal.at.returns-clause-fits g c).After-found-now

pub returns-then-not-is_noted-clause-fits : goal.returns-then-not-is_noted-clause-fits
returns-then-not-is_noted-clause-fits g c = fits g (goal.at.returns-then-not-is_noted-clause-fits g c).After-found-now

pub returns-in_err-reconcile_node-clause-fits : goal.returns-in_err-reconcile_node-clause-fits
returns-in_err-reconcile_node-clause-fits g c = fits g (goal.at.returns-in_err-reconcile_node-clause-fits g c).After-found-now

pub returns-in_err-families-clause-fits : goal.returns-in_err-families-clause-fits
returns-in_err-families-clause-fits g c = fits g (goal.at.returns-in_err-families-clause-fits g c).After-found-now
