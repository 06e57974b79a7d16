use Rattle.std.proofs.Common.{◌∙◌, nat_eq, not, ap, sym, subst}
use Rattle.indexmap.specs.IndexMap.{get}
use Rattle.lx_forest.specs.Lookups.{children_of}
use Rattle.lx_reconcile.specs.Allowing.{marking}
use Rattle.lx_reconcile.specs.Walk.{IsPart}
use Rattle.lx_reconcile.specs.Windows.{IsWindowOfMarks}
use Rattle.lx_reconcile.proofs.Around.{keys_once, start_place, window_part, plain_part}
use Rattle.lx_reconcile.proofs.Kin.{IsFamily, is_family, no_family}
use Rattle.lx_reconcile.proofs.Runs.{no_children, some_child, none_window}
use Rattle.lx_reconcile.proofs.reconciling.window_moves.Given.{Over}
use Rattle.lx_reconcile.proofs.reconciling.window_moves.Goals as goal
use Rattle.lx_reconcile.proofs.reconciling.window_moves.Goals.{In-Some, After-window-2-1, in-Some+in_ok-window-in-Some, in-None}
use Rattle.std.proofs.lemmas.Result.{IfOk-weaker}

-- the family that was found is that of the node
family : (g : Over) (c : In-Some g) → IsFamily _ _ _ _ c.requires.between _ _ c.requires.families c.args.parent.now.key c.in-Some.family.now
family g c =
    let found = sym (ap (get nat_eq c.args.given.now.families.now) c.requires.host) ∙ sym c.in-Some.ensures.value in
    is_family _ _ _ _ c.requires.between _ _ c.requires.families _ _ c.requires.there_before found

-- the window is the run of the marked children
marks : (g : Over) (c : After-window-2-1 g)
    → IsWindowOfMarks (marking c.args.given.now.marks.now).noted (children_of (g.O.Look.forest c.args.before.now) c.args.parent.now.key) c.match-get.window
marks g c =
    let IsRun = IsWindowOfMarks (marking c.args.given.now.marks.now).noted (children_of (g.O.Look.forest c.args.before.now) c.args.parent.now.key) in
    elim c.match-get.branch [
      | in-Some+in_ok-window-in-Some w ↦ subst IsRun (sym w.window-is) w.in_ok-window-in-Some.ensures.window
      | in-None w ↦
          let none = no_children _ c.args.was c.requires.was (w.is_none.ensures ∙ ap not w.if-is_none.true) in
          subst IsRun (sym w.window-is)
          (none_window _ _ w.empty-window.result none w.empty-window.ensures.before w.empty-window.ensures.keys w.empty-window.ensures.behind)
    ]

-- ---- the family of the node

pub marked_window-requires-clause-child : goal.marked_window-requires-clause-child
marked_window-requires-clause-child g c = (family g (goal.at.marked_window-requires-clause-child g c).In-Some).child

pub marked_window-requires-clause-marked : goal.marked_window-requires-clause-marked
marked_window-requires-clause-marked g c = (family g (goal.at.marked_window-requires-clause-marked g c).In-Some).marked

pub marked_window-requires-clause-size : goal.marked_window-requires-clause-size
marked_window-requires-clause-size g c = (family g (goal.at.marked_window-requires-clause-size g c).In-Some).size

-- ---- where no child is marked

pub returns-in-None-2-clause-part : goal.returns-in-None-2-clause-part
returns-in-None-2-clause-part g c =
    let key = c.args.parent.now.key in
    let between = c.requires.between in
    let none = sym (ap (get nat_eq c.args.given.now.families.now) c.requires.host) ∙ sym c.in-None-2.ensures.value in
    let first = some_child _ c.args.was c.requires.was c.if-is_none.ensures in
    let plain = no_family _ _ _ _ between _ _ c.requires.families key c.requires.there_before none in
    subst (IsPart (marking c.args.given.now.marks.now).noted (children_of (g.O.Look.forest c.args.before.now) key)
    (children_of (g.N.Look.forest c.args.after.now) key)) (sym c.new.ensures.items)
    (plain_part _ _ _ _ between key c.requires.stay first.0 first.1 plain)

-- ---- the run of the marked children

pub moves_in-requires-clause-once : goal.moves_in-requires-clause-once
moves_in-requires-clause-once g c =
    keys_once _ _ _ _ c.requires.between _ c.requires.stay _ (marks g (goal.at.moves_in-requires-clause-once g c).After-window-2-1)

pub moves_in-requires-clause-first : goal.moves_in-requires-clause-first
moves_in-requires-clause-first g c =
    start_place _ _ _ _ c.requires.between _ c.requires.stay _ (marks g (goal.at.moves_in-requires-clause-first g c).After-window-2-1) _ c.requires.now

pub returns-clause-part : goal.returns-clause-part
returns-clause-part g c =
    let run = marks g (goal.at.returns-clause-part g c).After-window-2-1 in
    IfOk-weaker c.moves_in.result _ _ (λ moves walk. window_part _ _ _ _ c.requires.between _ c.requires.stay _ run _ moves.items c.requires.now walk)
    c.moves_in.ensures.walk
