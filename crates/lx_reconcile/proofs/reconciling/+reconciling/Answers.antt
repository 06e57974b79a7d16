use Rattle.std.proofs.Common.{◌≡◌, ◌∙◌, ◌+◌, ◌≤◌, ℕ, sym, ap, take, arith, refl, rules, Some, option_map, [], ◌∷◌}
use Rattle.lx_trees.specs.NamedTrees.{total}
use Rattle.lx_forest.specs.Lookups.{alone, has, children_of, trees_of}
use Rattle.lx_forest.specs.Records.{record_at}
use Rattle.lx_forest.specs.Views.{kind_at}
use Rattle.lx_links.specs.Stands.{node_of}
use Rattle.lx_render.specs.Render.{needs_break, tag_of}
use Rattle.lx_reconcile.specs.Walk.{IsPart, standing}
use Rattle.lx_reconcile.specs.Allowing.{marking}
use Rattle.lx_reconcile.specs.Reading.{reads_in, reads_below}
use Rattle.lx_links.proofs.Read.{is_read, there_read}
use Rattle.lx_reconcile.proofs.Children
use Rattle.lx_reconcile.proofs.Made
use Rattle.lx_reconcile.proofs.Partly
use Rattle.lx_reconcile.proofs.Whole
use Rattle.lx_reconcile.proofs.reconciling.+reconciling.Given.{Over}
use Rattle.lx_reconcile.proofs.reconciling.+reconciling.Goals as goal
use Rattle.lx_reconcile.proofs.reconciling.+reconciling.Goals.{make_moves-After-make_move, reconcile_child-After-node-2, reconcile_child-Else-has_same_tag, reconcile_node-After-as_slice, reconcile_node-After-make_moves}

-- ---- one move

pub make_move-reconcile_child-requires : goal.make_move-reconcile_child-requires
make_move-reconcile_child-requires g t c =
    let less = Made.one_less (g.N.Look.forest c.args.after.now) c.args.step (ap (λ s. standing (s ∷ [])) c.in-Stay.is) in
    let coming = rw c.in-Stay.is at c.requires.coming in
    search rules

pub make_move-host_of-requires-clause-shown : goal.make_move-host_of-requires-clause-shown
make_move-host_of-requires-clause-shown g t c = Made.leave_shown c.requires.between (rw c.in-Leave.is at c.requires.coming)

pub make_move-host_before-behind-requires-clause-shown : goal.make_move-host_before-behind-requires-clause-shown
make_move-host_before-behind-requires-clause-shown g t c = Made.make_before c.requires.between (rw c.in-Make.is at c.requires.coming)

pub make_move-make_child-requires-clause-there : goal.make_move-make_child-requires-clause-there
make_move-make_child-requires-clause-there g t c = Made.make_there c.requires.between (rw c.in-Make.is at c.requires.coming)

pub make_move-make_child-requires-clause-room : goal.make_move-make_child-requires-clause-room
make_move-make_child-requires-clause-room g t c = Made.make_room c.requires.between (rw c.in-Make.is at c.requires.coming)

pub make_move-host_of-requires-in-Place-clause-shown : goal.make_move-host_of-requires-in-Place-clause-shown
make_move-host_of-requires-in-Place-clause-shown g t c = Made.place_shown c.requires.between (rw c.in-Place.is at c.requires.coming)

pub make_move-host_before-requires-clause-shown : goal.make_move-host_before-requires-clause-shown
make_move-host_before-requires-clause-shown g t c = Made.place_before c.requires.between (rw c.in-Place.is at c.requires.coming)

pub make_move-reconcile_child-requires-in-Place : goal.make_move-reconcile_child-requires-in-Place
make_move-reconcile_child-requires-in-Place g t c =
    let less = Made.one_less (g.N.Look.forest c.args.after.now) c.args.step (ap (λ s. standing (s ∷ [])) c.in-Place.is) in
    let coming = Made.placed_next c.requires.between (rw c.in-Place.is at c.requires.coming) in
    search rules

pub make_move-returns-in_ok-push-in-Leave-clause-done : goal.make_move-returns-in_ok-push-in-Leave-clause-done
make_move-returns-in_ok-push-in-Leave-clause-done g t c =
    rw c.in-Leave.is (Made.leave_done c.requires.between (rw c.in-Leave.is at c.requires.coming) c.host_of.ensures c.in_ok-push-in-Leave.ensures.items)

pub make_move-returns-in-Make-clause-done : goal.make_move-returns-in-Make-clause-done
make_move-returns-in-Make-clause-done g t c =
    rw c.in-Make.is (
    Made.make_done c.requires.between (rw c.in-Make.is at c.requires.coming) c.make_child.result _ _ _ c.requires.host c.host_before-behind.ensures
    c.make_child.ensures.ops c.make_child.ensures.end)

pub make_move-returns-in_ok-push-in-Place-clause-done : goal.make_move-returns-in_ok-push-in-Place-clause-done
make_move-returns-in_ok-push-in-Place-clause-done g t c =
    rw c.in-Place.is (
    Made.place_done c.requires.between (rw c.in-Place.is at c.requires.coming) c.reconcile_child-in-Place.result _ _ _ _ c.requires.host
    c.host_of-in-Place.ensures c.host_before.ensures c.in_ok-push-in-Place.ensures.items
    c.reconcile_child-in-Place.ensures.done)

pub make_move-returns-in-Stay-clause-reads : goal.make_move-returns-in-Stay-clause-reads
make_move-returns-in-Stay-clause-reads g t c =
    let one =
    Made.one_reads (g.N.Look.forest c.args.after.now) c.args.step (ap (λ s. standing (s ∷ [])) c.in-Stay.is) (g.O.Look.forest c.args.before.now)
    (marking c.args.given.now.marks.now).noted c.args.parent.now.key in
    omega (arith, c.reconcile_child.ensures.reads, one)

pub make_move-returns-in-Make-clause-reads : goal.make_move-returns-in-Make-clause-reads
make_move-returns-in-Make-clause-reads g t c =
    rw c.in-Make.is (omega (arith, c.make_child.ensures.reads, Made.make_reads c.requires.between (rw c.in-Make.is at c.requires.coming)))

pub make_move-returns-in_ok-push-in-Place-clause-reads : goal.make_move-returns-in_ok-push-in-Place-clause-reads
make_move-returns-in_ok-push-in-Place-clause-reads g t c =
    let one =
    Made.one_reads (g.N.Look.forest c.args.after.now) c.args.step (ap (λ s. standing (s ∷ [])) c.in-Place.is) (g.O.Look.forest c.args.before.now)
    (marking c.args.given.now.marks.now).noted c.args.parent.now.key in
    omega (arith, c.reconcile_child-in-Place.ensures.reads, one)

-- ---- the moves

-- the reads up to a move and for it go to the moves up to there
reads_up_to : (g : Over) (t : ℕ) (c : make_moves-After-make_move g t)
    → g.O.Look.count c.make_move.new.before + g.N.Look.count c.make_move.new.after
    ≤ g.O.Look.count c.args.before.now + g.N.Look.count c.args.after.now
    + reads_in (g.O.Look.forest c.args.before.now) (marking c.args.given.now.marks.now).noted (Some c.args.parent.now.key)
    (trees_of (g.N.Look.forest c.args.after.now) (standing (take (c.loop-step.step-index + 1) c.args.moves.now)))
reads_up_to g t c =
    let noted = (marking c.args.given.now.marks.now).noted in
    let key = c.args.parent.now.key in
    let still = Made.move_reads_still c.loop-step.invariant.before c.loop-step.invariant.after noted (Some key) (standing (c.step-item.result ∷ [])) in
    let taken =
    Made.take_reads (g.O.Look.forest c.args.before.now) (g.N.Look.forest c.args.after.now) noted key c.args.moves.now c.loop-step.step-index
    c.step-item.result c.loop-step-test.true c.step-item.is in
    omega (arith, c.make_move.ensures.reads, c.loop-step.invariant.reads, still, taken)

pub make_moves-loop-step-init : goal.make_moves-loop-step-init
make_moves-loop-step-init g t c = record {
  before = refl;
  after = refl;
  made = Made.makes_none;
  backing_before = search rules;
  backing_after = search rules;
  reads = omega arith;
}

pub make_moves-make_move-requires : goal.make_moves-make_move-requires
make_moves-make_move-requires g t c =
    let before = c.loop-step.invariant.before in
    let after = c.loop-step.invariant.after in
    let coming = Made.is_next c.loop-step.step-index c.loop-step-test.true c.step-item.is c.requires.coming c.loop-step.invariant.made in
    let less = Made.move_less_still c.requires.between after coming in
    let still = rw (← before, ← after) at coming in
    let between = rw (← before, ← after) at c.requires.between in
    let wide = rw (← before, ← after) at c.requires.wide in
    search rules

pub make_moves-loop-step-preserved : goal.make_moves-loop-step-preserved
make_moves-loop-step-preserved g t c =
    let had = c.loop-step.invariant in
    let told = c.in_ok-make_move.ensures in
    record {
      before = told.before ∙ had.before;
      after = told.after ∙ had.after;
      made = Made.makes_next c.args.moves.now c.loop-step.step-index c.loop-step-test.true c.step-item.is had.made (rw (had.before, had.after) at told.done);
      backing_before = search rules;
      backing_after = search rules;
      reads = reads_up_to g t (goal.at.make_moves-loop-step-preserved g t c).After-make_move;
    }

pub make_moves-returns-in_err-make_move-clause-reads : goal.make_moves-returns-in_err-make_move-clause-reads
make_moves-returns-in_err-make_move-clause-reads g t c =
    let all =
    Made.part_reads (g.O.Look.forest c.args.before.now) (g.N.Look.forest c.args.after.now) (marking c.args.given.now.marks.now).noted c.args.parent.now.key
    c.args.moves.now (c.loop-step.step-index + 1) in
    omega (arith, all, reads_up_to g t (goal.at.make_moves-returns-in_err-make_move-clause-reads g t c).After-make_move)

-- ---- a child that stays

-- the child as both trees have it
was_child : (g : Over) (t : ℕ) (c : reconcile_child-After-node-2 g t)
    → Some c.node.result.now ≡ option_map node_of (record_at (g.O.Look.forest c.args.before.now) c.args.key)
was_child g t c = ap (λ n. Some n) c.node.ensures ∙ c.found-was.ensures.found

now_child : (g : Over) (t : ℕ) (c : reconcile_child-After-node-2 g t)
    → Some c.node-2.result.now ≡ option_map node_of (record_at (g.N.Look.forest c.args.after.now) c.args.key)
now_child g t c = ap (λ n. Some n) c.node-2.ensures ∙ c.found-now.ensures.found

-- where it is made anew its element is another one
other_tag : (g : Over) (t : ℕ) (c : reconcile_child-Else-has_same_tag g t)
    → tag_of c.node.result.now.kind c.node.result.now.fields ≡ tag_of c.node-2.result.now.kind c.node-2.result.now.fields → ⊥
other_tag g t c e = let told = c.has_same_tag.ensures.1 e in let other = c.if-has_same_tag.false in absurd (grind (arith, told, other))

pub reconcile_child-returns-then-not-is_noted-clause-done : goal.reconcile_child-returns-then-not-is_noted-clause-done
reconcile_child-returns-then-not-is_noted-clause-done g t c =
    Made.stay_skipped c.requires.between c.requires.coming _ (sym c.is_noted.ensures ∙ c.if-not-is_noted.true)

pub reconcile_child-found-was-requires : goal.reconcile_child-found-was-requires
reconcile_child-found-was-requires g t c = record { there = Made.stay_before c.requires.between c.requires.coming }

pub reconcile_child-found-now-requires : goal.reconcile_child-found-now-requires
reconcile_child-found-now-requires g t c = record { there = Made.stay_after c.requires.between c.requires.coming }

pub reconcile_child-reconcile_node-requires : goal.reconcile_child-reconcile_node-requires
reconcile_child-reconcile_node-requires g t c =
    let room = rw (← c.found-was.ensures.same, ← c.found-now.ensures.same) at (Made.stay_room c.requires.between c.requires.coming) in
    let between = rw (← c.found-was.ensures.same, ← c.found-now.ensures.same) at c.requires.between in
    let wide = rw (← c.found-was.ensures.same, ← c.found-now.ensures.same) at c.requires.wide in
    let less = Made.child_node_less c.found-now.ensures.same c.args.key in
    let behind = Made.stay_behind c.requires.between c.requires.coming in
    search rules

pub reconcile_child-returns-then-has_same_tag-clause-done : goal.reconcile_child-returns-then-has_same_tag-clause-done
reconcile_child-returns-then-has_same_tag-clause-done g t c =
    Made.stay_done c.requires.between c.requires.coming c.reconcile_node.result _ _ _ c.found-was.ensures.same c.found-now.ensures.same
    c.reconcile_node.ensures.done

pub reconcile_child-host_of-old-requires-clause-shown : goal.reconcile_child-host_of-old-requires-clause-shown
reconcile_child-host_of-old-requires-clause-shown g t c = Made.stay_shown c.requires.between c.requires.coming

pub reconcile_child-replace_child-requires-clause-there : goal.reconcile_child-replace_child-requires-clause-there
reconcile_child-replace_child-requires-clause-there g t c = ap (has c.args.key) c.found-now.ensures.same ∙ Made.stay_after c.requires.between c.requires.coming

pub reconcile_child-replace_child-requires-clause-room : goal.reconcile_child-replace_child-requires-clause-room
reconcile_child-replace_child-requires-clause-room g t c =
    let at = goal.at.reconcile_child-replace_child-requires-clause-room g t c in
    let room =
    Made.again_room c.requires.between c.requires.coming (was_child g t at.After-node-2) (now_child g t at.After-node-2)
    (other_tag g t at.Else-has_same_tag) in
    rw (← c.found-now.ensures.same) at room

pub reconcile_child-returns-clause-done : goal.reconcile_child-returns-clause-done
reconcile_child-returns-clause-done g t c =
    let at = goal.at.reconcile_child-returns-clause-done g t c in
    Made.again_done c.requires.between c.requires.coming (was_child g t at.After-node-2) (now_child g t at.After-node-2) (other_tag g t at.Else-has_same_tag)
    c.replace_child.result _ _ _
    c.found-now.ensures.same c.requires.host c.host_of-old.ensures c.replace_child.ensures.ops c.replace_child.ensures.end

pub reconcile_child-returns-then-has_same_tag-clause-reads : goal.reconcile_child-returns-then-has_same_tag-clause-reads
reconcile_child-returns-then-has_same_tag-clause-reads g t c =
    let at = (goal.at.reconcile_child-returns-then-has_same_tag-clause-reads g t c).After-node-2 in
    let still = Made.reads_still c.found-was.ensures.same c.found-now.ensures.same (marking c.args.given.now.marks.now).noted c.args.key in
    let node =
    Made.node_reads c.requires.between c.requires.coming (was_child g t at) (now_child g t at) (c.has_same_tag.ensures.0 c.if-has_same_tag.true)
    (sym c.is_noted.ensures ∙ c.if-not-is_noted.false) in
    omega (arith, c.reconcile_node.ensures.reads, c.found-was.ensures.reads, c.found-now.ensures.reads, still, node)

pub reconcile_child-returns-clause-reads : goal.reconcile_child-returns-clause-reads
reconcile_child-returns-clause-reads g t c =
    let at = goal.at.reconcile_child-returns-clause-reads g t c in
    let still = ap (λ f. total (alone c.args.key f)) c.found-now.ensures.same in
    let again =
    Made.again_reads c.requires.between c.requires.coming (was_child g t at.After-node-2) (now_child g t at.After-node-2)
    (other_tag g t at.Else-has_same_tag) in
    omega (arith, c.replace_child.ensures.reads, c.found-was.ensures.reads, c.found-now.ensures.reads, still, again)

-- ---- a node

-- the moves are a part of those of all its children
part : (g : Over) (t : ℕ) (c : reconcile_node-After-as_slice g t)
    → IsPart (marking c.args.given.now.marks.now).noted (children_of (g.O.Look.forest c.args.before.now) c.args.key)
    (children_of (g.N.Look.forest c.args.after.now) c.args.key) c.as_slice.result.now
part g t c = rw c.as_slice.ensures.value c.in_ok-moves.ensures.part

-- and so the reads for them are among those below it, with one more in each tree for the ending
reads_of_moves : (g : Over) (t : ℕ) (c : reconcile_node-After-make_moves g t)
    → g.O.Look.count c.make_moves.new.before + g.N.Look.count c.make_moves.new.after + 2
    ≤ g.O.Look.count c.args.before.now + g.N.Look.count c.args.after.now
    + reads_below (g.O.Look.forest c.args.before.now) (g.N.Look.forest c.args.after.now) (marking c.args.given.now.marks.now).noted c.args.key
reads_of_moves g t c =
    let noted = (marking c.args.given.now.marks.now).noted in
    let still = Made.move_reads_still c.moves_of.ensures.before c.moves_of.ensures.after noted (Some c.args.key) (standing c.as_slice.result.now) in
    let less =
    Partly.part_reads (g.O.Look.forest c.args.before.now) (g.N.Look.forest c.args.after.now) noted c.args.key _ _
    (part g t (goal.at.reconcile_node-After-make_moves g t c).After-as_slice) in
    omega (arith, c.moves_of.ensures.reads_before, c.moves_of.ensures.reads_after, c.make_moves.ensures.reads, still, less)

pub reconcile_node-host_of-host-requires-clause-shown : goal.reconcile_node-host_of-host-requires-clause-shown
reconcile_node-host_of-host-requires-clause-shown g t c = Whole.node_shown _ _ _ _ c.args.key c.args.both.was.now c.requires.between c.requires.was

pub reconcile_node-push_face-requires : goal.reconcile_node-push_face-requires
reconcile_node-push_face-requires g t c = record { stays = Whole.text_stays _ _ _ _ c.args.key 0 _ _ c.requires.between c.requires.was c.requires.now }

pub reconcile_node-moves_of-requires-clause-there_before : goal.reconcile_node-moves_of-requires-clause-there_before
reconcile_node-moves_of-requires-clause-there_before g t c =
    there_read _ c.args.key _ (is_read _ c.args.key _ c.requires.between.was_sound c.requires.was)

pub reconcile_node-moves_of-requires-clause-there_after : goal.reconcile_node-moves_of-requires-clause-there_after
reconcile_node-moves_of-requires-clause-there_after g t c =
    there_read _ c.args.key _ (is_read _ c.args.key _ c.requires.between.sound c.requires.now)

pub reconcile_node-make_moves-requires : goal.reconcile_node-make_moves-requires
reconcile_node-make_moves-requires g t c =
    let before = c.moves_of.ensures.before in
    let after = c.moves_of.ensures.after in
    let moves = part g t (goal.at.reconcile_node-make_moves-requires g t c).After-as_slice in
    let next =
    Whole.children_coming _ _ _ _ _ _ _ _ c.requires.between c.requires.was c.requires.now c.host_of-host.result _ _ c.host_of-host.ensures
    c.requires.behind c.requires.room moves c.in_ok-push_face.ensures.face in
    let coming = rw (← before, ← after) at next in
    let between = rw (← before, ← after) at c.requires.between in
    let wide = rw (← before, ← after) at c.requires.wide in
    let less = Whole.node_less _ _ c.args.key after in
    search rules

pub reconcile_node-is_ended-old-requires : goal.reconcile_node-is_ended-old-requires
reconcile_node-is_ended-old-requires g t c =
    record {
      there = Children.last_still _ _ c.args.key _ (c.make_moves.ensures.before ∙ c.moves_of.ensures.before) c.requires.between.was_sound
          c.requires.was;
    }

pub reconcile_node-is_ended-new-requires : goal.reconcile_node-is_ended-new-requires
reconcile_node-is_ended-new-requires g t c =
    record { there = Children.last_still _ _ c.args.key _ (c.make_moves.ensures.after ∙ c.moves_of.ensures.after) c.requires.between.sound c.requires.now }

pub reconcile_node-returns-clause-done : goal.reconcile_node-returns-clause-done
reconcile_node-returns-clause-done g t c =
    let moves = part g t (goal.at.reconcile_node-returns-clause-done g t c).After-as_slice in
    let made = rw (c.moves_of.ensures.before, c.moves_of.ensures.after) at c.in_ok-make_moves.ensures.done in
    Whole.node_done _ _ _ _ _ _ _ _ c.requires.between c.requires.was c.requires.now
    c.host_of-host.result _ _ _ _ _ c.is_ended-old.result c.is_ended-new.result c.host_of-host.ensures c.requires.tag moves c.in_ok-push_face.ensures.none
    c.in_ok-push_face.ensures.face made
    (c.is_ended-old.ensures.ended
    ∙ ap (λ f. needs_break c.args.both.was.now.kind (kind_at f c.args.both.was.now.last)) (c.make_moves.ensures.before ∙ c.moves_of.ensures.before))
    (c.is_ended-new.ensures.ended
    ∙ ap (λ f. needs_break c.args.both.now.now.kind (kind_at f c.args.both.now.now.last)) (c.make_moves.ensures.after ∙ c.moves_of.ensures.after))
    c.in_ok-push_ending.ensures.none c.in_ok-push_ending.ensures.ending

pub reconcile_node-returns-in_err-make_moves-clause-reads : goal.reconcile_node-returns-in_err-make_moves-clause-reads
reconcile_node-returns-in_err-make_moves-clause-reads g t c =
    omega (arith, reads_of_moves g t (goal.at.reconcile_node-returns-in_err-make_moves-clause-reads g t c).After-make_moves)

pub reconcile_node-returns-in_err-push_ending-clause-reads : goal.reconcile_node-returns-in_err-push_ending-clause-reads
reconcile_node-returns-in_err-push_ending-clause-reads g t c =
    omega (
      arith,
      c.is_ended-old.ensures.reads,
      c.is_ended-new.ensures.reads,
      reads_of_moves g t (goal.at.reconcile_node-returns-in_err-push_ending-clause-reads g t c).After-make_moves,
    )

pub reconcile_node-returns-clause-reads : goal.reconcile_node-returns-clause-reads
reconcile_node-returns-clause-reads g t c =
    omega (
      arith,
      c.is_ended-old.ensures.reads,
      c.is_ended-new.ensures.reads,
      reads_of_moves g t (goal.at.reconcile_node-returns-clause-reads g t c).After-make_moves,
    )
