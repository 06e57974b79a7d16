use Rattle.std.proofs.Common.{◌∙◌, ◌&&◌, ℕ, Bool, sym, rules}
use Rattle.lx_blocks.specs.Blocks.{is_line, frame_of, same_node}
use Rattle.lx_blocks.specs.Walks.{key_of_step}
use Rattle.lx_blocks.proofs.Ahead.{ahead_on, ahead_ends}
use Rattle.lx_blocks.proofs.lines.collect_lines.Goals as goal

pub loop-at-preserved : goal.loop-at-preserved
loop-at-preserved c =
    let test : ℕ → Bool = λ k. is_line c.args.links.now k && same_node (frame_of c.args.links.now k) c.args.frame_key.now in
    ahead_on test (key_of_step c.args.stop) c.args.from c.loop-at.at c.next_in_tree-next.result c.args.links.now _ c.in-Some.depth c.loop-at.keys.items _
    c.loop-at.invariant c.next_in_tree-next.ensures.next c.next_in_tree-next.ensures.last c.next_in_tree-next.ensures.depth
    (sym c.is_stop.ensures ∙ c.if-is_stop.false) c.in_ok-keep_line.ensures (search rules)

pub returns-in-None : goal.returns-in-None
returns-in-None c =
    let test : ℕ → Bool = λ k. is_line c.args.links.now k && same_node (frame_of c.args.links.now k) c.args.frame_key.now in
    ahead_ends test c.args.stop c.args.from c.loop-at.at c.args.links.now c.loop-at.keys.items c.in-None.is c.loop-at.invariant (search rules)
