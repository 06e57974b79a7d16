use Rattle.std.proofs.Common.{◌≡◌, Some, sym}
use Rattle.lx_blocks.specs.Walks.{node_before}
use Rattle.lx_blocks.proofs.Previous.{sibling_there, sibling_before, parent_before, before_others, before_attached, before_none}
use Rattle.lx_blocks.proofs.walks.previous_in_tree.Goals as goal

pub last_within-requires : goal.last_within-requires
last_within-requires c = sibling_there c.args.links.now c.args.key c.in-Some.previous c.previous.ensures.sound c.requires (sym c.in-Some.ensures.previous)

pub returns-in-Some : goal.returns-in-Some
returns-in-Some c =
    let f = c.args.links.now in
    let is : Some c.last_within.result ≡ node_before f c.args.key =
    sibling_before f c.args.key c.in-Some.previous c.last_within.result c.previous.ensures.sound c.requires (sym c.in-Some.ensures.previous)
    c.last_within.ensures.last in
    record {
      before = is;
      others = before_others f c.args.key (Some c.last_within.result) c.previous.ensures.sound c.requires is;
      attached = before_attached f c.args.key (Some c.last_within.result) c.previous.ensures.sound c.requires is;
      first = before_none f c.args.key (Some c.last_within.result) is;
    }

pub returns-in-None : goal.returns-in-None
returns-in-None c =
    let f = c.args.links.now in
    let is : c.parent.result ≡ node_before f c.args.key =
    parent_before f c.args.key c.parent.result c.previous.ensures.sound c.requires (sym c.in-None.ensures.previous) c.parent.ensures.parent in
    record {
      before = is;
      others = before_others f c.args.key c.parent.result c.previous.ensures.sound c.requires is;
      attached = before_attached f c.args.key c.parent.result c.previous.ensures.sound c.requires is;
      first = before_none f c.args.key c.parent.result is;
    }
