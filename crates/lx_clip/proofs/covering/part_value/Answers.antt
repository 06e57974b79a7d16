use Rattle.std.proofs.Common.{◌∙◌, None, Some, ap, sym, subst, refl}
use Rattle.std.specs.Option.{option_copied}
use Rattle.lx_node.specs.OfKind.{IsOfKind}
use Rattle.lx_text.specs.Texts.{slice_of}
use Rattle.lx_clip.proofs.Cut.{piece_suits, piece_written}
use Rattle.lx_clip.proofs.GivenBack.{piece_given}
use Rattle.lx_clip.proofs.covering.part_value.Goals as goal

pub node_value-requires : goal.node_value-requires
node_value-requires c = record {
  of_kind =
      subst (IsOfKind c.args.node.now.kind) (sym c.in_ok-cut-in-Some.ensures)
      (piece_suits c.args.node.now.kind c.args.node.now.fields c.in-Some.text.now (slice_of c.args.from c.args.to c.in-Some.text.now.text) c.requires
      (sym (c.normal_text.ensures 0) ∙ ap option_copied c.in-Some.is));
}

pub returns-in_ok-cut-in-Some-clause-written : goal.returns-in_ok-cut-in-Some-clause-written
returns-in_ok-cut-in-Some-clause-written c =
    piece_written c.node_value.result c.args.from c.args.to c.args.node.now (Some c.in-Some.text.now) c.in_ok-cut-in-Some.cut c.new.result.items
    (sym (ap option_copied c.in-Some.is) ∙ c.normal_text.ensures 0) c.in_ok-cut-in-Some.ensures c.new.ensures.items c.node_value.ensures.written

pub returns-in-None-clause-written : goal.returns-in-None-clause-written
returns-in-None-clause-written c =
    piece_written c.node_value-in-None.result c.args.from c.args.to c.args.node.now None c.args.node.now.fields c.new-in-None.result.items
    (sym (ap option_copied c.in-None.is) ∙ c.normal_text.ensures 0) refl c.new-in-None.ensures.items c.node_value-in-None.ensures.written

pub returns-in_ok-cut-in-Some-clause-told : goal.returns-in_ok-cut-in-Some-clause-told
returns-in_ok-cut-in-Some-clause-told c =
    piece_given c.node_value.result c.args.from c.args.to c.args.node.now (Some c.in-Some.text.now) c.in_ok-cut-in-Some.cut c.new.result.items
    (sym (ap option_copied c.in-Some.is) ∙ c.normal_text.ensures 0) c.in_ok-cut-in-Some.ensures c.new.ensures.items
    (subst (IsOfKind c.args.node.now.kind) (sym c.in_ok-cut-in-Some.ensures)
    (piece_suits c.args.node.now.kind c.args.node.now.fields c.in-Some.text.now (slice_of c.args.from c.args.to c.in-Some.text.now.text) c.requires
    (sym (c.normal_text.ensures 0) ∙ ap option_copied c.in-Some.is)))
    c.node_value.ensures.written c.node_value.ensures.fields

pub returns-in-None-clause-told : goal.returns-in-None-clause-told
returns-in-None-clause-told c =
    piece_given c.node_value-in-None.result c.args.from c.args.to c.args.node.now None c.args.node.now.fields c.new-in-None.result.items
    (sym (ap option_copied c.in-None.is) ∙ c.normal_text.ensures 0) refl c.new-in-None.ensures.items c.requires c.node_value-in-None.ensures.written
    c.node_value-in-None.ensures.fields
