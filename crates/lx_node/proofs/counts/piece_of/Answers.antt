use Rattle.std.proofs.Common.{◌∙◌, ap, sym, subst, take}
use Rattle.std.specs.Str.{chars, IsCharBoundary}
use Rattle.lx_node.proofs.Cuts.{cut-start, cut-rest, chars-piece}
use Rattle.lx_node.proofs.counts.piece_of.Goals as goal

pub split_at-requires : goal.split_at-requires
split_at-requires c =
    cut-start c.args.text.now c.utf8.text c.args.front c.args.piece c.requires.before c.requires.within c.requires.behind c.requires.cuts

pub split_at-requires-2 : goal.split_at-requires-2
split_at-requires-2 c =
    subst (λ bs. IsCharBoundary bs c.args.piece) (sym c.split_at.ensures.back)
    (cut-rest c.args.text.now c.utf8.text c.args.front c.args.piece c.requires.before c.requires.within c.requires.behind c.requires.cuts)

pub returns : goal.returns
returns c = λ before within behind cuts.
    ap chars (c.split_at-2.ensures.front ∙ ap (take c.args.piece) c.split_at.ensures.back)
    ∙ chars-piece c.args.text.now c.utf8.text c.args.front c.args.piece before within behind cuts
