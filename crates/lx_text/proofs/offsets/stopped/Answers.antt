use Rattle.std.proofs.Common.{◌∙◌, ◌-◌, length, ap, subst}
use Rattle.std.specs.Str.{chars, IsCharBoundary}
use Rattle.lx_text.proofs.Cut.{front_boundary, chars-front, chars-back}
use Rattle.lx_text.proofs.offsets.stopped.Goals as goal

pub split_at-requires : goal.split_at-requires
split_at-requires c =
    subst (λ n. IsCharBoundary c.args.text.now (length c.args.text.now - n)) c.requires.rest_is
    (front_boundary c.args.text.now c.requires.front c.requires.back c.requires.utf8 c.requires.bytes)

pub returns-clause-front : goal.returns-clause-front
returns-clause-front c =
    ap chars c.split_at.ensures.front
    ∙ chars-front c.args.text.now c.requires.front c.requires.back c.args.rest c.utf8.text c.requires.utf8 c.requires.bytes c.requires.rest_is
    ∙ c.requires.front_of_is

pub returns-clause-rest : goal.returns-clause-rest
returns-clause-rest c =
    ap chars c.split_at.ensures.back
    ∙ ap chars (chars-back c.args.text.now c.requires.front c.requires.back c.args.rest c.requires.bytes c.requires.rest_is) ∙ c.requires.rest_of_is
