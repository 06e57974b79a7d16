use Rattle.std.proofs.Common.{subst, sym}
use Rattle.lx_host.specs.Words.{AreAttributes}
use Rattle.lx_render.proofs.Rising.{attributes_are}
use Rattle.lx_render.proofs.attributes.attributes_of.Goals as goal

pub of-requires : goal.of-requires
of-requires c =
    subst (λ list. AreAttributes list) (sym c.in_ok-list.ensures) (attributes_are c.args.kind c.args.fields.now)
