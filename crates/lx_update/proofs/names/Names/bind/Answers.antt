use Rattle.std.proofs.Common.{◌∙◌, ap}
use Rattle.std.specs.Str.{chars}
use Rattle.std.specs.FinMap as map
use Rattle.lx_update.specs.Naming.{Naming, as_texts}
use Rattle.lx_update.proofs.Held.{set_text}
use Rattle.lx_update.proofs.names.Names.bind.Goals as goal

pub returns : goal.returns
returns c =
    ap (λ entries. map.from_entries (as_texts entries)) c.in_ok-insert.ensures.entries
    ∙ set_text c.in_ok-name.name c.args.key c.self.inside.held.entries
    ∙ ap (λ name. map.insert (map.from_entries (as_texts c.self.inside.held.entries)) name c.args.key)
    (ap chars c.in_ok-name.ensures.ok ∙ c.as_str.ensures.text)
    ∙ ap (λ (names : Naming). map.insert names c.args.name.now c.args.key) c.self.view_is
