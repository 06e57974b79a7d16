use Rattle.std.proofs.Common.{◌∙◌, ap, sym}
use Rattle.std.specs.FinMap as map
use Rattle.lx_update.specs.Naming.{Naming, as_texts}
use Rattle.lx_update.proofs.Held.{found_text}
use Rattle.lx_update.proofs.names.Names.find.Goals as goal

pub returns : goal.returns
returns c =
    let held : Naming = map.from_entries (as_texts c.self.inside.held.entries) in
    c.copied.ensures ∙ c.get.ensures.value ∙ sym (found_text c.as_str.result.now c.self.inside.held.entries c.as_str.utf8)
    ∙ ap (map.get held) c.as_str.ensures.text ∙ ap (λ (names : Naming). map.get names c.args.name.now) c.self.view_is
