use Rattle.std.proofs.Common.{◌∙◌, Err, ap, sym, subst}
use Rattle.std.specs.Str.{chars}
use Rattle.std.proofs.lemmas.Str.{encodes-chars}
use Rattle.serde_json.specs.Read.{read}
use Rattle.lx_draft.specs.Faults.{TellsStep}
use Rattle.lx_clip.specs.Pasting.{told_if, json_of}
use Rattle.lx_clip.proofs.pasting.value_of.Goals as goal

pub returns-in-Ok-read_value-clause-ok : goal.returns-in-Ok-read_value-clause-ok
returns-in-Ok-read_value-clause-ok c =
    ap (λ bytes. told_if (read bytes)) (encodes-chars c.args.text.now c.utf8.text ∙ sym c.as_bytes.ensures.value) ∙ ap told_if c.in-Ok-read_value.ensures.ok.1

pub returns-in-Err-NoJson-clause-err : goal.returns-in-Err-NoJson-clause-err
returns-in-Err-NoJson-clause-err c =
    subst (λ e. TellsStep e (json_of (chars c.args.text.now))) (sym c.bad_command.ensures)
    (ap (λ bytes. told_if (read bytes)) (encodes-chars c.args.text.now c.utf8.text ∙ sym c.as_bytes.ensures.value)
    ∙ ap told_if (c.read_value.ensures.refused (c.in-Err-NoJson.is ∙ ap (λ x. Err x) c.in-Err-NoJson.field-0-is) c.as_bytes.ensures.utf8))
