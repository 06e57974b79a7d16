use Rattle.std.proofs.Common.{◌∙◌, sym}
use Rattle.serde_json.specs.View.{view}
use Rattle.lx_script.proofs.Reading.{asks_for}
use Rattle.lx_script.proofs.SoundSteps.{form_of_sound}
use Rattle.lx_script.proofs.read.line_of.Goals as goal

pub returns-in-Ok-Some-clause-makes : goal.returns-in-Ok-Some-clause-makes
returns-in-Ok-Some-clause-makes c =
    record {
      asked = asks_for (view c.args.value) c.in-Ok-Some.form (sym c.in-Ok-Some.ensures ∙ c.in-Ok-Some.field-0-is);
      moment = sym c.in-Some.ensures;
      tags = sym c.in-Some-tags_of.ensures;
    }

pub returns-in-Ok-Some-clause-sound : goal.returns-in-Ok-Some-clause-sound
returns-in-Ok-Some-clause-sound c = form_of_sound (view c.args.value) c.in-Ok-Some.form (sym c.in-Ok-Some.ensures ∙ c.in-Ok-Some.field-0-is)
