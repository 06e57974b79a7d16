use Rattle.std.proofs.Common.{[], ◌≡◌, ◌∙◌, ap, map, string_bytes, sym}
use Rattle.lx_arguments.specs.declared.options.Mode.TheVariants.{Plain, Hub, Outline, Generate}
use Rattle.lx_arguments.specs.declared.options.Options.{Options}
use Rattle.lx_arguments.specs.Arguments.{asked_for}
use Rattle.lx_editor.specs.Follows.{Follows}
use Rattle.lx_cli.specs.Run.{begun_with, source_seen, sink_seen}
use Rattle.lx_cli.proofs.Runs.{IsAnsweredRun-usage, worded}
use Rattle.lx_cli.proofs.Generating.{RunsAsAsked-none, RunsAsAsked-plain, RunsAsAsked-refused, RunsAsAsked-taken, setup_asked}
use Rattle.lx_cli.proofs.program.run.Goals as goal

pub generate-requires : goal.generate-requires
generate-requires g c = record { some = (rw c.in-Generate.is at c.in-Ok.ensures.lines).0 }

pub returns-in-Plain : goal.returns-in-Plain
returns-in-Plain g c =
    let words = map string_bytes c.args.words.now in
    let taken = c.in-Ok.ensures.ok.0 in
    let asked = c.in-Ok.ensures.ok.1 in
    let plain : (asked_for words).mode ≡ Plain = ap (λ (o : Options). o.mode) (sym asked) ∙ c.in-Plain.is in
    let run = c.serve.ensures words taken (c.setup.ensures ∙ setup_asked _ Plain words asked c.in-Plain.is) in
    (run.0, run.1, RunsAsAsked-plain c.serve.result _ taken plain run.2)

pub returns-in-Hub : goal.returns-in-Hub
returns-in-Hub g c =
    let words = map string_bytes c.args.words.now in
    let taken = c.in-Ok.ensures.ok.0 in
    let asked = c.in-Ok.ensures.ok.1 in
    let mode : (asked_for words).mode ≡ Hub = ap (λ (o : Options). o.mode) (sym asked) ∙ c.in-Hub.is in
    let run = c.serve-in-Hub.ensures words taken (c.setup-in-Hub.ensures ∙ setup_asked _ Hub words asked c.in-Hub.is) in
    (run.0, run.1, RunsAsAsked-taken Hub c.serve-in-Hub.result _ taken mode run.2)

pub returns-in-Outline : goal.returns-in-Outline
returns-in-Outline g c =
    let words = map string_bytes c.args.words.now in
    let taken = c.in-Ok.ensures.ok.0 in
    let asked = c.in-Ok.ensures.ok.1 in
    let mode : (asked_for words).mode ≡ Outline = ap (λ (o : Options). o.mode) (sym asked) ∙ c.in-Outline.is in
    let run = c.serve-in-Outline.ensures words taken (c.setup-in-Outline.ensures ∙ setup_asked _ Outline words asked c.in-Outline.is) in
    (run.0, run.1, RunsAsAsked-taken Outline c.serve-in-Outline.result _ taken mode run.2)

pub returns-in-Generate : goal.returns-in-Generate
returns-in-Generate g c =
    let words = map string_bytes c.args.words.now in
    let asked = c.in-Ok.ensures.ok.1 in
    let mode : (asked_for words).mode ≡ Generate c.in-Generate.session = ap (λ (o : Options). o.mode) (sym asked) ∙ c.in-Generate.is in
    let run =
    c.generate.ensures words (source_seen g.S.Source.left g.S.Source.faults g.S.Source.reads c.args.source.now) (ap (λ (o : Options). o.delay) asked) in
    ([], run.0, RunsAsAsked-taken (Generate c.in-Generate.session) c.generate.result _ c.in-Ok.ensures.ok.0 mode run.1)

pub returns-in-Err-Usage : goal.returns-in-Err-Usage
returns-in-Err-Usage g c =
    let words = map string_bytes c.args.words.now in
    let source = source_seen g.S.Source.left g.S.Source.faults g.S.Source.reads c.args.source.now in
    let sink = sink_seen g.K.Sink.taken g.K.Sink.faults g.K.Sink.writes c.args.sink.now in
    let refused = rw c.in-Err-Usage.field-0-is at c.in-Err-Usage.ensures.usage in (
      [],
      [],
      RunsAsAsked-refused _ (worded words [] [] source source sink sink) refused (IsAnsweredRun-usage (Follows (begun_with words)) words source sink refused),
    )

pub returns-in-Err-Memory : goal.returns-in-Err-Memory
returns-in-Err-Memory g c = (
  [],
  [],
  RunsAsAsked-none (map string_bytes c.args.words.now)
      (source_seen g.S.Source.left g.S.Source.faults g.S.Source.reads c.args.source.now)
      (sink_seen g.K.Sink.taken g.K.Sink.faults g.K.Sink.writes c.args.sink.now),
)
