use Rattle.std.proofs.Common.{◌∙◌, ap, sym, min}
use Rattle.lx_text.proofs.Segmented.{last_told, none_before}
use Rattle.lx_text.proofs.clusters.last_cluster.Goals as goal

pub returns-in-Some : goal.returns-in-Some
returns-in-Some c =
    c.units.ensures
    ∙ ap (λ n. min n 4294967295)
    (sym (last_told c.args.text.now c.in-Some.cluster.now _ c.utf8.text (sym c.graphemes.ensures.left ∙ c.in-Some.ensures.steps)))

pub returns-in-None : goal.returns-in-None
returns-in-None c = ap (λ n. min n 4294967295) (sym (none_before c.args.text.now c.utf8.text (sym c.graphemes.ensures.left ∙ c.in-None.ensures.steps.0)))
