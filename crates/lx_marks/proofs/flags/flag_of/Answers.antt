use Rattle.std.proofs.Common.{◌∙◌, sym, ap, Some, ℕ, Bool}
use Rattle.std.specs.Map.{keys_of}
use Rattle.lx_marks.proofs.Tabled.{position-none, flag_at}
use Rattle.lx_marks.proofs.Flagged.{flag_in-absent}
use Rattle.lx_marks.proofs.flags.flag_of.Goals as goal

pub returns-in-Some : goal.returns-in-Some
returns-in-Some c =
    let es = c.args.flags.now.entries.items in
    ap (λ (e : ℕ × Bool). Some e.1) c.index.ensures ∙ sym (flag_at c.args.key c.in-Some.at es c.index.result.now (sym c.place_of.ensures ∙ c.in-Some.is))

pub returns-in-None : goal.returns-in-None
returns-in-None c =
    let es = c.args.flags.now.entries.items in
    sym (flag_in-absent es c.args.key (position-none c.args.key (keys_of es) (sym c.place_of.ensures ∙ c.in-None.is)))
