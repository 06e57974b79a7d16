use Rattle.std.proofs.Common.{◌∙◌, sym, subst, chars}
use Rattle.lx_draft.specs.Working.{Working}
use Rattle.lx_draft.specs.Respelling.{IsShortBefore}
use Rattle.lx_draft.proofs.Respelled.{short_before}
use Rattle.lx_draft.proofs.draft.Draft.respell.Goals as goal
use Rattle.lx_draft.proofs.draft.Draft.respell.Goals.{then-differs_from+in_ok-mark_key, else-differs_from}

pub replace_piece-requires-clause-short : goal.replace_piece-requires-clause-short
replace_piece-requires-clause-short c =
    let new = chars c.args.new.now in
    let before : IsShortBefore new c.note_edit.new.self = short_before c.args.more new c.args.self.now _ c.note_edit.ensures.noted c.requires.few c.requires.short in
    elim c.if-differs_from.branch [
      | then-differs_from+in_ok-mark_key w ↦
          subst (λ (v : Working). IsShortBefore new v) (sym (w.self-is ∙ w.in_ok-mark_key.ensures.marked)) (record { written = before.written; counted = before.counted; short = before.short })
      | else-differs_from w ↦ subst (λ (v : Working). IsShortBefore new v) (sym w.self-is) before
    ]
