use Rattle.std.proofs.Common.{ap, refl, sym, subst, ◌∙◌, arith}
use Rattle.lx_forest.specs.Forest.{Label}
use Rattle.lx_forest.specs.Edits.{with_new}
use Rattle.lx_forest.specs.Lookups.{IsForest}
use Rattle.lx_draft.specs.Working.{Working, HasRoom}
use Rattle.lx_draft.specs.Inside.{working_of}
use Rattle.lx_draft.proofs.Drafted.{drafted_new, drafted_failed}
use Rattle.lx_draft.proofs.draft.Draft.make.Goals as goal

pub invariant_of-self-2 : goal.invariant_of-self-2
invariant_of-self-2 c =
    let w : Working = working_of c.self.inside in
    let l : Label = record { key = w.next_key; kind = c.args.kind; fields = c.args.fields } in
    let order : IsForest w.forest = subst (λ (v : Working). IsForest v.forest) (sym (c.self.view_is ∙ c.note_edit.ensures.noted)) c.requires.order in
    let room : HasRoom w = subst (λ v. HasRoom v) (sym c.self.view_is) c.note_edit.ensures.room in
    drafted_new w c.insert_new.new.self l c.self.inside.loose c.loosen.new.loose order c.self.invariant room refl c.in_ok-loosen.ensures.noted
    (omega (arith, ap (λ (v : Working). v.written) (c.self.view_is ∙ c.note_edit.ensures.noted), c.requires.admitted.same))
    (c.in_ok-insert_new.ensures.added ∙ ap (with_new l) c.in_ok-loosen.ensures.same)

pub invariant_of-self : goal.invariant_of-self
invariant_of-self c =
    drafted_failed (working_of c.self.inside) c.self.inside.loose.leaves c.loosen.new.loose.leaves c.loosen.new.links c.in_err-loosen.ensures.failed
    c.self.invariant

pub invariant_of-self-in_err-insert_new : goal.invariant_of-self-in_err-insert_new
invariant_of-self-in_err-insert_new c =
    drafted_failed (working_of c.self.inside) c.self.inside.loose.leaves c.loosen.new.loose.leaves c.insert_new.new.self
    c.in_err-insert_new.ensures.failed c.self.invariant
