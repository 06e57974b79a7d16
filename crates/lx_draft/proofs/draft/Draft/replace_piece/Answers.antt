use Rattle.std.proofs.Common.{◌≡◌, sym, subst, inl, inr, chars}
use Rattle.std.specs.Prelude.{OnOk}
use Rattle.lx_forest.specs.Forest.{Forest}
use Rattle.lx_forest.specs.Lookups.{label_of, IsForest}
use Rattle.lx_forest.specs.Edits.{with_fields}
use Rattle.lx_draft.specs.Working.{Working}
use Rattle.lx_draft.specs.Drafted.{IsDrafted}
use Rattle.lx_draft.specs.Inside.{working_of}
use Rattle.lx_draft.specs.Respelling.{IsPlaced}
use Rattle.lx_draft.specs.Steps.{label_with_piece}
use Rattle.lx_draft.proofs.Drafted.{drafted_set, drafted_nil}
use Rattle.lx_draft.specs.Respelling.{IsShortBefore}
use Rattle.lx_draft.proofs.Respelled.{may_splice, replaced_ok, replaced_or, respelled_short}
use Rattle.lx_draft.proofs.draft.Draft.replace_piece.Goals as goal

pub splice-requires : goal.splice-requires
splice-requires c =
    let w : Working = working_of c.self.inside in
    let placed : IsPlaced c.args.key c.args.piece w.forest = subst (λ v. IsPlaced c.args.key c.args.piece v.forest) (sym c.self.view_is) c.requires.placed in
    may_splice c.args.key c.args.piece w.forest placed

pub invariant_of-self : goal.invariant_of-self
invariant_of-self c =
    let w : Working = working_of c.self.inside in
    let P : Forest → Type 0 = λ f. IsDrafted (record w { forest = f }) c.self.inside.loose.leaves in
    let placed : IsPlaced c.args.key c.args.piece w.forest = subst (λ v. IsPlaced c.args.key c.args.piece v.forest) (sym c.self.view_is) c.requires.placed in
    let order : IsForest w.forest = subst (λ v. IsForest v.forest) (sym c.self.view_is) c.requires.order in
    elim (replaced_or c.splice.result c.args.key c.args.piece (chars c.args.new.now) w.forest c.splice.new.self placed c.splice.ensures.spliced
    c.splice.ensures.failed) [
      | inl made ↦
          subst P (sym made)
          (drafted_set w c.self.inside.loose.leaves c.args.key
          (label_with_piece (label_of w.forest c.args.key) c.args.piece.from c.args.piece.to (chars c.args.new.now)) order
          (respelled_short c.args.key c.args.piece (chars c.args.new.now) w placed
          (subst (λ (v : Working). IsShortBefore (chars c.args.new.now) v) (sym c.self.view_is) c.requires.short)) c.self.invariant)
      | inr failed ↦ subst P (sym failed) (drafted_nil w c.self.inside.loose.leaves c.self.inside.loose.leaves c.self.invariant)
    ]

pub returns-clause-replaced : goal.returns-clause-replaced
returns-clause-replaced c =
    let w : Working = working_of c.self.inside in
    let new = chars c.args.new.now in
    let placed : IsPlaced c.args.key c.args.piece w.forest = subst (λ v. IsPlaced c.args.key c.args.piece v.forest) (sym c.self.view_is) c.requires.placed in
    subst (λ (v : Working). OnOk c.splice.result
    (◌≡◌ {A = Working} (record w { forest = c.splice.new.self })
    (record v { forest = with_fields c.args.key (label_with_piece (label_of v.forest c.args.key) c.args.piece.from c.args.piece.to new) v.forest })))
    c.self.view_is
    (replaced_ok c.splice.result c.args.key c.args.piece new w c.splice.new.self placed c.splice.ensures.spliced)
