use Rattle.std.proofs.Common.{◌≡◌, ◌≤◌, None, Some, sym, subst, inl, inr}
use Rattle.lx_forest.specs.Forest.{Forest}
use Rattle.lx_forest.specs.Edits.{with_fields}
use Rattle.lx_links.specs.Faults.{set_fault}
use Rattle.lx_draft.specs.Working.{Working}
use Rattle.lx_draft.specs.Drafted.{IsDrafted}
use Rattle.lx_draft.specs.Inside.{working_of}
use Rattle.lx_forest.specs.Lookups.{IsForest}
use Rattle.lx_node.specs.Strings.{characters_of}
use Rattle.lx_draft.proofs.Short.{IsShort, fields-short}
use Rattle.lx_draft.proofs.Kept.{after_call}
use Rattle.lx_draft.proofs.Drafted.{drafted_set, drafted_nil}
use Rattle.lx_draft.proofs.draft.Draft.set_fields.Goals as goal

pub invariant_of-self : goal.invariant_of-self
invariant_of-self c =
    let w : Working = working_of c.self.inside in
    let P : Forest → Type 0 = λ f. IsDrafted (record w { forest = f }) c.self.inside.loose.leaves in
    let none : set_fault c.args.key c.args.fields w.forest ≡ None =
    subst (λ v. set_fault c.args.key c.args.fields v.forest ≡ None) (sym c.self.view_is) c.requires.fault in
    let order : IsForest w.forest = subst (λ v. IsForest v.forest) (sym c.self.view_is) c.requires.order in
    let short : IsShort w.written (Some c.args.fields) =
    fields-short w.written c.args.fields (subst (λ (v : Working). characters_of c.args.fields ≤ v.written) (sym c.self.view_is) c.requires.few) in
    elim (after_call c.set.result w.forest c.set.new.self (with_fields c.args.key c.args.fields w.forest) (set_fault c.args.key c.args.fields w.forest) none
    c.set.ensures.set c.set.ensures.refused) [
      | inl made ↦ subst P (sym made) (drafted_set w c.self.inside.loose.leaves c.args.key c.args.fields order short c.self.invariant)
      | inr failed ↦ subst P (sym failed) (drafted_nil w c.self.inside.loose.leaves c.self.inside.loose.leaves c.self.invariant)
    ]
