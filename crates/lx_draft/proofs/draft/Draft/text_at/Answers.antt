use Rattle.std.proofs.Common.{◌≡◌, ◌∙◌, sym, ap, subst, Some, ℕ}
use Rattle.std.specs.Option.{option_copied}
use Rattle.lx_draft.specs.Working.{Working}
use Rattle.lx_draft.specs.Inside.{working_of}
use Rattle.lx_draft.specs.Faults.{splice_fault}
use Rattle.lx_node.specs.declared.cause.Cause.TheVariants.{UnknownNode, WrongKind}
use Rattle.lx_node.specs.declared.cause.Named.TheVariants.{Key}
use Rattle.lx_draft.proofs.Spliced.{unknown_without, no_text}
use Rattle.lx_draft.proofs.draft.Draft.text_at.Goals as goal

pub returns-in_default-clause-refused : goal.returns-in_default-clause-refused
returns-in_default-clause-refused c =
    let w : Working = working_of c.self.inside in
    subst (λ (v : Working). (from to : ℕ) → splice_fault c.args.key from to v.forest ≡ Some (UnknownNode (Key c.args.key))) c.self.view_is
    (unknown_without w.forest c.args.key (sym c.node.ensures.node ∙ ap option_copied c.in_default.is))

pub returns-in-None-clause-refused : goal.returns-in-None-clause-refused
returns-in-None-clause-refused c =
    let w : Working = working_of c.self.inside in
    subst (λ (v : Working). (from to : ℕ) → splice_fault c.args.key from to v.forest ≡ Some (WrongKind c.in-Some.node.now.kind)) c.self.view_is
    (no_text w.forest c.args.key c.in-Some.node.now (sym c.node.ensures.node ∙ ap option_copied c.in-Some.is)
    (sym c.text_fields.ensures ∙ ap option_copied c.in-None.is))
