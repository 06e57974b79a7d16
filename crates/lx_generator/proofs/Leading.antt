-- Commands that are dispatched one after another.
use Rattle.std.proofs.Common.{◌≡◌, ◌<◌, ℕ, suc, ◌+◌, ◌-◌, Bool, sym, ap, ◌∙◌, subst, arith}
use Rattle.lx_step.specs.Lines.{untagged}
use Rattle.lx_step.specs.declared.command.Command.{Command}
use Rattle.lx_step.specs.declared.line.Tags.{Tags}
use Rattle.lx_editor.specs.declared.outcome.Outcome.{Outcome}
use Rattle.lx_editor.specs.Dispatched.{IsDispatched}
use Rattle.lx_editor.specs.Editor.{Editor}
use Rattle.lx_editor.specs.Gathering.{recording}
use Rattle.lx_generator.specs.declared.tally.Tally.{Tally}
use Rattle.lx_generator.specs.Sessions.{LeadTo, command_drawn, commands_behind, counted, next_number}

-- so many commands lead from one editor and tally to another
abbrev Leads : ℕ → ℕ → Editor → Tally → Editor → Tally → Type 0
Leads count x old t new u = LeadTo (commands_behind count x) old t new u

-- what those that are left lead to from here is what all lead to
pub record ComeTo (count x : ℕ) (old : Editor) (t : Tally) (left y : ℕ) (mid : Editor) (u : Tally) : Type 0 where
  pub come : (new : Editor) (v : Tally) → LeadTo (commands_behind left y) mid u new v → LeadTo (commands_behind count x) old t new v

one_more_from : (count x : ℕ) (old : Editor) (t : Tally) (line y : ℕ) (mid next : Editor) (u : Tally) (outcome : Outcome) (handled : Bool)
    → line < count → ComeTo count x old t (count - line) y mid u
    → IsDispatched mid (command_drawn (next_number y)) (recording untagged 0) outcome handled next
    → ComeTo count x old t (count - (line + 1)) (next_number y) next (counted outcome u)
one_more_from count x old t line y mid next u outcome handled less comes dispatched =
    let left : suc (count - (line + 1)) ≡ count - line = omega arith in
    record {
      come = λ new v rest.
          comes.come new v (subst (λ (n : ℕ). Leads n y mid u new v) left (outcome, handled, next, dispatched, rest));
    }

pub one_more : (count x : ℕ) (old : Editor) (t : Tally) (line y z : ℕ) (mid next : Editor) (u v : Tally) (command : Command) (tags : Tags)
    (outcome : Outcome) (handled : Bool) → line < count → ComeTo count x old t (count - line) y mid u → z ≡ next_number y → command ≡ command_drawn z
    → tags ≡ untagged → IsDispatched mid command (recording tags 0) outcome handled next → v ≡ counted outcome u
    → ComeTo count x old t (count - (line + 1)) z next v
one_more count x old t line y z mid next u v command tags outcome handled less comes number command_is none dispatched tally =
    let plain : IsDispatched mid command (recording untagged 0) outcome handled next =
    subst (λ (g : Tags). IsDispatched mid command (recording g 0) outcome handled next) none dispatched in
    let same : IsDispatched mid (command_drawn (next_number y)) (recording untagged 0) outcome handled next =
    subst (λ (c : Command). IsDispatched mid c (recording untagged 0) outcome handled next) (command_is ∙ ap command_drawn number) plain in
    let more = one_more_from count x old t line y mid next u outcome handled less comes same in
    subst (λ (n : ℕ). ComeTo count x old t (count - (line + 1)) n next v) (sym number)
    (subst (λ (w : Tally). ComeTo count x old t (count - (line + 1)) (next_number y) next w) (sym tally) more)
