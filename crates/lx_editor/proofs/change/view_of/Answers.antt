use Rattle.std.proofs.Common.{◌≡◌, ◌∙◌, ℕ, Bool, true, false, if◌then◌else◌, List, Option, None, Some, ap}
use Rattle.lx_editor.proofs.Updated.{told_view}
use Rattle.lx_editor.proofs.change.view_of.Goals as goal

told_if : (told : Bool) (x y : List ℕ) → told ≡ true → x ≡ y → ◌≡◌ {A = Option (List ℕ)} (Some x) (if told then Some y else None)
told_if true x y is e = ap (λ t. Some t) e
told_if false x y is e = absurd (cc)

pub returns : goal.returns
returns c =
    told_if c.args.is_told c.in_ok-html.html _ c.if-not-is_told.false
    (c.in_ok-html.ensures.html ∙ told_view c.args.state.now.links c.in_ok-fresh.field-0.tree c.requires.order c.requires.alone c.in_ok-fresh.ensures.shows)
