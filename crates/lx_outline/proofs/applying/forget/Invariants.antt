use Rattle.std.proofs.Common.{◌≡◌, ℕ, cond, nat_eq, None, take}
use Rattle.std.specs.Map.{lookup}
use Rattle.lx_outline.specs.Reading.{is_named_in}
use Rattle.lx_outline.proofs.applying.forget.Given as goal

abbrev pub invariant-loop-event : goal.invariant-loop-event
invariant-loop-event l = (q : ℕ) → lookup (nat_eq q) l.headings ≡ cond (is_named_in (take l.event-index l.events) q) None (lookup (nat_eq q) l.fn.headings)
