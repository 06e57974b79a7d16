use Rattle.std.proofs.Common.{◌≡◌, ◌≤◌, ◌+◌, length, chars}
use Rattle.lx_bus.specs.Offers.{offers_left}
use Rattle.lx_bus.proofs.Looked.{to_look_at}
use Rattle.lx_bus.proofs.bus.OffersIterator.next.Given as goal

-- what is left is what was left
abbrev pub invariant-loop-first : goal.invariant-loop-first
invariant-loop-first l = record {
  within : l.self-inside.lowest + l.self-inside.more ≤ 4;
  same : offers_left l.self-inside.more l.self-inside.lowest (chars l.self-inside.name.now) l.self-inside.rest.now l.self-inside.all.now ≡ l.fn.self;
}

abbrev pub decreases-loop-first : goal.decreases-loop-first
decreases-loop-first l = length l.self-inside.rest.now + to_look_at l.self-inside.more (length l.self-inside.all.now)
