use Rattle.std.proofs.Common.{◌≡◌, drop}
use Rattle.lx_host.specs.Least.{least_in, shows_attached}
use Rattle.lx_host.specs.Lookups.{lesser}
use Rattle.lx_host.proofs.scan.least_shown.Given as goal

-- the least so far with the least of the ids that are left is the least of all
abbrev pub invariant-loop-place : goal.invariant-loop-place
invariant-loop-place l =
    lesser l.least (least_in (shows_attached l.key l.grove.hosts) (drop l.place l.grove.ids)) ≡ least_in (shows_attached l.key l.grove.hosts) l.grove.ids
