use Rattle.std.proofs.Common.{◌≡◌, drop}
use Rattle.lx_marks.specs.Marks.{flag_in}
use Rattle.lx_settle.proofs.passes.has_root.Given as goal

-- the root is among those that are left if it is among all
abbrev pub invariant-loop-element : goal.invariant-loop-element
invariant-loop-element l = flag_in (drop l.element-index l.elements) 0 ≡ flag_in l.elements 0
