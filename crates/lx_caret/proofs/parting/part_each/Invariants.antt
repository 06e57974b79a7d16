use Rattle.std.proofs.Common.{◌≡◌, drop}
use Rattle.lx_caret.specs.Paragraphs.{parted_up}
use Rattle.lx_caret.proofs.parting.part_each.Given as goal

-- those that are left, after what was parted, come to what all come to
abbrev pub invariant-loop-key : goal.invariant-loop-key
invariant-loop-key l = parted_up (drop l.key-index l.keys) l.place l.draft ≡ parted_up l.keys l.fn.index l.fn.draft
