use Rattle.std.proofs.Common.{◌≡◌, ◌++◌, length, drop}
use Rattle.lx_edit.specs.Texts as texts
use Rattle.lx_edit.proofs.split.cut_at.Given as goal

-- the cuts that are left come to what all come to, and give the keys that are left
abbrev pub invariant-loop-offset : goal.invariant-loop-offset
invariant-loop-offset l = record {
  cut : texts.cut_at l.piece l.start (drop l.offset-index l.offsets) l.draft ≡ texts.cut_at l.fn.key 0 l.offsets l.fn.draft;
  keys : l.keys.items ++ texts.keys_from l.draft.next_key (length (drop l.offset-index l.offsets)) ≡ texts.keys_from l.fn.draft.next_key (length l.offsets);
}
