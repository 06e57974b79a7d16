-- What the handle in a slot owns.
use Rattle.std.specs.Prelude.{Option, None, Some}
use mir.Syntax.{Ty}
use base.Fml.{Fml, ftrue}
use denote.RattleType.{RattleType}
use denote.RawPtr.{Ptr}
use Rattle.std.specs.Global.{Global}
use Rattle.std.specs.contracts.impls.GlobalAllocator.TheImpl.{ghosts}
use Rattle.std_alloc.specs.Box.Ownership.{box_owns}

-- the heap, of which there is one
abbrev pub the_heap : Global
the_heap = record { memory = record { seal = tt } }

-- the right to give a block back to the heap
abbrev pub heap_token : Ty → Ptr → Fml
heap_token = ghosts.dealloc_token the_heap

-- nothing, or a value in a block of the heap
abbrev pub slot_owns : (R : RattleType) → Ptr → Option R.Denot → Fml
slot_owns R p None = ftrue
slot_owns R p (Some x) = box_owns heap_token R p x
