-- What holds of every draft still holds after each edit of its forest.
use Rattle.std.proofs.Common.{◌≡◌, ℕ, ◌+◌, ◌≤◌, ltb, Option, None, Some, Result, Ok, Err, refl, sym, ap, subst, ◌∙◌, arith, inl, inr, ◌⊎◌}
use Rattle.std.specs.Prelude.{OnOk, OnErr, IfErr}
use Rattle.std.proofs.lemmas.Bool.Decides.{eqb_tells}
use Rattle.lx_trees.specs.Trees.{nil}
use Rattle.lx_trees.specs.NamedTrees.{total}
use Rattle.lx_node.specs.Strings.{characters_of}
use Rattle.lx_node.specs.declared.fields.Fields.{Fields}
use Rattle.lx_node.specs.declared.cause.Cause.{Cause}
use Rattle.lx_node.specs.declared.cause.Fault.{Fault}
use Rattle.lx_node.specs.declared.cause.Fault.TheVariants as fault
use Rattle.lx_forest.specs.Forest.{Forest, Label}
use Rattle.lx_forest.specs.Lookups.{has, count, IsForest}
use Rattle.lx_forest.specs.Edits.{with_new, with_fields, take_out, put_in, CanPut}
use Rattle.lx_forest.proofs.Edits.{count-with_new, count-with_fields, count-take_out, count-put_in, total-with_new, total-with_fields, total-take_out, total-put_in}
use Rattle.lx_links.specs.Faults.{RefusesEdit}
use Rattle.lx_node.specs.Limits.{most_nodes}
use Rattle.lx_draft.specs.Working.{Working, IsWorking, HasRoom}
use Rattle.lx_draft.specs.Sizes.{AreShort}
use Rattle.lx_draft.proofs.Short.{IsShort, short-nil, short-take_out, short-put_in, short-with_new, short-with_fields}

-- a call of links after which a cause can't be, as there was none before
pub after_call : (r : Result Unit Fault) (old new made : Forest) (first : Option Cause) → first ≡ None → OnOk r ((first ≡ None) × (new ≡ made))
    → IfErr r (RefusesEdit old first new) → (new ≡ made) ⊎ (new ≡ nil)
after_call (Ok u) old new made first none ok err = inl ok.1
after_call (Err (fault.Cause cause)) old new made first none ok err = absurd (grind (arith, none, err.1))
after_call (Err fault.Memory) old new made first none ok err = inr err.1

pub working_nil : (w : Working) → IsWorking w → IsWorking (record w { forest = nil })
working_nil w h = record {
  counted = h.counted;
  edits = h.edits;
  written = h.written;
  first = h.first;
  next = h.next;
  free = λ q e. refl;
  few = omega arith;
  short = short-nil w.written;
}

-- the forest of another with the same keys and as many nodes
pub working_with : (w : Working) (g : Forest) → IsWorking w → ((q : ℕ) → count q g ≡ count q w.forest) → total g ≡ total w.forest
    → AreShort g w.written → IsWorking (record w { forest = g })
working_with w g h same few short = record {
  counted = h.counted;
  edits = h.edits;
  written = h.written;
  first = h.first;
  next = h.next;
  free = λ q e. ap (λ n. ltb 0 n) (same q) ∙ h.free q e;
  few = subst (λ n. n ≤ most_nodes + w.counted) (sym few) h.few;
  short = short;
}

pub working_take : (w : Working) (k : ℕ) → IsForest w.forest → IsWorking w → IsWorking (record w { forest = take_out k w.forest })
working_take w k i h =
    working_with w (take_out k w.forest) h (λ q. count-take_out q k w.forest) (total-take_out k w.forest) (short-take_out k w.forest w.written i h.short)

pub working_put : (w : Working) (p : ℕ) (before : Option ℕ) (k : ℕ) → IsForest w.forest → CanPut p k w.forest → IsWorking w
    → IsWorking (record w { forest = put_in p before k w.forest })
working_put w p before k i c h =
    working_with w (put_in p before k w.forest) h (λ q. count-put_in q p before k w.forest i c.parent c.outside)
    (total-put_in p before k w.forest i c.parent c.outside) (short-put_in p before k w.forest w.written i c h.short)

pub working_set : (w : Working) (k : ℕ) (fields : Fields) → IsShort w.written (Some fields) → IsWorking w
    → IsWorking (record w { forest = with_fields k fields w.forest })
working_set w k fields few h =
    working_with w (with_fields k fields w.forest) h (λ q. count-with_fields q k fields w.forest) (total-with_fields k fields w.forest)
    (short-with_fields k fields w.forest w.written few h.short)

-- so where such a call answers an error, the links have failed
pub after_error : (r : Result Unit Fault) (old new : Forest) (first : Option Cause) → first ≡ None → IfErr r (RefusesEdit old first new) → OnErr r (new ≡ nil)
after_error (Ok u) old new first none err = tt
after_error (Err (fault.Cause cause)) old new first none err = absurd (grind (arith, none, err.1))
after_error (Err fault.Memory) old new first none err = err.1

-- a new node's key is the next one, and its count leaves room for it
pub working_new : (w : Working) (g : Forest) (l : Label) → IsForest w.forest → IsWorking w → HasRoom w → l.key ≡ w.next_key
    → characters_of l.fields ≤ w.written → g ≡ with_new l w.forest → IsWorking (record w { forest = g; next_key = w.next_key + 1 })
working_new w g l i h room key few made = record {
  counted = h.counted;
  edits = h.edits;
  written = h.written;
  first = omega arith;
  next = omega (arith, room.next);
  free = λ q e. ap (λ f. has q f) made ∙ ap (λ n. ltb 0 n) (count-with_new q l w.forest)
      ∙ grind (arith, key, e, h.free q (omega (arith, e)), eqb_tells l.key q);
  few = omega (arith, ap total made, total-with_new l w.forest, room.few);
  short = subst (λ f. AreShort f w.written) (sym made)
      (short-with_new l w.forest w.written i (ap (λ k. has k w.forest) key ∙ h.free w.next_key (omega arith)) few h.short);
}
