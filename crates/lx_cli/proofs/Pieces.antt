-- Pieces that are read one after another.
use Rattle.std.proofs.Common.{◌≡◌, ℕ, ◌+◌, ◌<◌, ◌≤◌, List, [], ◌++◌, length, take, drop, Option, sym, ap, ◌∙◌, subst, append_assoc, length-append, arith}
use Rattle.std.proofs.Math.Seq.{take-append-add}
use Rattle.std.proofs.lemmas.List.{length-take, take-take, take-append-drop}
use Rattle.lx_io.specs.Devices.{Consumes, HasRisen, IsCounted}
use Rattle.lx_serving.specs.Served.{Served, spent}
use Rattle.lx_cli.specs.declared.session.Unanswered.{Unanswered}
use Rattle.lx_cli.specs.declared.session.Unanswered.TheVariants as unanswered
use Rattle.lx_cli.specs.declared.reading.Stop.{Stop}
use Rattle.lx_cli.specs.declared.reading.Stop.TheVariants.{End, ReadFault, WriteFault, Memory, TooLong}
use Rattle.lx_cli.specs.Lines.{lines_ended, unended}
use Rattle.lx_cli.specs.Run.{SourceSeen, SinkSeen}
use Rattle.lx_cli.specs.Steps.{AreUnanswered, AreTaken, IsUnended, AreBrokenOff, Moment, ReadsOn, IsUnanswered, Stops}
use Rattle.lx_cli.proofs.Lines.{ended-append, length-ended-le, IsUnended-unended}
use Rattle.lx_cli.proofs.Devices.{Consumes-none, IsCounted-within, AreRead-none, AreRead-append, AreReadToEnd-append, AreBrokenOff-append}
use Rattle.lx_cli.proofs.Answering.{AreUnanswered-later}
use Rattle.lx_cli.proofs.Taking.{AreTaken-none, AreTaken-append, AreUnanswered-taken}

pub AreBrokenOff-failed : (a b : SourceSeen) → b.left ≡ a.left → HasRisen a.faults b.faults → IsCounted a.reads b.reads 1 → AreBrokenOff [] a b
AreBrokenOff-failed a b left faults reads = record {
  consumes = subst (λ (t : Option (List ℕ)). Consumes a.left t []) (sym left) (Consumes-none a.left);
  faults = faults;
  reads = reads;
}

-- bytes after those that are unanswered
pub AreUnanswered-longer : (why : Unanswered) (served : Served) (s t : SinkSeen) (waits xs : List ℕ) (m n : ℕ) → m ≤ n
    → AreUnanswered why (lines_ended (waits ++ take m xs)) served s t → AreUnanswered why (lines_ended (waits ++ take n xs)) served s t
AreUnanswered-longer why served s t waits xs m n le p =
    let front : take m (take n xs) ≡ take m xs = take-take m n xs le in
    let rest : List ℕ = drop m (take n xs) in
    let whole : take m xs ++ rest ≡ take n xs = ap (λ bytes. bytes ++ rest) (sym front) ∙ take-append-drop m (take n xs) in
    subst (λ (lines : List (List ℕ)). AreUnanswered why lines served s t)
    (sym (ended-append (waits ++ take m xs) rest) ∙ ap lines_ended (append_assoc waits (take m xs) rest ∙ ap (λ bytes. waits ++ bytes) whole))
    (AreUnanswered-later why served s t (lines_ended (waits ++ take m xs)) (lines_ended (unended (waits ++ take m xs) ++ rest)) p)

-- one read that gave bytes, not all of whose lines are answered
pub IsUnanswered-one : (why : Unanswered) (may_come count within : ℕ) (into : List ℕ) (a b : Moment)
    → 0 < count → count ≤ length into → count ≤ may_come + 1 → within ≤ count → within ≤ may_come
    → Consumes a.source.left b.source.left (take count into) → b.source.faults ≡ a.source.faults → IsCounted a.source.reads b.source.reads 1
    → AreUnanswered why (lines_ended (a.session.pending.items ++ take within into)) a.session.served a.sink b.sink
    → IsUnanswered why may_come (take count into) a b
IsUnanswered-one why may_come count within into a b some fits most le short consumes faults reads unanswered = record {
  within = rw (length-take count into) (omega arith);
  source = record {
    consumes = consumes;
    faults = faults;
    reads = IsCounted-within a.source.reads b.source.reads 1 (length (take count into)) (rw (length-take count into) (omega arith)) reads;
  };
  unanswered =
      AreUnanswered-longer why a.session.served a.sink b.sink a.session.pending.items (take count into) within may_come short
      (subst (λ (bytes : List ℕ). AreUnanswered why (lines_ended (a.session.pending.items ++ bytes)) a.session.served a.sink b.sink)
      (sym (take-take within count into le)) unanswered);
}

pub GoesOn-none : (may_come : ℕ) (a : Moment) → IsUnended a.session.pending.items → ReadsOn may_come [] a a
GoesOn-none may_come a h = record {
  within = omega arith;
  source = AreRead-none a.source;
  taken = AreTaken-none a.session a.sink h;
}

pub GoesOn-append : (a b c : Moment) (all left : ℕ) (xs ys : List ℕ) → length xs + left ≡ all
    → ReadsOn all xs a b → ReadsOn left ys b c → ReadsOn all (xs ++ ys) a c
GoesOn-append a b c all left xs ys e p q = record {
  within = omega (arith, length-append xs ys, q.within);
  source = AreRead-append a.source b.source c.source xs ys p.source q.source;
  taken = AreTaken-append a.session b.session c.session a.sink b.sink c.sink xs ys p.taken q.taken;
}

pub IsUnanswered-behind : (why : Unanswered) (a b c : Moment) (all left : ℕ) (xs ys : List ℕ) → length xs + left ≡ all
    → ReadsOn all xs a b → IsUnanswered why left ys b c → IsUnanswered why all (xs ++ ys) a c
IsUnanswered-behind why a b c all left xs ys e p q = record {
  within = omega (arith, length-append xs ys, q.within);
  source = AreRead-append a.source b.source c.source xs ys p.source q.source;
  unanswered =
      subst (λ (bytes : List ℕ). AreUnanswered why (lines_ended (a.session.pending.items ++ bytes)) a.session.served a.sink c.sink)
      (sym (take-append-add xs ys left) ∙ ap (λ n. take n (xs ++ ys)) e)
      (AreUnanswered-taken why a.session b.session a.sink b.sink c.sink xs (take left ys) p.taken q.unanswered);
}

pub Stops-behind : (stop : Stop) (a b c : Moment) (all left : ℕ) (xs ys : List ℕ) → length xs + left ≡ all
    → ReadsOn all xs a b → Stops stop left ys b c → Stops stop all (xs ++ ys) a c
Stops-behind End a b c all left xs ys e p q = record {
  within = omega (arith, length-append xs ys, q.within);
  source = AreReadToEnd-append a.source b.source c.source xs ys p.source q.source;
  taken = AreTaken-append a.session b.session c.session a.sink b.sink c.sink xs ys p.taken q.taken;
}
Stops-behind ReadFault a b c all left xs ys e p q = record {
  within = omega (arith, length-append xs ys, q.within);
  source = AreBrokenOff-append a.source b.source c.source xs ys p.source q.source;
  taken = AreTaken-append a.session b.session c.session a.sink b.sink c.sink xs ys p.taken q.taken;
}
Stops-behind WriteFault a b c all left xs ys e p q = IsUnanswered-behind unanswered.WriteFault a b c all left xs ys e p q
Stops-behind Memory a b c all left xs ys e p q = IsUnanswered-behind unanswered.Memory a b c all left xs ys e p q
Stops-behind TooLong a b c all left xs ys e p q = record {
  long = omega (arith, length-append xs ys, q.long);
  source = AreRead-append a.source b.source c.source xs ys p.source q.source;
  taken =
      subst (λ (bytes : List ℕ). AreTaken bytes a.session c.session a.sink c.sink)
      (sym (take-append-add xs ys left) ∙ ap (λ n. take n (xs ++ ys)) e)
      (AreTaken-append a.session b.session c.session a.sink b.sink c.sink xs (take left ys) p.taken q.taken);
}

-- what is spent of the numbers, and what the bytes may still need
pub spent-behind : (a b : Moment) (all left : ℕ) (xs : List ℕ) → length xs + left ≡ all → ReadsOn all xs a b
    → spent b.session.served + length b.session.pending.items + left
    ≤ spent a.session.served + length a.session.pending.items + all
spent-behind a b all left xs e p =
    let waits = a.session.pending.items in
    omega (arith, length-ended-le (waits ++ xs), length-append waits xs, ap length p.taken.waiting, p.taken.answered.few)

pub IsUnended-behind : (a b : Moment) (all : ℕ) (xs : List ℕ) → ReadsOn all xs a b → IsUnended b.session.pending.items
IsUnended-behind a b all xs p =
    subst IsUnended (sym p.taken.waiting) (IsUnended-unended (a.session.pending.items ++ xs))
