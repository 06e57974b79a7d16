-- Reads and writes one after another.
use Rattle.std.proofs.Common.{◌≡◌, ℕ, ◌+◌, ◌<◌, ◌≤◌, List, [], ◌++◌, length, take, drop, Option, None, Some, sym, ap, ◌∙◌, refl, subst, append_assoc, length-append, arith}
use Rattle.std.proofs.Math.Seq.{take-add}
use Rattle.std.proofs.lemmas.List.{append-nil, length-take, length-drop}
use Rattle.lx_io.specs.Devices.{Consumes, Appends, HasRisen, IsCounted}
use Rattle.lx_cli.specs.Run.{SourceSeen, SinkSeen}
use Rattle.lx_cli.specs.Steps.{AreWritten, AreCutOff, AreRead, AreReadToEnd, AreBrokenOff}

pub Appends-none : (old : Option (List ℕ)) → Appends old old []
Appends-none None = tt
Appends-none (Some taken) = sym (append-nil taken)

pub Appends-append : (a b c : Option (List ℕ)) (xs ys : List ℕ) → Appends a b xs → Appends b c ys → Appends a c (xs ++ ys)
Appends-append None b c xs ys p q = tt
Appends-append (Some a) None c xs ys p q = absurd p
Appends-append (Some a) (Some b) None xs ys p q = absurd q
Appends-append (Some a) (Some b) (Some c) xs ys p q = q ∙ ap (λ t. t ++ ys) p ∙ append_assoc a xs ys

pub Consumes-none : (old : Option (List ℕ)) → Consumes old old []
Consumes-none None = tt
Consumes-none (Some left) = refl

pub Consumes-append : (a b c : Option (List ℕ)) (xs ys : List ℕ) → Consumes a b xs → Consumes b c ys → Consumes a c (xs ++ ys)
Consumes-append None b c xs ys p q = tt
Consumes-append (Some a) None c xs ys p q = absurd p
Consumes-append (Some a) (Some b) None xs ys p q = absurd q
Consumes-append (Some a) (Some b) (Some c) xs ys p q = p ∙ ap (λ t. xs ++ t) q ∙ sym (append_assoc xs ys c)

pub IsCounted-none : (old : Option ℕ) (n : ℕ) → IsCounted old old n
IsCounted-none None n = tt
IsCounted-none (Some count) n = omega arith

pub IsCounted-through : (a b c : Option ℕ) (m n k : ℕ) → m + n ≤ k → IsCounted a b m → IsCounted b c n → IsCounted a c k
IsCounted-through None b c m n k h p q = tt
IsCounted-through (Some a) None c m n k h p q = absurd p
IsCounted-through (Some a) (Some b) None m n k h p q = absurd q
IsCounted-through (Some a) (Some b) (Some c) m n k h p q = omega arith

pub IsCounted-within : (a b : Option ℕ) (m k : ℕ) → m ≤ k → IsCounted a b m → IsCounted a b k
IsCounted-within None b m k h p = tt
IsCounted-within (Some a) None m k h p = absurd p
IsCounted-within (Some a) (Some b) m k h p = omega arith

pub AreWritten-none : (sink : SinkSeen) → AreWritten [] sink sink
AreWritten-none sink = record {
  appends = Appends-none sink.taken;
  faults = refl;
  writes = IsCounted-none sink.writes 0;
}

pub AreWritten-append : (a b c : SinkSeen) (xs ys : List ℕ) → AreWritten xs a b → AreWritten ys b c → AreWritten (xs ++ ys) a c
AreWritten-append a b c xs ys p q = record {
  appends = Appends-append a.taken b.taken c.taken xs ys p.appends q.appends;
  faults = q.faults ∙ p.faults;
  writes = IsCounted-through a.writes b.writes c.writes (length xs) (length ys) (length (xs ++ ys)) (omega (arith, length-append xs ys)) p.writes q.writes;
}

pub AreCutOff-append : (a b c : SinkSeen) (xs ys : List ℕ) → AreWritten xs a b → AreCutOff ys b c → AreCutOff (xs ++ ys) a c
AreCutOff-append a b c xs ys p q = record {
  appends = Appends-append a.taken b.taken c.taken xs ys p.appends q.appends;
  faults = subst (λ (f : ℕ). HasRisen f c.faults) p.faults q.faults;
  writes =
      IsCounted-through a.writes b.writes c.writes (length xs) (length ys + 1) (length (xs ++ ys) + 1) (omega (arith, length-append xs ys)) p.writes q.writes;
}

pub AreRead-none : (source : SourceSeen) → AreRead [] source source
AreRead-none source = record {
  consumes = Consumes-none source.left;
  faults = refl;
  reads = IsCounted-none source.reads 0;
}

pub AreRead-append : (a b c : SourceSeen) (xs ys : List ℕ) → AreRead xs a b → AreRead ys b c → AreRead (xs ++ ys) a c
AreRead-append a b c xs ys p q = record {
  consumes = Consumes-append a.left b.left c.left xs ys p.consumes q.consumes;
  faults = q.faults ∙ p.faults;
  reads = IsCounted-through a.reads b.reads c.reads (length xs) (length ys) (length (xs ++ ys)) (omega (arith, length-append xs ys)) p.reads q.reads;
}

pub AreReadToEnd-append : (a b c : SourceSeen) (xs ys : List ℕ) → AreRead xs a b → AreReadToEnd ys b c → AreReadToEnd (xs ++ ys) a c
AreReadToEnd-append a b c xs ys p q = record {
  consumes = Consumes-append a.left b.left c.left xs ys p.consumes q.consumes;
  at_end = q.at_end;
  faults = q.faults ∙ p.faults;
  reads = IsCounted-through a.reads b.reads c.reads (length xs) (length ys + 1) (length (xs ++ ys) + 1) (omega (arith, length-append xs ys)) p.reads q.reads;
}

pub AreBrokenOff-append : (a b c : SourceSeen) (xs ys : List ℕ) → AreRead xs a b → AreBrokenOff ys b c → AreBrokenOff (xs ++ ys) a c
AreBrokenOff-append a b c xs ys p q = record {
  consumes = Consumes-append a.left b.left c.left xs ys p.consumes q.consumes;
  faults = subst (λ (f : ℕ). HasRisen f c.faults) p.faults q.faults;
  reads = IsCounted-through a.reads b.reads c.reads (length xs) (length ys + 1) (length (xs ++ ys) + 1) (omega (arith, length-append xs ys)) p.reads q.reads;
}

-- one write more of a piece
pub AreWritten-more : (a b c : SinkSeen) (n m : ℕ) (piece : List ℕ) → AreWritten (take n piece) a b
    → 0 < m → n + m ≤ length piece → Appends b.taken c.taken (take m (drop n piece)) → c.faults ≡ b.faults → IsCounted b.writes c.writes 1
    → AreWritten (take (n + m) piece) a c
AreWritten-more a b c n m piece p some within appends faults writes =
    rw (take-add n m piece) (AreWritten-append a b c (take n piece) (take m (drop n piece)) p (record {
      appends = appends;
      faults = faults;
      writes = IsCounted-within b.writes c.writes 1 (length (take m (drop n piece))) (rw (length-take, length-drop) (omega arith)) writes;
    }))

-- a write that failed
pub AreCutOff-failed : (a b c : SinkSeen) (xs : List ℕ) → AreWritten xs a b
    → c.taken ≡ b.taken → HasRisen b.faults c.faults → IsCounted b.writes c.writes 1
    → AreCutOff xs a c
AreCutOff-failed a b c xs p taken faults writes = record {
  appends = subst (λ (t : Option (List ℕ)). Appends a.taken t xs) (sym taken) p.appends;
  faults = subst (λ (f : ℕ). HasRisen f c.faults) p.faults faults;
  writes = IsCounted-through a.writes b.writes c.writes (length xs) 1 (length xs + 1) (omega arith) p.writes writes;
}
