-- Lines that are answered one after another.
use Rattle.std.proofs.Common.{◌≡◌, ℕ, List, [], ◌∷◌, ◌++◌, sym, ap, ◌∙◌, refl, subst, append_assoc, length-append, arith}
use Rattle.std.proofs.lemmas.List.{append-nil}
use Rattle.lx_serving.specs.Served.{Served, AnswersIn, FollowsIn, FollowsInTo}
use Rattle.lx_cli.specs.declared.session.Unanswered.{Unanswered}
use Rattle.lx_cli.specs.declared.session.Unanswered.TheVariants.{WriteFault, Memory}
use Rattle.lx_cli.specs.Run.{SinkSeen, IsFrontOfReplies}
use Rattle.lx_cli.specs.Steps.{IsPieceCutOff, AreAnswered, AreUnanswered, LackMemory}
use Rattle.lx_cli.proofs.Devices.{AreWritten-none, AreWritten-append, AreCutOff-append}

pub FollowsInTo-one : (old new : Served) (line answer : List ℕ) → AnswersIn old line answer new → FollowsInTo old (line ∷ []) (answer ++ 10 ∷ []) new
FollowsInTo-one old new line answer h = (answer, [], new, h, refl, (refl, refl))

pub FollowsInTo-append : (old mid new : Served) (lines later : List (List ℕ)) (xs ys : List ℕ)
    → FollowsInTo old lines xs mid → FollowsInTo mid later ys new → FollowsInTo old (lines ++ later) (xs ++ ys) new
FollowsInTo-append old mid new [] later xs ys p q =
    subst (λ (bytes : List ℕ). FollowsInTo old later (bytes ++ ys) new) (sym p.0)
    (subst (λ (served : Served). FollowsInTo served later ys new) p.1 q)
FollowsInTo-append old mid new (line ∷ lines) later xs ys p q = (
  p.0,
  p.1 ++ ys,
  p.2,
  p.3,
  ap (λ bytes. bytes ++ ys) p.4 ∙ append_assoc p.0 (10 ∷ p.1) ys,
  FollowsInTo-append p.2 mid new lines later p.1 ys p.5 q,
)

-- a front of the bytes of all replies
pub IsFrontOfReplies-front : (old new : Served) (lines : List (List ℕ)) (written later replies : List ℕ)
    → FollowsInTo old lines replies new → written ++ later ≡ replies → IsFrontOfReplies (FollowsIn old) lines written
IsFrontOfReplies-front old new lines written later replies p front = record {
  answered = lines;
  later_lines = [];
  front = append-nil lines;
  replies = replies;
  later_bytes = later;
  follows = (new, p);
  begun = front;
}

pub IsFrontOfReplies-later : (served : Served) (lines later : List (List ℕ)) (written : List ℕ)
    → IsFrontOfReplies (FollowsIn served) lines written → IsFrontOfReplies (FollowsIn served) (lines ++ later) written
IsFrontOfReplies-later served lines later written p = record {
  answered = p.answered;
  later_lines = p.later_lines ++ later;
  front = sym (append_assoc p.answered p.later_lines later) ∙ ap (λ all. all ++ later) p.front;
  replies = p.replies;
  later_bytes = p.later_bytes;
  follows = p.follows;
  begun = p.begun;
}

pub IsFrontOfReplies-append : (old mid : Served) (lines later : List (List ℕ)) (xs ys : List ℕ)
    → FollowsInTo old lines xs mid → IsFrontOfReplies (FollowsIn mid) later ys → IsFrontOfReplies (FollowsIn old) (lines ++ later) (xs ++ ys)
IsFrontOfReplies-append old mid lines later xs ys p q = record {
  answered = lines ++ q.answered;
  later_lines = q.later_lines;
  front = append_assoc lines q.answered q.later_lines ∙ ap (λ all. lines ++ all) q.front;
  replies = xs ++ q.replies;
  later_bytes = q.later_bytes;
  follows = (q.follows.0, FollowsInTo-append old mid q.follows.0 lines q.answered xs q.replies p q.follows.1);
  begun = append_assoc xs ys q.later_bytes ∙ ap (λ bytes. xs ++ bytes) q.begun;
}

pub AreAnswered-none : (served : Served) (sink : SinkSeen) → AreAnswered [] served served sink sink
AreAnswered-none served sink = record {
  written = [];
  follows = (refl, refl);
  few = omega arith;
  sink = AreWritten-none sink;
}

pub AreAnswered-append : (a b c : Served) (s t u : SinkSeen) (lines later : List (List ℕ))
    → AreAnswered lines a b s t → AreAnswered later b c t u → AreAnswered (lines ++ later) a c s u
AreAnswered-append a b c s t u lines later p q = record {
  written = p.written ++ q.written;
  follows = FollowsInTo-append a b c lines later p.written q.written p.follows q.follows;
  few = omega (arith, length-append lines later, p.few, q.few);
  sink = AreWritten-append s t u p.written q.written p.sink q.sink;
}

pub AreUnanswered-append : (why : Unanswered) (a b : Served) (s t u : SinkSeen) (lines later : List (List ℕ))
    → AreAnswered lines a b s t → AreUnanswered why later b t u → AreUnanswered why (lines ++ later) a s u
AreUnanswered-append WriteFault a b s t u lines later p q = record {
  written = p.written ++ q.written;
  front = IsFrontOfReplies-append a b lines later p.written q.written p.follows q.front;
  sink = AreCutOff-append s t u p.written q.written p.sink q.sink;
}
AreUnanswered-append Memory a b s t u lines later p q = record {
  written = p.written ++ q.written;
  front = IsFrontOfReplies-append a b lines later p.written q.written p.follows q.front;
  sink = AreWritten-append s t u p.written q.written p.sink q.sink;
}

pub AreUnanswered-later : (why : Unanswered) (served : Served) (s t : SinkSeen) (lines later : List (List ℕ))
    → AreUnanswered why lines served s t → AreUnanswered why (lines ++ later) served s t
AreUnanswered-later WriteFault served s t lines later p = record {
  written = p.written;
  front = IsFrontOfReplies-later served lines later p.written p.front;
  sink = p.sink;
}
AreUnanswered-later Memory served s t lines later p = record {
  written = p.written;
  front = IsFrontOfReplies-later served lines later p.written p.front;
  sink = p.sink;
}

-- a line whose reply is cut off
pub AreUnanswered-one : (old new : Served) (s t : SinkSeen) (line answer : List ℕ)
    → AnswersIn old line answer new → IsPieceCutOff (answer ++ 10 ∷ []) s t → AreUnanswered WriteFault (line ∷ []) old s t
AreUnanswered-one old new s t line answer p q = record {
  written = q.written;
  front = IsFrontOfReplies-front old new (line ∷ []) q.written q.later (answer ++ 10 ∷ []) (FollowsInTo-one old new line answer p) q.front;
  sink = q.sink;
}

-- all of them are answered, and then there is no memory
pub LackMemory-answered : (old new : Served) (s t : SinkSeen) (lines : List (List ℕ)) → AreAnswered lines old new s t → LackMemory lines old s t
LackMemory-answered old new s t lines p = record {
  written = p.written;
  front = IsFrontOfReplies-front old new lines p.written [] p.written p.follows (append-nil p.written);
  sink = p.sink;
}
