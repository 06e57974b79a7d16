-- What a dispatch that is a line comes to, and what holds of all that it leaves.
use Rattle.std.proofs.Common.{◌≡◌, ◌∙◌, ◌≤◌, Bool, true, false, if◌then◌else◌, List, [], Option, None, Some, Result, Ok, Err, ap, sym, subst}
use Rattle.lx_node.specs.Limits.{most_counts}
use Rattle.lx_node.specs.declared.cause.Cause.{Cause}
use Rattle.lx_node.specs.declared.cause.Cause.TheVariants.{BadCommand, HistoryInside}
use Rattle.lx_step.specs.BuiltIns.{built_in}
use Rattle.lx_step.specs.declared.built_in.Turn.{Turn}
use Rattle.lx_step.specs.declared.command.Command.{Command}
use Rattle.lx_step.specs.declared.listener.Listener.{Listener}
use Rattle.lx_bus.specs.Offers.{above}
use Rattle.lx_draft.specs.Covering.{IsReady, AreCovered}
use Rattle.lx_draft.specs.Working.{Working}
use Rattle.lx_draft.specs.Faults.{after}
use Rattle.lx_update.specs.declared.ending.Ending.{Ending}
use Rattle.lx_update.specs.declared.ending.Ending.TheVariants.{Left, Turned}
use Rattle.lx_update.specs.Lines.{Ended, ran, turned, at_first, queue_run, turn_of, is_untouched, reached, unless_stopped, most_inside, command_ended, dispatch_begun, dispatch_ended, dispatch_run, answer_drafted, IsEndingCovered, IsAnswerEmptied}
use Rattle.lx_update.specs.Refusals.{Refused, at_step, refused_or}
use Rattle.lx_update.specs.Running.{Running, take_count, sends_nothing, offered, dispatched, most_nested}
use Rattle.lx_update.proofs.Covered.{IsReadyRunning, AreCoveredRunning, covered}
use Rattle.lx_update.proofs.Made.{makes_step, makes_and, queue_covered, queue_ends}
use Rattle.lx_update.proofs.Paced.{AnyRunning, IsPaced, paced}
use Rattle.lx_update.proofs.Stays.{Makes, makes_on, makes_from, makes_then, IsKept, offered_keep, dispatched_keeps}

-- what is worked on, where it isn't left for another state of the history, is so
abbrev EndsAs : (Running → Type 0) → Ended → Type 0
EndsAs P (ran m handled) = P m
EndsAs P (turned turn) = Unit {0}

ends_on : (P Q : Running → Type 0) (ended : Ended) → ((m : Running) → P m → Q m) → EndsAs P ended → EndsAs Q ended
ends_on P Q (ran m handled) each p = each m p
ends_on P Q (turned turn) each p = tt

-- ---- what stays

reached_leaves : (P : Running → Type 0) (nothing untouched : Bool) (turn : Turn)
    → Makes (EndsAs P) (if nothing then (if untouched then Ok (turned turn) else Err HistoryInside) else Err BadCommand)
reached_leaves P true true turn = tt
reached_leaves P true false turn = tt
reached_leaves P false untouched turn = tt

stopped : (P : Running → Type 0) (next : Running → Result Ended Cause) (n : Running) (handled : Bool) → P n → Makes (EndsAs P) (next n)
    → Makes (EndsAs P) (if handled then Ok (ran n true) else next n)
stopped P next n true p q = p
stopped P next n false p q = q

ended_keeps : (D : Running → Type 0) (R : Running → Running → Type 0) → IsKept D R → (way : Option Turn) (ls : List Listener) (c : Command) (m : Running) → D m
    → Makes (EndsAs (R m)) (command_ended way ls c m)
ended_keeps D R kept None ls c m ready =
    makes_then (λ r. R m r.0) (EndsAs (R m)) (dispatched most_nested ls c.name c.payload m) (λ r. Ok (ran r.0 r.1))
    (dispatched_keeps D R kept most_nested ls c.name c.payload m ready) (λ r h. h)
ended_keeps D R kept (Some turn) ls c m ready =
    let next : Running → Result Ended Cause = λ n. after (take_count n) (reached turn c.payload m.script.draft.selection) in
    makes_then (λ r. R m r.0) (EndsAs (R m)) (offered (dispatched most_inside ls) c.payload (above c.name ls) m) (unless_stopped next)
    (offered_keep D R kept (dispatched most_inside ls) (dispatched_keeps D R kept most_inside ls) c.payload (above c.name ls) m ready)
    (λ r h. stopped (R m) next r.0 r.1 h
    (makes_from (EndsAs (R m)) (take_count r.0) (reached turn c.payload m.script.draft.selection) (λ n e.
    reached_leaves (R m) (sends_nothing c.payload) (is_untouched m.script.draft.selection n) turn)))

begun_keeps : (D : Running → Type 0) (R : Running → Running → Type 0) → IsKept D R → (ls : List Listener) (c : Command) (m : Running) → D m
    → Makes (EndsAs (R m)) (dispatch_begun ls c m)
begun_keeps D R kept ls c m ready =
    makes_from (EndsAs (R m)) (take_count m) (command_ended (turn_of (built_in c.name)) ls c) (λ n e.
    let h : R m n = kept.counted m n ready e in
    makes_on (EndsAs (R n)) (EndsAs (R m)) (command_ended (turn_of (built_in c.name)) ls c n)
    (ended_keeps D R kept (turn_of (built_in c.name)) ls c n (kept.ready m n h))
    (λ ended i. ends_on (R n) (R m) ended (λ o j. kept.on m n o h j) i))

-- what holds of the queue's end holds of the line's
queue_makes : (P Q : Running → Type 0) (ls : List Listener) (ended : Ended) → EndsAs P ended → ((m : Running) → P m → Makes Q (queue_run ls m))
    → Makes (EndsAs Q) (dispatch_ended ls ended)
queue_makes P Q ls (ran m handled) p each = makes_and Q (EndsAs Q) (queue_run ls m) (λ n. Ok (ran n handled)) (each m p) (λ n q. q)
queue_makes P Q ls (turned turn) p each = tt

-- ---- marks

dispatch_covered : (ls : List Listener) (c : Command) (w : Working) → IsReady w → Makes (EndsAs (AreCoveredRunning (at_first w))) (dispatch_run ls c w)
unfolding dispatch_run
dispatch_covered ls c w ready =
    let P : Running → Type 0 = AreCoveredRunning (at_first w) in
    makes_step (EndsAs P) (EndsAs P) 0 (dispatch_begun ls c (at_first w)) (dispatch_ended ls)
    (begun_keeps IsReadyRunning AreCoveredRunning covered ls c (at_first w) ready)
    (λ ended h. queue_makes P P ls ended h (λ m i. queue_covered ls (at_first w) m i))

draft_so : (P : Working → Type 0) (r : Result Ended Refused) (v : Working) (handled : Bool) → Makes (EndsAs (λ m. P m.script.draft)) r
    → answer_drafted r ≡ Ok (Left v handled) → P v
draft_so P (Ok (ran m b)) v handled p e = let is : m.script.draft ≡ v = cc in subst P is p
draft_so P (Ok (turned turn)) v handled p e = absurd (cc)
draft_so P (Err refused) v handled p e = absurd (cc)

pub dispatch_told : (ls : List Listener) (c : Command) (w : Working) (ending : Ending) → answer_drafted (dispatch_run ls c w) ≡ Ok ending
    → IsEndingCovered w ending
dispatch_told ls c w (Left v handled) e = λ ready. draft_so (AreCovered w) (dispatch_run ls c w) v handled (dispatch_covered ls c w ready) e
dispatch_told ls c w (Turned turn) e = tt

-- ---- nothing is queued any more

answer_told : (r : Result Ended Refused) → Makes (EndsAs (λ m. m.queue ≡ [])) r → IsAnswerEmptied r
answer_told (Ok (ran m handled)) p = p
answer_told (Ok (turned turn)) p = tt
answer_told (Err refused) p = tt

pub dispatch_ends : (ls : List Listener) (c : Command) (w : Working) → w.counted ≤ most_counts → IsAnswerEmptied (dispatch_run ls c w)
unfolding dispatch_run
dispatch_ends ls c w few =
    let P : Running → Type 0 = IsPaced (at_first w) in
    answer_told _
    (makes_step (EndsAs P) (EndsAs (λ m. m.queue ≡ [])) 0 (dispatch_begun ls c (at_first w)) (dispatch_ended ls)
    (begun_keeps AnyRunning IsPaced paced ls c (at_first w) tt)
    (λ ended h. queue_makes P (λ m. m.queue ≡ []) ls ended h (λ m p. queue_ends ls w m few p)))

-- ---- what the line comes to

dispatch_from : (ls : List Listener) (c : Command) (w : Working) (first : Running) (begun : Result Ended Refused) → first ≡ at_first w
    → at_step 0 (dispatch_begun ls c first) ≡ begun
    → dispatch_run ls c w ≡ refused_or begun (dispatch_ended ls)
unfolding dispatch_run
dispatch_from ls c w first begun is ended =
    ap (λ x. refused_or (at_step 0 (dispatch_begun ls c x)) (dispatch_ended ls)) (sym is) ∙ ap (λ r. refused_or r (dispatch_ended ls)) ended

pub dispatch_comes_to : (ls : List Listener) (c : Command) (w : Working) (first m n : Running) (handled : Bool) → first ≡ at_first w
    → at_step 0 (dispatch_begun ls c first) ≡ Ok (ran m handled) → queue_run ls m ≡ Ok n → dispatch_run ls c w ≡ Ok (ran n handled)
dispatch_comes_to ls c w first m n handled is ended rest =
    dispatch_from ls c w first (Ok (ran m handled)) is ended ∙ ap (λ r. refused_or r (λ o. Ok (ran o handled))) rest

pub dispatch_refused_by : (ls : List Listener) (c : Command) (w : Working) (first : Running) (refused : Refused) → first ≡ at_first w
    → at_step 0 (dispatch_begun ls c first) ≡ Err refused → dispatch_run ls c w ≡ Err refused
dispatch_refused_by ls c w first refused is ended = dispatch_from ls c w first (Err refused) is ended

pub dispatch_refused_behind : (ls : List Listener) (c : Command) (w : Working) (first m : Running) (handled : Bool) (refused : Refused) → first ≡ at_first w
    → at_step 0 (dispatch_begun ls c first) ≡ Ok (ran m handled) → queue_run ls m ≡ Err refused → dispatch_run ls c w ≡ Err refused
dispatch_refused_behind ls c w first m handled refused is ended rest =
    dispatch_from ls c w first (Ok (ran m handled)) is ended ∙ ap (λ r. refused_or r (λ o. Ok (ran o handled))) rest
